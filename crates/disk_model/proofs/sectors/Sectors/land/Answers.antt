use Rattle.std.proofs.Common.{◌≡◌, ◌+◌, ◌*◌, ◌-◌, ◌/◌, length, take, drop, sym, ◌∙◌, ap, arith}
use Rattle.std.proofs.lemmas.List.{take_rest}
use Rattle.disk_model.specs.Picks.{is_picked}
use Rattle.disk_model.specs.Sectors.{content_of}
use Rattle.disk_model.proofs.ContentLemmas.{landed-twice, landed-same}
use Rattle.disk_model.proofs.sectors.Sectors.land.Goals as goal

pub returns-then-front-bytes-clause-ok : goal.returns-then-front-bytes-clause-ok
returns-then-front-bytes-clause-ok c s =
    let first = c.args.first in
    let bytes = c.args.bytes.now in
    let front = c.front_len-front.result in
    let whole : front ≡ 512 * (front / 512) = omega arith in
    let one = c.land_in_run.ensures.content s ∙ landed-same (is_picked c.args.picks) first (take front bytes) (content_of c.make_room.new.self)
    (content_of c.args.self.now) s (c.make_room.ensures.content s) in
    c.land_in_run-then-front-bytes.ensures.content s
    ∙ landed-twice (is_picked c.args.picks) (is_picked c.skip.result) first (128 * (first / 128 + 1)) (front / 512) bytes (take front bytes)
    (take (length bytes - front) (drop front bytes)) (content_of c.args.self.now) (content_of c.land_in_run.new.self) s
    c.skip.ensures (sym (c.front_len-front.ensures.rest (omega arith))) (omega arith) (ap (λ n. take n bytes) whole)
    (take_rest bytes front ∙ ap (λ n. drop n bytes) whole) one
