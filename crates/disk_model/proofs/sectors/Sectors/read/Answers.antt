use Rattle.std.proofs.Common.{◌≡◌, ◌+◌, ◌-◌, ◌/◌, ◌++◌, length, drop, sym, ◌∙◌, ap, ap₂, arith, length-take-le, length-drop}
use Rattle.std.proofs.lemmas.List.{take_rest, drop_at}
use Rattle.disk_model.specs.File.{sectors}
use Rattle.disk_model.specs.Sectors.{content_of}
use Rattle.disk_model.proofs.SectorLemmas.{read_twice}
use Rattle.disk_model.proofs.sectors.Sectors.read.Goals as goal

pub returns-then-front-bytes : goal.returns-then-front-bytes
returns-then-front-bytes c =
    let first = c.args.first in
    let bytes = c.args.bytes.now in
    let front = c.front_len-front.result in
    let p = c.read_in_run.new.bytes in
    let q = drop front bytes in
    let r = c.read_in_run-then-front-bytes.new.bytes in
    let content = content_of c.args.self.now in
    let front_len = length-take-le front bytes c.front_len-front.ensures.most in
    let len = c.read_in_run.auto.bytes ∙ front_len in
    let rest_is = take_rest (p ++ q) front ∙ drop_at p q front len in
    let second_len = ap length rest_is ∙ length-drop front bytes in
    let second = c.front_len-front.ensures.rest (omega arith) in
    let n = length bytes / 512 in
    let counts : front / 512 + (length bytes - front) / 512 ≡ n = omega arith in
    read_twice content first front (front / 512) ((length bytes - front) / 512) p q r len (c.read_in_run-then-front-bytes.auto.bytes ∙ ap length rest_is)
    (c.read_in_run.ensures ∙ ap (λ k. sectors content first (k / 512)) front_len)
    (c.read_in_run-then-front-bytes.ensures ∙ ap₂ (λ f k. sectors content f (k / 512)) (sym second) second_len)
    ∙ ap (λ k. sectors content first k) counts
