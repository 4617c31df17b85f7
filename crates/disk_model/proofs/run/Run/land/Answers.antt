use Rattle.std.proofs.Common.{ℕ, ◌&&◌, ◌+◌, ◌-◌, ◌/◌, cond, leb, ltb, length, ◌∙◌, ap, List, arith}
use Rattle.disk_model.specs.File.{sector_of}
use Rattle.disk_model.specs.Picks.{is_picked}
use Rattle.disk_model.proofs.SectorLemmas.{lent_whole}
use Rattle.disk_model.proofs.run.Run.land.Goals as goal

pub returns : goal.returns
returns c i lt =
    let first = c.args.first in
    let bytes = c.args.bytes.now in
    let was = c.deref_mut.ensures.value ∙ c.self.view_is in
    let same = lent_whole c.self.inside.bytes.len c.self.inside.bytes.items c.land_bytes.new.run (omega (arith, ap length c.deref_mut.ensures.value))
    (omega (arith, ap length c.deref_mut.ensures.value)) in
    ap (λ (l : List ℕ). sector_of l i) same
    ∙ c.land_bytes.ensures i lt
    ∙ ap (λ (l : List ℕ). cond (leb first i && ltb i (first + length bytes / 512) && is_picked c.args.picks (i - first)) (sector_of bytes (i - first))
    (sector_of l i)) was
