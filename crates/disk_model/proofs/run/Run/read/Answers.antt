use Rattle.std.proofs.Common.{◌≡◌, ℕ, ◌+◌, ◌*◌, ◌-◌, ◌/◌, length, take, drop, sym, ◌∙◌, ap, ap₂, List, arith}
use Rattle.disk_model.proofs.SectorLemmas.{sectors-sector_of}
use Rattle.disk_model.proofs.run.Run.read.Goals as goal

pub returns : goal.returns
returns c =
    let first = c.args.first in
    let len = length c.args.bytes.now in
    let self_is = c.deref.ensures.value ∙ c.self.view_is in
    let at : first * 512 ≡ 512 * first = omega arith in
    let much : first * 512 + len - first * 512 ≡ 512 * (len / 512) = omega arith in
    c.copy_from_slice.ensures.after
    ∙ ap₂ (λ (n : ℕ) (l : List ℕ). take n (drop (first * 512) l)) much self_is
    ∙ ap (λ n. take (512 * (len / 512)) (drop n c.args.self.now)) at
    ∙ sym (sectors-sector_of c.args.self.now first (len / 512))
