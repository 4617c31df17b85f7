use Rattle.std.proofs.Common.{◌≡◌, ℕ, ◌+◌, ◌-◌, ◌<◌, suc, List, length, drop, take, ap, sym, ◌∙◌, arith}
use Rattle.std.specs.Prelude.{replicate}
use Rattle.std.proofs.lemmas.List.{drop-drop, drop-set-lt, length-set, length-take}
use Rattle.fc_base.proofs.report.Blocks.push.Goals as goal

abbrev zeros : ℕ → List ℕ
zeros n = replicate n 0

one_less : (n m : ℕ) → n ≡ suc m → drop 1 (zeros n) ≡ zeros m
one_less n m e = ap (λ k. drop 1 (zeros k)) e

pub invariant_of-self : goal.invariant_of-self
invariant_of-self c =
    let b = c.self.inside in
    let h = c.self.invariant in
    let shown : length (take b.len b.blocks) ≡ b.len = omega (arith, length-take b.len b.blocks, h.few, h.long) in
    let room : length (take b.len b.blocks) < 32 = rw c.self.view_is c.requires in
    let less : 32 - b.len ≡ suc (31 - b.len) = omega (arith, shown, room) in
    let same : 31 - b.len ≡ 32 - (b.len + 1) = omega arith in
    record {
      few = omega (arith, shown, room);
      long = length-set b.blocks b.len c.args.block ∙ h.long;
      zeros =
          drop-set-lt (b.len + 1) b.blocks b.len c.args.block (omega arith)
          ∙ sym (drop-drop 1 b.len b.blocks)
          ∙ ap (drop 1) h.zeros
          ∙ one_less (32 - b.len) (31 - b.len) less
          ∙ ap zeros same;
    }
