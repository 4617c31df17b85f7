use Rattle.std.proofs.Common.{ℕ, ◌-◌, length, drop, sym, ◌∙◌, arith}
use Rattle.std.proofs.lemmas.Bool.{ne_eqb}
use Rattle.std.proofs.lemmas.List.{take_all, length-drop}
use Rattle.diagnosis.proofs.SectorLemmas.{IsBytes, stamped_when, unstamped_when}
use Rattle.diagnosis.proofs.stamp.is_stamped.Goals as goal

pub returns-then-u32_at-eq0 : goal.returns-then-u32_at-eq0
returns-then-u32_at-eq0 c =
    let s = c.args.sector.now in
    let fits : IsBytes s = λ (i : ℕ). omega (arith, c.type_inv.sector i) in
    let rest = take_all (length s - 36) (drop 36 s) (omega (arith, length-drop 36 s)) in
    stamped_when s _ _ _ fits c.requires (sym c.u32_at.ensures ∙ c.if-u32_at-eq0.true) rest c.u64_at.ensures c.counts_up.ensures

pub returns-else-u32_at-eq0 : goal.returns-else-u32_at-eq0
returns-else-u32_at-eq0 c =
    let fits : IsBytes c.args.sector.now = λ (i : ℕ). omega (arith, c.type_inv.sector i) in
    ne_eqb c.u32_at.result 0 c.if-u32_at-eq0.false
    ∙ unstamped_when c.args.sector.now fits c.requires (λ e. c.if-u32_at-eq0.false (c.u32_at.ensures ∙ e))
