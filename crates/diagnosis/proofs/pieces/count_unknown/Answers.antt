use Rattle.std.proofs.Common.{◌≡◌, ◌+◌, ℕ, Bool, true, false, List, cond, sym, ap, ◌∙◌, arith}
use Rattle.recheck.specs.Expected.{Expected}
use Rattle.diagnosis.specs.Pieces.{is_unknown, piece_at, unknown_below}
use Rattle.diagnosis.proofs.BlockLemmas.{unknown_more}
use Rattle.diagnosis.proofs.pieces.count_unknown.Goals as goal
use Rattle.diagnosis.proofs.pieces.count_unknown.Goals.{then-is_unknown, else-is_unknown}

-- The count with one more sector, by what is seen there.
counted : (e : Expected) (bytes : List ℕ) (n old new : ℕ) (b : Bool) → old ≡ unknown_below e bytes n → is_unknown (piece_at e bytes n) ≡ b
    → new ≡ old + cond b 1 0 → new ≡ unknown_below e bytes (n + 1)
counted e bytes n old new b before seen is =
    is ∙ ap (λ k. k + cond b 1 0) before ∙ ap (λ x. unknown_below e bytes n + cond x 1 0) (sym seen) ∙ sym (unknown_more e bytes n)

pub loop-number-preserved : goal.loop-number-preserved
loop-number-preserved c =
    let e = c.args.expected.now in
    let bytes = c.args.bytes.now in
    let n = c.loop-number.number in
    let seen = sym (c.is_unknown.ensures ∙ ap is_unknown c.piece_at.ensures) in
    let before = c.loop-number.invariant.count in
    elim c.if-is_unknown.branch [
      | then-is_unknown w ↦
          record { count = counted e bytes n c.loop-number.count _ true before (seen ∙ w.if-is_unknown.true) w.count-is; few = omega (arith, w.count-is) }
      | else-is_unknown w ↦
          record { count = counted e bytes n c.loop-number.count _ false before (seen ∙ w.if-is_unknown.false) (omega (arith, w.count-is)); few = omega (arith, w.count-is) }
    ]
