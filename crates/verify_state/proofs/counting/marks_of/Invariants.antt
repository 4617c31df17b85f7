use Rattle.std.proofs.Common.{◌≡◌, ℕ, ◌+◌, ◌<◌, ◌&&◌, ltb, take}
use Rattle.fc_base.specs.declared.limits.TheConstants.{MAX_WINDOW}
use Rattle.fc_base.specs.Counted.{has}
use Rattle.fc_base.specs.Marks.{is_marked}
use Rattle.verify_state.proofs.counting.marks_of.Given as goal

abbrev pub invariant-loop-seq : goal.invariant-loop-seq
invariant-loop-seq l = record {
  bits : (i : ℕ) → i < MAX_WINDOW → is_marked l.marks i ≡ (has (take l.seq-index l.list) (l.floor + i) && ltb (l.floor + i) l.issued);
}
