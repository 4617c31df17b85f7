-- How many events a worker's calls enter.
use Rattle.std.proofs.Common.{◌≡◌, refl, ◌∙◌, ap, arith, ℕ, ◌+◌, Bool, true, false, Result, Ok, Err}
use Rattle.fc_base.specs.declared.fault.Fault.{Fault}
use Rattle.fc_base.specs.declared.fault.Fault.TheVariants.{NoMemory, WrongSeat}
use Rattle.cells.specs.declared.answer.Reply.{Reply}
use Rattle.cells.specs.declared.answer.Receipt.{Receipt}
use Rattle.cells.specs.Seated.{Seated}
use Rattle.cells.specs.declared.server_cell.task.ServerTask.{ServerTask}
use Rattle.cells.specs.ServerCells.{ServerLog}
use Rattle.cells.specs.ServerCalls.{is_right, lacks_memory, told_by, Enters, AppliesBy, Applies}
use Rattle.fleet_threads.specs.Counts.{FailsAt, EntersOne}

-- ---- one call

one_more : (fault : Fault) (before now : ℕ) → lacks_memory (Err fault) ≡ false → now ≡ before + 1 → FailsAt fault before now
one_more NoMemory before now had h = absurd (let no : true ≡ false = had in cc)
one_more WrongSeat before now had h = (omega (arith, h), omega (arith, h))
one_more fault before now had h = h

added : (answer : Result Reply Fault) (before now : ℕ) → lacks_memory answer ≡ false → now ≡ before + 1 → EntersOne before now (told_by answer)
added (Ok said) before now had h = h
added (Err fault) before now had h = one_more fault before now had h

-- A call of the server enters one event, but for some faults.
pub one : (old : ServerLog) (seat : Seated) (task : ServerTask) (new : ServerLog) (after : Seated) (result : Result Receipt Fault)
    → Applies old seat task new after result → EntersOne seat.applied after.applied result
one old seat task new after result h = by_seat (is_right old seat) h
  where
    by_answer : (lacks : Bool) (answer : Result Reply Fault) → lacks_memory answer ≡ lacks → result ≡ told_by answer
        → Enters lacks old seat task new after answer → EntersOne seat.applied after.applied result
    by_answer true answer is told e = rw (told ∙ ap told_by e.1) (ap (λ (s : Seated). s.applied) e.0.seat_is)
    by_answer false answer is told e = rw told (added answer seat.applied after.applied is (ap (λ (s : Seated). s.applied) e.seat_is))

    by_seat : (right : Bool) → AppliesBy right old seat task new after result → EntersOne seat.applied after.applied result
    by_seat false w = rw w.1 (rw w.0.seat_is (omega arith, omega arith))
    by_seat true w = by_answer (lacks_memory w.0) w.0 refl w.1 w.2
