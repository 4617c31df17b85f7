-- How the answers of a server leave a worker's seat.
use Rattle.std.proofs.Common.{◌≡◌, refl, sym, ◌∙◌, ap, arith, ◌+◌, Bool, true, false, Some, Result, Ok, Err}
use Rattle.fc_base.specs.declared.fault.Fault.{Fault}
use Rattle.fc_base.specs.declared.fault.Fault.TheVariants.{NoMemory, WrongSeat, OldBoot}
use Rattle.cells.specs.declared.answer.Answer.{Answer}
use Rattle.cells.specs.declared.answer.Reply.{Reply}
use Rattle.cells.specs.declared.answer.Receipt.{Receipt}
use Rattle.cells.specs.Seated.{Seated}
use Rattle.cells.specs.declared.server_cell.task.ServerTask.{ServerTask}
use Rattle.cells.specs.ServerCells.{ServerLog}
use Rattle.cells.specs.ServerCalls.{is_right, lacks_memory, told_by, Enters, AppliesBy, Applies}
use Rattle.fleet_threads.specs.Seats.{IsSeatOf, HasFailed, says_final, is_off, is_own, ends_with}
use Rattle.fleet_threads.specs.declared.asking.NextWrite.{NextWrite}
use Rattle.fleet_threads.specs.declared.asking.NextWrite.TheVariants as asks
use Rattle.fleet_threads.specs.Turns.{WorkedIf, HasAsked, IsIssued, is_last_asked, IsTaken, is_taken}

-- ---- one call behind another

pub same_seat : (seat : Seated) → IsSeatOf seat seat
same_seat seat = record { server = refl; number = refl; grown = omega arith }

pub seat_worked : (is : Bool) (a b : Seated) → WorkedIf is a b → IsSeatOf a b
seat_worked true a b h = h.same
seat_worked false a b h = h

-- ---- an answer of the server

-- What is told ends a worker.
abbrev pub ends_by : Result Receipt Fault → Bool
ends_by (Ok told) = says_final told.answer
ends_by (Err fault) = is_off fault

ends_alike : (answer : Result Reply Fault) → ends_by (told_by answer) ≡ ends_with (Some answer)
ends_alike (Ok said) = refl
ends_alike (Err fault) = refl

unmoved : (seat after : Seated) → after ≡ seat → IsSeatOf seat after
unmoved seat after h = rw h (same_seat seat)

moved : (seat after : Seated) (answer : Result Reply Fault)
    → after ≡ record { server = seat.server; number = seat.number; applied = seat.applied + 1; last = Some answer } → IsSeatOf seat after
moved seat after answer h = rw h (record { server = refl; number = refl; grown = omega arith })

worked_by : (is : Bool) (seat after : Seated) (answer : Result Reply Fault) → is ≡ ends_with (Some answer)
    → after ≡ record { server = seat.server; number = seat.number; applied = seat.applied + 1; last = Some answer } → WorkedIf is seat after
worked_by false seat after answer over h = moved seat after answer h
worked_by true seat after answer over h = record {
  same = moved seat after answer h;
  more = rw h (omega arith);
  ended = rw h (sym over);
}

left_as_it_was : (seat after : Seated) (result : Result Receipt Fault) (fault : Fault) → result ≡ Err fault → is_off fault ≡ false → after ≡ seat
    → WorkedIf (ends_by result) seat after
left_as_it_was seat after result fault told on h = rw (ap ends_by told ∙ on) (unmoved seat after h)

-- A call leaves the same seat, which has worked where the answer ends a worker.
pub applied : (old : ServerLog) (seat : Seated) (task : ServerTask) (new : ServerLog) (after : Seated) (result : Result Receipt Fault)
    → Applies old seat task new after result → WorkedIf (ends_by result) seat after
applied old seat task new after result h = by_seat (is_right old seat) h
  where
    by_answer : (lacks : Bool) (answer : Result Reply Fault) → result ≡ told_by answer → Enters lacks old seat task new after answer
        → WorkedIf (ends_by result) seat after
    by_answer true answer told e = left_as_it_was seat after result NoMemory (told ∙ ap told_by e.1) refl e.0.seat_is
    by_answer false answer told e = worked_by (ends_by result) seat after answer (ap ends_by told ∙ ends_alike answer) e.seat_is

    by_seat : (right : Bool) → AppliesBy right old seat task new after result → WorkedIf (ends_by result) seat after
    by_seat false w = left_as_it_was seat after result WrongSeat w.1 refl w.0.seat_is
    by_seat true w = by_answer (lacks_memory w.0) w.0 w.1 w.2

-- ---- the end of a write

-- What is told says that an end was taken.
abbrev pub takes_by : Result Receipt Fault → Bool
takes_by (Ok told) = true
takes_by (Err OldBoot) = true
takes_by (Err fault) = false

takes_alike : (answer : Result Reply Fault) → takes_by (told_by answer) ≡ is_taken (Some answer)
takes_alike (Ok said) = refl
takes_alike (Err OldBoot) = refl
takes_alike (Err fault) = refl

taken_by : (seat after : Seated) (answer : Result Reply Fault) → is_taken (Some answer) ≡ true
    → after ≡ record { server = seat.server; number = seat.number; applied = seat.applied + 1; last = Some answer } → IsTaken seat after
taken_by seat after answer sure h = record {
  same = moved seat after answer h;
  more = rw h (omega arith);
  taken = rw h sure;
}

-- A call by which an end was taken.
pub taken : (old : ServerLog) (seat : Seated) (task : ServerTask) (new : ServerLog) (after : Seated) (result : Result Receipt Fault)
    → Applies old seat task new after result → takes_by result ≡ true → IsTaken seat after
taken old seat task new after result h sure = by_seat (is_right old seat) h
  where
    by_answer : (lacks : Bool) (answer : Result Reply Fault) → result ≡ told_by answer → Enters lacks old seat task new after answer
        → IsTaken seat after
    by_answer true answer told e = absurd (let no : false ≡ true = sym (ap takes_by (told ∙ ap told_by e.1)) ∙ sure in cc)
    by_answer false answer told e = taken_by seat after answer (sym (ap takes_by told ∙ takes_alike answer) ∙ sure) e.seat_is

    by_seat : (right : Bool) → AppliesBy right old seat task new after result → IsTaken seat after
    by_seat false w = absurd (let no : false ≡ true = sym (ap takes_by w.1) ∙ sure in cc)
    by_seat true w = by_answer (lacks_memory w.0) w.0 w.1 w.2

-- What was taken of a seat that has applied more meanwhile.
pub taken_behind : (a b c : Seated) → IsSeatOf a b → IsTaken b c → IsTaken a c
taken_behind a b c h t = record {
  same = record { server = t.same.server ∙ h.server; number = t.same.number ∙ h.number; grown = omega (arith, h.grown, t.same.grown) };
  more = omega (arith, h.grown, t.more);
  taken = t.taken;
}

-- ---- a fault

-- What is told is a fault of the worker's own, or none.
abbrev pub own_by : Result Receipt Fault → Bool
own_by (Ok told) = true
own_by (Err fault) = is_own fault

failed_by : (seat after : Seated) (answer : Result Reply Fault) (fault : Fault) → Err fault ≡ told_by answer
    → after ≡ record { server = seat.server; number = seat.number; applied = seat.applied + 1; last = Some answer } → HasFailed seat after fault
failed_by seat after (Ok said) fault told h = absurd (let no = told in cc)
failed_by seat after (Err other) fault told h = record {
  same = moved seat after (Err other) h;
  told = λ _. rw h (let so = told in cc);
}

of_itself : (seat after : Seated) (fault : Fault) → is_own fault ≡ true → after ≡ seat → HasFailed seat after fault
of_itself seat after fault own h = record {
  same = unmoved seat after h;
  told = λ other. absurd (let no : true ≡ false = sym own ∙ other in cc);
}

-- A call that is answered by a fault.
pub failed : (old : ServerLog) (seat : Seated) (task : ServerTask) (new : ServerLog) (after : Seated) (fault : Fault)
    → Applies old seat task new after (Err fault) → HasFailed seat after fault
failed old seat task new after fault h = by_seat (is_right old seat) h
  where
    by_answer : (lacks : Bool) (answer : Result Reply Fault) → Err fault ≡ told_by answer → Enters lacks old seat task new after answer
        → HasFailed seat after fault
    by_answer true answer told e = of_itself seat after fault (ap own_by (told ∙ ap told_by e.1)) e.0.seat_is
    by_answer false answer told e = failed_by seat after answer fault told e.seat_is

    by_seat : (right : Bool) → AppliesBy right old seat task new after (Err fault) → HasFailed seat after fault
    by_seat false w = of_itself seat after fault (ap own_by w.1) w.0.seat_is
    by_seat true w = by_answer (lacks_memory w.0) w.0 w.1 w.2

-- ---- several calls

seat_behind : (a b c : Seated) → IsSeatOf a b → IsSeatOf b c → IsSeatOf a c
seat_behind a b c h w = record { server = w.server ∙ h.server; number = w.number ∙ h.number; grown = omega (arith, h.grown, w.grown) }

worked_behind : (is : Bool) (a b c : Seated) → IsSeatOf a b → WorkedIf is b c → WorkedIf is a c
worked_behind false a b c h w = seat_behind a b c h w
worked_behind true a b c h w = record {
  same = seat_behind a b c h w.same;
  more = omega (arith, h.grown, w.more);
  ended = w.ended;
}

failed_behind : (a b c : Seated) (fault : Fault) → IsSeatOf a b → HasFailed b c fault → HasFailed a c fault
failed_behind a b c fault h w = record { same = seat_behind a b c h w.same; told = w.told }

-- What was asked from a seat that has applied more meanwhile.
pub asked_behind : (a b c : Seated) (result : Result NextWrite Fault) → IsSeatOf a b → HasAsked b c result → HasAsked a c result
asked_behind a b c (Ok (asks.Write order)) h w = seat_behind a b c h w
asked_behind a b c (Ok asks.Later) h w = seat_behind a b c h w
asked_behind a b c (Ok asks.Never) h w = worked_behind true a b c h w
asked_behind a b c (Ok asks.Off) h w = worked_behind true a b c h w
asked_behind a b c (Ok (asks.Refused fault)) h w = failed_behind a b c fault h w
asked_behind a b c (Err fault) h w = failed_behind a b c fault h w

-- An answer of the server, as the worker is told of it.
pub said_so : (asked : NextWrite) (answer : Answer) (a b : Seated) → IsIssued asked answer → WorkedIf (is_last_asked asked) a b → HasAsked a b (Ok asked)
said_so (asks.Write order) answer a b i w = w
said_so asks.Later answer a b i w = w
said_so asks.Never answer a b i w = w
said_so asks.Off answer a b i w = w
said_so (asks.Refused fault) answer a b i w = absurd i

-- However it was asked, it is the same seat.
pub seat_asked : (a b : Seated) (result : Result NextWrite Fault) → HasAsked a b result → IsSeatOf a b
seat_asked a b (Ok (asks.Write order)) w = w
seat_asked a b (Ok asks.Later) w = w
seat_asked a b (Ok asks.Never) w = w.same
seat_asked a b (Ok asks.Off) w = w.same
seat_asked a b (Ok (asks.Refused fault)) w = w.same
seat_asked a b (Err fault) w = w.same
