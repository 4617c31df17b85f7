-- The answer to `issue`, case by case.
use Rattle.std.proofs.Common.{◌≡◌, ℕ, Bool, true, false, cond, not, ◌||◌, eqb, leb, List, length, refl}
use Rattle.std.proofs.lemmas.Bool.{and_parts}
use Rattle.std.specs.Prelude.{Result, Ok, Err}
use Rattle.fc_base.specs.Counted.{has}
use Rattle.fc_base.specs.Keys.{is_same_key}
use Rattle.fc_base.specs.declared.fault.Fault.{Fault}
use Rattle.fc_base.specs.declared.fault.Fault.TheVariants.{OldBoot, NotInFlight}
use Rattle.write_order.specs.Blocks.{block_of}
use Rattle.engine.specs.declared.room.Room.TheVariants.{Open}
use Rattle.engine.specs.Kept.{is_held, room_by}
use Rattle.engine.specs.declared.issue.Ticket.{Ticket}
use Rattle.engine.specs.declared.issue.Issue.{Issue}
use Rattle.engine.specs.declared.issue.Issue.TheVariants.{Write, Full, Held, Overlap, Finished, Stopped}
use Rattle.engine.specs.Legal.{any_goes_to}
use Rattle.engine.specs.Running.{Origin, Running}
use Rattle.engine.specs.Answers.{ticket_of, answer_of, names_one_of, ticket_answer}

-- the first of the tests that holds
abbrev pub first_of_tests : Bool → Bool → Bool → Bool → Bool → Ticket → Issue
first_of_tests stopped finished full held overlaps ticket =
    cond stopped Stopped (cond finished Finished (cond full Full (cond held Held (cond overlaps Overlap (Write ticket)))))

-- where the window is open, only an overlap is left
pub open_answer : (stopped failed finished full held overlaps : Bool) (ticket : Ticket) → stopped ≡ false → failed ≡ false → finished ≡ false
    → Open ≡ room_by full held → first_of_tests (stopped || failed) finished full held overlaps ticket ≡ cond overlaps Overlap (Write ticket)
open_answer true failed finished full held overlaps ticket s a f o = cc
open_answer false true finished full held overlaps ticket s a f o = cc
open_answer false false true full held overlaps ticket s a f o = cc
open_answer false false false true held overlaps ticket s a f o = cc
open_answer false false false false true overlaps ticket s a f o = cc
open_answer false false false false false overlaps ticket s a f o = refl

-- what a write as the answer says
pub record IsNext (stopped finished full held overlaps : Bool) (next ticket : Ticket) : Type 0 where
  pub runs : stopped ≡ false
  pub fewer : finished ≡ false
  pub free : full ≡ false
  pub clear : held ≡ false
  pub alone : overlaps ≡ false
  pub ticket_is : ticket ≡ next

pub next_from_write : (stopped finished full held overlaps : Bool) (next ticket : Ticket)
    → Write ticket ≡ first_of_tests stopped finished full held overlaps next → IsNext stopped finished full held overlaps next ticket
next_from_write true finished full held overlaps next ticket e = cc
next_from_write false true full held overlaps next ticket e = cc
next_from_write false false true held overlaps next ticket e = cc
next_from_write false false false true overlaps next ticket e = cc
next_from_write false false false false true next ticket e = cc
next_from_write false false false false false next ticket e =
    let same : ticket ≡ next = cc in
    record { runs = refl; fewer = refl; free = refl; clear = refl; alone = refl; ticket_is = same }

-- what a write as the answer says of an engine
abbrev pub IsNextOf : Running → Ticket → Type 0
IsNextOf r ticket =
    IsNext (r.stopped || r.failed) (leb r.origin.job.total r.kept.issued) (leb r.origin.job.depth (length r.kept.in_flight))
    (is_held r.origin.job.window r.kept.issued r.kept.in_flight) (any_goes_to r.origin.job (block_of r.origin.job r.kept.issued) r.kept.in_flight)
    (ticket_of r.origin r.kept.issued) ticket

pub next_of_write : (r : Running) (ticket : Ticket) → Write ticket ≡ answer_of r → IsNextOf r ticket
next_of_write r ticket e = next_from_write _ _ _ _ _ _ ticket e

-- a ticket that is taken names an open write
abbrev verdict_by : Bool → Bool → Result (Unit {0}) Fault
verdict_by same named = cond (not same) (Err OldBoot) (cond named (Ok tt) (Err NotInFlight))

taken : (same named : Bool) → Ok tt ≡ verdict_by same named → named ≡ true
taken true true e = refl
taken true false e = cc
taken false named e = cc

pub open_from_verdict : (origin : Origin) (writes : List ℕ) (ticket : Ticket) → Ok tt ≡ ticket_answer origin writes ticket → has writes ticket.seq ≡ true
open_from_verdict origin writes ticket e =
    (and_parts (has writes ticket.seq) _ (and_parts (is_same_key ticket.key origin.key) _
    (taken (eqb ticket.boot origin.boot) (names_one_of origin writes ticket) e)).1).0

-- the window refuses only what isn't open
pub not_refused : (is_open : Bool) (fault : Fault) → is_open ≡ true → Err fault ≡ verdict_by true is_open → ⊥
not_refused true fault o e = cc
not_refused false fault o e = cc
