-- Fleets that begin: one with a mirror, and one over servers that have served others.
use Rattle.std.proofs.Common.{◌<◌, ℕ, refl, arith, []}
use Rattle.client_core.specs.Note.{SaysWhatIsWritten, IsNoted, new_note, spelling as client_note}
use Rattle.filter_traces.specs.Again.{CanBeDrawn, IsOlder}
use Rattle.filter_traces.specs.Laws.{FleetsCanBegin, FleetsCanBeginAgain}
use Rattle.uses.specs.Fleet.{mirrored, BeginsWithAMirror, older, BeginsOverOlder}
use Rattle.uses.proofs.MirrorCutLemmas.{says_first}

is_renewed : IsNoted (new_note 3)
is_renewed = record { generation = omega arith; runs = omega arith; attempts = omega arith; count = omega arith; states = tt; keys = refl }

pub begins_with_a_mirror : SaysWhatIsWritten → FleetsCanBegin → BeginsWithAMirror
begins_with_a_mirror written law =
    let says = written (new_note 3) is_renewed in
    record {
      few = omega arith;
      generation = refl;
      says = says;
      blank = says_first;
      begins = law mirrored 3 (client_note (new_note 3)) [] (omega arith) refl says says_first;
    }

can_be_drawn : CanBeDrawn 9 2
can_be_drawn = record { begun = omega arith; runs_fit = omega arith; attempts_fit = omega arith }

are_older : (s : ℕ) → s < 1 → IsOlder 9 (older s)
are_older s few = record { last = omega arith; booted = λ none. absurd (omega (arith, none)) }

pub begins_over_older : FleetsCanBeginAgain → BeginsOverOlder
begins_over_older law = record {
  few = omega arith;
  drawn = can_be_drawn;
  are_older = are_older;
  begins = law 1 9 2 older (omega arith) can_be_drawn are_older;
}
