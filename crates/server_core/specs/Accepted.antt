-- Which completions were accepted, and what a taking is: a Start, what came behind it, and a
-- Trigger.
use Rattle.std.specs.Prelude.{◌≡◌, ◌⊎◌, ℕ, true, List, [], ◌∷◌, ◌++◌, Some, None}
use Rattle.fc_base.specs.Counted.{has}
use Rattle.fc_base.specs.declared.numbers.Key.{Key}
use Rattle.verify_state.specs.State.{State}
use Rattle.server_core.specs.Inputs.{PacketInput}
use Rattle.server_core.specs.declared.input.Input.TheVariants.{Deliver, Issue, WriteDone, CheckDone}
use Rattle.server_core.specs.declared.input.WriteEnd.TheVariants.{Done, Failed}
use Rattle.disk_model.specs.declared.save_outcome.SaveOutcome.{SaveOutcome}
use Rattle.disk_model.specs.declared.save_outcome.SaveOutcome.TheVariants.{Saved}
use Rattle.server_core.specs.History.{Opening, Entry, Met, Cut, Restart}
use Rattle.server_core.specs.Request.{request_of}
use Rattle.server_core.specs.Words.{Staged, due, work}
use Rattle.server_core.specs.Taken.{takes}
use Rattle.server_core.specs.Answers.{refusal}

-- The input completes write k of this key, and isn't refused.
abbrev pub IsDoneBy : Opening → List Entry → PacketInput → Key → ℕ → Type 0
IsDoneBy opening past (WriteDone ticket Done) key k =
    (ticket.key ≡ key) × (ticket.seq ≡ k) × (refusal opening past (WriteDone ticket Done) ≡ None)
IsDoneBy opening past (WriteDone ticket Failed) key k = ⊥
IsDoneBy opening past (Deliver p) key k = ⊥
IsDoneBy opening past (Issue j) key k = ⊥
IsDoneBy opening past (CheckDone boot a j report) key k = ⊥

-- Among these entries, which came behind others, one completes write k of this key.
abbrev pub IsDoneIn : Opening → List Entry → List Entry → Key → ℕ → Type 0
IsDoneIn opening before [] key k = ⊥
IsDoneIn opening before (Met e left ∷ between) key k =
    IsDoneIn opening before between key k ⊎ IsDoneBy opening (between ++ before) e key k
IsDoneIn opening before (Cut ∷ between) key k = IsDoneIn opening before between key k
IsDoneIn opening before (Restart left ∷ between) key k = IsDoneIn opening before between key k

-- A taking of a state: the Start that was accepted, what came behind it, and the Trigger that took
-- it. The state counts exactly the writes that were completed between.
pub record IsTaking (opening : Opening) (run j : ℕ) (list : List Entry)
    (state : State) : Type 0 where
  pub newer : List Entry
  pub trigger : PacketInput
  pub left : SaveOutcome
  pub between : List Entry
  pub start : PacketInput
  pub older : List Entry
  pub split : list ≡ newer ++ Met trigger left ∷ (between ++ Met start Saved ∷ older)
  pub started : Staged
  pub accepted : due opening older start ≡ Some started
  pub run_is : started.run ≡ run
  pub pulls :
      takes run j (request_of opening.me trigger)
      (work opening (between ++ Met start Saved ∷ older))
      ≡ Some state
  pub counts :
      (k : ℕ) → has state.counted k ≡ true
      → IsDoneIn opening (Met start Saved ∷ older) between
      (record { run = run; server = opening.me; job = j }) k
  pub counts_all :
      (k : ℕ)
      → IsDoneIn opening (Met start Saved ∷ older) between
      (record { run = run; server = opening.me; job = j }) k
      → has state.counted k ≡ true
