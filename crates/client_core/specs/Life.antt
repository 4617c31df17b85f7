-- What a client has done: its answered calls, the newest first.
use Rattle.std.specs.Prelude.{ℕ, ◌+◌, ◌==◌, if◌then◌else◌, List, [], ◌∷◌, ◌++◌}
use Rattle.messages.specs.declared.body.Body.{Body}
use Rattle.messages.specs.declared.refusal.Act.{Act}
use Rattle.messages.specs.declared.refusal.Act.TheVariants as acts
use Rattle.messages.specs.Nodes.{node_number}
use Rattle.client_core.specs.Inputs.{PacketInput, Begin, Trigger, Stop, Verify, Deliver, Tick}
use Rattle.client_core.specs.declared.note.ClientNote.{ClientNote}
use Rattle.client_core.specs.History.{Opening, Entry, Met, Cut, Restart, Renew, Lose}
use Rattle.client_core.specs.Words.{words_noted, is_answered}

-- A run begins, is triggered or is stopped; an attempt verifies a run; a server or the mirror says
-- something.
pub data Deed : Type 0 where
  Begins : ℕ → List ℕ → Deed  -- run, text
  Triggers : ℕ → Act → Deed  -- run, act
  Stops : ℕ → Deed  -- run
  Verifies : ℕ → ℕ → List ℕ → Deed  -- run, attempt, text
  Hears : ℕ → Body → Deed  -- the number of its node, what it says

-- What an answered call does: a new run or attempt has the number above those that were used.
abbrev pub deeds_of : ClientNote → PacketInput → List Deed
deeds_of n (Begin text) = Begins (n.runs + 1) text ∷ []
deeds_of n (Trigger run act) = Triggers run act ∷ []
deeds_of n (Stop run) = Stops run ∷ []
deeds_of n (Verify run text) = Verifies run (n.attempts + 1) text ∷ []
deeds_of n (Deliver p) = Hears (node_number p.from) p.body ∷ []
deeds_of n Tick = []

-- All that was done since the last restart: requests, texts and reports are lost by a cut.
abbrev pub life : Opening → List Entry → List Deed
life opening [] = []
life opening (Met c left ∷ past) =
    if is_answered opening past c left then deeds_of (words_noted opening past) c
    ++ life opening past
    else life opening past
life opening (Cut ∷ past) = []
life opening (Restart mirror ∷ past) = []
life opening (Renew g left ∷ past) = []
life opening (Lose ∷ past) = []

-- All that was ever done.
abbrev pub deeds_done : Opening → List Entry → List Deed
deeds_done opening [] = []
deeds_done opening (Met c left ∷ past) =
    if is_answered opening past c left then deeds_of (words_noted opening past) c
    ++ deeds_done opening past
    else deeds_done opening past
deeds_done opening (Cut ∷ past) = deeds_done opening past
deeds_done opening (Restart mirror ∷ past) = deeds_done opening past
deeds_done opening (Renew g left ∷ past) = deeds_done opening past
deeds_done opening (Lose ∷ past) = deeds_done opening past

-- The text with which a run was last begun, empty where it wasn't.
abbrev pub text_of : ℕ → List Deed → List ℕ
text_of run [] = []
text_of run (Begins r text ∷ deeds) = if r == run then text else text_of run deeds
text_of run (_ ∷ deeds) = text_of run deeds

-- The act of the last trigger of a run.
abbrev pub act_of : ℕ → List Deed → Act
act_of run [] = acts.None
act_of run (Triggers r act ∷ deeds) = if r == run then act else act_of run deeds
act_of run (_ ∷ deeds) = act_of run deeds

-- The run that an attempt verifies, 0 where there is no such attempt.
abbrev pub run_of : ℕ → List Deed → ℕ
run_of attempt [] = 0
run_of attempt (Verifies r a text ∷ deeds) = if a == attempt then r else run_of attempt deeds
run_of attempt (_ ∷ deeds) = run_of attempt deeds

-- The text by which an attempt verifies, empty where there is no such attempt.
abbrev pub check_of : ℕ → List Deed → List ℕ
check_of attempt [] = []
check_of attempt (Verifies r a text ∷ deeds) = if a == attempt then text else check_of attempt deeds
check_of attempt (_ ∷ deeds) = check_of attempt deeds
