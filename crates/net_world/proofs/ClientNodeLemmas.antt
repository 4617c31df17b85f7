-- A client's node takes what comes as its list does.
use Rattle.std.proofs.Common.{◌≡◌, refl, inr, ℕ, arith, true, false, List, [], ◌∷◌, Ok, Err}
use Rattle.fc_base.specs.declared.fault.Fault.{Fault}
use Rattle.fc_base.specs.Fault.{sort_of}
use Rattle.disk_model.specs.MemNotes.{Saved as Kept, note_of}
use Rattle.disk_model.specs.declared.save_outcome.SaveOutcome.{SaveOutcome}
use Rattle.disk_model.specs.SaveOutcome.{is_lost}
use Rattle.node.specs.Steps as steps
use Rattle.messages.specs.declared.frame.Frame.TheVariants.{Whole, Piece}
use Rattle.messages.specs.Hearing.{Meaning, Says, Waits, Spoils, Strays, meaning, heard_by, with_entry}
use Rattle.client_core.specs.declared.client.Client.{Client}
use Rattle.client_core.specs.Inputs.{FrameInput}
use Rattle.client_core.specs.Inputs as inputs
use Rattle.client_core.specs.History as client
use Rattle.client_core.specs.History.{Opening}
use Rattle.client_core.specs.Note.{Says as NoteSays, blank}
use Rattle.client_core.specs.Words as words
use Rattle.client_core.specs.Hearing.{FrameEntry, Met, Cut, rules, heard_at, packets_heard, is_up}
use Rattle.client_core.specs.FrameEnds as core
use Rattle.client_core.specs.declared.outs.Outs.{Outs}
use Rattle.client_core.specs.Answers.{answer_to}
use Rattle.node.specs.declared.power.Power.TheVariants.{On}
use Rattle.net_world.specs.ClientNodes.{client_nodes, Asks}
use Rattle.net_world.proofs.NodeLemmas.{Laws, stays, ends}

piece_stays : (o : Opening) (list : List client.Entry) (left : SaveOutcome) (m : Meaning) → words.is_on list ≡ true → is_lost left ≡ false
    → words.is_on (with_entry (heard_by (rules o) left m) list) ≡ true
piece_stays o list left (Says p) h k = stays (words.is_on list) (is_lost left) h k
piece_stays o list left Waits h k = h
piece_stays o list left Spoils h k = h
piece_stays o list left Strays h k = h

stays_up : (o : Opening) (past : List FrameEntry) (e : FrameInput) (left : SaveOutcome) → is_up o past ≡ true → is_lost left ≡ false → is_up o (Met e left ∷ past) ≡ true
stays_up o past (inputs.Begin text) left h k = stays (is_up o past) (is_lost left) h k
stays_up o past (inputs.Trigger run act) left h k = stays (is_up o past) (is_lost left) h k
stays_up o past (inputs.Stop run) left h k = stays (is_up o past) (is_lost left) h k
stays_up o past (inputs.Verify run text) left h k = stays (is_up o past) (is_lost left) h k
stays_up o past (inputs.Deliver (Whole p)) left h k = stays (is_up o past) (is_lost left) h k
stays_up o past (inputs.Deliver (Piece q)) left h k = piece_stays o (packets_heard o past) left (meaning (rules o) (heard_at o past) (Piece q)) h k
stays_up o past inputs.Tick left h k = stays (is_up o past) (is_lost left) h k

pub laws : (o : Opening) → Laws (client_nodes o) Cut
laws o = record {
  fails_never = λ core. refl;
  stays_up = stays_up o;
  off = λ past. refl;
  says = λ past notes s. s;
}

-- A call that is answered, and told so.
pub answers : (o : Opening) (past : List FrameEntry) (e : FrameInput) (old new : Client Kept) (asked : Outs) → is_up o past ≡ true
    → asked.answer ≡ answer_to o past e
    → steps.Answers (core.steps note_of o) past e old new asked.frames → Asks o past e (On new) (Ok asked)
answers o past e old new asked on is h = (is, ends (client_nodes o) (laws o) past e old new (Ok asked.frames) on h)

-- A call that isn't answered.
pub fails : (o : Opening) (past : List FrameEntry) (e : FrameInput) (fault : Fault) (old new : Client Kept) → is_up o past ≡ true
    → steps.Faults (core.steps note_of o) past e (sort_of fault) fault old new → Asks o past e (On new) (Err fault)
fails o past e fault old new on h = ends (client_nodes o) (laws o) past e old new (Err fault) on h

-- No bytes at all are a blank note.
pub says_blank : (bytes : List ℕ) → bytes ≡ [] → NoteSays bytes blank
says_blank bytes none = record {
  note = record { generation = omega arith; runs = omega arith; attempts = omega arith; count = omega arith; states = tt; keys = refl };
  spelled = inr (none, refl);
}
