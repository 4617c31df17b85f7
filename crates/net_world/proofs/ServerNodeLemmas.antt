-- A server's node takes what comes as its list does.
use Rattle.std.proofs.Common.{◌≡◌, refl, true, false, List, ◌∷◌}
use Rattle.disk_model.specs.declared.save_outcome.SaveOutcome.{SaveOutcome}
use Rattle.disk_model.specs.SaveOutcome.{is_lost}
use Rattle.messages.specs.declared.frame.Frame.TheVariants.{Whole, Piece}
use Rattle.messages.specs.Hearing.{Meaning, Says, Waits, Spoils, Strays, meaning, heard_by, with_entry}
use Rattle.server_core.specs.Inputs.{FrameInput}
use Rattle.server_core.specs.declared.input.Input.TheVariants as inputs
use Rattle.server_core.specs.History as server
use Rattle.server_core.specs.History.{Opening}
use Rattle.server_core.specs.Words as words
use Rattle.server_core.specs.Hearing.{FrameEntry, Met, Cut, rules, heard_at, packets_heard, is_up}
use Rattle.net_world.specs.ServerNodes.{server_nodes}
use Rattle.net_world.proofs.NodeLemmas.{Laws, stays}

piece_stays : (o : Opening) (list : List server.Entry) (left : SaveOutcome) (m : Meaning) → words.is_on list ≡ true → is_lost left ≡ false
    → words.is_on (with_entry (heard_by (rules o) left m) list) ≡ true
piece_stays o list left (Says p) h k = stays (words.is_on list) (is_lost left) h k
piece_stays o list left Waits h k = h
piece_stays o list left Spoils h k = h
piece_stays o list left Strays h k = h

stays_up : (o : Opening) (past : List FrameEntry) (e : FrameInput) (left : SaveOutcome) → is_up o past ≡ true → is_lost left ≡ false → is_up o (Met e left ∷ past) ≡ true
stays_up o past (inputs.Deliver (Whole p)) left h k = stays (is_up o past) (is_lost left) h k
stays_up o past (inputs.Deliver (Piece q)) left h k = piece_stays o (packets_heard o past) left (meaning (rules o) (heard_at o past) (Piece q)) h k
stays_up o past (inputs.Issue j) left h k = stays (is_up o past) (is_lost left) h k
stays_up o past (inputs.WriteDone ticket end) left h k = stays (is_up o past) (is_lost left) h k
stays_up o past (inputs.CheckDone boot a j report) left h k = stays (is_up o past) (is_lost left) h k

pub laws : (o : Opening) → Laws (server_nodes o) Cut
laws o = record {
  fails_never = λ core. refl;
  stays_up = stays_up o;
  off = λ past. refl;
  says = λ past notes s. s;
}
