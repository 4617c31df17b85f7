-- Numbers of kinds, nodes, acts, requests, reasons and ends: each is read as what it was written for.
use Rattle.std.proofs.Common.{◌≡◌, ℕ, zero, suc, ◌<◌, Bool, true, false, cond, Option, Some, None, if◌then◌else◌, List, [], ◌∷◌, refl, sym, arith}
use Rattle.std.specs.Prelude.{◌==◌, nat_lt, find}
use Rattle.std.proofs.lemmas.Bool.{eqb-true}
use Rattle.std.proofs.lemmas.Bool.Decides.{nat_tests}
use Rattle.fc_base.specs.declared.limits.TheConstants.{MAX_SERVERS}
use Rattle.fc_base.specs.declared.report.ReportEnd.{ReportEnd}
use Rattle.fc_base.specs.declared.report.ReportEnd.TheVariants as ends
use Rattle.messages.specs.declared.limits.TheConstants.{CLIENT_NUMBER, MIRROR_NUMBER}
use Rattle.messages.specs.declared.kind.PacketKind.{PacketKind}
use Rattle.messages.specs.declared.kind.PacketKind.TheVariants as kinds
use Rattle.messages.specs.declared.node.Node.{Node}
use Rattle.messages.specs.declared.node.Node.TheVariants.{Server, Client, Mirror}
use Rattle.messages.specs.declared.refusal.Act.{Act}
use Rattle.messages.specs.declared.refusal.Act.TheVariants as acts
use Rattle.messages.specs.declared.refusal.RefusedRequest.{RefusedRequest}
use Rattle.messages.specs.declared.refusal.RefusedRequest.TheVariants as asks
use Rattle.messages.specs.declared.refusal.Reason.{Reason}
use Rattle.messages.specs.declared.refusal.Reason.TheVariants as reasons
use Rattle.messages.specs.Kinds.{number_of, kind_numbered, kinds as all_kinds}
use Rattle.messages.specs.Nodes.{node_number, node_numbered, is_node}
use Rattle.messages.specs.Choices.{act_number, act_numbered, asked_number, asked_numbered, reason_number, reason_numbered}
use Rattle.messages.specs.Bodies.{end_number, end_at, end_numbered}

-- What is found by its number has it.
find_pick : {X : Type 0} (number : X → ℕ) (n : ℕ) (y x : X) (rest : Option X) (t : Bool) → (number y == n) ≡ t → cond t (Some y) rest ≡ Some x
    → (rest ≡ Some x → number x ≡ n) → number x ≡ n
find_pick number n y x rest true is same later = let here : y ≡ x = cc in rw (← here) (eqb-true (number y) n is)
find_pick number n y x rest false is same later = later same

find_is : {X : Type 0} (number : X → ℕ) (n : ℕ) (xs : List X) (x : X) → find (λ y. number y == n) xs ≡ Some x → number x ≡ n
find_is number n [] x e = absurd cc
find_is number n (y ∷ ys) x e = find_pick number n y x (find (λ z. number z == n) ys) (number y == n) refl e (find_is number n ys x)

pub kind_again : (k : PacketKind) → kind_numbered (number_of k) ≡ Some k
unfolding kind_numbered
kind_again kinds.Jobs = refl
kind_again kinds.JobsOk = refl
kind_again kinds.Start = refl
kind_again kinds.Started = refl
kind_again kinds.Trigger = refl
kind_again kinds.State = refl
kind_again kinds.NoState = refl
kind_again kinds.StateAck = refl
kind_again kinds.Stop = refl
kind_again kinds.Stopped = refl
kind_again kinds.Verify = refl
kind_again kinds.WantState = refl
kind_again kinds.Saved = refl
kind_again kinds.NoSaved = refl
kind_again kinds.Report = refl
kind_again kinds.Refused = refl
kind_again kinds.Copy = refl
kind_again kinds.CopyOk = refl
kind_again kinds.Fetch = refl
kind_again kinds.Granted = refl

pub kind_is : (n : ℕ) (k : PacketKind) → kind_numbered n ≡ Some k → number_of k ≡ n
unfolding kind_numbered
kind_is n k e = find_is number_of n all_kinds k e

pub kind_fits : (k : PacketKind) → number_of k < 256
kind_fits kinds.Jobs = omega arith
kind_fits kinds.JobsOk = omega arith
kind_fits kinds.Start = omega arith
kind_fits kinds.Started = omega arith
kind_fits kinds.Trigger = omega arith
kind_fits kinds.State = omega arith
kind_fits kinds.NoState = omega arith
kind_fits kinds.StateAck = omega arith
kind_fits kinds.Stop = omega arith
kind_fits kinds.Stopped = omega arith
kind_fits kinds.Verify = omega arith
kind_fits kinds.WantState = omega arith
kind_fits kinds.Saved = omega arith
kind_fits kinds.NoSaved = omega arith
kind_fits kinds.Report = omega arith
kind_fits kinds.Refused = omega arith
kind_fits kinds.Copy = omega arith
kind_fits kinds.CopyOk = omega arith
kind_fits kinds.Fetch = omega arith
kind_fits kinds.Granted = omega arith

pub act_again : (a : Act) → act_numbered (act_number a) ≡ Some a
unfolding act_numbered
act_again acts.None = refl
act_again acts.Cut = refl

pub act_is : (n : ℕ) (a : Act) → act_numbered n ≡ Some a → act_number a ≡ n
unfolding act_numbered
act_is n a e = find_is act_number n (acts.None ∷ acts.Cut ∷ []) a e

pub act_fits : (a : Act) → act_number a < 256
act_fits acts.None = omega arith
act_fits acts.Cut = omega arith

pub asked_again : (a : RefusedRequest) → asked_numbered (asked_number a) ≡ Some a
unfolding asked_numbered
asked_again asks.Jobs = refl
asked_again asks.Start = refl
asked_again asks.Trigger = refl
asked_again asks.Stop = refl
asked_again asks.Verify = refl

pub asked_is : (n : ℕ) (a : RefusedRequest) → asked_numbered n ≡ Some a → asked_number a ≡ n
unfolding asked_numbered
asked_is n a e = find_is asked_number n (asks.Jobs ∷ asks.Start ∷ asks.Trigger ∷ asks.Stop ∷ asks.Verify ∷ []) a e

pub asked_fits : (a : RefusedRequest) → asked_number a < 256
asked_fits asks.Jobs = omega arith
asked_fits asks.Start = omega arith
asked_fits asks.Trigger = omega arith
asked_fits asks.Stop = omega arith
asked_fits asks.Verify = omega arith

pub reason_again : (r : Reason) → reason_numbered (reason_number r) ≡ Some r
unfolding reason_numbered
reason_again reasons.Old = refl
reason_again reasons.Busy = refl
reason_again reasons.NoJobs = refl
reason_again reasons.Gone = refl
reason_again reasons.Overwritten = refl
reason_again reasons.Unknown = refl
reason_again reasons.BadJobs = refl
reason_again reasons.Misfit = refl

pub reason_is : (n : ℕ) (r : Reason) → reason_numbered n ≡ Some r → reason_number r ≡ n
unfolding reason_numbered
reason_is n r e = find_is reason_number n (reasons.Old ∷ reasons.Busy ∷ reasons.NoJobs ∷ reasons.Gone ∷ reasons.Overwritten ∷ reasons.Unknown ∷ reasons.BadJobs
    ∷ reasons.Misfit ∷ []) r e

pub reason_fits : (r : Reason) → reason_number r < 256
reason_fits reasons.Old = omega arith
reason_fits reasons.Busy = omega arith
reason_fits reasons.NoJobs = omega arith
reason_fits reasons.Gone = omega arith
reason_fits reasons.Overwritten = omega arith
reason_fits reasons.Unknown = omega arith
reason_fits reasons.BadJobs = omega arith
reason_fits reasons.Misfit = omega arith

pub end_again : (e : ReportEnd) → end_numbered (end_number e) (end_at e) ≡ Some e
end_again ends.Whole = refl
end_again ends.AtFault = refl
end_again (ends.ReadFault b) = refl

pub end_is : (n at : ℕ) (e : ReportEnd) → end_numbered n at ≡ Some e → (end_number e ≡ n) × (end_at e ≡ at)
end_is zero at e h = pick (at == 0) refl h
  where
    pick : (t : Bool) → (at == 0) ≡ t → (if t then Some ends.Whole else None) ≡ Some e → (end_number e ≡ 0) × (end_at e ≡ at)
    pick true is same = let whole : ends.Whole ≡ e = cc in rw (← whole) (refl, sym (eqb-true at 0 is))
    pick false is same = absurd cc
end_is (suc zero) at e h = pick (at == 0) refl h
  where
    pick : (t : Bool) → (at == 0) ≡ t → (if t then Some ends.AtFault else None) ≡ Some e → (end_number e ≡ 1) × (end_at e ≡ at)
    pick true is same = let fault : ends.AtFault ≡ e = cc in rw (← fault) (refl, sym (eqb-true at 0 is))
    pick false is same = absurd cc
end_is (suc (suc zero)) at e h = let read : ends.ReadFault at ≡ e = cc in rw (← read) (refl, refl)
end_is (suc (suc (suc n))) at e h = absurd cc

pub end_fits : (e : ReportEnd) → end_number e < 256
end_fits ends.Whole = omega arith
end_fits ends.AtFault = omega arith
end_fits (ends.ReadFault b) = omega arith

pub node_again : (node : Node) → is_node node ≡ true → node_numbered (node_number node) ≡ Some node
node_again (Server s) h = rw h refl
node_again Client h = refl
node_again Mirror h = refl

pub node_is : (n : ℕ) (node : Node) → node_numbered n ≡ Some node → node_number node ≡ n
node_is n node e = pick (nat_lt n MAX_SERVERS) (n == CLIENT_NUMBER) refl (n == MIRROR_NUMBER) refl e
  where
    pick : (below client : Bool) → (n == CLIENT_NUMBER) ≡ client → (last : Bool) → (n == MIRROR_NUMBER) ≡ last
        → (if below then Some (Server n) else if client then Some Client else if last then Some Mirror else None) ≡ Some node → node_number node ≡ n
    pick true client l last m same = let here : Server n ≡ node = cc in rw (← here) refl
    pick false true l last m same = let here : Client ≡ node = cc in rw (← here) (sym (eqb-true n CLIENT_NUMBER l))
    pick false false l true m same = let here : Mirror ≡ node = cc in rw (← here) (sym (eqb-true n MIRROR_NUMBER m))
    pick false false l false m same = absurd cc

pub node_fits : (node : Node) → is_node node ≡ true → node_number node < 4294967296
node_fits (Server s) h = grind (arith, nat_tests)
node_fits Client h = omega arith
node_fits Mirror h = omega arith
