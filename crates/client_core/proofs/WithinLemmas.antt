-- No run or attempt of this life is above those that were used.
use Rattle.std.proofs.Common.{leb-true, ◌≡◌, refl, sym, subst, ℕ, ◌+◌, ◌≤◌, arith, Bool, true, false, ◌&&◌, List, [], ◌∷◌, ◌++◌, Option, None, Some}
use Rattle.std.specs.Prelude.{if◌then◌else◌, is_none, nat_le}
use Rattle.std.specs.List.{AllByRecursion}
use Rattle.std.proofs.lemmas.Bool.{and_parts}
use Rattle.fc_base.specs.declared.fault.Fault.{Fault}
use Rattle.disk_model.specs.declared.save_outcome.SaveOutcome.{SaveOutcome}
use Rattle.disk_model.specs.declared.save_outcome.SaveOutcome.TheVariants.{NoSave, Saved, LostNew, LostOld}
use Rattle.disk_model.specs.SaveOutcome.{has_new}
use Rattle.messages.specs.Nodes.{node_number}
use Rattle.client_core.specs.Inputs.{PacketInput, Begin, Trigger, Stop, Verify, Deliver, Tick}
use Rattle.client_core.specs.declared.note.ClientNote.{ClientNote}
use Rattle.client_core.specs.declared.peers.Peers.{Peers}
use Rattle.client_core.specs.History.{Opening, Entry, Met, Cut, Restart, Renew, Lose}
use Rattle.client_core.specs.Life.{Deed, Begins, Triggers, Stops, Verifies, Hears, deeds_of, life}
use Rattle.client_core.specs.Asked.{runs_of}
use Rattle.client_core.specs.Refusals.{is_begun, refusal_by}
use Rattle.client_core.specs.Saves.{Addition, addition_by, addition_of, unless_refused, noted_after, is_answer}
use Rattle.client_core.specs.Words.{is_on, words_noted, refusal, peers}
use Rattle.client_core.proofs.RefusalLemmas.{run_free}
use Rattle.client_core.proofs.FreshLemmas.{body_only}
use Rattle.fc_base.proofs.ListLemmas.{all_weaker}

abbrev Within : ℕ → ℕ → Deed → Type 0
Within runs attempts (Begins r t) = (1 ≤ r) × (r ≤ runs)
Within runs attempts (Triggers r act) = (1 ≤ r) × (r ≤ runs)
Within runs attempts (Stops r) = (1 ≤ r) × (r ≤ runs)
Within runs attempts (Verifies r a t) = a ≤ attempts
Within runs attempts (Hears s b) = Unit {0}

up : (x r s : ℕ) → x ≤ r → r ≤ s → x ≤ s
up x r s h l = omega arith

more : (r a s b : ℕ) (d : Deed) → r ≤ s → a ≤ b → Within r a d → Within s b d
more r a s b (Begins x t) l m h = (h.0, up x r s h.1 l)
more r a s b (Triggers x act) l m h = (h.0, up x r s h.1 l)
more r a s b (Stops x) l m h = (h.0, up x r s h.1 l)
more r a s b (Verifies x y t) l m h = omega arith
more r a s b (Hears x y) l m h = tt

weaker : (r a s b : ℕ) (ds : List Deed) → r ≤ s → a ≤ b → AllByRecursion (Within r a) ds → AllByRecursion (Within s b) ds
weaker r a s b ds l m h = all_weaker (Within r a) (Within s b) ds (λ d k. more r a s b d l m k) h

-- a run that is triggered or stopped was begun
abbrev Own : ClientNote → PacketInput → Type 0
Own n (Trigger run act) = (1 ≤ run) × (run ≤ n.runs)
Own n (Stop run) = (1 ≤ run) × (run ≤ n.runs)
Own n _ = Unit {0}

begun_below : (n : ClientNote) (run : ℕ) → is_begun n run ≡ true → (1 ≤ run) × (run ≤ n.runs)
unfolding is_begun
begun_below n run h = let p = and_parts (nat_le 1 run) (nat_le run n.runs) h in (leb-true 1 run p.0, leb-true run n.runs p.1)

own : (on : Bool) (servers : Peers) (n : ClientNote) (c : PacketInput) → refusal_by on servers n c ≡ None → Own n c
own true servers n (Trigger run act) h = begun_below n run (run_free false (is_begun n run) h).1
own true servers n (Stop run) h = begun_below n run (run_free false (is_begun n run) h).1
own false servers n (Trigger run act) h = cc
own false servers n (Stop run) h = cc
own on servers n (Begin text) h = tt
own on servers n (Verify run text) h = tt
own on servers n (Deliver p) h = tt
own on servers n Tick h = tt

either : (runs attempts : ℕ) (b : Bool) (d : Deed) (ds : List Deed) → Within runs attempts d → AllByRecursion (Within runs attempts) ds
    → AllByRecursion (Within runs attempts) (if b then d ∷ ds else ds)
either runs attempts true d ds w k = (w, k)
either runs attempts false d ds w k = k

same : (runs attempts : ℕ) (b : Bool) (ds : List Deed) → AllByRecursion (Within runs attempts) ds → AllByRecursion (Within runs attempts) (if b then ds else ds)
same runs attempts true ds k = k
same runs attempts false ds k = k

step : (n : ClientNote) (c : PacketInput) (r : Option Fault) (left : SaveOutcome) (ds : List Deed) → (r ≡ None → Own n c) → AllByRecursion (Within n.runs n.attempts) ds
    → AllByRecursion (Within (noted_after (has_new left) (unless_refused r (addition_of n c)) n).runs
    (noted_after (has_new left) (unless_refused r (addition_of n c)) n).attempts)
    (if is_none r && is_answer (unless_refused r (addition_of n c)) left then deeds_of n c ++ ds else ds)
step n c (Some f) left ds o k = k
step n (Begin text) None NoSave ds o k = k
step n (Begin text) None Saved ds o k = ((omega arith, omega arith), weaker n.runs n.attempts (n.runs + 1) n.attempts ds (omega arith) (omega arith) k)
step n (Begin text) None LostNew ds o k = weaker n.runs n.attempts (n.runs + 1) n.attempts ds (omega arith) (omega arith) k
step n (Begin text) None LostOld ds o k = k
step n (Verify run text) None NoSave ds o k = k
step n (Verify run text) None Saved ds o k = (omega arith, weaker n.runs n.attempts n.runs (n.attempts + 1) ds (omega arith) (omega arith) k)
step n (Verify run text) None LostNew ds o k = weaker n.runs n.attempts n.runs (n.attempts + 1) ds (omega arith) (omega arith) k
step n (Verify run text) None LostOld ds o k = k
step n (Trigger run act) None left ds o k = either n.runs n.attempts (is_answer {D = Addition} None left) (Triggers run act) ds (o refl) k
step n (Stop run) None left ds o k = either n.runs n.attempts (is_answer {D = Addition} None left) (Stops run) ds (o refl) k
step n (Deliver p) None left ds o k =
    let e = body_only (has_new left) n p.body in
    let b = is_answer (addition_by n p.body) left in
    subst (λ m. AllByRecursion (Within m (noted_after (has_new left) (addition_by n p.body) n).attempts)
    (if b then Hears (node_number p.from) p.body ∷ ds else ds)) (sym e.0)
    (subst (λ m. AllByRecursion (Within n.runs m) (if b then Hears (node_number p.from) p.body ∷ ds else ds)) (sym e.1)
    (either n.runs n.attempts b (Hears (node_number p.from) p.body) ds tt k))
step n Tick None left ds o k = same n.runs n.attempts (is_answer {D = Addition} None left) ds k

life_within : (o : Opening) (past : List Entry) → AllByRecursion (Within (words_noted o past).runs (words_noted o past).attempts) (life o past)
life_within o [] = tt
life_within o (Met c left ∷ past) =
    step (words_noted o past) c (refusal o past c) left (life o past) (own (is_on past) (peers o past) (words_noted o past) c) (life_within o past)
life_within o (Cut ∷ past) = tt
life_within o (Restart mirror ∷ past) = tt
life_within o (Renew g left ∷ past) = tt
life_within o (Lose ∷ past) = tt

of_runs : (runs attempts : ℕ) (ds : List Deed) → AllByRecursion (Within runs attempts) ds → AllByRecursion (λ r. (1 ≤ r) × (r ≤ runs)) (runs_of ds)
of_runs runs attempts [] h = tt
of_runs runs attempts (Begins r t ∷ ds) h = (h.0, of_runs runs attempts ds h.1)
of_runs runs attempts (Triggers r act ∷ ds) h = (h.0, of_runs runs attempts ds h.1)
of_runs runs attempts (Stops r ∷ ds) h = (h.0, of_runs runs attempts ds h.1)
of_runs runs attempts (Verifies r a t ∷ ds) h = of_runs runs attempts ds h.1
of_runs runs attempts (Hears s b ∷ ds) h = of_runs runs attempts ds h.1

-- The runs that were asked for in this life were begun.
pub runs_were_begun : (o : Opening) (past : List Entry) → AllByRecursion (λ r. (1 ≤ r) × (r ≤ (words_noted o past).runs)) (runs_of (life o past))
runs_were_begun o past = of_runs (words_noted o past).runs (words_noted o past).attempts (life o past) (life_within o past)
