-- No number is given twice.
use Rattle.std.proofs.Common.{◌≡◌, refl, sym, subst, ℕ, ◌+◌, ◌≤◌, arith, Bool, true, false, ◌&&◌, ◌==◌, List, [], ◌∷◌, ◌++◌, Option, None, Some}
use Rattle.std.specs.Prelude.{if◌then◌else◌, is_none, ◌*◌, ◌^◌, IsTrue}
use Rattle.std.proofs.lemmas.Bool.{and_parts, eqb-true}
use Rattle.std.specs.List.{AllByRecursion}
use Rattle.std.proofs.lemmas.Bool.Decides.{nat_tests}
use Rattle.fc_base.specs.declared.fault.Fault.{Fault}
use Rattle.fc_base.specs.Counted.{has}
use Rattle.verify_state.specs.State.{State}
use Rattle.messages.specs.declared.body.Body.{Body}
use Rattle.messages.specs.declared.body.Body.TheVariants as bodies
use Rattle.messages.specs.Nodes.{node_number}
use Rattle.disk_model.specs.declared.save_outcome.SaveOutcome.{SaveOutcome}
use Rattle.disk_model.specs.declared.save_outcome.SaveOutcome.TheVariants.{NoSave, Saved, LostNew, LostOld}
use Rattle.disk_model.specs.SaveOutcome.{has_new}
use Rattle.client_core.specs.Inputs.{PacketInput, Begin, Trigger, Stop, Verify, Deliver, Tick}
use Rattle.verify_state.specs.StateTable.{kept_of}
use Rattle.client_core.specs.declared.note.ClientNote.{ClientNote}
use Rattle.client_core.specs.History.{Opening, Entry, Met, Cut, Restart, Renew, Lose}
use Rattle.client_core.specs.Refusals.{refusal_by}
use Rattle.client_core.specs.Saves.{Addition, unless_kept, addition_by, addition_of, unless_refused, noted_after, is_answer}
use Rattle.client_core.specs.Words.{is_on, words_noted, peers, may_renew}
use Rattle.client_core.specs.Note.{is_blank, new_note}
use Rattle.client_core.specs.Life.{Deed, Triggers, Stops, Hears, deeds_of, deeds_done}
use Rattle.client_core.specs.Laws.{loses_nothing}
use Rattle.client_core.specs.Numbering.{runs_in, attempts_in, AreFresh, RunsAreFresh, AttemptsAreFresh}
use Rattle.client_core.proofs.KeptLemmas.{blank_then}
use Rattle.fc_base.proofs.ListLemmas.{all_weaker}

-- the numbers are fresh, and the last is no lower than the first
pub record Known (first last : ℕ) (ns : List ℕ) : Type 0 where
  pub rises : first ≤ last
  pub fresh : AreFresh first last ns

not_there : (last : ℕ) (ns : List ℕ) → AllByRecursion (λ n. n ≤ last) ns → has ns (last + 1) ≡ false
not_there last [] h = refl
not_there last (n ∷ ns) h =
    let low : n ≤ last = h.0 in
    let e : (n == last + 1) ≡ false = grind (arith, nat_tests) in
    rw e (not_there last ns h.1)

weaker : (first last : ℕ) (ns : List ℕ) → Known first last ns → Known first (last + 1) ns
weaker first last ns k = record {
  rises = let r = k.rises in omega arith;
  fresh = record {
    distinct = k.fresh.distinct;
    above = k.fresh.above;
    below = all_weaker (λ n. n ≤ last) (λ n. n ≤ last + 1) ns (λ n h. omega arith) k.fresh.below;
  };
}

given : (first last : ℕ) (ns : List ℕ) → Known first last ns → Known first (last + 1) ((last + 1) ∷ ns)
given first last ns k =
    let r : first ≤ last = k.rises in
    let w = weaker first last ns k in
    let no : has ns (last + 1) ≡ false = not_there last ns k.fresh.below in
    record {
      rises = omega arith;
      fresh = record {
        distinct = rw no k.fresh.distinct;
        above = (omega arith, k.fresh.above);
        below = (omega arith, w.fresh.below);
      };
    }

same : (f : List Deed → List ℕ) (b : Bool) (first last : ℕ) (x y : List Deed) → Known first last (f x) → Known first last (f y)
    → Known first last (f (if b then x else y))
same f true first last x y h k = h
same f false first last x y h k = k

-- the last may be any higher one
higher : (first last more : ℕ) (ns : List ℕ) → last ≤ more → Known first last ns → Known first more ns
higher first last more ns h k = record {
  rises = let r = k.rises in omega arith;
  fresh = record {
    distinct = k.fresh.distinct;
    above = k.fresh.above;
    below = all_weaker (λ n. n ≤ last) (λ n. n ≤ more) ns (λ n l. omega arith) k.fresh.below;
  };
}

from_none : (last more : ℕ) → last ≡ 0 → last ≤ more
from_none last more e = omega arith

-- a blank note used no number
pub none_used : (n : ClientNote) → is_blank n ≡ true → (n.runs ≡ 0) × (n.attempts ≡ 0)
none_used n h =
    let a = and_parts (n.generation == 0) _ h in
    let b = and_parts (n.runs == 0) _ a.1 in
    let c = and_parts (n.attempts == 0) _ b.1 in
    (eqb-true n.runs 0 b.0, eqb-true n.attempts 0 c.0)

run_renewed : (first : ℕ) (b : Bool) (g : ℕ) (n : ClientNote) (ns : List ℕ) → (b ≡ true → n.runs ≡ 0) → Known first n.runs ns
    → Known first (if b then new_note g else n).runs ns
run_renewed first true g n ns f k = higher first n.runs (g * 2 ^ 32) ns (from_none n.runs (g * 2 ^ 32) (f refl)) k
run_renewed first false g n ns f k = k

attempt_renewed : (first : ℕ) (b : Bool) (g : ℕ) (n : ClientNote) (ns : List ℕ) → (b ≡ true → n.attempts ≡ 0) → Known first n.attempts ns
    → Known first (if b then new_note g else n).attempts ns
attempt_renewed first true g n ns f k = higher first n.attempts (g * 2 ^ 32) ns (from_none n.attempts (g * 2 ^ 32) (f refl)) k
attempt_renewed first false g n ns f k = k

-- a state changes no number
state_only : (new : Bool) (n : ClientNote) (x : Option State) (state : State)
    → ((noted_after new (unless_kept x state) n).runs ≡ n.runs) × ((noted_after new (unless_kept x state) n).attempts ≡ n.attempts)
state_only new n (Some s) state = (refl, refl)
state_only true n None state = (refl, refl)
state_only false n None state = (refl, refl)

pub body_only : (new : Bool) (n : ClientNote) (body : Body) → ((noted_after new (addition_by n body) n).runs ≡ n.runs)
    × ((noted_after new (addition_by n body) n).attempts ≡ n.attempts)
body_only new n (bodies.State jobs state) = state_only new n (kept_of state.key n.kept) state
body_only new n (bodies.Copy state) = state_only new n (kept_of state.key n.kept) state
body_only new n _ = (refl, refl)

pub run_step : (first : ℕ) (n : ClientNote) (c : PacketInput) (r : Option Fault) (left : SaveOutcome) (ds : List Deed) → Known first n.runs (runs_in ds)
    → Known first (noted_after (has_new left) (unless_refused r (addition_of n c)) n).runs
    (runs_in (if is_none r && is_answer (unless_refused r (addition_of n c)) left then deeds_of n c ++ ds else ds))
run_step first n c (Some f) left ds k = k
run_step first n (Begin text) None NoSave ds k = k
run_step first n (Begin text) None Saved ds k = given first n.runs (runs_in ds) k
run_step first n (Begin text) None LostNew ds k = weaker first n.runs (runs_in ds) k
run_step first n (Begin text) None LostOld ds k = k
run_step first n (Trigger run act) None left ds k = same runs_in (is_answer {D = Addition} None left) first n.runs (Triggers run act ∷ ds) ds k k
run_step first n (Stop run) None left ds k = same runs_in (is_answer {D = Addition} None left) first n.runs (Stops run ∷ ds) ds k k
run_step first n (Verify run text) None NoSave ds k = k
run_step first n (Verify run text) None Saved ds k = k
run_step first n (Verify run text) None LostNew ds k = k
run_step first n (Verify run text) None LostOld ds k = k
run_step first n (Deliver p) None left ds k =
    let e = (body_only (has_new left) n p.body).0 in
    let b = is_answer (addition_by n p.body) left in
    subst (λ m. Known first m (runs_in (if b then Hears (node_number p.from) p.body ∷ ds else ds))) (sym e)
    (same runs_in b first n.runs (Hears (node_number p.from) p.body ∷ ds) ds k k)
run_step first n Tick None left ds k = same runs_in (is_answer {D = Addition} None left) first n.runs ds ds k k

known_runs : (o : Opening) (past : List Entry) → IsTrue (loses_nothing past) → Known o.noted.runs (words_noted o past).runs (runs_in (deeds_done o past))
known_runs o [] h = record { rises = omega arith; fresh = record { distinct = refl; above = tt; below = tt } }
known_runs o (Met c left ∷ past) h =
    run_step o.noted.runs (words_noted o past) c (refusal_by (is_on past) (peers o past) (words_noted o past) c) left (deeds_done o past) (known_runs o past h)
known_runs o (Cut ∷ past) h = known_runs o past h
known_runs o (Restart mirror ∷ past) h = known_runs o past h
known_runs o (Renew g left ∷ past) h = run_renewed o.noted.runs (has_new left && may_renew g (words_noted o past)) g (words_noted o past)
    (runs_in (deeds_done o past)) (λ e. (none_used (words_noted o past) (blank_then (has_new left) g (words_noted o past) e)).0) (known_runs o past h)
known_runs o (Lose ∷ past) h = cc

pub runs_are_fresh : RunsAreFresh
runs_are_fresh o past h = (known_runs o past h).fresh

pub attempt_step : (first : ℕ) (n : ClientNote) (c : PacketInput) (r : Option Fault) (left : SaveOutcome) (ds : List Deed) → Known first n.attempts (attempts_in ds)
    → Known first (noted_after (has_new left) (unless_refused r (addition_of n c)) n).attempts
    (attempts_in (if is_none r && is_answer (unless_refused r (addition_of n c)) left then deeds_of n c ++ ds else ds))
attempt_step first n c (Some f) left ds k = k
attempt_step first n (Verify run text) None NoSave ds k = k
attempt_step first n (Verify run text) None Saved ds k = given first n.attempts (attempts_in ds) k
attempt_step first n (Verify run text) None LostNew ds k = weaker first n.attempts (attempts_in ds) k
attempt_step first n (Verify run text) None LostOld ds k = k
attempt_step first n (Trigger run act) None left ds k = same attempts_in (is_answer {D = Addition} None left) first n.attempts (Triggers run act ∷ ds) ds k k
attempt_step first n (Stop run) None left ds k = same attempts_in (is_answer {D = Addition} None left) first n.attempts (Stops run ∷ ds) ds k k
attempt_step first n (Begin text) None NoSave ds k = k
attempt_step first n (Begin text) None Saved ds k = k
attempt_step first n (Begin text) None LostNew ds k = k
attempt_step first n (Begin text) None LostOld ds k = k
attempt_step first n (Deliver p) None left ds k =
    let e = (body_only (has_new left) n p.body).1 in
    let b = is_answer (addition_by n p.body) left in
    subst (λ m. Known first m (attempts_in (if b then Hears (node_number p.from) p.body ∷ ds else ds))) (sym e)
    (same attempts_in b first n.attempts (Hears (node_number p.from) p.body ∷ ds) ds k k)
attempt_step first n Tick None left ds k = same attempts_in (is_answer {D = Addition} None left) first n.attempts ds ds k k

known_attempts : (o : Opening) (past : List Entry) → IsTrue (loses_nothing past)
    → Known o.noted.attempts (words_noted o past).attempts (attempts_in (deeds_done o past))
known_attempts o [] h = record { rises = omega arith; fresh = record { distinct = refl; above = tt; below = tt } }
known_attempts o (Met c left ∷ past) h = attempt_step o.noted.attempts (words_noted o past) c
    (refusal_by (is_on past) (peers o past) (words_noted o past) c) left (deeds_done o past) (known_attempts o past h)
known_attempts o (Cut ∷ past) h = known_attempts o past h
known_attempts o (Restart mirror ∷ past) h = known_attempts o past h
known_attempts o (Renew g left ∷ past) h = attempt_renewed o.noted.attempts (has_new left && may_renew g (words_noted o past)) g (words_noted o past)
    (attempts_in (deeds_done o past)) (λ e. (none_used (words_noted o past) (blank_then (has_new left) g (words_noted o past) e)).1) (known_attempts o past h)
known_attempts o (Lose ∷ past) h = cc

pub attempts_are_fresh : AttemptsAreFresh
attempts_are_fresh o past h = (known_attempts o past h).fresh
