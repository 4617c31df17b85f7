-- No number is given twice: where the note isn't lost, or the client is one with a mirror.
use Rattle.std.proofs.Common.{◌≡◌, refl, sym, subst, inl, inr, ℕ, ◌+◌, ◌<◌, ◌≤◌, arith, Bool, true}
use Rattle.std.proofs.Common.{false, ◌&&◌, ◌||◌, ◌==◌, List, [], ◌∷◌, ◌++◌, Option, None, Some}
use Rattle.std.specs.Prelude.{if◌then◌else◌, not, is_none, nat_le, nat_lt, ◌*◌, ◌^◌, slice_get}
use Rattle.std.proofs.lemmas.Bool.{and_parts, cases_Bool, eqb-true, leb-true, ltb-true}
use Rattle.std.proofs.lemmas.Bool.Decides.{nat_tests}
use Rattle.fc_base.specs.declared.fault.Fault.{Fault}
use Rattle.fc_base.specs.declared.fault.Fault.TheVariants.{Down}
use Rattle.fc_base.specs.declared.limits.TheConstants.{MAX_GENERATION}
use Rattle.fc_base.specs.Counted.{has}
use Rattle.fc_base.specs.Faults.{when}
use Rattle.messages.specs.Nodes.{node_number}
use Rattle.messages.specs.Ranges.{is_generation, is_text}
use Rattle.disk_model.specs.declared.save_outcome.SaveOutcome.{SaveOutcome}
use Rattle.disk_model.specs.declared.save_outcome.SaveOutcome.TheVariants.{NoSave, Saved, LostNew, LostOld}
use Rattle.disk_model.specs.SaveOutcome.{has_new, is_lost, is_saved}
use Rattle.client_core.specs.Inputs.{PacketInput, Begin, Trigger, Stop, Verify, Deliver, Tick}
use Rattle.client_core.specs.declared.note.ClientNote.{ClientNote}
use Rattle.client_core.specs.declared.peers.Peers.{Peers}
use Rattle.client_core.specs.History.{Opening, Entry, Met, Cut, Restart, Renew, Lose}
use Rattle.client_core.specs.Note.{is_blank, new_note}
use Rattle.client_core.specs.Refusals.{is_begun, is_of_generation, is_free_to_number, has_next, refusal_by}
use Rattle.client_core.specs.Saves.{Addition, addition_by, addition_of, unless_refused, due_by, noted_after, is_answer}
use Rattle.client_core.specs.Words.{is_on, words_noted, peers, may_renew}
use Rattle.client_core.specs.Life.{Deed, Triggers, Stops, Hears, deeds_of, deeds_done}
use Rattle.client_core.specs.Numbering.{runs_in, attempts_in, generations, is_mirrored, NumbersAreGivenOnce}
use Rattle.client_core.proofs.ApartLemmas.{Apart, give, lose, pass, renew, start, unsaved}
use Rattle.client_core.proofs.FreshLemmas.{attempts_are_fresh, body_only, runs_are_fresh}
use Rattle.client_core.proofs.NotedLemmas.{begin_faults, verify_faults}
use Rattle.client_core.proofs.PeersLemmas.{generation_stays}

on_of : (on : Bool) (more : List Fault) → slice_get (when (not on) Down ++ more) 0 ≡ None → on ≡ true
on_of true more h = refl
on_of false more h = cc

in_generation : (m p q : Bool) → p ≡ true → (not (m || p) || q) ≡ true → q ≡ true
in_generation true true q e h = h
in_generation false true q e h = h
in_generation true false q e h = cc
in_generation false false q e h = cc

some : (g : ℕ) → 1 ≤ g → nat_lt 0 g ≡ true
some g h = grind (arith, nat_tests)

of_own : (peers : Peers) (g used : ℕ) → 1 ≤ g → has_next peers g used ≡ true → used + 1 < (g + 1) * 2 ^ 32
unfolding has_next is_of_generation
of_own peers g used one h =
    let a = (and_parts (nat_lt (used + 1) (2 ^ 64)) (is_of_generation peers.mirror g (used + 1) && is_free_to_number peers.granted g) h).1 in
    let b = (and_parts (is_of_generation peers.mirror g (used + 1)) (is_free_to_number peers.granted g) a).0 in
    ltb-true (used + 1) ((g + 1) * 2 ^ 32) (in_generation peers.mirror (nat_lt 0 g) (nat_lt (used + 1) ((g + 1) * 2 ^ 32)) (some g one) b)

either : (gs : List ℕ) (f : List Deed → List ℕ) (b : Bool) (g used : ℕ) (x y : List Deed) → Apart gs g used (f x) → Apart gs g used (f y)
    → Apart gs g used (f (if b then x else y))
either gs f true g used x y h k = h
either gs f false g used x y h k = k

run_step : (gs : List ℕ) (on : Bool) (peers : Peers) (n : ClientNote) (c : PacketInput) (r : Option Fault) (left : SaveOutcome) (ds : List Deed) → r ≡ refusal_by on peers n c
    → (on ≡ true → 1 ≤ n.generation) → Apart gs n.generation n.runs (runs_in ds)
    → Apart gs n.generation (noted_after (has_new left) (unless_refused r (addition_of n c)) n).runs
    (runs_in (if is_none r && is_answer (unless_refused r (addition_of n c)) left then deeds_of n c ++ ds else ds))
run_step gs on peers n c (Some f) left ds e g k = k
run_step gs on peers n (Begin text) None NoSave ds e g k = k
run_step gs on peers n (Begin text) None Saved ds e g k =
    let one = g (on_of on _ (sym e)) in
    give gs n.generation n.runs (runs_in ds) one (of_own peers n.generation n.runs one
    ((begin_faults on (is_text text) (has_next peers n.generation n.runs) (sym e)).1)) k
run_step gs on peers n (Begin text) None LostNew ds e g k = pass gs n.generation n.runs (runs_in ds) k
run_step gs on peers n (Begin text) None LostOld ds e g k = k
run_step gs on peers n (Trigger run act) None left ds e g k =
    either gs runs_in (is_answer {D = Addition} None left) n.generation n.runs (Triggers run act ∷ ds) ds k k
run_step gs on peers n (Stop run) None left ds e g k = either gs runs_in (is_answer {D = Addition} None left) n.generation n.runs (Stops run ∷ ds) ds k k
run_step gs on peers n (Verify run text) None NoSave ds e g k = k
run_step gs on peers n (Verify run text) None Saved ds e g k = k
run_step gs on peers n (Verify run text) None LostNew ds e g k = k
run_step gs on peers n (Verify run text) None LostOld ds e g k = k
run_step gs on peers n (Deliver p) None left ds e g k =
    let same = (body_only (has_new left) n p.body).0 in
    let b = is_answer (addition_by n p.body) left in
    subst (λ m. Apart gs n.generation m (runs_in (if b then Hears (node_number p.from) p.body ∷ ds else ds))) (sym same)
    (either gs runs_in b n.generation n.runs (Hears (node_number p.from) p.body ∷ ds) ds k k)
run_step gs on peers n Tick None left ds e g k = either gs runs_in (is_answer {D = Addition} None left) n.generation n.runs ds ds k k

attempt_step : (gs : List ℕ) (on : Bool) (peers : Peers) (n : ClientNote) (c : PacketInput) (r : Option Fault) (left : SaveOutcome) (ds : List Deed) → r ≡ refusal_by on peers n c
    → (on ≡ true → 1 ≤ n.generation) → Apart gs n.generation n.attempts (attempts_in ds)
    → Apart gs n.generation (noted_after (has_new left) (unless_refused r (addition_of n c)) n).attempts
    (attempts_in (if is_none r && is_answer (unless_refused r (addition_of n c)) left then deeds_of n c ++ ds else ds))
attempt_step gs on peers n c (Some f) left ds e g k = k
attempt_step gs on peers n (Verify run text) None NoSave ds e g k = k
attempt_step gs on peers n (Verify run text) None Saved ds e g k =
    let one = g (on_of on _ (sym e)) in
    give gs n.generation n.attempts (attempts_in ds) one
    (of_own peers n.generation n.attempts one ((verify_faults on (is_begun n run) (is_text text) (has_next peers n.generation n.attempts) (sym e)).2)) k
attempt_step gs on peers n (Verify run text) None LostNew ds e g k = pass gs n.generation n.attempts (attempts_in ds) k
attempt_step gs on peers n (Verify run text) None LostOld ds e g k = k
attempt_step gs on peers n (Trigger run act) None left ds e g k =
    either gs attempts_in (is_answer {D = Addition} None left) n.generation n.attempts (Triggers run act ∷ ds) ds k k
attempt_step gs on peers n (Stop run) None left ds e g k =
    either gs attempts_in (is_answer {D = Addition} None left) n.generation n.attempts (Stops run ∷ ds) ds k k
attempt_step gs on peers n (Begin text) None NoSave ds e g k = k
attempt_step gs on peers n (Begin text) None Saved ds e g k = k
attempt_step gs on peers n (Begin text) None LostNew ds e g k = k
attempt_step gs on peers n (Begin text) None LostOld ds e g k = k
attempt_step gs on peers n (Deliver p) None left ds e g k =
    let same = (body_only (has_new left) n p.body).1 in
    let b = is_answer (addition_by n p.body) left in
    subst (λ m. Apart gs n.generation m (attempts_in (if b then Hears (node_number p.from) p.body ∷ ds else ds))) (sym same)
    (either gs attempts_in b n.generation n.attempts (Hears (node_number p.from) p.body ∷ ds) ds k k)
attempt_step gs on peers n Tick None left ds e g k = either gs attempts_in (is_answer {D = Addition} None left) n.generation n.attempts ds ds k k

-- what holds of each list of a client with a mirror
record Holds (o : Opening) (past : List Entry) : Type 0 where
  runs : Apart (generations past) (words_noted o past).generation (words_noted o past).runs (runs_in (deeds_done o past))
  attempts : Apart (generations past) (words_noted o past).generation (words_noted o past).attempts (attempts_in (deeds_done o past))
  on : is_on past ≡ true → 1 ≤ (words_noted o past).generation
  blank : (words_noted o past).generation ≡ 0 → is_blank (words_noted o past) ≡ true

not_none : (g : ℕ) → 1 ≤ g → g ≡ 0 → ⊥
not_none g h e = omega arith

above_none : (g : ℕ) → 0 < g → 1 ≤ g
above_none g h = omega arith

some_or_none : (g : ℕ) → (g == 0) ≡ false → 1 ≤ g
some_or_none g h = grind (arith, nat_tests)

off_blank : (on new : Bool) (ps : Peers) (n : ClientNote) (c : PacketInput) → (on ≡ true → ⊥) → is_blank n ≡ true → is_blank (noted_after new (due_by on ps n c) n) ≡ true
off_blank true new ps n c f h = absurd (f refl)
off_blank false new ps n c f h = h

renewed_runs : (gs : List ℕ) (x : ℕ) (b : Bool) (n : ClientNote) (ns : List ℕ) → has gs x ≡ false → Apart gs n.generation n.runs ns
    → Apart (x ∷ gs) (if b then new_note x else n).generation (if b then new_note x else n).runs ns
renewed_runs gs x true n ns h k = renew gs x n.generation n.runs ns h k
renewed_runs gs x false n ns h k = unsaved gs x n.generation n.runs ns k

renewed_attempts : (gs : List ℕ) (x : ℕ) (b : Bool) (n : ClientNote) (ns : List ℕ) → has gs x ≡ false → Apart gs n.generation n.attempts ns
    → Apart (x ∷ gs) (if b then new_note x else n).generation (if b then new_note x else n).attempts ns
renewed_attempts gs x true n ns h k = renew gs x n.generation n.attempts ns h k
renewed_attempts gs x false n ns h k = unsaved gs x n.generation n.attempts ns k

renewed_on : (x : ℕ) (b : Bool) (n : ClientNote) → 1 ≤ x → (b ≡ false → 1 ≤ n.generation) → 1 ≤ (if b then new_note x else n).generation
renewed_on x true n h f = h
renewed_on x false n h f = f refl

renewed_blank : (x : ℕ) (b : Bool) (n : ClientNote) → 1 ≤ x → (n.generation ≡ 0 → is_blank n ≡ true) → (if b then new_note x else n).generation ≡ 0
    → is_blank (if b then new_note x else n) ≡ true
renewed_blank x true n h f e = absurd (not_none x h e)
renewed_blank x false n h f e = f e

-- where a renewal with a good number answers and changes nothing, the note is of a generation
not_blank : (x : ℕ) (left : SaveOutcome) (n : ClientNote) → is_saved left ≡ true → is_generation x ≡ true → (n.generation ≡ 0 → is_blank n ≡ true)
    → (has_new left && may_renew x n) ≡ false → 1 ≤ n.generation
not_blank x Saved n s g f h = elim (cases_Bool (n.generation == 0)) [
  | inl z ↦ absurd (both (is_generation x) (is_blank n) g (f (eqb-true n.generation 0 z)) h)
  | inr z ↦ some_or_none n.generation z
]
  where
    both : (a b : Bool) → a ≡ true → b ≡ true → (a && b) ≡ false → ⊥
    both true true a b h = cc
    both true false a b h = cc
    both false b a c h = cc
not_blank x NoSave n s g f h = cc
not_blank x LostNew n s g f h = cc
not_blank x LostOld n s g f h = cc

negated : (b : Bool) → not b ≡ true → b ≡ false
negated true h = cc
negated false h = refl

holds : (o : Opening) (past : List Entry) → is_mirrored o past ≡ true → Holds o past
holds o [] h =
    let none = eqb-true o.noted.generation 0 ((and_parts (o.noted.generation == 0) _ h).0) in
    record {
      runs = start o.noted.generation o.noted.runs none;
      attempts = start o.noted.generation o.noted.attempts none;
      on = λ e. cc;
      blank = λ e. h;
    }
holds o (Met c left ∷ past) h =
    let k = holds o past h in
    let n = words_noted o past in
    let after = words_noted o (Met c left ∷ past) in
    let e : after.generation ≡ n.generation = generation_stays (has_new left) (due_by (is_on past) (peers o past) n c) n in
    record {
      runs = subst (λ g. Apart (generations past) g after.runs (runs_in (deeds_done o (Met c left ∷ past)))) (sym e)
          (run_step (generations past) (is_on past) (peers o past) n c (refusal_by (is_on past) (peers o past) n c) left (deeds_done o past) refl k.on k.runs);
      attempts = subst (λ g. Apart (generations past) g after.attempts (attempts_in (deeds_done o (Met c left ∷ past)))) (sym e)
          (attempt_step (generations past) (is_on past) (peers o past) n c (refusal_by (is_on past) (peers o past) n c) left
          (deeds_done o past) refl k.on k.attempts);
      on = λ i. subst (λ g. 1 ≤ g) (sym e) (k.on ((and_parts (is_on past) (not (is_lost left)) i).0));
      blank = λ z. (
          let zero_before : n.generation ≡ 0 = subst (λ g. g ≡ 0) e z in
          off_blank (is_on past) (has_new left) (peers o past) n c (λ i. not_none n.generation (k.on i) zero_before) (k.blank zero_before));
    }
holds o (Cut ∷ past) h =
    let k = holds o past h in
    record { runs = k.runs; attempts = k.attempts; on = λ e. cc; blank = k.blank }
holds o (Restart mirror ∷ past) h =
    let a = and_parts (mirror && nat_lt 0 (words_noted o past).generation) (is_mirrored o past) h in
    let b = and_parts mirror (nat_lt 0 (words_noted o past).generation) a.0 in
    let k = holds o past a.1 in
    record {
      runs = k.runs;
      attempts = k.attempts;
      on = λ e. above_none (words_noted o past).generation (ltb-true 0 (words_noted o past).generation b.1);
      blank = k.blank;
    }
holds o (Renew g left ∷ past) h =
    let a = and_parts (is_generation g && not (has (generations past) g)) (is_mirrored o past) h in
    let b = and_parts (is_generation g) (not (has (generations past) g)) a.0 in
    let k = holds o past a.1 in
    let n = words_noted o past in
    let new = has_new left && may_renew g n in
    let fresh = negated (has (generations past) g) b.1 in
    let one : 1 ≤ g = leb-true 1 g ((and_parts (nat_le 1 g) (nat_le g MAX_GENERATION) b.0).0) in
    record {
      runs = renewed_runs (generations past) g new n (runs_in (deeds_done o past)) fresh k.runs;
      attempts = renewed_attempts (generations past) g new n (attempts_in (deeds_done o past)) fresh k.attempts;
      on = λ i. renewed_on g new n one (λ f. not_blank g left n i b.0 k.blank f);
      blank = renewed_blank g new n one k.blank;
    }
holds o (Lose ∷ past) h =
    let k = holds o past h in
    record {
      runs = lose (generations past) (words_noted o past).generation (words_noted o past).runs (runs_in (deeds_done o past)) k.runs;
      attempts = lose (generations past) (words_noted o past).generation (words_noted o past).attempts (attempts_in (deeds_done o past)) k.attempts;
      on = λ e. cc;
      blank = λ e. refl;
    }

pub numbers_are_given_once : NumbersAreGivenOnce
numbers_are_given_once o past (inl h) = record { runs = (runs_are_fresh o past h).distinct; attempts = (attempts_are_fresh o past h).distinct }
numbers_are_given_once o past (inr h) =
    let k = holds o past h in
    record { runs = k.runs.distinct; attempts = k.attempts.distinct }
