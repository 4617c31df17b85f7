-- What is kept of the runs and attempts, one entry after the other.
use Rattle.std.proofs.Common.{◌≡◌, refl, sym, ap, subst, ◌∙◌, ℕ, suc, ◌+◌, ◌<◌, ◌≤◌, arith, Bool}
use Rattle.std.proofs.Common.{true, false, ◌==◌, nat_lt, List, [], ◌∷◌, ◌++◌, Option, None, Some}
use Rattle.std.specs.Prelude.{cond}
use Rattle.std.specs.List.{All, AllByRecursion, flat_map}
use Rattle.std.specs.List.Sorted.{IsStrictlySortedBy}
use Rattle.std.specs.Map.{keys_of, lookup}
use Rattle.std.specs.Ordering.{nat_cmp}
use Rattle.std.specs.declared.cmp.Ordering.TheVariants.{Less, Equal, Greater}
use Rattle.std.specs.BTreeMap.{BTreeMap, get, is_at}
use Rattle.std.proofs.lemmas.Bool.Decides.{nat_tests}
use Rattle.fc_base.specs.Counted.{numbers_below}
use Rattle.messages.specs.declared.body.Body.TheVariants as bodies
use Rattle.client_core.specs.declared.attempt_asked.AttemptAsked.{AttemptAsked}
use Rattle.client_core.specs.declared.beginning.Beginning.{Beginning}
use Rattle.client_core.specs.declared.beginning.Beginning.TheVariants.{Unbegun}
use Rattle.client_core.specs.declared.run_asked.RunAsked.{RunAsked}
use Rattle.client_core.specs.Begins.{begin_at}
use Rattle.client_core.specs.Life.{Deed, Begins, Triggers, Stops, Verifies, Hears, text_of, act_of, run_of, check_of}
use Rattle.client_core.specs.Lives.{RunFor, AttemptFor, Unnamed, Unmade}
use Rattle.client_core.specs.Asked.{rising, runs_of, attempts_of}
use Rattle.client_core.specs.Framed.{frame_bytes}
use Rattle.client_core.specs.Packets.{begin_again, run_again, attempt_again, requests_again}
use Rattle.client_core.specs.Requests.{trigger_at, stop_at, verify_at}
use Rattle.client_core.proofs.FrameLemmas.{framed_more, none_again}
use Rattle.client_core.proofs.LifeLemmas.{same_key}
use Rattle.fc_base.proofs.ListLemmas.{all_weaker}
use Rattle.client_core.proofs.RisingLemmas.{Rises, Lacks, Misses, entries_spread}
use Rattle.client_core.proofs.DeedLemmas.{run_stays, attempt_stays, begins_other, triggers_other, stops_other, verifies_no_run}
use Rattle.client_core.proofs.DeedLemmas.{begins_no_attempt, triggers_no_attempt, stops_no_attempt, verifies_other}
use Rattle.client_core.proofs.UnaskedLemmas.{unnamed_hears, unmade_hears}

-- Each entry has what is kept at its number.
pub all_kept : {X : Type 0} (m : BTreeMap ℕ X) (es : List (ℕ × X)) (P : ℕ → Option X → Type 0) → All (λ e. get nat_cmp m e.0 ≡ Some e.1) es
    → ((n : ℕ) → P n (get nat_cmp m n)) → AllByRecursion (λ e. P e.0 (Some e.1)) es
all_kept m [] P found h = tt
all_kept m (e ∷ es) P found h =
    (subst (P e.0) (found 0 e (omega arith)) (h e.0), all_kept m es P (λ k d l. found (suc k) d (omega arith)) h)

-- ---- what is sent for all numbers

less_is : (x y : ℕ) → nat_cmp x y ≡ Less → x < y
less_is x y h = by_less (nat_lt x y) refl h
  where
    by_less : (b : Bool) → nat_lt x y ≡ b → cond b Less (cond (x == y) Equal Greater) ≡ Less → x < y
    by_less true e h = grind (arith, nat_tests)
    by_less false e h = by_equal (x == y) h
      where
        by_equal : (b : Bool) → cond b Equal Greater ≡ Less → x < y
        by_equal true h = cc
        by_equal false h = cc

pub sorted_rises : {X : Type 0} (a : ℕ) (es : List (ℕ × X)) → AllByRecursion (λ y. a ≤ y) (keys_of es) → IsStrictlySortedBy nat_cmp (keys_of es) → Rises a es
unfolding IsStrictlySortedBy
sorted_rises a [] h s = tt
sorted_rises a (e ∷ es) h s = (
  h.0,
  sorted_rises (e.0 + 1) es (all_weaker (λ y. nat_cmp e.0 y ≡ Less) (λ y. e.0 + 1 ≤ y) (keys_of es)
      (λ y l. let m = less_is e.0 y l in omega (arith, m)) s.0) s.1,
)

all_from_zero : (ns : List ℕ) → AllByRecursion (λ y. 0 ≤ y) ns
all_from_zero [] = tt
all_from_zero (n ∷ ns) = (omega arith, all_from_zero ns)

lookup_none : {X : Type 0} (n : ℕ) (es : List (ℕ × X)) → Lacks n es → lookup (is_at (nat_cmp n)) es ≡ None
lookup_none n [] l = refl
lookup_none n (e ∷ es) l = ap (λ b. cond b (Some e.1) (lookup (is_at (nat_cmp n)) es)) (same_key n e.0 ∙ l.0) ∙ lookup_none n es l.1

begin_none : (run : ℕ) (text : List ℕ) (at : ℕ → Beginning) (ns : List ℕ) → ((s : ℕ) → at s ≡ Unbegun) → flat_map (λ s. begin_again run text s (at s)) ns ≡ []
begin_none run text at [] h = refl
begin_none run text at (n ∷ ns) h = ap (λ b. begin_again run text n b ++ flat_map (λ s. begin_again run text s (at s)) ns) (h n) ∙ begin_none run text at ns h

no_list : {A : Type 0} (a b c : List A) → a ≡ [] → b ≡ [] → c ≡ [] → a ++ (b ++ c) ≡ []
no_list a b c e f g = rw (e, f, g) refl

run_none : (servers : ℕ) (ds : List Deed) (run : ℕ) → Unnamed run ds → run_again servers ds run ≡ []
run_none servers ds run u = no_list _ _ _ (begin_none run (text_of run ds) (λ s. begin_at run s ds) (numbers_below servers) u.begins)
    (none_again (bodies.Trigger run (act_of run ds)) (λ s. trigger_at run s ds) (numbers_below servers) u.triggers)
    (none_again (bodies.Stop run) (λ s. stop_at run s ds) (numbers_below servers) u.stops)

attempt_none : (servers : ℕ) (ds : List Deed) (attempt : ℕ) → Unmade attempt ds → attempt_again servers ds attempt ≡ []
attempt_none servers ds attempt u =
    none_again (bodies.Verify (run_of attempt ds) attempt (check_of attempt ds)) (λ s. verify_at attempt s ds) (numbers_below servers) u.verifies

-- ---- what wasn't asked for

flip : (n m : ℕ) → (n == m) ≡ false → (m == n) ≡ false
flip n m h = grind (arith, nat_tests)

unnamed : (run : ℕ) (ds : List Deed) → Misses run (runs_of ds) → Unnamed run ds
unnamed run [] h = record { text = refl; act = refl; begins = λ s. refl; triggers = λ s. refl; stops = λ s. refl }
unnamed run (Begins r t ∷ ds) h = run_stays run (Begins r t) ds None (begins_other run r t ds (flip run r h.0)) (unnamed run ds h.1)
unnamed run (Triggers r act ∷ ds) h = run_stays run (Triggers r act) ds None (triggers_other run r act ds (flip run r h.0)) (unnamed run ds h.1)
unnamed run (Stops r ∷ ds) h = run_stays run (Stops r) ds None (stops_other run r ds (flip run r h.0)) (unnamed run ds h.1)
unnamed run (Verifies r a t ∷ ds) h = run_stays run (Verifies r a t) ds None (verifies_no_run run r a t ds) (unnamed run ds h)
unnamed run (Hears s b ∷ ds) h = unnamed_hears run s b ds (unnamed run ds h)

unmade : (attempt : ℕ) (ds : List Deed) → Misses attempt (attempts_of ds) → Unmade attempt ds
unmade attempt [] h = record { run = refl; text = refl; verifies = λ s. refl }
unmade attempt (Begins r t ∷ ds) h = attempt_stays attempt (Begins r t) ds None (begins_no_attempt attempt r t ds) (unmade attempt ds h)
unmade attempt (Triggers r act ∷ ds) h = attempt_stays attempt (Triggers r act) ds None (triggers_no_attempt attempt r act ds) (unmade attempt ds h)
unmade attempt (Stops r ∷ ds) h = attempt_stays attempt (Stops r) ds None (stops_no_attempt attempt r ds) (unmade attempt ds h)
unmade attempt (Verifies r a t ∷ ds) h =
    attempt_stays attempt (Verifies r a t) ds None (verifies_other attempt r a t ds (flip attempt a h.0)) (unmade attempt ds h.1)
unmade attempt (Hears s b ∷ ds) h = unmade_hears attempt s b ds (unmade attempt ds h)

-- Nothing is sent again of what wasn't asked for.
pub no_run_again : (servers : ℕ) (ds : List Deed) (run : ℕ) → Misses run (runs_of ds) → run_again servers ds run ≡ []
no_run_again servers ds run h = run_none servers ds run (unnamed run ds h)

pub no_attempt_again : (servers : ℕ) (ds : List Deed) (attempt : ℕ) → Misses attempt (attempts_of ds) → attempt_again servers ds attempt ≡ []
no_attempt_again servers ds attempt h = attempt_none servers ds attempt (unmade attempt ds h)

runs_spread : (servers : ℕ) (ds : List Deed) (m : BTreeMap ℕ RunAsked) → IsStrictlySortedBy nat_cmp (keys_of m.entries)
    → ((run : ℕ) → RunFor run ds (get nat_cmp m run))
    → flat_map (λ e. run_again servers ds e.0) m.entries ≡ flat_map (run_again servers ds) (rising (runs_of ds))
runs_spread servers ds m s h = entries_spread (run_again servers ds) (runs_of ds) m.entries (sorted_rises 0 m.entries (all_from_zero (keys_of m.entries)) s)
    (λ n none. no_run_again servers ds n none) (λ n l. run_none servers ds n (subst (RunFor n ds) (lookup_none n m.entries l) (h n)))

attempts_spread : (servers : ℕ) (ds : List Deed) (m : BTreeMap ℕ (Option AttemptAsked)) → IsStrictlySortedBy nat_cmp (keys_of m.entries)
    → ((attempt : ℕ) → AttemptFor attempt ds (get nat_cmp m attempt))
    → flat_map (λ e. attempt_again servers ds e.0) m.entries ≡ flat_map (attempt_again servers ds) (rising (attempts_of ds))
attempts_spread servers ds m s h =
    entries_spread (attempt_again servers ds) (attempts_of ds) m.entries (sorted_rises 0 m.entries (all_from_zero (keys_of m.entries)) s)
    (λ n none. no_attempt_again servers ds n none) (λ n l. attempt_none servers ds n (subst (AttemptFor n ds) (lookup_none n m.entries l) (h n)))

-- What is sent again by the entries is what is asked again.
pub all_spread : (servers : ℕ) (ds : List Deed) (runs : BTreeMap ℕ RunAsked) (attempts : BTreeMap ℕ (Option AttemptAsked))
    → IsStrictlySortedBy nat_cmp (keys_of runs.entries) → IsStrictlySortedBy nat_cmp (keys_of attempts.entries)
    → ((run : ℕ) → RunFor run ds (get nat_cmp runs run)) → ((attempt : ℕ) → AttemptFor attempt ds (get nat_cmp attempts attempt))
    → frame_bytes (flat_map (λ e. run_again servers ds e.0) runs.entries) ++ frame_bytes (flat_map (λ e. attempt_again servers ds e.0) attempts.entries)
    ≡ frame_bytes (requests_again servers ds)
all_spread servers ds runs attempts s t h k =
    ap (λ ps. frame_bytes ps ++ frame_bytes (flat_map (λ e. attempt_again servers ds e.0) attempts.entries)) (runs_spread servers ds runs s h)
    ∙ ap (λ ps. frame_bytes (flat_map (run_again servers ds) (rising (runs_of ds))) ++ frame_bytes ps) (attempts_spread servers ds attempts t k)
    ∙ sym (framed_more (flat_map (run_again servers ds) (rising (runs_of ds))) (flat_map (attempt_again servers ds) (rising (attempts_of ds))))
