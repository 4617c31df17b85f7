-- A run has one text, and an attempt one run and text.
use Rattle.std.proofs.Common.{◌≡◌, refl, sym, ◌∙◌, ap, subst, inl, inr, ℕ, ◌+◌, arith, Bool, true, false, ◌||◌, ◌==◌, List, [], ◌∷◌, ◌++◌}
use Rattle.std.specs.Prelude.{if◌then◌else◌, not, Contains}
use Rattle.std.specs.List.{AllByRecursion, flat_map}
use Rattle.std.proofs.lemmas.Bool.{and_parts}
use Rattle.std.proofs.lemmas.Bool.Decides.{nat_tests}
use Rattle.std.proofs.lemmas.List.Elements.{Contains-append_left, Contains-append_right, Contains-append_cases}
use Rattle.fc_base.specs.Counted.{has, is_distinct}
use Rattle.messages.specs.declared.packet.PacketParts.{PacketParts}
use Rattle.messages.specs.declared.body.Body.{Body}
use Rattle.messages.specs.declared.body.Body.TheVariants as bodies
use Rattle.disk_model.specs.declared.save_outcome.SaveOutcome.{SaveOutcome}
use Rattle.client_core.specs.Inputs.{PacketInput, Begin, Verify}
use Rattle.client_core.specs.declared.note.ClientNote.{ClientNote}
use Rattle.client_core.specs.History.{Opening, Entry, Met, Cut, Restart, Renew, Lose}
use Rattle.client_core.specs.Words.{words_noted, is_answered}
use Rattle.client_core.specs.Life.{Deed, Begins, Verifies, deeds_of, life, deeds_done, text_of, run_of, check_of}
use Rattle.client_core.specs.Packets.{packets, sent_packets}
use Rattle.client_core.specs.Numbering.{run_in, attempt_in, OneTextOfARun, OneTextOfAnAttempt}
use Rattle.client_core.proofs.AskedLemmas.{asked_was, begun_was}
use Rattle.client_core.proofs.MirroredLemmas.{numbers_are_given_once}
use Rattle.fc_base.proofs.ListLemmas.{all_append, all_weaker, each_of, first_of, first_or_behind, none_in}
use Rattle.client_core.proofs.ReasonLemmas.{IsSent, Why, WhyMirror, all_sent}

-- all that was done in this life was done
chosen : (b : Bool) (xs ys zs : List Deed) (d : Deed) → (Contains ys d → Contains zs d) → Contains (if b then xs ++ ys else ys) d
    → Contains (if b then xs ++ zs else zs) d
chosen true xs ys zs d f h = elim (Contains-append_cases xs ys d h) [ inl a ↦ Contains-append_left xs zs d a | inr c ↦ Contains-append_right xs zs d (f c) ]
chosen false xs ys zs d f h = f h

pub life_was_done : (o : Opening) (past : List Entry) (d : Deed) → Contains (life o past) d → Contains (deeds_done o past) d
life_was_done o [] d h = h
life_was_done o (Met c left ∷ past) d h =
    chosen (is_answered o past c left) (deeds_of (words_noted o past) c) (life o past) (deeds_done o past) d (life_was_done o past d) h
life_was_done o (Cut ∷ past) d h = absurd (none_in d h)
life_was_done o (Restart mirror ∷ past) d h = absurd (none_in d h)
life_was_done o (Renew g left ∷ past) d h = absurd (none_in d h)
life_was_done o (Lose ∷ past) d h = absurd (none_in d h)

added : (b : Bool) (xs ys : List Deed) (d : Deed) → Contains ys d → Contains (if b then xs ++ ys else ys) d
added true xs ys d h = Contains-append_right xs ys d h
added false xs ys d h = h

done_stays : (o : Opening) (e : Entry) (past : List Entry) (d : Deed) → Contains (deeds_done o past) d → Contains (deeds_done o (e ∷ past)) d
done_stays o (Met c left) past d h = added (is_answered o past c left) (deeds_of (words_noted o past) c) (deeds_done o past) d h
done_stays o Cut past d h = h
done_stays o (Restart mirror) past d h = h
done_stays o (Renew g left) past d h = h
done_stays o Lose past d h = h

now_done : (b : Bool) (c x : PacketInput) (n : ClientNote) (d : Deed) (before : List Deed) → b ≡ true → c ≡ x → Contains (deeds_of n x) d
    → Contains (if b then deeds_of n c ++ before else before) d
now_done true c x n d before t e h = Contains-append_left (deeds_of n c) before d (subst (λ y. Contains (deeds_of n y) d) (sym e) h)
now_done false c x n d before t e h = cc

-- Jobs and Verify carry what was done
abbrev pub Carries : List Deed → Body → Type 0
Carries deeds (bodies.Jobs run text) = Contains deeds (Begins run text)
Carries deeds (bodies.Verify run attempt text) = Contains deeds (Verifies run attempt text)
Carries deeds _ = Unit {0}

carries_more : (o : Opening) (e : Entry) (past : List Entry) (body : Body) → Carries (deeds_done o past) body → Carries (deeds_done o (e ∷ past)) body
carries_more o e past (bodies.Jobs run text) h = done_stays o e past (Begins run text) h
carries_more o e past (bodies.Verify run attempt text) h = done_stays o e past (Verifies run attempt text) h
carries_more o e past _ h = tt

jobs_carry : (o : Opening) (past : List Entry) (c : PacketInput) (left : SaveOutcome) (s run : ℕ) (text : List ℕ) → is_answered o past c left ≡ true
    → Why (words_noted o past) (life o past) c s (bodies.Jobs run text) → Carries (deeds_done o (Met c left ∷ past)) (bodies.Jobs run text)
jobs_carry o past c left s run text a (inl w) =
    subst (λ r. Carries (deeds_done o (Met c left ∷ past)) (bodies.Jobs r text)) (sym w.1)
    (now_done (is_answered o past c left) c (Begin text) (words_noted o past) (Begins ((words_noted o past).runs + 1) text) (deeds_done o past) a w.0
    (first_of (Begins ((words_noted o past).runs + 1) text) []))
jobs_carry o past c left s run text a (inr w) =
    let d = life_was_done o past (Begins run (text_of run (life o past))) (begun_was run s (life o past) w.1) in
    done_stays o (Met c left) past (Begins run text) (subst (λ t. Contains (deeds_done o past) (Begins run t)) (sym w.0) d)

verify_carries : (o : Opening) (past : List Entry) (c : PacketInput) (left : SaveOutcome) (s run attempt : ℕ) (text : List ℕ) → is_answered o past c left ≡ true
    → Why (words_noted o past) (life o past) c s (bodies.Verify run attempt text) → Carries (deeds_done o (Met c left ∷ past)) (bodies.Verify run attempt text)
verify_carries o past c left s run attempt text a (inl w) =
    subst (λ x. Carries (deeds_done o (Met c left ∷ past)) (bodies.Verify run x text)) (sym w.1)
    (now_done (is_answered o past c left) c (Verify run text) (words_noted o past) (Verifies run ((words_noted o past).attempts + 1) text)
    (deeds_done o past) a w.0 (first_of (Verifies run ((words_noted o past).attempts + 1) text) []))
verify_carries o past c left s run attempt text a (inr w) =
    let d = life_was_done o past (Verifies (run_of attempt (life o past)) attempt (check_of attempt (life o past))) (asked_was attempt s (life o past) w.2) in
    done_stays o (Met c left) past (Verifies run attempt text)
    (subst (λ r. Contains (deeds_done o past) (Verifies r attempt text)) (sym w.0)
    (subst (λ t. Contains (deeds_done o past) (Verifies (run_of attempt (life o past)) attempt t)) (sym w.1) d))

pub why_carries : (o : Opening) (past : List Entry) (c : PacketInput) (left : SaveOutcome) (s : ℕ) (body : Body) → is_answered o past c left ≡ true
    → Why (words_noted o past) (life o past) c s body → Carries (deeds_done o (Met c left ∷ past)) body
why_carries o past c left s (bodies.Jobs run text) a w = jobs_carry o past c left s run text a w
why_carries o past c left s (bodies.Verify run attempt text) a w = verify_carries o past c left s run attempt text a w
why_carries o past c left s _ a w = tt

mirror_carries : (o : Opening) (past : List Entry) (c : PacketInput) (left : SaveOutcome) (body : Body) → WhyMirror (words_noted o past) c body
    → Carries (deeds_done o (Met c left ∷ past)) body
mirror_carries o past c left (bodies.Copy state) w = tt
mirror_carries o past c left (bodies.Fetch generation) w = tt
mirror_carries o past c left _ w = absurd w

now : (o : Opening) (past : List Entry) (e : Entry) → AllByRecursion (λ p. Carries (deeds_done o (e ∷ past)) p.body) (packets o past e)
now o past (Met c left) =
    all_weaker (IsSent o past c left) (λ p. Carries (deeds_done o (Met c left ∷ past)) p.body) (packets o past (Met c left))
    (λ p x. elim (x.why) [ inl w ↦ why_carries o past c left w.0 p.body x.answers w.3 | inr w ↦ mirror_carries o past c left p.body w.2 ])
    (all_sent o past c left)
now o past Cut = tt
now o past (Restart mirror) = tt
now o past (Renew g left) = tt
now o past Lose = tt

ever : (o : Opening) (past : List Entry) → AllByRecursion (λ p. Carries (deeds_done o past) p.body) (sent_packets o past)
ever o [] = tt
ever o (e ∷ past) =
    all_append (λ p. Carries (deeds_done o (e ∷ past)) p.body) (sent_packets o past) (packets o past e)
    (all_weaker (λ p. Carries (deeds_done o past) p.body) (λ p. Carries (deeds_done o (e ∷ past)) p.body) (sent_packets o past)
    (λ p h. carries_more o e past p.body h) (ever o past))
    (now o past e)

carried : (o : Opening) (past : List Entry) (p : PacketParts) (body : Body) → Contains (sent_packets o past) p → p.body ≡ body
    → Carries (deeds_done o past) body
carried o past p body h e = subst (Carries (deeds_done o past)) e (each_of (λ p. Carries (deeds_done o past) p.body) (sent_packets o past) p (ever o past) h)

-- two deeds that give one number are one, where the numbers are fresh
has_later : (xs ys : List ℕ) (k : ℕ) → has ys k ≡ true → has (xs ++ ys) k ≡ true
has_later [] ys k h = h
has_later (x ∷ xs) ys k h = or_true (x == k) (has (xs ++ ys) k) (has_later xs ys k h)
  where
    or_true : (a b : Bool) → b ≡ true → (a || b) ≡ true
    or_true true b h = refl
    or_true false b h = h

has_here : (xs ys : List ℕ) (k : ℕ) → xs ≡ k ∷ [] → has (xs ++ ys) k ≡ true
has_here xs ys k e =
    let own : (k == k) ≡ true = grind (arith, nat_tests) in
    subst (λ l. has (l ++ ys) k ≡ true) (sym e) (rw own refl)

distinct_rest : (xs ys : List ℕ) → is_distinct (xs ++ ys) ≡ true → is_distinct ys ≡ true
distinct_rest [] ys h = h
distinct_rest (x ∷ xs) ys h = distinct_rest xs ys ((and_parts (not (has (xs ++ ys) x)) (is_distinct (xs ++ ys)) h).1)

gives_number : (pick : Deed → List ℕ) (deeds : List Deed) (d : Deed) (k : ℕ) → Contains deeds d → pick d ≡ k ∷ [] → has (flat_map pick deeds) k ≡ true
gives_number pick [] d k h e = absurd (none_in d h)
gives_number pick (x ∷ deeds) d k h e = elim (first_or_behind x deeds d h) [
  | inl s ↦ has_here (pick x) (flat_map pick deeds) k (ap pick s ∙ e)
  | inr t ↦ has_later (pick x) (flat_map pick deeds) k (gives_number pick deeds d k t e)
]

once_only : (pick : Deed → List ℕ) (x d : Deed) (deeds : List Deed) (k : ℕ) → pick x ≡ k ∷ [] → is_distinct (pick x ++ flat_map pick deeds) ≡ true
    → Contains deeds d → pick d ≡ k ∷ [] → ⊥
once_only pick x d deeds k here u h e =
    let v : is_distinct (k ∷ flat_map pick deeds) ≡ true = subst (λ l. is_distinct (l ++ flat_map pick deeds) ≡ true) here u in
    let a = (and_parts (not (has (flat_map pick deeds) k)) (is_distinct (flat_map pick deeds)) v).0 in
    let b = gives_number pick deeds d k h e in
    clash (has (flat_map pick deeds) k) a b
  where
    clash : (b : Bool) → not b ≡ true → b ≡ true → ⊥
    clash true a b = cc
    clash false a b = cc

one_of_number : (pick : Deed → List ℕ) (deeds : List Deed) (d e : Deed) (k : ℕ) → is_distinct (flat_map pick deeds) ≡ true → Contains deeds d → Contains deeds e
    → pick d ≡ k ∷ [] → pick e ≡ k ∷ [] → d ≡ e
one_of_number pick [] d e k u h g a b = absurd (none_in d h)
one_of_number pick (x ∷ deeds) d e k u h g a b = elim (first_or_behind x deeds d h) [
  | inl s ↦ elim (first_or_behind x deeds e g) [
    | inl t ↦ sym s ∙ t
    | inr t ↦ absurd (once_only pick x e deeds k (ap pick s ∙ a) u t b)
  ]
  | inr s ↦ elim (first_or_behind x deeds e g) [
    | inl t ↦ absurd (once_only pick x d deeds k (ap pick t ∙ b) u s a)
    | inr t ↦ one_of_number pick deeds d e k (distinct_rest (pick x) (flat_map pick deeds) u) s t a b
  ]
]

pub one_text_of_a_run : OneTextOfARun
one_text_of_a_run o past p q run text other apart h e g f =
    let d = carried o past p (bodies.Jobs run text) h e in
    let c = carried o past q (bodies.Jobs run other) g f in
    let same : Begins run text ≡ Begins run other =
    one_of_number run_in (deeds_done o past) (Begins run text) (Begins run other) run (numbers_are_given_once o past apart).runs d c refl refl in
    cc

pub one_text_of_an_attempt : OneTextOfAnAttempt
one_text_of_an_attempt o past p q attempt run run_there text other apart h e g f =
    let d = carried o past p (bodies.Verify run attempt text) h e in
    let c = carried o past q (bodies.Verify run_there attempt other) g f in
    let same : Verifies run attempt text ≡ Verifies run_there attempt other =
    one_of_number attempt_in (deeds_done o past) (Verifies run attempt text) (Verifies run_there attempt other) attempt
    (numbers_are_given_once o past apart).attempts d c refl refl in
    (cc, cc)
