-- What is sent goes to the client; a Copy has the kept state of its key; a CopyOk is for a kept state; a Granted is noted.
use Rattle.std.proofs.Common.{◌≡◌, refl, sym, ◌∙◌, ap, subst, ◌⊎◌, inl, inr, ℕ, arith, Bool, true, false, List, [], ◌∷◌, Option, None, Some}
use Rattle.std.specs.Prelude.{if◌then◌else◌, nat_lt, map, Contains, is_none}
use Rattle.std.specs.List.{AllByRecursion}
use Rattle.std.proofs.lemmas.Bool.{and_parts}
use Rattle.std.proofs.lemmas.Bool.Decides.{nat_tests}
use Rattle.fc_base.specs.declared.numbers.Key.{Key}
use Rattle.fc_base.specs.declared.fault.Fault.TheVariants.{Old}
use Rattle.fc_base.specs.Keys.{is_same_key}
use Rattle.verify_state.specs.State.{State}
use Rattle.disk_model.specs.declared.save_outcome.SaveOutcome.{SaveOutcome}
use Rattle.disk_model.specs.declared.save_outcome.SaveOutcome.TheVariants.{NoSave, Saved, LostNew, LostOld}
use Rattle.disk_model.specs.SaveOutcome.{has_new}
use Rattle.messages.specs.declared.packet.PacketParts.{PacketParts}
use Rattle.messages.specs.declared.body.Body.{Body}
use Rattle.messages.specs.declared.body.Body.TheVariants as bodies
use Rattle.messages.specs.declared.frame.Frame.{Frame}
use Rattle.verify_state.specs.StateTable.{kept_of, has_distinct_keys}
use Rattle.verify_state.specs.TableLaws.{FoundHasItsKey, LastIsFound, KeysStayApart}
use Rattle.mirror_core.specs.declared.note.MirrorNote.{MirrorNote}
use Rattle.mirror_core.specs.declared.request.Request.{Request}
use Rattle.mirror_core.specs.declared.request.Request.TheVariants.{Copy, Fetch}
use Rattle.mirror_core.specs.History.{Entry, Met, Cut, Restart}
use Rattle.mirror_core.specs.Requests.{request_in}
use Rattle.mirror_core.specs.Refusals.{faults_of_request}
use Rattle.mirror_core.specs.Saves.{Grant, unless_kept, unless_refused, addition_by, addition_of, noted_after, is_answer}
use Rattle.mirror_core.specs.Words.{is_on, words_noted, refusal, is_answered}
use Rattle.mirror_core.specs.Packets.{to_client, copy_of, replies, packets, packets_for}
use Rattle.mirror_core.specs.Laws.{GoesToClient, PacketsGoToTheClient, CopiesAreKept, CopiesAreNoted, CopyOksAreFor, GrantsAreNoted}
use Rattle.fc_base.proofs.ListLemmas.{all_map, all_where, none_in, behind_one, first_or_behind, where_so}
use Rattle.mirror_core.proofs.NotedLemmas.{keys_apart}
use Rattle.mirror_core.proofs.RequestLemmas.{answered_due, not_when, taken_in}

-- ---- to whom

asked_goes : (n : MirrorNote) (q : Option Request) → AllByRecursion GoesToClient (packets_for n q)
asked_goes n None = tt
asked_goes n (Some (Copy state)) = ((refl, refl, refl), tt)
asked_goes n (Some (Fetch g)) = ((refl, refl, refl), all_map GoesToClient copy_of n.kept (λ s. (refl, refl, refl)))

pub packets_go_to_the_client : PacketsGoToTheClient
packets_go_to_the_client o past (Met f left) =
    all_where GoesToClient (is_answered o past f left) (packets_for (words_noted o past) (request_in f)) (λ a. asked_goes (words_noted o past) (request_in f))
packets_go_to_the_client o past Cut = tt
packets_go_to_the_client o past Restart = tt

-- ---- why

-- A packet that is sent replies to what the frame asks for, which isn't refused and is saved where that is due.
record Replied (o : MirrorNote) (past : List Entry) (f : Frame) (left : SaveOutcome) (p : PacketParts) : Type 0 where
  request : Request
  free : faults_of_request (words_noted o past) request ≡ []
  answers : is_answer (addition_by (words_noted o past) request) left ≡ true
  sent : Contains (replies (words_noted o past) request) p
  noted_is : words_noted o (Met f left ∷ past) ≡ noted_after (has_new left) (addition_by (words_noted o past) request) (words_noted o past)

asked_for : (n : MirrorNote) (q : Option Request) (p : PacketParts) → Contains (packets_for n q) p → (r : Request) × (q ≡ Some r) × Contains (replies n r) p
asked_for n None p h = absurd (none_in p h)
asked_for n (Some r) p h = (r, refl, h)

replied : (o : MirrorNote) (past : List Entry) (f : Frame) (left : SaveOutcome) (p : PacketParts) → Contains (packets o past (Met f left)) p → Replied o past f left p
replied o past f left p h =
    let n = words_noted o past in
    let w = where_so (is_answered o past f left) (packets_for n (request_in f)) p h in
    let a = answered_due (refusal o past f) (addition_of n (request_in f)) left w.0 in
    let r = asked_for n (request_in f) p w.1 in
    record {
      request = r.0;
      free = (taken_in (is_on past) n (request_in f) r.0 a.0 r.1).1;
      answers = ap (λ q. is_answer (addition_of n q) left) (sym r.1) ∙ a.1;
      sent = r.2;
      noted_is = ap (λ x. noted_after (has_new left) (unless_refused x (addition_of n (request_in f))) n) a.0
          ∙ ap (λ q. noted_after (has_new left) (addition_of n q) n) r.1;
    }

mapped : (states : List State) (p : PacketParts) → Contains (map copy_of states) p → (s : State) × (p ≡ copy_of s) × Contains states s
mapped [] p h = absurd (none_in p h)
mapped (s ∷ states) p h = elim (first_or_behind (copy_of s) (map copy_of states) p h) [
  | inl e ↦ (s, sym e, (0, omega arith, refl))
  | inr b ↦ (let m = mapped states p b in (m.0, m.1, behind_one s states m.0 m.2))
]

-- The only reply to a Copy.
only_ok : (n : MirrorNote) (s : State) (p : PacketParts) → Contains (replies n (Copy s)) p → to_client (bodies.CopyOk s.key.run s.key.server s.key.job) ≡ p
only_ok n s p h = elim (first_or_behind (to_client (bodies.CopyOk s.key.run s.key.server s.key.job)) [] p h) [ inl e ↦ e | inr b ↦ absurd (none_in p b) ]

-- The replies to a Fetch.
grant_or_copy : (n : MirrorNote) (g : ℕ) (p : PacketParts) → Contains (replies n (Fetch g)) p
    → (to_client (bodies.Granted g) ≡ p) ⊎ ((s : State) × (p ≡ copy_of s) × Contains n.kept s)
grant_or_copy n g p h = elim (first_or_behind (to_client (bodies.Granted g)) (map copy_of n.kept) p h) [ inl e ↦ inl e | inr b ↦ inr (mapped n.kept p b) ]

body_of : (a b : Body) → to_client a ≡ to_client b → a ≡ b
body_of a b e = ap (λ (p : PacketParts). p.body) e

-- ---- a grant

granted_by : (n : MirrorNote) (r : Request) (g : ℕ) → Contains (replies n r) (to_client (bodies.Granted g)) → r ≡ Fetch g
granted_by n (Copy s) g h =
    let e = body_of (bodies.CopyOk s.key.run s.key.server s.key.job) (bodies.Granted g) (only_ok n s (to_client (bodies.Granted g)) h) in cc
granted_by n (Fetch x) g h = elim (grant_or_copy n x (to_client (bodies.Granted g)) h) [
  | inl a ↦ (let e = body_of (bodies.Granted x) (bodies.Granted g) a in let same : x ≡ g = cc in ap Fetch same)
  | inr b ↦ (let e = body_of (bodies.Granted g) (bodies.Copy b.0) b.1 in cc)
]

granted_noted : (n : MirrorNote) (g : ℕ) (left : SaveOutcome) (b : Bool) → nat_lt n.generation g ≡ b → nat_lt g n.generation ≡ false
    → is_answer (if b then Some (Grant g) else None) left ≡ true → (noted_after (has_new left) (if b then Some (Grant g) else None) n).generation ≡ g
granted_noted n g Saved true e f a = refl
granted_noted n g NoSave true e f a = cc
granted_noted n g LostNew true e f a = cc
granted_noted n g LostOld true e f a = cc
granted_noted n g left false e f a = grind (arith, nat_tests)

pub grants_are_noted : GrantsAreNoted
grants_are_noted o past (Met f left) g h =
    let r = replied o past f left (to_client (bodies.Granted g)) h in
    let n = words_noted o past in
    let is : r.request ≡ Fetch g = granted_by n r.request g r.sent in
    let free : faults_of_request n (Fetch g) ≡ [] = subst (λ x. faults_of_request n x ≡ []) is r.free in
    let answers : is_answer (addition_by n (Fetch g)) left ≡ true = subst (λ x. is_answer (addition_by n x) left ≡ true) is r.answers in
    ap (λ (m : MirrorNote). m.generation) r.noted_is ∙ (ap (λ x. (noted_after (has_new left) (addition_by n x) n).generation) is
    ∙ granted_noted n g left (nat_lt n.generation g) refl (not_when (nat_lt g n.generation) Old free) answers)
grants_are_noted o past Cut g h = absurd (none_in (to_client (bodies.Granted g)) h)
grants_are_noted o past Restart g h = absurd (none_in (to_client (bodies.Granted g)) h)

-- ---- that a state is kept

-- The state whose key a CopyOk has.
abbrev CopyOf : Request → ℕ → ℕ → ℕ → Type 0
CopyOf r run server job = (s : State) × (r ≡ Copy s) × (s.key ≡ record { run = run; server = server; job = job })

same_key : (key : Key) (run server job : ℕ) → bodies.CopyOk key.run key.server key.job ≡ bodies.CopyOk run server job
    → key ≡ record { run = run; server = server; job = job }
same_key key run server job e =
    let a : key.run ≡ run = cc in
    let b : key.server ≡ server = cc in
    let c : key.job ≡ job = cc in
    λ i. record { run = a i; server = b i; job = c i }

copied_by : (n : MirrorNote) (r : Request) (run server job : ℕ) → Contains (replies n r) (to_client (bodies.CopyOk run server job)) → CopyOf r run server job
copied_by n (Copy s) run server job h = (
  s,
  refl,
  same_key s.key run server job (body_of (bodies.CopyOk s.key.run s.key.server s.key.job) (bodies.CopyOk run server job)
      (only_ok n s (to_client (bodies.CopyOk run server job)) h)),
)
copied_by n (Fetch g) run server job h = elim (grant_or_copy n g (to_client (bodies.CopyOk run server job)) h) [
  | inl a ↦ (let e = body_of (bodies.Granted g) (bodies.CopyOk run server job) a in cc)
  | inr b ↦ (let e = body_of (bodies.CopyOk run server job) (bodies.Copy b.0) b.1 in cc)
]

-- After a copy that was answered its key has a state.
has_one : LastIsFound → (n : MirrorNote) (left : SaveOutcome) (x : Option State) (s : State) → kept_of s.key n.kept ≡ x → is_answer (unless_kept x s) left ≡ true
    → (k : State) × (kept_of s.key (noted_after (has_new left) (unless_kept x s) n).kept ≡ Some k)
has_one last n left (Some k) s h a = (k, h)
has_one last n NoSave None s h a = cc
has_one last n Saved None s h a = (s, last n.kept s h)
has_one last n LostNew None s h a = cc
has_one last n LostOld None s h a = cc

pub copy_oks_are_for : LastIsFound → CopyOksAreFor
copy_oks_are_for last o past (Met f left) run server job h =
    let r = replied o past f left (to_client (bodies.CopyOk run server job)) h in
    let n = words_noted o past in
    let c = copied_by n r.request run server job r.sent in
    let s : State = c.0 in
    let answers : is_answer (addition_by n (Copy s)) left ≡ true = subst (λ x. is_answer (addition_by n x) left ≡ true) c.1 r.answers in
    let k = has_one last n left (kept_of s.key n.kept) s refl answers in (
      k.0,
      subst (λ (key : Key). kept_of key (words_noted o (Met f left ∷ past)).kept
          ≡ Some k.0) c.2 (ap (λ (m : MirrorNote). kept_of s.key m.kept) (r.noted_is ∙ ap (λ x. noted_after (has_new left) (addition_by n x) n) c.1) ∙ k.1),
    )
copy_oks_are_for last o past Cut run server job h = absurd (none_in (to_client (bodies.CopyOk run server job)) h)
copy_oks_are_for last o past Restart run server job h = absurd (none_in (to_client (bodies.CopyOk run server job)) h)

-- ---- a copy of a kept state

copy_kept : (n : MirrorNote) (r : Request) (s : State) → Contains (replies n r) (copy_of s) → Contains n.kept s
copy_kept n (Copy k) s h = let e = body_of (bodies.CopyOk k.key.run k.key.server k.key.job) (bodies.Copy s) (only_ok n k (copy_of s) h) in cc
copy_kept n (Fetch g) s h = elim (grant_or_copy n g (copy_of s) h) [
  | inl a ↦ (let e = body_of (bodies.Granted g) (bodies.Copy s) a in cc)
  | inr b ↦ (let e = body_of (bodies.Copy s) (bodies.Copy b.0) b.1 in let same : b.0 ≡ s = cc in subst (Contains n.kept) same b.2)
]

pub copies_are_noted : CopiesAreNoted
copies_are_noted o past (Met f left) s h = let r = replied o past f left (copy_of s) h in copy_kept (words_noted o past) r.request s r.sent
copies_are_noted o past Cut s h = absurd (none_in (copy_of s) h)
copies_are_noted o past Restart s h = absurd (none_in (copy_of s) h)

own_key : LastIsFound → (s : State) → is_same_key s.key s.key ≡ true
own_key last s = by (is_same_key s.key s.key) (last [] s refl)
  where
    by : (b : Bool) → (if b then Some s else None) ≡ Some s → b ≡ true
    by true e = refl
    by false e = cc

found_first : LastIsFound → (k s : State) (kept : List State) → k ≡ s → kept_of s.key (k ∷ kept) ≡ Some s
found_first last k s kept e = subst (λ x. kept_of s.key (x ∷ kept) ≡ Some s) (sym e) (ap (λ b. if b then Some s else kept_of s.key kept) (own_key last s))

found_behind : FoundHasItsKey → (k s : State) (kept : List State) (b : Bool) → is_same_key s.key k.key ≡ b → is_none (kept_of k.key kept) ≡ true
    → kept_of s.key kept ≡ Some s → (if b then Some k else kept_of s.key kept) ≡ Some s
found_behind has k s kept false e none h = h
found_behind has k s kept true e none h =
    let same : k.key ≡ s.key = has s.key (k ∷ []) k (ap (λ b. if b then Some k else None) e) in
    let gone : is_none (kept_of s.key kept) ≡ true = subst (λ key. is_none (kept_of key kept) ≡ true) same none in
    absurd (clash (kept_of s.key kept) h gone)
  where
    clash : (x : Option State) → x ≡ Some s → is_none x ≡ true → ⊥
    clash None e g = cc
    clash (Some y) e g = cc

found_apart : FoundHasItsKey → LastIsFound → (kept : List State) (s : State) → Contains kept s → has_distinct_keys kept ≡ true → kept_of s.key kept ≡ Some s
found_apart has last [] s h d = absurd (none_in s h)
found_apart has last (k ∷ kept) s h d =
    let p = and_parts (is_none (kept_of k.key kept)) (has_distinct_keys kept) d in
    elim (first_or_behind k kept s h) [
      | inl e ↦ found_first last k s kept e
      | inr b ↦ found_behind has k s kept (is_same_key s.key k.key) refl p.0 (found_apart has last kept s b p.1)
    ]

pub copies_are_kept : FoundHasItsKey → LastIsFound → KeysStayApart → CopiesAreKept
copies_are_kept has last apart o past entry s i h =
    found_apart has last (words_noted o past).kept s (copies_are_noted o past entry s h) (keys_apart apart o past i.keys)
