-- A note stays within its ranges.
use Rattle.std.proofs.Common.{◌≡◌, refl, sym, ℕ, ◌+◌, ◌<◌, ◌≤◌, arith, Bool, true, false, List, [], ◌∷◌, ◌++◌, Option, None, Some, length-append}
use Rattle.std.specs.Prelude.{not, nat_le, nat_lt, ◌*◌, ◌^◌, ◌&&◌, if◌then◌else◌, slice_get}
use Rattle.std.specs.List.{AllByRecursion}
use Rattle.std.proofs.lemmas.Bool.{ltb-true, leb-true, and_parts}
use Rattle.fc_base.specs.declared.fault.Fault.{Fault}
use Rattle.fc_base.specs.declared.fault.Fault.TheVariants.{Down, JobTooLong, NumbersSpent, NoSuchRun}
use Rattle.fc_base.specs.Faults.{when}
use Rattle.verify_state.specs.State.{State, IsState}
use Rattle.messages.specs.declared.body.Body.{Body}
use Rattle.messages.specs.declared.body.Body.TheVariants as bodies
use Rattle.messages.specs.Ranges.{is_text, is_generation, KeepsState}
use Rattle.messages.specs.Laws.{IsPacket}
use Rattle.disk_model.specs.declared.save_outcome.SaveOutcome.{SaveOutcome}
use Rattle.disk_model.specs.SaveOutcome.{has_new}
use Rattle.client_core.specs.Inputs.{PacketInput, Begin, Trigger, Stop, Verify, Deliver, Tick}
use Rattle.fc_base.specs.declared.limits.TheConstants.{MAX_GENERATION}
use Rattle.verify_state.specs.StateTable.{kept_of}
use Rattle.verify_state.specs.TableLaws.{KeysStayApart}
use Rattle.client_core.specs.declared.note.ClientNote.{ClientNote}
use Rattle.client_core.specs.declared.peers.Peers.{Peers}
use Rattle.client_core.specs.Note.{IsNoted, blank, is_blank, new_note}
use Rattle.client_core.specs.History.{Entry, Met, Cut, Restart, Renew, Lose}
use Rattle.client_core.specs.Refusals.{is_begun, has_next, faults_of_state, faults_of_body, refusal_by}
use Rattle.client_core.specs.Saves.{NextRun, NextAttempt, unless_kept, addition_by, addition_of, unless_refused, noted_after}
use Rattle.client_core.specs.Words.{is_on, words_noted, peers, may_renew}
use Rattle.client_core.specs.Ranges.{packet_in, packets_come}
use Rattle.client_core.specs.Laws.{NotesKeepRanges}
use Rattle.verify_state.proofs.RefusalLemmas.{has_room}
use Rattle.client_core.proofs.HeardLemmas.{taken_in}
use Rattle.fc_base.proofs.ListLemmas.{all_append}

pub next_left : (peers : Peers) (g used : ℕ) → has_next peers g used ≡ true → used + 1 < 2 ^ 64
unfolding has_next
next_left peers g used h = ltb-true (used + 1) (2 ^ 64) ((and_parts (nat_lt (used + 1) (2 ^ 64)) _ h).0)

-- a note that begins anew, and a blank one, are within their ranges
pub of_renewed : (g : ℕ) → is_generation g ≡ true → IsNoted (new_note g)
of_renewed g h =
    let low : g ≤ MAX_GENERATION = leb-true g MAX_GENERATION ((and_parts (nat_le 1 g) (nat_le g MAX_GENERATION) h).1) in
    let small : g * 2 ^ 32 < 2 ^ 64 = omega arith in
    record { generation = low; runs = small; attempts = small; count = omega arith; states = tt; keys = refl }

of_blank : IsNoted blank
of_blank = record { generation = omega arith; runs = omega arith; attempts = omega arith; count = omega arith; states = tt; keys = refl }

kept_by_renewal : (b : Bool) (g : ℕ) (n : ClientNote) → (b ≡ true → is_generation g ≡ true) → IsNoted n → IsNoted (if b then new_note g else n)
kept_by_renewal true g n f k = of_renewed g (f refl)
kept_by_renewal false g n f k = k

pub begin_faults : (a b c : Bool) → slice_get (when (not a) Down ++ (when (not b) JobTooLong ++ when (not c) NumbersSpent)) 0 ≡ None → (b ≡ true) × (c ≡ true)
begin_faults true true true h = (refl, refl)
begin_faults true true false h = cc
begin_faults true false c h = cc
begin_faults false b c h = cc

pub verify_faults : (a b c d : Bool) → slice_get (when (not a) Down ++ (when (not b) NoSuchRun ++ (when (not c) JobTooLong ++ when (not d) NumbersSpent))) 0
    ≡ None → (b ≡ true) × (c ≡ true) × (d ≡ true)
verify_faults true true true true h = (refl, refl, refl)
verify_faults true true true false h = cc
verify_faults true true false d h = cc
verify_faults true false c d h = cc
verify_faults false b c d h = cc

pub one_run : (new : Bool) (n : ClientNote) → n.runs + 1 < 2 ^ 64 → IsNoted n → IsNoted (noted_after new (Some NextRun) n)
one_run true n h k = record { generation = k.generation; runs = h; attempts = k.attempts; count = k.count; states = k.states; keys = k.keys }
one_run false n h k = k

pub one_attempt : (new : Bool) (n : ClientNote) → n.attempts + 1 < 2 ^ 64 → IsNoted n → IsNoted (noted_after new (Some NextAttempt) n)
one_attempt true n h k = record { generation = k.generation; runs = k.runs; attempts = h; count = k.count; states = k.states; keys = k.keys }
one_attempt false n h k = k

one_state : KeysStayApart → (new : Bool) (n : ClientNote) (x : Option State) (s : State) → kept_of s.key n.kept ≡ x → faults_of_state n.kept s ≡ [] → IsState s
    → IsNoted n → IsNoted (noted_after new (unless_kept x s) n)
one_state apart new n (Some kept) s e free h k = k
one_state apart true n None s e free h k = record {
  generation = k.generation;
  runs = k.runs;
  attempts = k.attempts;
  count = omega (arith, length-append n.kept (s ∷ []), has_room n.kept s e free);
  states = all_append IsState n.kept (s ∷ []) k.states (h, tt);
  keys = apart n.kept s e k.keys;
}
one_state apart false n None s e free h k = k

pub body_step : KeysStayApart → (new : Bool) (n : ClientNote) (body : Body) → faults_of_body n body ≡ [] → KeepsState body → IsNoted n
    → IsNoted (noted_after new (addition_by n body) n)
body_step apart new n (bodies.State jobs s) e h k = one_state apart new n (kept_of s.key n.kept) s refl e h k
body_step apart new n (bodies.Copy s) e h k = one_state apart new n (kept_of s.key n.kept) s refl e h k
body_step apart new n _ e h k = k

step : KeysStayApart → (on : Bool) (peers : Peers) (n : ClientNote) (c : PacketInput) (left : SaveOutcome) (r : Option Fault) → r ≡ refusal_by on peers n c
    → AllByRecursion IsPacket (packet_in (Met c left)) → IsNoted n → IsNoted (noted_after (has_new left) (unless_refused r (addition_of n c)) n)
step apart on peers n c left (Some f) e h k = k
step apart on peers n (Begin text) left None e h k =
    one_run (has_new left) n (next_left peers n.generation n.runs ((begin_faults on (is_text text) (has_next peers n.generation n.runs) (sym e)).1)) k
step apart on peers n (Trigger run act) left None e h k = k
step apart on peers n (Stop run) left None e h k = k
step apart on peers n (Verify run text) left None e h k =
    one_attempt (has_new left) n (next_left peers n.generation n.attempts
    ((verify_faults on (is_begun n run) (is_text text) (has_next peers n.generation n.attempts) (sym e)).2)) k
step apart on peers n (Deliver p) left None e h k = body_step apart (has_new left) n p.body ((taken_in on peers n p (sym e)).2) h.0.state k
step apart on peers n Tick left None e h k = k

ranged : (new : Bool) (g : ℕ) (n : ClientNote) → (new && may_renew g n) ≡ true → is_generation g ≡ true
ranged new g n h = (and_parts (is_generation g) (is_blank n) ((and_parts new (may_renew g n) h).1)).0

pub in_entry : (e : Entry) (past : List Entry) → AllByRecursion IsPacket (packet_in e ++ packets_come past)
    → AllByRecursion IsPacket (packet_in e) × AllByRecursion IsPacket (packets_come past)
in_entry (Met (Deliver p) left) past h = ((h.0, tt), h.1)
in_entry _ past h = (tt, h)

pub notes_keep_ranges : KeysStayApart → NotesKeepRanges
notes_keep_ranges apart o [] k h = k
notes_keep_ranges apart o (Met c left ∷ past) k h =
    let p = in_entry (Met c left) past h in
    step apart (is_on past) (peers o past) (words_noted o past) c left (refusal_by (is_on past) (peers o past) (words_noted o past) c) refl p.0
    (notes_keep_ranges apart o past k p.1)
notes_keep_ranges apart o (Cut ∷ past) k h = notes_keep_ranges apart o past k h
notes_keep_ranges apart o (Restart mirror ∷ past) k h = notes_keep_ranges apart o past k h
notes_keep_ranges apart o (Renew g left ∷ past) k h = kept_by_renewal (has_new left && may_renew g (words_noted o past)) g (words_noted o past)
    (λ e. ranged (has_new left) g (words_noted o past) e) (notes_keep_ranges apart o past k h)
notes_keep_ranges apart o (Lose ∷ past) k h = of_blank
