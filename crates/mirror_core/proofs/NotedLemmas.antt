-- A note stays within its ranges, and its keys stay apart.
use Rattle.std.proofs.Common.{◌≡◌, refl, ℕ, ◌<◌, ◌≤◌, arith, Bool, true, false, List, [], ◌∷◌, ◌++◌, length, Option, None, Some, length-append}
use Rattle.std.specs.Prelude.{nat_le, nat_lt, if◌then◌else◌, is_some}
use Rattle.std.specs.List.{AllByRecursion}
use Rattle.std.proofs.lemmas.Bool.{and_parts}
use Rattle.std.proofs.lemmas.Bool.Decides.{nat_tests}
use Rattle.fc_base.specs.declared.fault.Fault.{Fault}
use Rattle.fc_base.specs.declared.limits.TheConstants.{MAX_GENERATION}
use Rattle.verify_state.specs.declared.table.TheConstants.{KEPT_LIMIT}
use Rattle.verify_state.specs.State.{State, IsState}
use Rattle.disk_model.specs.SaveOutcome.{has_new}
use Rattle.messages.specs.declared.frame.Frame.TheVariants.{Whole, Piece}
use Rattle.messages.specs.Ranges.{is_generation}
use Rattle.messages.specs.Laws.{IsPacket}
use Rattle.verify_state.specs.StateTable.{kept_of, has_distinct_keys}
use Rattle.verify_state.specs.TableLaws.{KeysStayApart}
use Rattle.mirror_core.specs.declared.note.MirrorNote.{MirrorNote}
use Rattle.mirror_core.specs.declared.request.Request.{Request}
use Rattle.mirror_core.specs.declared.request.Request.TheVariants.{Copy, Fetch}
use Rattle.mirror_core.specs.Note.{IsNoted}
use Rattle.mirror_core.specs.History.{Entry, Met, Cut, Restart}
use Rattle.mirror_core.specs.Requests.{request_in, IsRequest}
use Rattle.mirror_core.specs.Refusals.{faults_of_request, refusal_by}
use Rattle.mirror_core.specs.Saves.{Grant, Keep, with_addition, unless_kept, unless_refused, addition_by, addition_of, noted_after}
use Rattle.mirror_core.specs.Words.{is_on, words_noted}
use Rattle.mirror_core.specs.Laws.{packet_in, packets_come, NotesKeepRanges}
use Rattle.fc_base.proofs.ListLemmas.{all_append}
use Rattle.verify_state.proofs.RefusalLemmas.{has_room}
use Rattle.mirror_core.proofs.RequestLemmas.{asked_range, taken_in}

-- ---- an addition fits

pub kept_fits : KeysStayApart → (n : MirrorNote) (s : State) → kept_of s.key n.kept ≡ None → length n.kept < KEPT_LIMIT → IsState s → IsNoted n
    → IsNoted (with_addition (Keep s) n)
kept_fits apart n s none room h k = record {
  generation = k.generation;
  count = omega (arith, length-append n.kept (s ∷ []), room);
  states = all_append IsState n.kept (s ∷ []) k.states (h, tt);
  keys = apart n.kept s none k.keys;
}

pub grant_fits : (n : MirrorNote) (g : ℕ) → is_generation g ≡ true → IsNoted n → IsNoted (with_addition (Grant g) n)
grant_fits n g h k = record {
  generation = below (and_parts (nat_le 1 g) (nat_le g MAX_GENERATION) h).1;
  count = k.count;
  states = k.states;
  keys = k.keys;
}
  where
    below : nat_le g MAX_GENERATION ≡ true → g ≤ MAX_GENERATION
    below e = grind (arith, nat_tests)

-- ---- what is added

pub kept_already : (x : Option State) (s : State) → is_some x ≡ true → unless_kept x s ≡ None
kept_already (Some k) s h = refl
kept_already None s h = cc

pub kept_newly : (x : Option State) (s : State) → is_some x ≡ false → (x ≡ None) × (unless_kept x s ≡ Some (Keep s))
kept_newly None s h = (refl, refl)
kept_newly (Some k) s h = cc

pub granted_already : (n : MirrorNote) (g : ℕ) → g ≤ n.generation → addition_by n (Fetch g) ≡ None
granted_already n g h = let e : nat_lt n.generation g ≡ false = grind (arith, nat_tests) in rw e refl

pub granted_newly : (n : MirrorNote) (g : ℕ) → n.generation < g → addition_by n (Fetch g) ≡ Some (Grant g)
granted_newly n g h = let e : nat_lt n.generation g ≡ true = grind (arith, nat_tests) in rw e refl

-- ---- a note keeps its ranges

copy_step : KeysStayApart → (new : Bool) (n : MirrorNote) (s : State) (x : Option State) → kept_of s.key n.kept ≡ x → faults_of_request n (Copy s) ≡ [] → IsState s
    → IsNoted n → IsNoted (noted_after new (unless_kept x s) n)
copy_step apart new n s (Some k) e free h i = i
copy_step apart true n s None e free h i = kept_fits apart n s e (has_room n.kept s e free) h i
copy_step apart false n s None e free h i = i

fetch_step : (new b : Bool) (n : MirrorNote) (g : ℕ) → is_generation g ≡ true → IsNoted n → IsNoted (noted_after new (if b then Some (Grant g) else None) n)
fetch_step true true n g h i = grant_fits n g h i
fetch_step false true n g h i = i
fetch_step new false n g h i = i

request_step : KeysStayApart → (new : Bool) (n : MirrorNote) (r : Request) → faults_of_request n r ≡ [] → IsRequest r → IsNoted n
    → IsNoted (noted_after new (addition_by n r) n)
request_step apart new n (Copy s) free h i = copy_step apart new n s (kept_of s.key n.kept) refl free h i
request_step apart new n (Fetch g) free h i = fetch_step new (nat_lt n.generation g) n g h i

step : KeysStayApart → (new : Bool) (n : MirrorNote) (r : Option Fault) (q : Option Request)
    → (r ≡ None → (a : Request) → q ≡ Some a → (faults_of_request n a ≡ []) × IsRequest a) → IsNoted n
    → IsNoted (noted_after new (unless_refused r (addition_of n q)) n)
step apart new n (Some f) q h i = i
step apart new n None None h i = i
step apart new n None (Some a) h i = let k = h refl a refl in request_step apart new n a k.0 k.1 i

pub in_entry : (e : Entry) (past : List Entry) → AllByRecursion IsPacket (packet_in e ++ packets_come past)
    → AllByRecursion IsPacket (packet_in e) × AllByRecursion IsPacket (packets_come past)
in_entry (Met (Whole p) left) past h = ((h.0, tt), h.1)
in_entry (Met (Piece q) left) past h = (tt, h)
in_entry Cut past h = (tt, h)
in_entry Restart past h = (tt, h)

pub notes_keep_ranges : KeysStayApart → NotesKeepRanges
notes_keep_ranges apart o [] k h = k
notes_keep_ranges apart o (Met f left ∷ past) k h =
    let p = in_entry (Met f left) past h in
    step apart (has_new left) (words_noted o past) (refusal_by (is_on past) (words_noted o past) f) (request_in f)
    (λ free a asked. ((taken_in (is_on past) (words_noted o past) (request_in f) a free asked).1, asked_range f left a p.0 asked))
    (notes_keep_ranges apart o past k p.1)
notes_keep_ranges apart o (Cut ∷ past) k h = notes_keep_ranges apart o past k h
notes_keep_ranges apart o (Restart ∷ past) k h = notes_keep_ranges apart o past k h

-- ---- keys stay apart, whatever comes

copy_apart : KeysStayApart → (new : Bool) (n : MirrorNote) (s : State) (x : Option State) → kept_of s.key n.kept ≡ x → has_distinct_keys n.kept ≡ true
    → has_distinct_keys (noted_after new (unless_kept x s) n).kept ≡ true
copy_apart apart new n s (Some k) e h = h
copy_apart apart true n s None e h = apart n.kept s e h
copy_apart apart false n s None e h = h

fetch_apart : (new b : Bool) (n : MirrorNote) (g : ℕ) → has_distinct_keys n.kept ≡ true
    → has_distinct_keys (noted_after new (if b then Some (Grant g) else None) n).kept ≡ true
fetch_apart true true n g h = h
fetch_apart false true n g h = h
fetch_apart new false n g h = h

apart_step : KeysStayApart → (new : Bool) (n : MirrorNote) (r : Option Fault) (q : Option Request) → has_distinct_keys n.kept ≡ true
    → has_distinct_keys (noted_after new (unless_refused r (addition_of n q)) n).kept ≡ true
apart_step apart new n (Some f) q h = h
apart_step apart new n None None h = h
apart_step apart new n None (Some (Copy s)) h = copy_apart apart new n s (kept_of s.key n.kept) refl h
apart_step apart new n None (Some (Fetch g)) h = fetch_apart new (nat_lt n.generation g) n g h

pub keys_apart : KeysStayApart → (o : MirrorNote) (past : List Entry) → has_distinct_keys o.kept ≡ true → has_distinct_keys (words_noted o past).kept ≡ true
keys_apart apart o [] h = h
keys_apart apart o (Met f left ∷ past) h =
    apart_step apart (has_new left) (words_noted o past) (refusal_by (is_on past) (words_noted o past) f) (request_in f) (keys_apart apart o past h)
keys_apart apart o (Cut ∷ past) h = keys_apart apart o past h
keys_apart apart o (Restart ∷ past) h = keys_apart apart o past h
