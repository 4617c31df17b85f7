-- What the bytes of a note say.
use Rattle.std.proofs.Common.{◌≡◌, refl, sym, ◌∙◌, ap, subst, ◌⊎◌, inl, inr, ℕ, ◌-◌, ◌<◌, ◌≤◌, arith}
use Rattle.std.proofs.Common.{true, false, ◌==◌, List, [], ◌∷◌, ◌++◌, length, None, Some, take, drop}
use Rattle.std.specs.Prelude.{◌^◌, map, bytes_eq, codes}
use Rattle.std.specs.List.{flat_map}
use Rattle.std.specs.Int.{w32, w64}
use Rattle.std.proofs.lemmas.List.{take-append-drop, length-drop}
use Rattle.std.proofs.lemmas.Nat.{from_be_bytes-to_be_bytes_8}
use Rattle.std.proofs.lemmas.Slice.Eq.{bytes_eq-Decides}
use Rattle.fc_base.specs.Layouts.{bytes_of, number_in}
use Rattle.fc_base.specs.declared.limits.TheConstants.{MAX_GENERATION}
use Rattle.verify_state.specs.declared.table.TheConstants.{KEPT_LIMIT}
use Rattle.verify_state.specs.State.{State}
use Rattle.verify_state.specs.Spelling.{spelling as state_bytes}
use Rattle.verify_state.specs.Laws.{ReadsBack}
use Rattle.verify_state.specs.TableBytes.{counted_bytes, counted_states, SayStates}
use Rattle.verify_state.specs.StateTable.{has_distinct_keys}
use Rattle.verify_state.specs.TableLaws.{SpelledAreRead, ReadWereSpelled}
use Rattle.verify_state.specs.TableReading.{states_at, ReadsStates}
use Rattle.verify_state.proofs.CountedLemmas.{AreCounted, spelled_counted, same_states, too_many_states, no_states_read, counted_spelled, written, put_counted}
use Rattle.verify_state.specs.Reading.{field}
use Rattle.verify_state.proofs.FieldLemmas.{IsBytes, bytes_drop, piece64}
use Rattle.mirror_core.specs.declared.note.MirrorNote.{MirrorNote}
use Rattle.mirror_core.specs.Note.{blank, note_of, spelling, IsNoted, Spells, Says, SaysOneThing, SaysWhatIsWritten}

-- what stands behind the magic and the generation
abbrev pub after_magic : List ℕ → List ℕ
after_magic bytes = drop 4 bytes

abbrev pub after_generation : List ℕ → List ℕ
after_generation bytes = drop 8 (after_magic bytes)

-- what bytes that aren't empty have to be, so as to say a note
pub record IsRead (bytes : List ℕ) (n : MirrorNote) : Type 0 where
  pub mark : take 4 bytes ≡ codes "FCM1"
  pub long : 16 ≤ length bytes
  pub generation : number_in w64 (after_magic bytes) ≡ n.generation
  pub kept : AreCounted (after_generation bytes) n.kept

wide : (generation : ℕ) → generation ≤ MAX_GENERATION → generation < 2 ^ 64
wide generation l = let few : generation ≤ 4294967295 = l in omega arith

spelled_read : SpelledAreRead → (n : MirrorNote) (parts : List (List ℕ)) → IsNoted n → SayStates parts n.kept → IsRead (note_of n.generation parts) n
unfolding note_of bytes_of number_in
spelled_read reads n parts k h = record {
  mark = refl;
  long = omega arith;
  generation = from_be_bytes-to_be_bytes_8 n.generation (wide n.generation k.generation);
  kept = spelled_counted reads parts n.kept h k.count;
}

says_read : SpelledAreRead → (bytes : List ℕ) (n : MirrorNote) → Says bytes n → (bytes ≡ [] → ⊥) → IsRead bytes n
says_read reads bytes n s some = by s.spelled
  where
    by : Spells bytes n ⊎ ((bytes ≡ []) × (n ≡ blank)) → IsRead bytes n
    by (inl a) = subst (λ l. IsRead l n) (sym a.spelled) (spelled_read reads n a.parts s.note a.states)
    by (inr a) = absurd (some a.0)

-- no note but the blank one is empty
not_empty : (generation : ℕ) (parts : List (List ℕ)) → note_of generation parts ≡ [] → ⊥
unfolding note_of bytes_of number_in
not_empty generation parts e = cc

blank_by : (bytes : List ℕ) (n : MirrorNote) → bytes ≡ [] → Spells bytes n ⊎ ((bytes ≡ []) × (n ≡ blank)) → n ≡ blank
blank_by bytes n e (inl a) = absurd (not_empty n.generation a.parts (sym a.spelled ∙ e))
blank_by bytes n e (inr a) = a.1

says_blank : (n : MirrorNote) → Says [] n → n ≡ blank
says_blank n s = blank_by [] n refl s.spelled

same_noted : (bytes : List ℕ) (n m : MirrorNote) → IsRead bytes n → IsRead bytes m → n ≡ m
same_noted bytes n m a b =
    let g : n.generation ≡ m.generation = sym a.generation ∙ b.generation in
    let k : n.kept ≡ m.kept = same_states (after_generation bytes) n.kept m.kept a.kept b.kept in
    λ i. record { generation = g i; kept = k i }

pub one_note : SpelledAreRead → SaysOneThing
one_note reads [] n m s t = says_blank n s ∙ sym (says_blank m t)
one_note reads (b ∷ bytes) n m s t = same_noted (b ∷ bytes) n m (says_read reads (b ∷ bytes) n s (λ e. cc)) (says_read reads (b ∷ bytes) m t (λ e. cc))

pub says_what_is_written : ReadsBack → SaysWhatIsWritten
says_what_is_written back n k = record {
  note = k;
  spelled = inl (record { parts = map state_bytes n.kept; spelled = refl; states = written back n.kept k.states });
}

-- what is read says the note
pub read_says : SpelledAreRead → ReadWereSpelled → (bytes : List ℕ) (generation count : ℕ) (kept : List State) → IsBytes bytes → take 4 bytes ≡ codes "FCM1"
    → 16 ≤ length bytes
    → generation ≡ number_in w64 (after_magic bytes) → count ≡ number_in w32 (after_generation bytes)
    → generation ≤ MAX_GENERATION → count ≤ KEPT_LIMIT → states_at count (drop 4 (after_generation bytes)) ≡ Some kept → has_distinct_keys kept ≡ true
    → Says bytes (record { generation = generation; kept = kept })
unfolding note_of bytes_of number_in field
read_says reads spelled bytes generation count kept h mark long g c low few states keys =
    let left : length (after_magic bytes) ≡ length bytes - 4 = length-drop 4 bytes in
    let least : length (after_generation bytes) ≡ length (after_magic bytes) - 8 = length-drop 8 (after_magic bytes) in
    let one = bytes_drop 4 bytes h in
    let s = counted_spelled reads spelled (after_generation bytes) count kept (bytes_drop 8 (after_magic bytes) one) (omega arith) c states in
    let front : bytes_of w64 generation ++ after_generation bytes ≡ after_magic bytes =
    ap (λ m. bytes_of w64 m ++ after_generation bytes) g ∙ piece64 0 (after_magic bytes) one (omega arith) in
    let whole : bytes ≡ codes "FCM1" ++ (bytes_of w64 generation ++ counted_states s.0.parts) =
    sym (take-append-drop 4 bytes) ∙ (ap (λ l. l ++ after_magic bytes) mark
    ∙ ap (λ l. codes "FCM1" ++ l) (sym front ∙ ap (λ l. bytes_of w64 generation ++ l) (sym s.1))) in
    record {
      note = record { generation = low; count = subst (λ m. m ≤ KEPT_LIMIT) (sym s.2) few; states = s.0.ranges; keys = keys };
      spelled = inl (record { parts = s.0.parts; spelled = whole; states = s.0.says });
    }

-- what is put together is the spelling
pub encoded : (n : MirrorNote) (count : ℕ) (states : List State) (a b c e f : List ℕ) → count ≡ length n.kept → states ≡ n.kept → a ≡ [] → b ≡ a ++ codes "FCM1"
    → c ≡ b ++ bytes_of w64 n.generation
    → e ≡ c ++ bytes_of w32 count → f ≡ e ++ flat_map (λ s. counted_bytes (state_bytes s)) states → f ≡ spelling n
unfolding note_of bytes_of number_in
encoded n count states a b c e f many all a_is b_is c_is e_is f_is =
    put_counted n.kept states count c e f many all e_is f_is
    ∙ ap (λ l. l ++ counted_states (map state_bytes n.kept)) (c_is ∙ ap (λ l. l ++ bytes_of w64 n.generation) (b_is ∙ ap (λ l. l ++ codes "FCM1") a_is))

-- ---- where nothing is said

pub some_bytes : (bytes : List ℕ) → false ≡ (length bytes == 0) → bytes ≡ [] → ⊥
some_bytes [] h e = cc
some_bytes (b ∷ bytes) h e = cc

pub no_magic : SpelledAreRead → (bytes : List ℕ) (n : MirrorNote) → (bytes ≡ [] → ⊥) → bytes_eq (take 4 bytes) (codes "FCM1") ≡ false → Says bytes n → ⊥
no_magic reads bytes n some h s =
    let m : bytes_eq (take 4 bytes) (codes "FCM1") ≡ true = (bytes_eq-Decides (take 4 bytes) (codes "FCM1")).1 (says_read reads bytes n s some).mark in
    let e : true ≡ false = sym m ∙ h in
    cc

pub too_short : SpelledAreRead → (bytes : List ℕ) (n : MirrorNote) → (bytes ≡ [] → ⊥) → length bytes < 16 → Says bytes n → ⊥
too_short reads bytes n some h s = let l : 16 ≤ length bytes = (says_read reads bytes n s some).long in absurd (omega arith)

pub too_great : SpelledAreRead → (bytes : List ℕ) (n : MirrorNote) (generation : ℕ) → (bytes ≡ [] → ⊥) → generation ≡ number_in w64 (after_magic bytes)
    → MAX_GENERATION < generation → Says bytes n → ⊥
too_great reads bytes n generation some g h s =
    let e : generation ≡ n.generation = g ∙ (says_read reads bytes n s some).generation in
    let few : n.generation ≤ 4294967295 = s.note.generation in
    let more : 4294967295 < generation = h in
    absurd (omega arith)

pub too_many : SpelledAreRead → (bytes : List ℕ) (n : MirrorNote) (count : ℕ) → (bytes ≡ [] → ⊥) → count ≡ number_in w32 (after_generation bytes)
    → KEPT_LIMIT < count → Says bytes n → ⊥
too_many reads bytes n count some c h s = too_many_states (after_generation bytes) n.kept count c h (says_read reads bytes n s some).kept s.note.count

pub no_states : SpelledAreRead → (bytes : List ℕ) (n : MirrorNote) (count : ℕ) → (bytes ≡ [] → ⊥) → count ≡ number_in w32 (after_generation bytes)
    → ReadsStates count (drop 4 (after_generation bytes)) None → Says bytes n → ⊥
no_states reads bytes n count some c h s = no_states_read (after_generation bytes) n.kept count c h (says_read reads bytes n s some).kept s.note.keys
