-- What the bytes of a note say.
use Rattle.std.proofs.Common.{◌≡◌, refl, sym, ◌∙◌, ap, subst, ◌⊎◌, inl, inr, ℕ, ◌-◌, ◌<◌, ◌≤◌, arith, true}
use Rattle.std.proofs.Common.{false, ◌==◌, List, [], ◌∷◌, ◌++◌, length, None, Some, take, drop, get_or}
use Rattle.std.specs.Prelude.{◌^◌, Bool, Option, Result, Ok, Err, IfOk, OnErr, if◌then◌else◌, nat_le, map, bytes_eq, codes}
use Rattle.std.specs.List.{flat_map}
use Rattle.std.specs.Int.{w32, w64}
use Rattle.std.proofs.lemmas.List.{drop-drop, take-append-drop, length-drop}
use Rattle.std.proofs.lemmas.Nat.{from_be_bytes-to_be_bytes_8}
use Rattle.std.proofs.lemmas.Slice.Eq.{bytes_eq-Decides}
use Rattle.fc_base.specs.Layouts.{bytes_of, number_in}
use Rattle.verify_state.specs.State.{State}
use Rattle.verify_state.specs.TableBytes.{counted_bytes, counted_states, SayStates}
use Rattle.verify_state.specs.StateTable.{has_distinct_keys}
use Rattle.verify_state.specs.TableLaws.{SpelledAreRead, ReadWereSpelled}
use Rattle.verify_state.specs.TableReading.{states_at, ReadsStates}
use Rattle.verify_state.proofs.CountedLemmas.{AreCounted, spelled_counted, same_states, too_many_states, no_states_read, counted_spelled, written, put_counted}
use Rattle.verify_state.specs.Reading.{field}
use Rattle.verify_state.proofs.FieldLemmas.{IsBytes, bytes_drop, piece64}
use Rattle.client_core.specs.declared.note.ClientNote.{ClientNote}
use Rattle.client_core.specs.Note.{blank, numbers_of, note_of, old_note_of, spelling, IsNoted, IsNote, Numbers, Spells}
use Rattle.client_core.specs.Note.{Says, ReadsNumbers, Reads, TellsStates, HasStates, SaysOneThing, SaysWhatIsWritten}
use Rattle.std.proofs.lemmas.Bool.Decides.{nat_tests}
use Rattle.fc_base.specs.declared.limits.TheConstants.{MAX_GENERATION}
use Rattle.verify_state.specs.declared.table.TheConstants.{KEPT_LIMIT}
use Rattle.verify_state.specs.Spelling.{spelling as state_bytes}
use Rattle.verify_state.specs.Laws.{ReadsBack}

-- ---- what stands behind the generation

-- what stands behind the runs, and behind the attempts
abbrev pub after_runs : List ℕ → List ℕ
after_runs bytes = drop 8 bytes

abbrev pub after_attempts : List ℕ → List ℕ
after_attempts bytes = drop 8 (after_runs bytes)

-- what the numbers and states of a note have to be
pub record AreRead (bytes : List ℕ) (n : ClientNote) : Type 0 where
  pub long : 20 ≤ length bytes
  pub runs : number_in w64 bytes ≡ n.runs
  pub attempts : number_in w64 (after_runs bytes) ≡ n.attempts
  pub kept : AreCounted (after_attempts bytes) n.kept

spelled_read : SpelledAreRead → (n : ClientNote) (parts : List (List ℕ)) → IsNoted n → SayStates parts n.kept → AreRead (numbers_of n.runs n.attempts parts) n
unfolding numbers_of bytes_of number_in
spelled_read reads n parts k h = record {
  long = omega arith;
  runs = from_be_bytes-to_be_bytes_8 n.runs k.runs;
  attempts = from_be_bytes-to_be_bytes_8 n.attempts k.attempts;
  kept = spelled_counted reads parts n.kept h k.count;
}

numbers_read : SpelledAreRead → (bytes : List ℕ) (n : ClientNote) → IsNoted n → Numbers bytes n → AreRead bytes n
numbers_read reads bytes n k a = subst (λ l. AreRead l n) (sym a.spelled) (spelled_read reads n a.parts k a.states)

same_noted : (bytes : List ℕ) (n m : ClientNote) → n.generation ≡ m.generation → AreRead bytes n → AreRead bytes m → n ≡ m
same_noted bytes n m g a b =
    let r : n.runs ≡ m.runs = sym a.runs ∙ b.runs in
    let t : n.attempts ≡ m.attempts = sym a.attempts ∙ b.attempts in
    let k : n.kept ≡ m.kept = same_states (after_attempts bytes) n.kept m.kept a.kept b.kept in
    λ i. record { generation = g i; runs = r i; attempts = t i; kept = k i }

-- ---- the magic and the generation

-- the bytes are a note of this layout, which says its generation
pub record IsNew (bytes : List ℕ) (n : ClientNote) : Type 0 where
  pub mark : take 4 bytes ≡ codes "FCC2"
  pub long : 8 ≤ length (drop 4 bytes)
  pub generation : number_in w64 (drop 4 bytes) ≡ n.generation
  pub numbers : Numbers (drop 8 (drop 4 bytes)) n

-- the bytes are an old note, which is of none
pub record IsOld (bytes : List ℕ) (n : ClientNote) : Type 0 where
  pub mark : take 4 bytes ≡ codes "FCC1"
  pub generation : n.generation ≡ 0
  pub numbers : Numbers (drop 4 bytes) n

new_parts : (n : ClientNote) (parts : List (List ℕ)) → IsNoted n → SayStates parts n.kept → IsNew (note_of n.generation n.runs n.attempts parts) n
unfolding note_of bytes_of number_in
new_parts n parts k h =
    let low : n.generation ≤ MAX_GENERATION = k.generation in
    let small : n.generation < 2 ^ 64 = omega arith in
    record {
      mark = refl;
      long = omega arith;
      generation = from_be_bytes-to_be_bytes_8 n.generation small;
      numbers = record { parts = parts; spelled = refl; states = h };
    }

old_parts : (n : ClientNote) (parts : List (List ℕ)) → n.generation ≡ 0 → SayStates parts n.kept → IsOld (old_note_of n.runs n.attempts parts) n
unfolding old_note_of
old_parts n parts g h = record { mark = refl; generation = g; numbers = record { parts = parts; spelled = refl; states = h } }

-- bytes that aren't empty, and say a note
pub says_parts : (bytes : List ℕ) (n : ClientNote) → Says bytes n → (bytes ≡ [] → ⊥) → IsNew bytes n ⊎ IsOld bytes n
says_parts bytes n s some = by s.spelled
  where
    by_note : (a : Spells bytes n) → IsNote bytes n a.parts → IsNew bytes n ⊎ IsOld bytes n
    by_note a (inl e) = inl (subst (λ l. IsNew l n) (sym e) (new_parts n a.parts s.note a.states))
    by_note a (inr e) = inr (subst (λ l. IsOld l n) (sym e.1) (old_parts n a.parts e.0 a.states))

    by : Spells bytes n ⊎ ((bytes ≡ []) × (n ≡ blank)) → IsNew bytes n ⊎ IsOld bytes n
    by (inl a) = by_note a a.spelled
    by (inr a) = absurd (some a.0)

-- no note but the blank one is empty
not_empty : (n : ClientNote) (parts : List (List ℕ)) → IsNote [] n parts → ⊥
unfolding note_of old_note_of bytes_of
not_empty n parts (inl e) = cc
not_empty n parts (inr e) = let x = e.1 in cc

blank_by : (bytes : List ℕ) (n : ClientNote) → bytes ≡ [] → Spells bytes n ⊎ ((bytes ≡ []) × (n ≡ blank)) → n ≡ blank
blank_by bytes n e (inl a) = absurd (not_empty n a.parts (subst (λ l. IsNote l n a.parts) e a.spelled))
blank_by bytes n e (inr a) = a.1

pub says_blank : (n : ClientNote) → Says [] n → n ≡ blank
says_blank n s = blank_by [] n refl s.spelled

two_marks : (bytes : List ℕ) → take 4 bytes ≡ codes "FCC2" → take 4 bytes ≡ codes "FCC1" → ⊥
two_marks bytes a b = let e : 50 ≡ 49 = ap (λ l. get_or l 3 0) (sym a ∙ b) in let f : true ≡ false = ap (λ n. 50 == n) e in cc

same_by : SpelledAreRead → (bytes : List ℕ) (n m : ClientNote) → IsNoted n → IsNoted m → IsNew bytes n ⊎ IsOld bytes n → IsNew bytes m ⊎ IsOld bytes m → n ≡ m
same_by reads bytes n m k l (inl a) (inl b) =
    same_noted _ n m (sym a.generation ∙ b.generation) (numbers_read reads _ n k a.numbers) (numbers_read reads _ m l b.numbers)
same_by reads bytes n m k l (inr a) (inr b) =
    same_noted _ n m (a.generation ∙ sym b.generation) (numbers_read reads _ n k a.numbers) (numbers_read reads _ m l b.numbers)
same_by reads bytes n m k l (inl a) (inr b) = absurd (two_marks bytes a.mark b.mark)
same_by reads bytes n m k l (inr a) (inl b) = absurd (two_marks bytes b.mark a.mark)

pub one_note : SpelledAreRead → SaysOneThing
one_note reads [] n m s t = says_blank n s ∙ sym (says_blank m t)
one_note reads (b ∷ bytes) n m s t = same_by reads (b ∷ bytes) n m s.note t.note (says_parts (b ∷ bytes) n s (λ e. cc)) (says_parts (b ∷ bytes) m t (λ e. cc))

pub says_what_is_written : ReadsBack → SaysWhatIsWritten
says_what_is_written back n k = record {
  note = k;
  spelled = inl (record { parts = map state_bytes n.kept; spelled = inl refl; states = written back n.kept k.states });
}

-- ---- what is read

-- what is read behind the generation
pub numbers_say : SpelledAreRead → ReadWereSpelled → (bytes : List ℕ) (generation runs attempts count : ℕ) (kept : List State) → IsBytes bytes
    → 20 ≤ length bytes
    → generation ≤ MAX_GENERATION → runs ≡ number_in w64 bytes → attempts ≡ number_in w64 (after_runs bytes) → count ≡ number_in w32 (after_attempts bytes)
    → runs < 2 ^ 64 → attempts < 2 ^ 64 → count ≤ KEPT_LIMIT → states_at count (drop 4 (after_attempts bytes)) ≡ Some kept → has_distinct_keys kept ≡ true
    → IsNoted (record { generation = generation; runs = runs; attempts = attempts; kept = kept })
    × Numbers bytes (record { generation = generation; runs = runs; attempts = attempts; kept = kept })
unfolding numbers_of bytes_of number_in field
numbers_say reads spelled bytes generation runs attempts count kept h long low r a c low_runs low_attempts few states keys =
    let less : length (after_runs bytes) ≡ length bytes - 8 = length-drop 8 bytes in
    let least : length (after_attempts bytes) ≡ length (after_runs bytes) - 8 = length-drop 8 (after_runs bytes) in
    let two = bytes_drop 8 bytes h in
    let s = counted_spelled reads spelled (after_attempts bytes) count kept (bytes_drop 8 (after_runs bytes) two) (omega arith) c states in
    let middle : bytes_of w64 attempts ++ after_attempts bytes ≡ after_runs bytes =
    ap (λ m. bytes_of w64 m ++ after_attempts bytes) a ∙ piece64 0 (after_runs bytes) two (omega arith) in
    let front : bytes_of w64 runs ++ after_runs bytes ≡ bytes = ap (λ m. bytes_of w64 m ++ after_runs bytes) r ∙ piece64 0 bytes h (omega arith) in
    let whole : bytes ≡ bytes_of w64 runs ++ (bytes_of w64 attempts ++ counted_states s.0.parts) =
    sym front ∙ ap (λ l. bytes_of w64 runs ++ l) (sym middle ∙ ap (λ l. bytes_of w64 attempts ++ l) (sym s.1)) in (
      record {
        generation = low;
        runs = low_runs;
        attempts = low_attempts;
        count = subst (λ m. m ≤ KEPT_LIMIT) (sym s.2) few;
        states = s.0.ranges;
        keys = keys;
      },
      record { parts = s.0.parts; spelled = whole; states = s.0.says },
    )

-- an old note
pub old_says : (bytes : List ℕ) (n : ClientNote) → take 4 bytes ≡ codes "FCC1" → n.generation ≡ 0 → IsNoted n → Numbers (drop 4 bytes) n → Says bytes n
unfolding old_note_of
old_says bytes n mark g k numbers =
    let whole : bytes ≡ codes "FCC1" ++ numbers_of n.runs n.attempts numbers.parts =
    sym (take-append-drop 4 bytes) ∙ (ap (λ l. l ++ drop 4 bytes) mark ∙ ap (λ l. codes "FCC1" ++ l) numbers.spelled) in
    record { note = k; spelled = inl (record { parts = numbers.parts; spelled = inr (g, whole); states = numbers.states }) }

-- a note of this layout
pub new_says : (bytes : List ℕ) (generation : ℕ) (n : ClientNote) → IsBytes bytes → take 4 bytes ≡ codes "FCC2" → 8 ≤ length (drop 4 bytes)
    → generation ≡ number_in w64 (drop 4 bytes) → n.generation ≡ generation → IsNoted n → Numbers (drop 8 (drop 4 bytes)) n → Says bytes n
unfolding note_of bytes_of number_in field
new_says bytes generation n h mark long g same k numbers =
    let front : bytes_of w64 n.generation ++ numbers_of n.runs n.attempts numbers.parts ≡ drop 4 bytes =
    ap (λ m. bytes_of w64 m ++ numbers_of n.runs n.attempts numbers.parts) (same ∙ g)
    ∙ (ap (λ l. bytes_of w64 (number_in w64 (drop 4 bytes)) ++ l) (sym numbers.spelled) ∙ piece64 0 (drop 4 bytes) (bytes_drop 4 bytes h) long) in
    let whole : bytes ≡ codes "FCC2" ++ (bytes_of w64 n.generation ++ numbers_of n.runs n.attempts numbers.parts) =
    sym (take-append-drop 4 bytes) ∙ (ap (λ l. l ++ drop 4 bytes) mark ∙ ap (λ l. codes "FCC2" ++ l) (sym front)) in
    record { note = k; spelled = inl (record { parts = numbers.parts; spelled = inl whole; states = numbers.states }) }

-- what is put together is the spelling
pub encoded : (n : ClientNote) (count : ℕ) (states : List State) (a b c d e f g : List ℕ) → count ≡ length n.kept → states ≡ n.kept → a ≡ [] → b ≡ a ++ codes "FCC2"
    → c ≡ b ++ bytes_of w64 n.generation → d ≡ c ++ bytes_of w64 n.runs → e ≡ d ++ bytes_of w64 n.attempts
    → f ≡ e ++ bytes_of w32 count → g ≡ f ++ flat_map (λ s. counted_bytes (state_bytes s)) states → g ≡ spelling n
unfolding note_of numbers_of bytes_of number_in
encoded n count states a b c d e f g many all a_is b_is c_is d_is e_is f_is g_is =
    put_counted n.kept states count e f g many all f_is g_is
    ∙ ap (λ l. l ++ counted_states (map state_bytes n.kept))
    (e_is ∙ ap (λ l. l ++ bytes_of w64 n.attempts) (d_is
    ∙ ap (λ l. l ++ bytes_of w64 n.runs) (c_is ∙ ap (λ l. l ++ bytes_of w64 n.generation) (b_is ∙ ap (λ l. l ++ codes "FCC2") a_is))))

-- ---- where nothing is said

pub some_bytes : (bytes : List ℕ) → false ≡ (length bytes == 0) → bytes ≡ [] → ⊥
some_bytes [] h e = cc
some_bytes (b ∷ bytes) h e = cc

is_marked : (bytes mark : List ℕ) → take 4 bytes ≡ mark → bytes_eq (take 4 bytes) mark ≡ false → ⊥
is_marked bytes mark e h =
    let m : bytes_eq (take 4 bytes) mark ≡ true = (bytes_eq-Decides (take 4 bytes) mark).1 e in
    let x : true ≡ false = sym m ∙ h in
    cc

pub is_equal : (bytes mark : List ℕ) → bytes_eq bytes mark ≡ true → bytes ≡ mark
is_equal bytes mark h = (bytes_eq-Decides bytes mark).0 h

-- what is no old note is one of this layout
pub is_new : (bytes : List ℕ) (n : ClientNote) → (bytes ≡ [] → ⊥) → bytes_eq (take 4 bytes) (codes "FCC1") ≡ false → Says bytes n → IsNew bytes n
is_new bytes n some h s = elim (says_parts bytes n s some) [
  | inl a ↦ a
  | inr a ↦ absurd (is_marked bytes (codes "FCC1") a.mark h)
]

pub is_old : (bytes : List ℕ) (n : ClientNote) → (bytes ≡ [] → ⊥) → take 4 bytes ≡ codes "FCC1" → Says bytes n → IsOld bytes n
is_old bytes n some mark s = elim (says_parts bytes n s some) [
  | inl a ↦ absurd (two_marks bytes a.mark mark)
  | inr a ↦ a
]

pub no_magic : (bytes : List ℕ) (n : ClientNote) → (bytes ≡ [] → ⊥) → bytes_eq (take 4 bytes) (codes "FCC1") ≡ false → bytes_eq (take 4 bytes) (codes "FCC2") ≡ false
    → Says bytes n → ⊥
no_magic bytes n some old new s = is_marked bytes (codes "FCC2") (is_new bytes n some old s).mark new

pub too_short : SpelledAreRead → (bytes : List ℕ) (n : ClientNote) → length bytes < 20 → IsNoted n → Numbers bytes n → ⊥
too_short reads bytes n h k a = let l : 20 ≤ length bytes = (numbers_read reads bytes n k a).long in absurd (omega arith)

pub too_many : SpelledAreRead → (bytes : List ℕ) (n : ClientNote) (count : ℕ) → count ≡ number_in w32 (after_attempts bytes) → KEPT_LIMIT < count → IsNoted n
    → Numbers bytes n → ⊥
too_many reads bytes n count c h k a = too_many_states (after_attempts bytes) n.kept count c h (numbers_read reads bytes n k a).kept k.count

pub no_states : SpelledAreRead → (bytes : List ℕ) (n : ClientNote) (count : ℕ) → count ≡ number_in w32 (after_attempts bytes)
    → ReadsStates count (drop 4 (after_attempts bytes)) None → IsNoted n → Numbers bytes n → ⊥
no_states reads bytes n count c h k a = no_states_read (after_attempts bytes) n.kept count c h (numbers_read reads bytes n k a).kept k.keys

-- ---- a reader of notes, by one of what stands behind the generation

pub if_ok : {A E : Type 0} (r : Result A E) (P Q : A → Type 0) → ((x : A) → P x → Q x) → IfOk r P → IfOk r Q
if_ok (Ok x) P Q f h = f x h
if_ok (Err e) P Q f h = tt

pub begins_states : {A E : Type 0} (r : Result A E) (bytes rest : List ℕ) → take 4 bytes ≡ codes "FCC2" → rest ≡ drop 8 (drop 4 bytes)
    → OnErr r (TellsStates rest) → OnErr r (HasStates bytes)
begins_states (Ok x) bytes rest mark is h = tt
begins_states (Err e) bytes rest mark is h = inl (mark, subst TellsStates (is ∙ drop-drop 8 4 bytes) h)

pub reads_old : (bytes rest : List ℕ) → (bytes ≡ [] → ⊥) → take 4 bytes ≡ codes "FCC1" → rest ≡ drop 4 bytes → (x : Option ClientNote) → ReadsNumbers 0 rest x
    → Reads bytes x
reads_old bytes rest some mark is (Some n) h = old_says bytes n mark h.0 h.1 (subst (λ l. Numbers l n) is h.2)
reads_old bytes rest some mark is None h = λ n s. h n s.note (subst (λ l. Numbers l n) (sym is) (is_old bytes n some mark s).numbers)

pub reads_new : (bytes rest : List ℕ) (generation : ℕ) → (bytes ≡ [] → ⊥) → IsBytes bytes → bytes_eq (take 4 bytes) (codes "FCC1") ≡ false
    → take 4 bytes ≡ codes "FCC2" → 8 ≤ length (drop 4 bytes) → generation ≡ number_in w64 (drop 4 bytes) → rest ≡ drop 8 (drop 4 bytes)
    → (x : Option ClientNote) → ReadsNumbers generation rest x → Reads bytes x
reads_new bytes rest generation some h other mark long g is (Some n) r = new_says bytes generation n h mark long g r.0 r.1 (subst (λ l. Numbers l n) is r.2)
reads_new bytes rest generation some h other mark long g is None r = λ n s. r n s.note (subst (λ l. Numbers l n) (sym is) (is_new bytes n some other s).numbers)

pub short_note : (bytes : List ℕ) (n : ClientNote) → (bytes ≡ [] → ⊥) → bytes_eq (take 4 bytes) (codes "FCC1") ≡ false → length (drop 4 bytes) < 8 → Says bytes n → ⊥
short_note bytes n some other short s = let l : 8 ≤ length (drop 4 bytes) = (is_new bytes n some other s).long in absurd (omega arith)

pub past_generation : (bytes : List ℕ) (n : ClientNote) (generation : ℕ) → (bytes ≡ [] → ⊥) → bytes_eq (take 4 bytes) (codes "FCC1") ≡ false
    → generation ≡ number_in w64 (drop 4 bytes) → MAX_GENERATION < generation → Says bytes n → ⊥
past_generation bytes n generation some other g past s =
    let e : generation ≡ n.generation = g ∙ (is_new bytes n some other s).generation in
    let low : n.generation ≤ MAX_GENERATION = s.note.generation in
    absurd (omega arith)

pub within_generation : (number generation : ℕ) → Some generation ≡ (if nat_le number MAX_GENERATION then Some number else None) → generation ≡ number
within_generation number generation e = by_test (nat_le number MAX_GENERATION) e
  where
    by_test : (b : Bool) → Some generation ≡ (if b then Some number else None) → generation ≡ number
    by_test true e = cc
    by_test false e = cc

pub above_generation : (number : ℕ) → None ≡ (if nat_le number MAX_GENERATION then Some number else None) → MAX_GENERATION < number
above_generation number e = by_test (nat_le number MAX_GENERATION) refl e
  where
    by_test : (b : Bool) → nat_le number MAX_GENERATION ≡ b → None ≡ (if b then Some number else None) → MAX_GENERATION < number
    by_test true is e = cc
    by_test false is e = grind (arith, nat_tests)
