-- States behind how many they are: what is spelled is read, and what is read was spelled.
use Rattle.std.proofs.Common.{◌≡◌, sym, ◌∙◌, ap, subst, ℕ, ◌<◌, ◌≤◌, arith, true, List, [], ◌∷◌, ◌++◌, length, append_assoc, None, Some, drop}
use Rattle.std.specs.Prelude.{◌^◌, map}
use Rattle.std.specs.List.{AllByRecursion, flat_map}
use Rattle.std.specs.Int.{w32}
use Rattle.std.proofs.lemmas.List.{length-map}
use Rattle.std.proofs.lemmas.List.Folds.{flat_map-map}
use Rattle.std.proofs.lemmas.Nat.{from_be_bytes-to_be_bytes_4}
use Rattle.fc_base.specs.Layouts.{bytes_of, number_in}
use Rattle.verify_state.specs.State.{State, IsState}
use Rattle.verify_state.specs.Spelling.{spelling}
use Rattle.verify_state.specs.Reading.{field}
use Rattle.verify_state.specs.Laws.{ReadsBack}
use Rattle.verify_state.proofs.FieldLemmas.{IsBytes, each_byte, bytes_drop, piece32}
use Rattle.verify_state.specs.declared.table.TheConstants.{KEPT_LIMIT}
use Rattle.verify_state.specs.TableBytes.{counted_bytes, counted_states, SayStates}
use Rattle.verify_state.specs.StateTable.{has_distinct_keys}
use Rattle.verify_state.specs.TableLaws.{SpelledAreRead, ReadWereSpelled, AreSpelled}
use Rattle.verify_state.specs.TableReading.{states_at, ReadsStates}

-- ---- what is read

-- the bytes begin with how many states there are, and the states stand behind it
pub record AreCounted (bytes : List ℕ) (states : List State) : Type 0 where
  pub count : number_in w32 bytes ≡ length states
  pub said : states_at (length states) (drop 4 bytes) ≡ Some states

pub spelled_counted : SpelledAreRead → (parts : List (List ℕ)) (states : List State) → SayStates parts states → length states ≤ KEPT_LIMIT
    → AreCounted (counted_states parts) states
unfolding bytes_of number_in
spelled_counted reads parts states h few =
    let r = reads parts states h in
    let l : length parts ≡ length states = r.0 in
    let small : length parts < 2 ^ 32 = omega arith in
    record {
      count = from_be_bytes-to_be_bytes_4 (length parts) small ∙ l;
      said = subst (λ n. states_at n (flat_map counted_bytes parts) ≡ Some states) l r.1;
    }

pub same_states : (bytes : List ℕ) (states others : List State) → AreCounted bytes states → AreCounted bytes others → states ≡ others
same_states bytes states others a b =
    let c : length states ≡ length others = sym a.count ∙ b.count in
    let s : Some states ≡ Some others = sym a.said ∙ (ap (λ n. states_at n (drop 4 bytes)) c ∙ b.said) in
    cc

pub too_many_states : (bytes : List ℕ) (states : List State) (count : ℕ) → count ≡ number_in w32 bytes → KEPT_LIMIT < count → AreCounted bytes states
    → length states ≤ KEPT_LIMIT → ⊥
too_many_states bytes states count c more a few = let e : count ≡ length states = c ∙ a.count in absurd (omega arith)

pub no_states_read : (bytes : List ℕ) (states : List State) (count : ℕ) → count ≡ number_in w32 bytes → ReadsStates count (drop 4 bytes) None
    → AreCounted bytes states → has_distinct_keys states ≡ true → ⊥
no_states_read bytes states count c h a keys = h states (subst (λ n. states_at n (drop 4 bytes) ≡ Some states) (sym a.count ∙ sym c) a.said) keys

-- ---- what was spelled

pub counted_spelled : SpelledAreRead → ReadWereSpelled → (bytes : List ℕ) (count : ℕ) (states : List State) → IsBytes bytes → 4 ≤ length bytes
    → count ≡ number_in w32 bytes → states_at count (drop 4 bytes) ≡ Some states
    → (s : AreSpelled count (drop 4 bytes) states) × (counted_states s.parts ≡ bytes) × (length states ≡ count)
unfolding field
counted_spelled reads spelled bytes count states h long c said =
    let s = spelled count (drop 4 bytes) states (each_byte (drop 4 bytes) (bytes_drop 4 bytes h)) said in (
      s,
      ap (λ l. bytes_of w32 (length s.parts) ++ l) (sym s.spelled) ∙ (ap (λ n. bytes_of w32 n ++ drop 4 bytes) (s.count ∙ c) ∙ piece32 0 bytes h long),
      sym (reads s.parts states s.says).0 ∙ s.count,
    )

-- ---- what is written

pub written : ReadsBack → (states : List State) → AllByRecursion IsState states → SayStates (map spelling states) states
written back [] h = tt
written back (s ∷ states) h =
    let r = back s h.0 in
    let l : length (spelling s) ≡ 136 = r.long in
    (record { short = omega arith; sound = r.sound; said = r.said }, written back states h.1)

pub put_counted : (kept states : List State) (count : ℕ) (front bytes whole : List ℕ) → count ≡ length kept → states ≡ kept
    → bytes ≡ front ++ bytes_of w32 count → whole ≡ bytes ++ flat_map (λ s. counted_bytes (spelling s)) states
    → whole ≡ front ++ counted_states (map spelling kept)
put_counted kept states count front bytes whole many all bytes_are whole_is =
    let number : count ≡ length (map spelling kept) = many ∙ sym (length-map kept spelling) in
    let tail : flat_map (λ s. counted_bytes (spelling s)) states ≡ flat_map counted_bytes (map spelling kept) =
    ap (λ l. flat_map (λ s. counted_bytes (spelling s)) l) all ∙ sym (flat_map-map counted_bytes spelling kept) in
    whole_is ∙ (ap (λ l. l ++ flat_map (λ s. counted_bytes (spelling s)) states) bytes_are
    ∙ (append_assoc front (bytes_of w32 count) (flat_map (λ s. counted_bytes (spelling s)) states)
    ∙ (ap (λ l. front ++ (bytes_of w32 count ++ l)) tail ∙ ap (λ n. front ++ (bytes_of w32 n ++ flat_map counted_bytes (map spelling kept))) number)))
