-- States are read as their bytes say.
use Rattle.std.proofs.Common.{◌≡◌, refl, sym, ◌∙◌, ap, subst, ℕ, zero, suc, ◌+◌, ◌-◌, ◌<◌, ◌≤◌, arith, Bool, true}
use Rattle.std.proofs.Common.{false, List, [], ◌∷◌, ◌++◌, length, Option, None, Some, length-append, take, drop, get_or}
use Rattle.std.specs.Prelude.{if◌then◌else◌, is_none, is_some, nat_lt, ◌^◌, slice_get}
use Rattle.std.specs.List.{AllByRecursion, flat_map}
use Rattle.std.specs.Int.{w32, from_be_bytes}
use Rattle.std.proofs.lemmas.Bool.{and_parts}
use Rattle.std.proofs.lemmas.Bool.Decides.{nat_tests}
use Rattle.std.proofs.lemmas.List.{append_assoc, take-append-drop, length-take-le}
use Rattle.std.proofs.lemmas.List.Elements.{All-from_recursion, recursion_from_All, All-take, All-drop}
use Rattle.std.proofs.Math.Seq.{take-append_seam, drop-append_seam}
use Rattle.std.proofs.lemmas.Nat.{from_be_bytes-to_be_bytes_4, be_bytes_4}
use Rattle.fc_base.specs.declared.numbers.Key.{Key}
use Rattle.fc_base.specs.declared.fault.Fault.{Fault}
use Rattle.fc_base.specs.Keys.{is_same_key}
use Rattle.fc_base.specs.Layouts.{bytes_of, number_in}
use Rattle.verify_state.specs.State.{State, IsState}
use Rattle.verify_state.specs.StateTable.{kept_of, has_distinct_keys}
use Rattle.verify_state.specs.TableBytes.{counted_bytes, SaysState, SayStates}
use Rattle.verify_state.specs.TableLaws.{SpelledAreRead, AreSpelled, ReadWereSpelled}
use Rattle.verify_state.specs.TableReading.{unless_faulty, state_behind, first_state, states_at}
use Rattle.verify_state.specs.Reading.{faults_of, state_in}
use Rattle.std.specs.Option.{option_map, option_and_then}
use Rattle.verify_state.specs.Laws.{SaysAState}
use Rattle.verify_state.proofs.TableLemmas.{none_of, not_here, turned}

-- ---- what is spelled is read

short_of : (xs ys : List ℕ) → nat_lt (length (xs ++ ys)) (length xs) ≡ false
short_of xs ys =
    let e : length (xs ++ ys) ≡ length xs + length ys = length-append xs ys in
    let l : length xs ≤ length (xs ++ ys) = omega arith in
    grind (arith, nat_tests)

state_first : (b rest : List ℕ) (n : ℕ) (s : State) → n ≡ length b → faults_of b ≡ [] → state_in b ≡ s → state_behind n (b ++ rest) ≡ Some (s, rest)
state_first b rest n s e sound said =
    let t : take (length b) (b ++ rest) ≡ b = take-append_seam b rest in
    let d : drop (length b) (b ++ rest) ≡ rest = drop-append_seam b rest in
    let l : nat_lt (length (b ++ rest)) (length b) ≡ false = short_of b rest in
    subst (λ m. state_behind m (b ++ rest) ≡ Some (s, rest)) (sym e) (rw (l, t, d, sound, said) refl)

first_read : (b rest : List ℕ) (s : State) → SaysState b s → first_state (counted_bytes b ++ rest) ≡ Some (s, rest)
unfolding first_state bytes_of number_in
first_read b rest s h =
    let l : nat_lt (length (counted_bytes b ++ rest)) 4 ≡ false = short_of (bytes_of w32 (length b)) (b ++ rest) in
    rw l (state_first b rest (from_be_bytes w32 (bytes_of w32 (length b))) s (from_be_bytes-to_be_bytes_4 (length b) h.short) h.sound h.said)

states_read : (parts : List (List ℕ)) (states : List State) → SayStates parts states → states_at (length parts) (flat_map counted_bytes parts) ≡ Some states
states_read [] [] h = refl
states_read [] (s ∷ states) h = absurd h
states_read (b ∷ parts) [] h = absurd h
states_read (b ∷ parts) (s ∷ states) h =
    let f : first_state (flat_map counted_bytes (b ∷ parts)) ≡ Some (s, flat_map counted_bytes parts) = first_read b (flat_map counted_bytes parts) s h.0 in
    let r : states_at (length parts) (flat_map counted_bytes parts) ≡ Some states = states_read parts states h.1 in
    rw (f, r) refl

as_many : (parts : List (List ℕ)) (states : List State) → SayStates parts states → length parts ≡ length states
as_many [] [] h = refl
as_many [] (s ∷ states) h = absurd h
as_many (b ∷ parts) [] h = absurd h
as_many (b ∷ parts) (s ∷ states) h = let e : length parts ≡ length states = as_many parts states h.1 in omega arith

pub spelled_are_read : SpelledAreRead
spelled_are_read parts states h = (as_many parts states h, states_read parts states h)

-- ---- what is read was spelled

abbrev IsByte : ℕ → Type 0
IsByte byte = byte < 256

abbrev AreBytes : List ℕ → Type 0
AreBytes bytes = AllByRecursion IsByte bytes

dropped : (n : ℕ) (bytes : List ℕ) → AreBytes bytes → AreBytes (drop n bytes)
dropped n bytes h = recursion_from_All IsByte (drop n bytes) (All-drop IsByte n bytes (All-from_recursion IsByte bytes h))

taken : (n : ℕ) (bytes : List ℕ) → AreBytes bytes → AreBytes (take n bytes)
taken n bytes h = recursion_from_All IsByte (take n bytes) (All-take IsByte n bytes (All-from_recursion IsByte bytes h))

byte_at : (bytes : List ℕ) → AreBytes bytes → (i : ℕ) → get_or bytes i 0 < 256
byte_at [] h i = omega arith
byte_at (b ∷ bytes) h zero = h.0
byte_at (b ∷ bytes) h (suc i) = byte_at bytes h.1 i

below_word : (bytes : List ℕ) → ((i : ℕ) → get_or bytes i 0 < 256) → from_be_bytes w32 bytes < 2 ^ 32
below_word bytes h = omega (arith, h 0, h 1, h 2, h 3)

-- a state that is read: its bytes stand there, behind their number
record IsFirst (bytes : List ℕ) (s : State) (rest : List ℕ) : Type 0 where
  part : List ℕ
  spelled : bytes ≡ counted_bytes part ++ rest
  says : SaysState part s
  ranges : IsState s

faultless : (fs : List Fault) (s t : State) → unless_faulty fs s ≡ Some t → (fs ≡ []) × (s ≡ t)
faultless [] s t h = (refl, cc)
faultless (f ∷ fs) s t h = cc

abbrev beside : List ℕ → State → State × List ℕ
beside more state = (state, more)

pair_is : (x : Option State) (more rest : List ℕ) (s : State) → option_map (beside more) x ≡ Some (s, rest) → (x ≡ Some s) × (more ≡ rest)
pair_is None more rest s h = cc
pair_is (Some x) more rest s h =
    let e : beside more x ≡ (s, rest) = cc in
    (ap Some (ap (λ (p : State × List ℕ). p.0) e), ap (λ (p : State × List ℕ). p.1) e)

behind_is : SaysAState → (n : ℕ) (bytes rest : List ℕ) (s : State) (b : Bool) → nat_lt (length bytes) n ≡ b → n < 2 ^ 32 → AreBytes bytes
    → (if b then None else option_map (beside (drop n bytes)) (unless_faulty (faults_of (take n bytes)) (state_in (take n bytes)))) ≡ Some (s, rest)
    → (part : List ℕ) × (bytes ≡ part ++ rest) × (length part ≡ n) × SaysState part s × IsState s
behind_is ranges n bytes rest s true e low h g = cc
behind_is ranges n bytes rest s false e low h g =
    let p = pair_is (unless_faulty (faults_of (take n bytes)) (state_in (take n bytes))) (drop n bytes) rest s g in
    let q = faultless (faults_of (take n bytes)) (state_in (take n bytes)) s p.0 in
    let l : n ≤ length bytes = grind (arith, nat_tests) in
    let m : length (take n bytes) ≡ n = length-take-le n bytes l in
    let whole : bytes ≡ take n bytes ++ rest = sym (take-append-drop n bytes) ∙ ap (λ r. take n bytes ++ r) p.1 in
    let r : IsState (state_in (take n bytes)) = ranges (take n bytes) (taken n bytes h) q.0 in
    (take n bytes, whole, m, record { short = omega arith; sound = q.0; said = q.1 }, subst IsState q.1 r)

first_is : SaysAState → (bytes rest : List ℕ) (s : State) (b : Bool) → nat_lt (length bytes) 4 ≡ b → AreBytes bytes
    → (if b then None else state_behind (number_in w32 bytes) (drop 4 bytes)) ≡ Some (s, rest) → IsFirst bytes s rest
unfolding number_in bytes_of
first_is ranges bytes rest s true e h g = cc
first_is ranges bytes rest s false e h g =
    let n = number_in w32 bytes in
    let l : 4 ≤ length bytes = grind (arith, nat_tests) in
    let m : length (take 4 bytes) ≡ 4 = length-take-le 4 bytes l in
    let four = byte_at (take 4 bytes) (taken 4 bytes h) in
    let p = behind_is ranges n (drop 4 bytes) rest s (nat_lt (length (drop 4 bytes)) n) refl (below_word (take 4 bytes) four) (dropped 4 bytes h) g in
    let number : bytes_of w32 n ≡ take 4 bytes = be_bytes_4 (take 4 bytes) n m four refl in
    let counted : bytes_of w32 (length p.0) ≡ take 4 bytes = ap (bytes_of w32) p.2 ∙ number in
    record {
      part = p.0;
      spelled = sym (take-append-drop 4 bytes) ∙ (ap (λ l. take 4 bytes ++ l) p.1
          ∙ (ap (λ l. l ++ (p.0 ++ rest)) (sym counted) ∙ sym (append_assoc (bytes_of w32 (length p.0)) p.0 rest)));
      says = p.3;
      ranges = p.4;
    }

first_sound : SaysAState → (bytes rest : List ℕ) (s : State) → AreBytes bytes → first_state bytes ≡ Some (s, rest) → IsFirst bytes s rest
unfolding first_state
first_sound ranges bytes rest s h g = first_is ranges bytes rest s (nat_lt (length bytes) 4) refl h g

rest_bytes : (front rest : List ℕ) → AreBytes (front ++ rest) → AreBytes rest
rest_bytes front rest h = subst AreBytes (drop-append_seam front rest) (dropped (length front) (front ++ rest) h)

none_left : (bytes : List ℕ) (states : List State) → states_at 0 bytes ≡ Some states → (bytes ≡ []) × (states ≡ [])
none_left [] [] h = (refl, refl)
none_left [] (s ∷ states) h = cc
none_left (b ∷ bytes) states h = cc

one_more : (x : Option (List State)) (s : State) (states : List State) → option_map (λ ss. s ∷ ss) x ≡ Some states
    → (ss : List State) × (x ≡ Some ss) × (states ≡ s ∷ ss)
one_more None s states h = cc
one_more (Some ss) s states h = (ss, refl, cc)

found : SaysAState → (n : ℕ) (bytes : List ℕ) (states : List State) → AreBytes bytes
    → ((rest : List ℕ) (ss : List State) → AreBytes rest → states_at n rest ≡ Some ss → AreSpelled n rest ss)
    → (s : State) (rest : List ℕ) → first_state bytes ≡ Some (s, rest) → option_map (λ ss. s ∷ ss) (states_at n rest) ≡ Some states
    → AreSpelled (suc n) bytes states
found ranges n bytes states h ih s rest e k =
    let f = first_sound ranges bytes rest s h e in
    let m = one_more (states_at n rest) s states k in
    let a = ih rest m.0 (rest_bytes (counted_bytes f.part) rest (subst AreBytes f.spelled h)) m.1 in
    record {
      parts = f.part ∷ a.parts;
      count = let c : length a.parts ≡ n = a.count in omega arith;
      spelled = f.spelled ∙ ap (λ l. counted_bytes f.part ++ l) a.spelled;
      says = subst (SayStates (f.part ∷ a.parts)) (sym m.2) (f.says, a.says);
      ranges = subst (AllByRecursion IsState) (sym m.2) (f.ranges, a.ranges);
    }

one_by_one : SaysAState → (n : ℕ) (bytes : List ℕ) (states : List State) → AreBytes bytes
    → ((rest : List ℕ) (ss : List State) → AreBytes rest → states_at n rest ≡ Some ss → AreSpelled n rest ss)
    → (x : Option (State × List ℕ)) → first_state bytes ≡ x
    → option_and_then (λ first. option_map (λ states. first.0 ∷ states) (states_at n first.1)) x ≡ Some states → AreSpelled (suc n) bytes states
one_by_one ranges n bytes states h ih None e k = cc
one_by_one ranges n bytes states h ih (Some x) e k = found ranges n bytes states h ih x.0 x.1 e k

pub read_were_spelled : SaysAState → ReadWereSpelled
read_were_spelled ranges zero bytes states h g =
    let p = none_left bytes states g in
    record { parts = []; count = refl; spelled = p.0; says = subst (SayStates []) (sym p.1) tt; ranges = subst (AllByRecursion IsState) (sym p.1) tt }
read_were_spelled ranges (suc n) bytes states h g =
    one_by_one ranges n bytes states h (λ rest ss k e. read_were_spelled ranges n rest ss k e) (first_state bytes) refl g

-- ---- where nothing is read

abbrev nothing : Option (State × List ℕ)
nothing = None

faulty : (fs : List Fault) (f : Fault) (s : State) → slice_get fs 0 ≡ Some f → unless_faulty fs s ≡ None
faulty [] f s h = cc
faulty (g ∷ fs) f s h = refl

all_none : (b c : Bool) → nothing ≡ (if b then nothing else (if c then nothing else nothing))
all_none true c = refl
all_none false true = refl
all_none false false = refl

pub no_state : (bytes : List ℕ) (f : Fault) → slice_get (faults_of (take (number_in w32 bytes) (drop 4 bytes))) 0 ≡ Some f → None ≡ first_state bytes
unfolding first_state
no_state bytes f h =
    let n = number_in w32 bytes in
    let part = take n (drop 4 bytes) in
    let e : unless_faulty (faults_of part) (state_in part) ≡ None = faulty (faults_of part) f (state_in part) h in
    rw e (all_none (nat_lt (length bytes) 4) (nat_lt (length (drop 4 bytes)) n))

-- ---- one state after the other

step_read : (n : ℕ) (bytes rest : List ℕ) (s : State) → first_state bytes ≡ Some (s, rest)
    → states_at (suc n) bytes ≡ option_map (λ ss. s ∷ ss) (states_at n rest)
step_read n bytes rest s e = rw e refl

joined : (kept : List State) (s : State) (x : Option (List State))
    → option_map (λ ss. kept ++ ss) (option_map (λ ss. s ∷ ss) x) ≡ option_map (λ ss. (kept ++ s ∷ []) ++ ss) x
joined kept s None = refl
joined kept s (Some ss) = ap Some (sym (append_assoc kept (s ∷ []) ss))

abbrev With : List State → ℕ → List ℕ → Option (List State)
With kept n rest = option_map (λ ss. kept ++ ss) (states_at n rest)

one_read : (x : Option (List State)) (kept : List State) (count counter : ℕ) (rest after : List ℕ) (s : State) → counter < count
    → x ≡ option_map (λ ss. kept ++ ss) (states_at (count - counter) rest) → first_state rest ≡ Some (s, after)
    → x ≡ option_map (λ ss. (kept ++ s ∷ []) ++ ss) (states_at (count - (counter + 1)) after)
one_read x kept count counter rest after s l h e =
    let n : count - counter ≡ suc (count - (counter + 1)) = omega arith in
    h ∙ (ap (λ k. With kept k rest) n ∙ (ap (λ y. option_map (λ ss. kept ++ ss) y) (step_read (count - (counter + 1)) rest after s e)
    ∙ joined kept s (states_at (count - (counter + 1)) after)))

absent_behind : (key : Key) (kept more : List State) (s : State) → kept_of key (kept ++ s ∷ more) ≡ None → is_same_key key s.key ≡ false
absent_behind key [] more s h = here (is_same_key key s.key) h
  where
    here : (b : Bool) → (if b then Some s else kept_of key more) ≡ None → b ≡ false
    here true e = cc
    here false e = refl
absent_behind key (k ∷ kept) more s h = absent_behind key kept more s ((not_here (is_same_key key k.key) k (kept_of key (kept ++ s ∷ more)) h).1)

apart : (kept more : List State) (s : State) → has_distinct_keys (kept ++ s ∷ more) ≡ true → kept_of s.key kept ≡ None
apart [] more s h = refl
apart (k ∷ kept) more s h =
    let p = and_parts (is_none (kept_of k.key (kept ++ s ∷ more))) (has_distinct_keys (kept ++ s ∷ more)) h in
    let other : is_same_key s.key k.key ≡ false = turned s.key k.key ∙ absent_behind k.key kept more s (none_of (kept_of k.key (kept ++ s ∷ more)) p.0) in
    rw other (apart kept more s p.1)

put_in : (kept states : List State) (s : State) (x : Option (List State)) → option_map (λ ss. (kept ++ s ∷ []) ++ ss) x ≡ Some states
    → (ss : List State) × (states ≡ kept ++ s ∷ ss)
put_in kept states s None h = cc
put_in kept states s (Some ss) h = (ss, let e : (kept ++ s ∷ []) ++ ss ≡ states = cc in sym e ∙ append_assoc kept (s ∷ []) ss)

pub twice : (x : Option (List State)) (kept states : List State) (count counter : ℕ) (rest after : List ℕ) (s : State) → counter < count
    → x ≡ option_map (λ ss. kept ++ ss) (states_at (count - counter) rest) → first_state rest ≡ Some (s, after)
    → is_some (kept_of s.key kept) ≡ true → x ≡ Some states → has_distinct_keys states ≡ true → ⊥
twice x kept states count counter rest after s l h e there g u =
    let a = put_in kept states s (states_at (count - (counter + 1)) after) (sym (one_read x kept count counter rest after s l h e) ∙ g) in
    let none : kept_of s.key kept ≡ None = apart kept a.0 s (subst (λ k. has_distinct_keys k ≡ true) a.1 u) in
    clash (kept_of s.key kept) none there
  where
    clash : (y : Option State) → y ≡ None → is_some y ≡ true → ⊥
    clash None a b = cc
    clash (Some k) a b = cc

pub grown : (new kept : List State) (s : State) (n : ℕ) → new ≡ kept ++ s ∷ [] → length kept ≡ n → length new ≡ n + 1
grown new kept s n e l = omega (arith, ap length e, length-append kept (s ∷ []), l)

pub onward : (x : Option (List State)) (kept new : List State) (count counter : ℕ) (rest after : List ℕ) (s : State) → counter < count
    → x ≡ option_map (λ ss. kept ++ ss) (states_at (count - counter) rest) → first_state rest ≡ Some (s, after)
    → new ≡ kept ++ s ∷ [] → x ≡ option_map (λ ss. new ++ ss) (states_at (count - (counter + 1)) after)
onward x kept new count counter rest after s l h e pushed =
    subst (λ k. x ≡ option_map (λ ss. k ++ ss) (states_at (count - (counter + 1)) after)) (sym pushed) (one_read x kept count counter rest after s l h e)

-- ---- whether there are so many

still_some : (s : State) (x : Option (List State)) → is_some (option_map (λ ss. s ∷ ss) x) ≡ is_some x
still_some s None = refl
still_some s (Some ss) = refl

pub one_seen : (b : Bool) (count counter : ℕ) (rest after : List ℕ) (s : State) → counter < count → b ≡ is_some (states_at (count - counter) rest)
    → first_state rest ≡ Some (s, after) → b ≡ is_some (states_at (count - (counter + 1)) after)
one_seen b count counter rest after s l h e =
    let n : count - counter ≡ suc (count - (counter + 1)) = omega arith in
    h ∙ (ap (λ k. is_some (states_at k rest)) n ∙ (ap (λ (y : Option (List State)). is_some y) (step_read (count - (counter + 1)) rest after s e)
    ∙ still_some s (states_at (count - (counter + 1)) after)))
