-- The frames that wait for a node: what an entry of the journal and a frame more change.
use Rattle.std.proofs.Common.{◌≡◌, refl, ◌∙◌, ap, ℕ, zero, suc, ◌+◌, ◌<◌, ◌≤◌, arith, Bool, true, false, not, ◌&&◌, ◌||◌}
use Rattle.std.proofs.Common.{◌==◌, inl, inr, nat_lt, List, [], ◌∷◌, ◌++◌, length, get_or, filter, Option, Some, None}
use Rattle.std.specs.Prelude.{All, slice_get}
use Rattle.std.specs.Option.{ForSome, option_map_or}
use Rattle.std.specs.List.{list_any}
use Rattle.std.specs.List.Sorted.{IsStrictlyIncreasing}
use Rattle.std.proofs.lemmas.Bool.{cases_Bool, and_right}
use Rattle.std.proofs.lemmas.Bool.Decides.{nat_tests}
use Rattle.std.proofs.lemmas.List.{length_push, get_or_append_left, get_or_push}
use Rattle.std.proofs.lemmas.List.Kept.{IsStrictlyIncreasing-filter}
use Rattle.fc_base.specs.Counted.{numbers_below}
use Rattle.fc_base.specs.NumberLaws.{length_numbers_below, filter_agree_below, filter_next, filter_not_next}
use Rattle.messages.specs.declared.node.Node.{Node}
use Rattle.messages.specs.declared.line.Line.{Line}
use Rattle.messages.specs.Network.{Network, empty}
use Rattle.messages.specs.KeptNetwork.{IsTakenBelow}
use Rattle.messages.specs.Waiting.{is_same_node, is_for, is_taken_by, is_waiting, waiting_frames}

-- ---- they ascend

number_at : (n k : ℕ) → k < n → get_or (numbers_below n) k 0 ≡ k
number_at zero k h = absurd (omega (arith, h))
number_at (suc n) k h = elim (cases_Bool (nat_lt k n)) [
  | inl t ↦
      let lt : k < n = grind (arith, nat_tests) in
      get_or_append_left (numbers_below n) (n ∷ []) 0 k (omega (arith, length_numbers_below n)) ∙ number_at n k lt
  | inr f ↦
      let eq : n ≡ k = let le : n ≤ k = grind (arith, nat_tests) in omega (arith, h) in
      get_or_push (numbers_below n) n 0 k (length_numbers_below n ∙ eq) ∙ eq
]

below_increase : (n : ℕ) → IsStrictlyIncreasing (numbers_below n)
below_increase n = λ k h.
    let long = length_numbers_below n in
    omega (arith, number_at n k (omega (arith, h, long)), number_at n (k + 1) (omega (arith, h, long)))

pub waiting_increase : (net : Network) (node : Node) → IsStrictlyIncreasing (waiting_frames net node)
unfolding waiting_frames
waiting_increase net node = IsStrictlyIncreasing-filter (is_waiting net node) (numbers_below (length net.frames)) (below_increase (length net.frames))

pub waiting_none : (node : Node) → waiting_frames empty node ≡ []
unfolding waiting_frames
waiting_none node = refl

-- ---- an entry more

both : (a b c : Bool) → (a && not (b || c)) ≡ ((a && not c) && not b)
both true true true = refl
both true true false = refl
both true false true = refl
both true false false = refl
both false b c = refl

filter_both_by : (p q r : ℕ → Bool) (x : ℕ) (xs : List ℕ) (a b : Bool) → p x ≡ (a && b) → q x ≡ a → r x ≡ b → filter p xs ≡ filter r (filter q xs)
    → filter p (x ∷ xs) ≡ filter r (filter q (x ∷ xs))
filter_both_by p q r x xs true true ep eq er ih = rw (ep, eq, er, ih) refl
filter_both_by p q r x xs true false ep eq er ih = rw (ep, eq, er) ih
filter_both_by p q r x xs false b ep eq er ih = rw (ep, eq) ih

-- A filter by two tests is one by the first and then one by the second.
filter_both : (p q r : ℕ → Bool) (xs : List ℕ) → ((x : ℕ) → p x ≡ (q x && r x)) → filter p xs ≡ filter r (filter q xs)
filter_both p q r [] each = refl
filter_both p q r (x ∷ xs) each = filter_both_by p q r x xs (q x) (r x) (each x) refl refl (filter_both p q r xs each)

filter_all : (p : ℕ → Bool) (xs : List ℕ) → ((x : ℕ) → p x ≡ true) → filter p xs ≡ xs
filter_all p [] each = refl
filter_all p (x ∷ xs) each = rw (each x) (ap (λ (ys : List ℕ). x ∷ ys) (filter_all p xs each))

filter_same : (p q : ℕ → Bool) (xs : List ℕ) → ((x : ℕ) → p x ≡ q x) → filter p xs ≡ filter q xs
filter_same p q [] each = refl
filter_same p q (x ∷ xs) each = rw (each x, filter_same p q xs each) refl

with_entry : (frames : List (List ℕ)) (l : Line) (journal : List Line) (node : Node)
    → waiting_frames (record { frames = frames; journal = l ∷ journal }) node
    ≡ filter (λ i. not (is_taken_by node i l)) (waiting_frames (record { frames = frames; journal = journal }) node)
unfolding waiting_frames
with_entry frames l journal node =
    filter_both (is_waiting (record { frames = frames; journal = l ∷ journal }) node) (is_waiting (record { frames = frames; journal = journal }) node)
    (λ i. not (is_taken_by node i l)) (numbers_below (length frames))
    (λ i. both (option_map_or (is_for node) (slice_get frames i) false) (is_taken_by node i l) (list_any (is_taken_by node i) journal))

-- By an entry that took no frame, or of another node, no frame fewer waits.
pub untouched : (frames : List (List ℕ)) (l : Line) (journal : List Line) (node : Node) → ((i : ℕ) → is_taken_by node i l ≡ false)
    → waiting_frames (record { frames = frames; journal = l ∷ journal }) node ≡ waiting_frames (record { frames = frames; journal = journal }) node
untouched frames l journal node none =
    with_entry frames l journal node ∙ filter_all (λ i. not (is_taken_by node i l)) (waiting_frames (record { frames = frames; journal = journal }) node)
    (λ i. ap not (none i))

-- By an entry of the node that took frame n, that one doesn't wait any more.
pub touched : (frames : List (List ℕ)) (l : Line) (journal : List Line) (node : Node) (n : ℕ) → ((i : ℕ) → is_taken_by node i l ≡ (n == i))
    → waiting_frames (record { frames = frames; journal = l ∷ journal }) node
    ≡ filter (λ i. not (n == i)) (waiting_frames (record { frames = frames; journal = journal }) node)
touched frames l journal node n that =
    with_entry frames l journal node
    ∙ filter_same (λ i. not (is_taken_by node i l)) (λ i. not (n == i)) (waiting_frames (record { frames = frames; journal = journal }) node)
    (λ i. ap not (that i))

-- ---- a frame more

not_by : (b : Bool) (o : Option ℕ) (n : ℕ) → ForSome o (λ i. i < n) → (b && option_map_or (λ taken. taken == n) o false) ≡ false
not_by b None n below = and_right b false refl
not_by b (Some i) n below = and_right b (i == n) (let lt : i < n = below i refl in grind (arith, nat_tests))

-- The next number was taken by no entry.
not_taken : (node : Node) (journal : List Line) (n : ℕ) → All (IsTakenBelow n) journal → list_any (is_taken_by node n) journal ≡ false
not_taken node [] n below = refl
not_taken node (l ∷ journal) n below =
    rw (not_by (is_same_node l.node node) l.taken n (below 0 l (omega arith))) (not_taken node journal n (λ k d h. below (suc k) d (omega (arith, h))))

get_left : (frames : List (List ℕ)) (f : List ℕ) (i : ℕ) → i < length frames → slice_get (frames ++ f ∷ []) i ≡ slice_get frames i
get_left [] f i h = absurd (omega (arith, h))
get_left (x ∷ xs) f zero h = refl
get_left (x ∷ xs) f (suc i) h = get_left xs f i (omega (arith, h))

get_last : (frames : List (List ℕ)) (f : List ℕ) → slice_get (frames ++ f ∷ []) (length frames) ≡ Some f
get_last [] f = refl
get_last (x ∷ xs) f = get_last xs f

same_below : (frames : List (List ℕ)) (f : List ℕ) (journal : List Line) (node : Node) (i : ℕ) → i < length frames
    → is_waiting (record { frames = frames ++ f ∷ []; journal = journal }) node i ≡ is_waiting (record { frames = frames; journal = journal }) node i
same_below frames f journal node i h = rw (get_left frames f i h) refl

last_waits : (frames : List (List ℕ)) (f : List ℕ) (journal : List Line) (node : Node) (b : Bool) → All (IsTakenBelow (length frames)) journal
    → is_for node f ≡ b
    → is_waiting (record { frames = frames ++ f ∷ []; journal = journal }) node (length frames) ≡ b
last_waits frames f journal node b below e =
    rw (get_last frames f, not_taken node journal (length frames) below, e) (elim b as (λ v. (v && not false) ≡ v) [ true ↦ refl | false ↦ refl ])

more_below : (frames : List (List ℕ)) (f : List ℕ) (journal : List Line) (node : Node)
    → filter (is_waiting (record { frames = frames ++ f ∷ []; journal = journal }) node) (numbers_below (length frames))
    ≡ waiting_frames (record { frames = frames; journal = journal }) node
unfolding waiting_frames
more_below frames f journal node =
    filter_agree_below (is_waiting (record { frames = frames ++ f ∷ []; journal = journal }) node)
    (is_waiting (record { frames = frames; journal = journal }) node) (length frames) (same_below frames f journal node)

waiting_of : (frames : List (List ℕ)) (f : List ℕ) (journal : List Line) (node : Node)
    → waiting_frames (record { frames = frames ++ f ∷ []; journal = journal }) node
    ≡ filter (is_waiting (record { frames = frames ++ f ∷ []; journal = journal }) node) (numbers_below (suc (length frames)))
unfolding waiting_frames
waiting_of frames f journal node =
    let long : length (frames ++ f ∷ []) ≡ suc (length frames) = omega (arith, length_push frames f) in
    ap (λ (n : ℕ). filter (is_waiting (record { frames = frames ++ f ∷ []; journal = journal }) node) (numbers_below n)) long

-- A frame for the node waits behind those that do.
pub one_more : (frames : List (List ℕ)) (f : List ℕ) (journal : List Line) (node : Node) → All (IsTakenBelow (length frames)) journal → is_for node f ≡ true
    → waiting_frames (record { frames = frames ++ f ∷ []; journal = journal }) node
    ≡ waiting_frames (record { frames = frames; journal = journal }) node ++ length frames ∷ []
one_more frames f journal node below e =
    waiting_of frames f journal node
    ∙ filter_next (is_waiting (record { frames = frames ++ f ∷ []; journal = journal }) node) (length frames) (last_waits frames f journal node true below e)
    ∙ ap (λ (ns : List ℕ). ns ++ length frames ∷ []) (more_below frames f journal node)

-- One for another doesn't.
pub none_more : (frames : List (List ℕ)) (f : List ℕ) (journal : List Line) (node : Node) → All (IsTakenBelow (length frames)) journal → is_for node f ≡ false
    → waiting_frames (record { frames = frames ++ f ∷ []; journal = journal }) node ≡ waiting_frames (record { frames = frames; journal = journal }) node
none_more frames f journal node below e =
    waiting_of frames f journal node
    ∙ filter_not_next (is_waiting (record { frames = frames ++ f ∷ []; journal = journal }) node) (length frames)
    (last_waits frames f journal node false below e)
    ∙ more_below frames f journal node
