-- Elements of lists.
use Rattle.std.proofs.Common.{◌≡◌, ap, subst, ◌≤◌, arith, Bool, true, false, List, [], ◌∷◌, length, Option, Some}
use Rattle.std.specs.Prelude.{Contains, if◌then◌else◌}
use Rattle.fc_base.specs.declared.numbers.Key.{Key}
use Rattle.fc_base.specs.Keys.{is_same_key}
use Rattle.verify_state.specs.State.{State}
use Rattle.verify_state.specs.StateTable.{kept_of}
use Rattle.fc_base.proofs.ListLemmas.{none_in, only_in, first_of, behind_one}

-- Two that Some holds alike are the same.
pub some_is : {X : Type 0} {x y : X} → ◌≡◌ {A = Option X} (Some x) (Some y) → x ≡ y
some_is h = cc

pub same_some : {X : Type 0} (x y : X) → Some x ≡ Some y → x ≡ y
same_some x y h = cc

-- A list with one element at most is that element alone.
pub single : {X : Type 0} (xs : List X) (x : X) → length xs ≤ 1 → Contains xs x → xs ≡ x ∷ []
single [] x h c = absurd (none_in x c)
single (y ∷ []) x h c = let e = only_in y x c in ap (λ z. z ∷ []) e
single (y ∷ z ∷ zs) x h c = absurd (omega (arith, h))

found_if : (b : Bool) (here : State) (states : List State) (rest : Option State) (state : State) → (rest ≡ Some state → Contains states state)
    → (if b then Some here else rest) ≡ Some state → Contains (here ∷ states) state
found_if true here states rest state f h = let same : here ≡ state = cc in subst (Contains (here ∷ states)) same (first_of here states)
found_if false here states rest state f h = behind_one here states state (f h)

-- The state that is found of a key is one of the table.
pub found_in : (key : Key) (states : List State) (state : State) → kept_of key states ≡ Some state → Contains states state
found_in key [] state h = absurd cc
found_in key (here ∷ states) state h = found_if (is_same_key key here.key) here states (kept_of key states) state (found_in key states state) h
