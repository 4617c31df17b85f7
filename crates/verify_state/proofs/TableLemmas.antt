-- Look-ups in a table of states.
use Rattle.std.proofs.Common.{◌≡◌, refl, sym, ◌∙◌, ap, ◌⊎◌, inl, inr, arith, Bool, true, false, ◌&&◌, ◌==◌, List, [], ◌∷◌, ◌++◌, Option, None, Some}
use Rattle.std.specs.Prelude.{if◌then◌else◌, is_none}
use Rattle.std.proofs.lemmas.Bool.{and_parts, eqb-true}
use Rattle.std.proofs.lemmas.Bool.Decides.{nat_tests}
use Rattle.fc_base.specs.declared.numbers.Key.{Key}
use Rattle.fc_base.specs.Keys.{is_same_key}
use Rattle.verify_state.specs.State.{State}
use Rattle.verify_state.specs.StateTable.{kept_of, has_distinct_keys}
use Rattle.verify_state.specs.TableLaws.{FoundStays, FoundHasItsKey, LastIsFound, FoundOrLast, KeysStayApart}

pub same_key : (a b : Key) → is_same_key a b ≡ true → a ≡ b
same_key a b h =
    let p = and_parts (a.run == b.run) ((a.server == b.server) && (a.job == b.job)) h in
    let q = and_parts (a.server == b.server) (a.job == b.job) p.1 in
    let r = eqb-true a.run b.run p.0 in
    let s = eqb-true a.server b.server q.0 in
    let j = eqb-true a.job b.job q.1 in
    λ i. record { run = r i; server = s i; job = j i }

found_on : (b : Bool) (here : State) (rest more : Option State) (s : State) → (rest ≡ Some s → more ≡ Some s) → (if b then Some here else rest) ≡ Some s
    → (if b then Some here else more) ≡ Some s
found_on true here rest more s f h = h
found_on false here rest more s f h = f h

-- what is found is found in a longer table
pub stays_found : FoundStays
stays_found key [] extra s h = cc
stays_found key (k ∷ kept) extra s h =
    found_on (is_same_key key k.key) k (kept_of key kept) (kept_of key (kept ++ extra)) s (λ e. stays_found key kept extra s e) h

-- what is found after one more state was found before, or is that state
found_here : (b : Bool) (here s : State) (before after : Option State) (A : Type 0) → (after ≡ Some s → (before ≡ Some s) ⊎ A)
    → (if b then Some here else after) ≡ Some s → ((if b then Some here else before) ≡ Some s) ⊎ A
found_here true here s before after A f h = inl h
found_here false here s before after A f h = f h

last_found : (b : Bool) (here s : State) → (if b then Some here else None) ≡ Some s → (here ≡ s) × (b ≡ true)
last_found true here s h = (cc, refl)
last_found false here s h = cc

pub found_in_push : FoundOrLast
found_in_push key [] state s h =
    let p = last_found (is_same_key key state.key) state s h in
    inr (p.0, sym (same_key key state.key p.1))
found_in_push key (k ∷ kept) state s h =
    found_here (is_same_key key k.key) k s (kept_of key kept) (kept_of key (kept ++ state ∷ [])) ((state ≡ s) × (state.key ≡ key))
    (λ e. found_in_push key kept state s e) h

-- the state that is found of a key has it
key_here : (b : Bool) (here s : State) (rest : Option State) (key : Key) → (b ≡ true → here.key ≡ key) → (rest ≡ Some s → s.key ≡ key)
    → (if b then Some here else rest) ≡ Some s → s.key ≡ key
key_here true here s rest key f g h = let e : here ≡ s = cc in sym (ap (λ (x : State). x.key) e) ∙ f refl
key_here false here s rest key f g h = g h

pub key_of_found : FoundHasItsKey
key_of_found key [] s h = cc
key_of_found key (k ∷ kept) s h =
    key_here (is_same_key key k.key) k s (kept_of key kept) key (λ e. sym (same_key key k.key e)) (λ e. key_of_found key kept s e) h

-- a key is its own
pub own_key : (key : Key) → is_same_key key key ≡ true
own_key key =
    let r : (key.run == key.run) ≡ true = grind (arith, nat_tests) in
    let s : (key.server == key.server) ≡ true = grind (arith, nat_tests) in
    let j : (key.job == key.job) ≡ true = grind (arith, nat_tests) in
    rw (r, s, j) refl

absent_here : (b : Bool) (found state : State) (rest more : Option State) → (if b then Some found else rest) ≡ None → (rest ≡ None → more ≡ Some state)
    → (if b then Some found else more) ≡ Some state
absent_here true found state rest more h f = cc
absent_here false found state rest more h f = f h

-- a state that is added is found, where none of its key was there
found_last : (key : Key) (kept : List State) (state : State) → is_same_key key state.key ≡ true → kept_of key kept ≡ None
    → kept_of key (kept ++ state ∷ []) ≡ Some state
found_last key [] state own h = rw own refl
found_last key (k ∷ kept) state own h =
    absent_here (is_same_key key k.key) k state (kept_of key kept) (kept_of key (kept ++ state ∷ [])) h (λ e. found_last key kept state own e)

pub last_is_found : LastIsFound
last_is_found kept state h = found_last state.key kept state (own_key state.key) h

-- keys are compared both ways alike
pub turned : (a b : Key) → is_same_key a b ≡ is_same_key b a
turned a b =
    let r : (a.run == b.run) ≡ (b.run == a.run) = grind (arith, nat_tests) in
    let s : (a.server == b.server) ≡ (b.server == a.server) = grind (arith, nat_tests) in
    let j : (a.job == b.job) ≡ (b.job == a.job) = grind (arith, nat_tests) in
    rw (r, s, j) refl

pub not_here : (b : Bool) (here : State) (rest : Option State) → (if b then Some here else rest) ≡ None → (b ≡ false) × (rest ≡ None)
not_here true here rest h = cc
not_here false here rest h = (refl, h)

pub none_of : (x : Option State) → is_none x ≡ true → x ≡ None
none_of None h = refl
none_of (Some s) h = cc

-- a key that isn't there stays absent beside another one
still_absent : (key : Key) (kept : List State) (s : State) → is_same_key key s.key ≡ false → kept_of key kept ≡ None → kept_of key (kept ++ s ∷ []) ≡ None
still_absent key [] s h e = rw h refl
still_absent key (k ∷ kept) s h e =
    let p = not_here (is_same_key key k.key) k (kept_of key kept) e in
    let n : is_same_key key k.key ≡ false = p.0 in
    rw n (still_absent key kept s h p.1)

pub distinct_push : KeysStayApart
distinct_push [] s e h = refl
distinct_push (k ∷ kept) s e h =
    let p = not_here (is_same_key s.key k.key) k (kept_of s.key kept) e in
    let q = and_parts (is_none (kept_of k.key kept)) (has_distinct_keys kept) h in
    let other : is_same_key k.key s.key ≡ false = turned k.key s.key ∙ p.0 in
    let gone : kept_of k.key (kept ++ s ∷ []) ≡ None = still_absent k.key kept s other (none_of (kept_of k.key kept) q.0) in
    rw gone (distinct_push kept s p.1 q.1)
