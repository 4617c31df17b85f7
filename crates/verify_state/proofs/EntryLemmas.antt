-- The entries in which kept states are held.
use Rattle.std.proofs.Common.{◌≡◌, refl, ap, subst, ◌+◌, ◌<◌, ◌≤◌, arith, Bool, true, false, List, [], ◌∷◌, ◌++◌, length, Option, None, Some, length-append}
use Rattle.std.specs.Prelude.{if◌then◌else◌, map}
use Rattle.std.specs.List.{AllByRecursion, IsDistinct}
use Rattle.std.specs.Map.{lookup, keys_of}
use Rattle.std.proofs.lemmas.Bool.{and_parts}
use Rattle.fc_base.specs.declared.numbers.Key.{Key}
use Rattle.fc_base.specs.Keys.{is_same_key}
use Rattle.verify_state.specs.State.{State}
use Rattle.verify_state.specs.declared.table.TheConstants.{KEPT_LIMIT}
use Rattle.verify_state.specs.StateTable.{kept_of, has_distinct_keys}
use Rattle.verify_state.specs.Table.{are_keyed, IsTable}
use Rattle.verify_state.proofs.TableLemmas.{own_key, same_key}

abbrev states_of : List (Key × State) → List State
states_of es = map (λ e. e.1) es

-- The look-up of a key finds its first state.
either : (b c : Bool) (s : State) (x y : Option State) → b ≡ c → x ≡ y → (if b then Some s else x) ≡ (if c then Some s else y)
either b c s x y e f = λ i. if e i then Some s else f i

pub looked_up : (key : Key) (es : List (Key × State)) → are_keyed es ≡ true → lookup (is_same_key key) es ≡ kept_of key (states_of es)
looked_up key [] h = refl
looked_up key (e ∷ es) h =
    let p = and_parts (is_same_key e.0 e.1.key) (are_keyed es) h in
    either (is_same_key key e.0) (is_same_key key e.1.key) e.1 (lookup (is_same_key key) es) (kept_of key (states_of es))
    (ap (is_same_key key) (same_key e.0 e.1.key p.0)) (looked_up key es p.1)

-- Where no two entries have one key, no two states have.
absent : (key : Key) (es : List (Key × State)) → are_keyed es ≡ true → AllByRecursion (λ k. is_same_key key k ≡ false) (keys_of es) → kept_of key (states_of es) ≡ None
absent key [] h others = refl
absent key (e ∷ es) h others =
    let p = and_parts (is_same_key e.0 e.1.key) (are_keyed es) h in
    let other : is_same_key key e.1.key ≡ false = subst (λ (k : Key). is_same_key key k ≡ false) (same_key e.0 e.1.key p.0) others.0 in
    rw other (absent key es p.1 others.1)

pub distinct : (es : List (Key × State)) → are_keyed es ≡ true → IsDistinct is_same_key (keys_of es) → has_distinct_keys (states_of es) ≡ true
unfolding IsDistinct
distinct [] h apart = refl
distinct (e ∷ es) h apart =
    let p = and_parts (is_same_key e.0 e.1.key) (are_keyed es) h in
    let none : kept_of e.1.key (states_of es) ≡ None =
    subst (λ (k : Key). kept_of k (states_of es) ≡ None) (same_key e.0 e.1.key p.0) (absent e.0 es p.1 apart.0) in
    rw none (distinct es p.1 apart.1)

keyed_push : (es : List (Key × State)) (key : Key) (state : State) → is_same_key key state.key ≡ true → are_keyed es ≡ true → are_keyed (es ++ (key, state) ∷ []) ≡ true
keyed_push [] key state own h = rw own refl
keyed_push (e ∷ es) key state own h =
    let p = and_parts (is_same_key e.0 e.1.key) (are_keyed es) h in
    let a : is_same_key e.0 e.1.key ≡ true = p.0 in
    rw a (keyed_push es key state own p.1)

keyed_front : (es fs : List (Key × State)) → are_keyed (es ++ fs) ≡ true → are_keyed es ≡ true
keyed_front [] fs h = refl
keyed_front (e ∷ es) fs h =
    let p = and_parts (is_same_key e.0 e.1.key) (are_keyed (es ++ fs)) h in
    let a : is_same_key e.0 e.1.key ≡ true = p.0 in
    rw a (keyed_front es fs p.1)

-- A table with one more state, and the one before it.
pub table_push : (es : List (Key × State)) (state : State) → IsTable es → length es < KEPT_LIMIT → IsTable (es ++ (state.key, state) ∷ [])
table_push es state t room = record {
  keyed = keyed_push es state.key state (own_key state.key) t.keyed;
  few = let e : length (es ++ (state.key, state) ∷ []) ≡ length es + 1 = length-append es ((state.key, state) ∷ []) in omega (arith, e, room);
}

pub table_front : (es fs : List (Key × State)) → IsTable (es ++ fs) → IsTable es
table_front es fs t = record {
  keyed = keyed_front es fs t.keyed;
  few = let e : length (es ++ fs) ≡ length es + length fs = length-append es fs in let f : length (es ++ fs) ≤ KEPT_LIMIT = t.few in omega (arith, e, f);
}
