-- Numbers and runs that are added one by one.
use Rattle.std.proofs.Common.{◌≡◌, ℕ, suc, ◌+◌, ◌<◌, List, [], ◌∷◌, ◌++◌, length, take, drop, get_or, drop-cons, add-one, sym, ap, ◌∙◌}
use Rattle.std.specs.List.{flat_map, AllByRecursion}
use Rattle.std.proofs.lemmas.Grind.{take_at_read, flat_map-append}
use Rattle.std.proofs.lemmas.List.{append_assoc, append-nil}
use Rattle.std.specs.Int.{w64}
use Rattle.fc_base.specs.Layouts.{bytes_of}
use Rattle.verify_state.specs.Spelling.{words}
use Rattle.ledger.specs.declared.entry.RunWrite.{RunWrite}
use Rattle.ledger.specs.Spelling.{with_run, with_runs, write_numbers}
use Rattle.ledger.proofs.TableLemmas.{all_append}

pub runs_more : (ws : List RunWrite) (k : ℕ) (w : RunWrite) (old new all : List (List ℕ)) → k < length ws → w ≡ get_or ws k w → new ≡ with_run old w
    → with_runs old (drop k ws) ≡ all → with_runs new (drop (k + 1) ws) ≡ all
runs_more ws k w old new all lt is put kept =
    let cut : drop k ws ≡ w ∷ drop (k + 1) ws = drop-cons ws k w lt ∙ ap (λ v. v ∷ drop (suc k) ws) (sym is) ∙ ap (λ n. w ∷ drop n ws) (sym (add-one k)) in
    ap (λ t. with_runs t (drop (k + 1) ws)) put ∙ ap (with_runs old) (sym cut) ∙ kept

take_next : {X : Type 0} (xs : List X) (k : ℕ) (x : X) → k < length xs → x ≡ get_or xs k x → take (k + 1) xs ≡ take k xs ++ x ∷ []
take_next xs k x lt is = (take_at_read xs k x lt).1 ∙ ap (λ y. take k xs ++ y ∷ []) (sym is)

pub words_more : (table : List (List ℕ)) (ws : List RunWrite) (k n : ℕ) (w : RunWrite) (start old new : List ℕ) → k < length ws → w ≡ get_or ws k w
    → new ≡ old ++ words (write_numbers table w) → old ≡ start ++ words (n ∷ flat_map (write_numbers table) (take k ws))
    → new ≡ start ++ words (n ∷ flat_map (write_numbers table) (take (k + 1) ws))
words_more table ws k n w start old new lt is put kept =
    let f = write_numbers table in
    let more : flat_map f (take (k + 1) ws) ≡ flat_map f (take k ws) ++ f w =
    ap (flat_map f) (take_next ws k w lt is) ∙ flat_map-append f (take k ws) (w ∷ []) ∙ ap (λ ns. flat_map f (take k ws) ++ ns) (append-nil (f w)) in
    put ∙ ap (λ bytes. bytes ++ words (f w)) kept
    ∙ append_assoc start (words (n ∷ flat_map f (take k ws))) (words (f w))
    ∙ ap (λ bytes. start ++ bytes) (sym (flat_map-append (bytes_of w64) (n ∷ flat_map f (take k ws)) (f w)))
    ∙ ap (λ ns. start ++ words (n ∷ ns)) (sym more)

pub all_more : {X : Type 0} (P : X → Type 0) (xs : List X) (k : ℕ) (x : X) → k < length xs → x ≡ get_or xs k x → P x → AllByRecursion P (take k xs)
    → AllByRecursion P (take (k + 1) xs)
all_more P xs k x lt is good kept = rw (take_next xs k x lt is) (all_append P (take k xs) (x ∷ []) kept (good, tt))
