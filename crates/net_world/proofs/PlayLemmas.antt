-- What has happened, and one more.
use Rattle.std.proofs.Common.{◌≡◌, sym, ◌∙◌, ap, ℕ, suc, ◌+◌, ◌<◌, arith, List, [], ◌∷◌, ◌++◌, length, get_or, take, reverse}
use Rattle.std.specs.Prelude.{map}
use Rattle.std.proofs.Math.Seq.{take-suc}
use Rattle.std.proofs.lemmas.List.{reverse-append}
use Rattle.net_world.specs.declared.event.WorldEvent.{WorldEvent}
use Rattle.net_world.specs.Events.{happening}

pub next_is_newest : (es : List WorldEvent) (i : ℕ) (e : WorldEvent) → i < length es → e ≡ get_or es i e
    → (happening e ∷ map happening (reverse (take i es))) ≡ map happening (reverse (take (i + 1) es))
next_is_newest es i e lt is =
    let more : i + 1 ≡ suc i = omega arith in
    let one : take (i + 1) es ≡ take i es ++ e ∷ [] = ap (λ k. take k es) more ∙ (take-suc es i e lt ∙ ap (λ x. take i es ++ x ∷ []) (sym is)) in
    sym (ap (λ l. map happening (reverse l)) one ∙ ap (map happening) (reverse-append (take i es) (e ∷ [])))
