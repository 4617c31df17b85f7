-- What an entry leaves of a core: whether it is on, and what it shows.
use Rattle.std.proofs.Common.{◌≡◌, refl, sym, ap, Bool, true, false, ◌&&◌, List, ◌∷◌, Option, None, Some}
use Rattle.std.specs.Prelude.{if◌then◌else◌, not}
use Rattle.disk_model.specs.declared.save_outcome.SaveOutcome.{SaveOutcome}
use Rattle.disk_model.specs.SaveOutcome.{saved_for, is_lost}
use Rattle.node.specs.Steps.{is_answer}

pub and_true : (b : Bool) → (b && true) ≡ b
and_true true = refl
and_true false = refl

-- what is due is saved, and that isn't lost
pub is_own_answer : {D : Type 0} (d : Option D) → is_answer d (saved_for d) ≡ true
is_own_answer None = refl
is_own_answer (Some a) = refl

pub not_lost : {D : Type 0} (d : Option D) → is_lost (saved_for d) ≡ false
not_lost None = refl
not_lost (Some a) = refl

-- a core is off behind what was lost, and where it is on it was on before
pub lost_off : (on : Bool) (left : SaveOutcome) → is_lost left ≡ true → true ≡ not (on && not (is_lost left))
lost_off true left e = ap (λ b. not (true && not b)) (sym e)
lost_off false left e = refl

pub on_before : (on lost : Bool) → (on && not lost) ≡ true → on ≡ true
on_before true lost h = refl
on_before false lost h = cc

pub off_lost : (on lost : Bool) → lost ≡ true → (on && not lost) ≡ true → ⊥
off_lost true true l h = cc
off_lost false true l h = cc
off_lost on false l h = cc

-- what a core shows that is on behind an entry: all entries
pub shows_all : {X : Type 0} (on lost : Bool) (x : X) (past shown : List X) → (on && not lost) ≡ true
    → (if on then (if lost then past else x ∷ past) else shown) ≡ x ∷ past
shows_all true false x past shown h = refl
shows_all true true x past shown h = cc
shows_all false lost x past shown h = cc
