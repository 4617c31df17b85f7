-- A node loses its power within the save of a step, whichever core it has.
use Rattle.std.proofs.Common.{◌≡◌, refl, sym, subst, inl, inr, Bool, true, false, List, ◌∷◌, Option, Some, None, Result, Ok, Err}
use Rattle.std.specs.Prelude.{is_some}
use Rattle.fc_base.specs.declared.fault.Fault.{Fault}
use Rattle.disk_model.specs.declared.save_outcome.SaveOutcome.TheVariants.{Saved, LostNew, LostOld}
use Rattle.disk_model.specs.SaveOutcome.{saved_for, is_lost}
use Rattle.node.specs.Steps.{answered}
use Rattle.node.specs.declared.power.Power.{Power}
use Rattle.node.specs.Kinds.{Kind, Laws, Stands, Cuts, CutsIn, Takes}

never : (b : Bool) → b ≡ true → b ≡ false → ⊥
never true h k = cc
never false h k = cc

saved_due : {D : Type 0} (due : Option D) → is_some due ≡ true → saved_for due ≡ Saved
saved_due None h = cc
saved_due (Some addition) h = refl

not_lost : {D : Type 0} (due : Option D) → is_lost (saved_for due) ≡ false
not_lost None = refl
not_lost (Some addition) = refl

-- It was cut before the save.
pub cut_old : {C N E X D O : Type 0} (k : Kind C N E X D O) → Laws k → (past : List X) (e : E) (old new : Power C N) (result : Result (Unit {0}) Fault)
    → k.core.words.is_up past ≡ true → is_some (k.core.words.due past e) ≡ true → Cuts k past old new result → CutsIn k past false e old new result
cut_old k l past e old new (Ok t) up due c =
    record { on = up; due = due; notes = c.notes; off = c.off; says = l.old past e c.notes due c.left.says; down = l.falls past e LostOld refl due }
cut_old k l past e old new (Err fault) up due c = absurd (never (k.core.words.is_up past) up c.1)

-- It was cut behind the save.
cut_landed : {C N E X D O : Type 0} (k : Kind C N E X D O) → Laws k → (past : List X) (e : E) (old mid new : Power C N) (result : Result (Unit {0}) Fault)
    → k.core.words.is_up past ≡ true → is_some (k.core.words.due past e) ≡ true
    → Cuts k (answered k.core.words past e ∷ past) mid new result → CutsIn k past true e old new result
cut_landed k l past e old mid new (Ok t) up due c =
    let says = subst (λ left. k.Says (k.core.words.met e left ∷ past) c.notes) (saved_due (k.core.words.due past e) due) c.left.says in
    record { on = up; due = due; notes = c.notes; off = c.off; says = l.new past e c.notes due says; down = l.falls past e LostNew refl due }
cut_landed k l past e old mid new (Err fault) up due c =
    absurd (never (k.core.words.is_up (answered k.core.words past e ∷ past)) (l.stays past e (saved_for (k.core.words.due past e)) (not_lost (k.core.words.due past e)) up) c.1)

pub cut_new : {C N E X D O : Type 0} (k : Kind C N E X D O) → Laws k → (past : List X) (e : E) (old mid new : Power C N) (outs : O)
    (result : Result (Unit {0}) Fault) → k.core.words.is_up past ≡ true → is_some (k.core.words.due past e) ≡ true → Takes k past e old mid (Ok outs)
    → (Stands k (answered k.core.words past e ∷ past) mid → Cuts k (answered k.core.words past e ∷ past) mid new result)
    → CutsIn k past true e old new result
cut_new k l past e old mid new outs result up due (inl step) cuts =
    cut_landed k l past e old mid new result up due (cuts (subst (Stands k (answered k.core.words past e ∷ past)) (sym step.now) step.ends.stands))
cut_new k l past e old mid new outs result up due (inr off) cuts = absurd (never (k.core.words.is_up past) up off.off)
