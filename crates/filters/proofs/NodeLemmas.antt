-- What comes of what comes to a node, from how its core's steps end, and what is written of it.
use Rattle.std.proofs.Common.{◌≡◌, ◌∙◌, ℕ, Bool, List, ◌∷◌, ◌++◌, Option, None, Some, ap, sym, arith}
use Rattle.std.specs.Prelude.{is_some}
use Rattle.fc_base.specs.declared.fault.Fault.{Fault}
use Rattle.fc_base.specs.declared.fault.FaultSort.{FaultSort}
use Rattle.fc_base.specs.declared.fault.FaultSort.TheVariants as sorts
use Rattle.disk_model.specs.Notes.{Note}
use Rattle.node.specs.Steps.{Steps, Faults, LeavesNote, answered}
use Rattle.filters.specs.declared.node_step.NodeStep.{NodeStep}
use Rattle.filters.specs.Kept.{note_with}
use Rattle.filters.specs.NodeSteps.{IsTaken, NotTaken}
use Rattle.filters.specs.NodeTells.{save_bytes, number_bytes, send_bytes, act_bytes, answer_bytes}

-- What comes and isn't answered, where no save fails.
pub not_taken : {S E X D O : Type 0} (s : Steps S E X D O) (past : List X) (e : E) (sort : FaultSort) (fault : Fault) (old new : S)
    → (s.note old).failures ≡ (s.note new).failures → Faults s past e sort fault old new → NotTaken s past e sort fault old new
not_taken s past e sorts.Memory fault old new same l = (l.same_note, l.unchanged)
not_taken s past e sorts.Save fault old new same f = absurd (omega (arith, f.cause, same))
not_taken s past e sorts.Refusal fault old new same r = r

-- What is saved is the spelling that is due, where something is.
saved_so : {D : Type 0} (addition : Option D) (spelled : List ℕ) (old new : Note) (saves : Bool) → saves ≡ is_some addition
    → LeavesNote addition spelled old new → save_bytes saves new.bytes ≡ save_bytes saves spelled
saved_so None spelled old new saves is leaves = ap (λ b. save_bytes b new.bytes) is ∙ sym (ap (λ b. save_bytes b spelled) is)
saved_so (Some x) spelled old new saves is leaves = ap (λ (n : Note). save_bytes saves n.bytes) leaves

-- The note is that, or the old one.
pub note_so : {D : Type 0} (addition : Option D) (spelled was : List ℕ) (old new : Note) → LeavesNote addition spelled old new → old.bytes ≡ was
    → new.bytes ≡ note_with addition spelled was
note_so None spelled was old new leaves is = ap (λ (n : Note). n.bytes) leaves ∙ is
note_so (Some x) spelled was old new leaves is = ap (λ (n : Note). n.bytes) leaves

-- What is written of an answer is what the list says.
pub answer_is : {S E X D O : Type 0} (s : Steps S E X D O) (answer_to : E → NodeStep) (past : List X) (e : E) (old new : S) (a : NodeStep)
    → (answer_to e).saves ≡ is_some (s.words.due past e) → IsTaken s answer_to past e old new a
    → answer_bytes (s.note new).bytes a ≡ answer_bytes (s.words.spelled (answered s.words past e ∷ past)) (answer_to e)
answer_is s answer_to past e old new a is h =
    let note = s.words.spelled (answered s.words past e ∷ past) in
    let b = answer_to e in
    ap (λ l. l ++ (number_bytes a.number ++ (send_bytes a.frames ++ act_bytes a.act)))
    (saved_so (s.words.due past e) note (s.note old) (s.note new) a.saves (h.saves ∙ is) h.leaves)
    ∙ ap (λ x. answer_bytes note (record a { saves = x })) h.saves
    ∙ ap (λ x. answer_bytes note (record a { saves = b.saves; number = x })) h.number
    ∙ ap (λ x. answer_bytes note (record b { frames = x; act = a.act })) h.frames
    ∙ ap (λ x. answer_bytes note (record b { act = x })) h.act
