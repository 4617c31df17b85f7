-- A save of the notes is one of the node that has them.
use Rattle.std.proofs.Common.{◌≡◌, ◌⊎◌, inl, inr, ◌<◌, subst, ap, sym, ◌∙◌, Result, Ok, Err}
use Rattle.fc_base.specs.declared.fault.Fault.{Fault}
use Rattle.fc_base.specs.declared.fault.FaultSort.{FaultSort}
use Rattle.fc_base.specs.declared.fault.FaultSort.TheVariants as sorts
use Rattle.fc_base.specs.Fault.{sort_of}
use Rattle.disk_model.specs.Notes.{Note}
use Rattle.node.specs.Saving.{Save, Saves, Unsaved}

-- What a save leaves of the node, by what it leaves of its notes.
abbrev pub whole_save : {D S : Type 0} → (D → S) → Save D → Save S
whole_save whole save = record {
  bytes = save.bytes;
  saved = whole save.saved;
  same = whole save.same;
  down = whole save.down;
}

unsaved : {D S : Type 0} (note : D → Note) (part : S → D) (whole : D → S) → ((d : D) → part (whole d) ≡ d)
    → (save : Save D) (sort : FaultSort) (fault : Fault) (old : S) (new : D)
    → Unsaved note save sort fault (part old) new
    → Unsaved (λ s. note (part s)) (whole_save whole save) sort fault old (whole new)
unsaved note part whole is save sorts.Memory fault old new h =
    (h.0, ap note (is new) ∙ h.1, ap whole h.2)
unsaved note part whole is save sorts.Save fault old new h =
    let same = ap note (is new) in
    (subst (λ n. (note (part old)).failures < n.failures) (sym same) h.0, by_bytes same h.1, ap whole h.2)
  where
    by_bytes : note (part (whole new)) ≡ note new
        → ((note new).bytes ≡ (note (part old)).bytes) ⊎ ((note new).bytes ≡ save.bytes)
        → ((note (part (whole new))).bytes ≡ (note (part old)).bytes) ⊎ ((note (part (whole new))).bytes ≡ save.bytes)
    by_bytes same (inl e) = inl (ap (λ n. n.bytes) same ∙ e)
    by_bytes same (inr e) = inr (ap (λ n. n.bytes) same ∙ e)
unsaved note part whole is save sorts.Refusal fault old new h = h

pub saves_whole : {D S : Type 0} (note : D → Note) (part : S → D) (whole : D → S) → ((d : D) → part (whole d) ≡ d)
    → (save : Save D) (old : S) (new : D) (result : Result (Unit {0}) Fault)
    → Saves note save (part old) new result
    → Saves (λ s. note (part s)) (whole_save whole save) old (whole new) result
saves_whole note part whole is save old new (Ok u) h = (ap note (is new) ∙ h.0, ap whole h.1)
saves_whole note part whole is save old new (Err fault) h = unsaved note part whole is save (sort_of fault) fault old new h
