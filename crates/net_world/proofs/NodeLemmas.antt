-- A node of a world takes what comes as its list does, and loses its power within a save, whichever core it has.
use Rattle.std.proofs.Common.{◌≡◌, refl, sym, subst, inl, inr, arith, Bool, true, false, ◌&&◌, List, ◌∷◌, Option, Some, None, Result, Ok, Err}
use Rattle.std.specs.Prelude.{not}
use Rattle.fc_base.specs.declared.fault.Fault.{Fault}
use Rattle.fc_base.specs.declared.fault.Fault.TheVariants.{NodeOff, NoMemory}
use Rattle.fc_base.specs.declared.fault.Fault.TheVariants as faults
use Rattle.fc_base.specs.declared.fault.FaultSort.{FaultSort}
use Rattle.fc_base.specs.declared.fault.FaultSort.TheVariants as sorts
use Rattle.fc_base.specs.Fault.{sort_of}
use Rattle.disk_model.specs.declared.save_outcome.SaveOutcome.{SaveOutcome}
use Rattle.disk_model.specs.declared.save_outcome.SaveOutcome.TheVariants.{NoSave}
use Rattle.disk_model.specs.SaveOutcome.{saved_for, is_lost}
use Rattle.node.specs.Steps as steps
use Rattle.node.specs.Steps.{answered}
use Rattle.node.specs.declared.power.Power.{Power}
use Rattle.node.specs.declared.power.Power.TheVariants.{On, Off, Lent}
use Rattle.node.specs.Kinds as powers
use Rattle.node.specs.Kinds.{Kind}
use Rattle.net_world.specs.Nodes.{Stands, Stays, Faults, Ends, CutsIn}

pub stays : (on lost : Bool) → on ≡ true → lost ≡ false → (on && not lost) ≡ true
stays true false h k = refl
stays true true h k = cc
stays false lost h k = cc

pub not_lost : {D : Type 0} (x : Option D) → is_lost (saved_for x) ≡ false
not_lost None = refl
not_lost (Some addition) = refl

pub never : (b : Bool) → b ≡ true → b ≡ false → ⊥
never true h k = cc
never false h k = cc

-- ---- what comes

-- What holds of the nodes of this kind, in whose lists a cut is this entry: behind it a node is off, and notes say what they said.
pub record Laws {C N E X D O : Type 0} (k : Kind C N E X D O) (cut : X) : Type 0 where
  pub fails_never : (core : C) → (k.core.note core).failures ≡ 0
  pub stays_up : (past : List X) (e : E) (left : SaveOutcome) → k.core.words.is_up past ≡ true → is_lost left ≡ false → k.core.words.is_up (k.core.words.met e left ∷ past) ≡ true
  pub off : (past : List X) → k.core.words.is_up (cut ∷ past) ≡ false
  pub says : (past : List X) (notes : N) → k.Says past notes → k.Says (cut ∷ past) notes

unanswered : {C N E X D O : Type 0} {cut : X} (k : Kind C N E X D O) → Laws k cut → (past : List X) (e : E) (fault : Fault) (old new : C)
    → k.core.words.is_up past ≡ true → (sort : FaultSort)
    → steps.Faults k.core past e sort fault old new → Faults k past e sort fault (On new)
unanswered k l past e fault old new up sorts.Memory h = (h.why, (h.unchanged, up))
unanswered k l past e fault old new up sorts.Save h = absurd (omega (arith, h.cause, l.fails_never new))
unanswered k l past e fault old new up sorts.Refusal h =
    inr (record { on = up; why = h.why; stands = (h.stands, l.stays_up past e NoSave up refl); unchanged = h.unchanged })

pub ends : {C N E X D O : Type 0} {cut : X} (k : Kind C N E X D O) → Laws k cut → (past : List X) (e : E) (old new : C) (result : Result O Fault)
    → k.core.words.is_up past ≡ true
    → steps.Ends k.core past e old new result → Ends k past e (On new) result
ends k l past e old new (Ok outs) up h = record {
  on = up;
  free = h.free;
  sends = h.sends;
  stands = (h.stands, l.stays_up past e (saved_for (k.core.words.due past e)) up (not_lost (k.core.words.due past e)));
}
ends k l past e old new (Err fault) up h = unanswered k l past e fault old new up (sort_of fault) h

-- One that is off takes nothing.
pub off_ends : {C N E X D O : Type 0} (k : Kind C N E X D O) (past : List X) (e : E) (fault : Fault) (node : Power C N)
    → (fault ≡ NodeOff) × (k.core.words.is_up past ≡ false) → Stands k past node → Ends k past e node (Err fault)
off_ends k past e fault node off s = rw off.0 (inl (record { off = off.1; why = refl; unchanged = s }))

-- What is refused leaves a node as it was, where it leaves its core so.
pub unchanged : {C N E X D O : Type 0} (k : Kind C N E X D O) (past : List X) (e : E) (node : Power C N) → Stays k past e node → k.core.words.is_up past ≡ true
    → ((core : C) → k.core.Stays past e core → k.core.StandsFor past core) → Stands k past node
unchanged k past e (On core) h up same = (same core h, up)
unchanged k past e (Off notes) h up same = absurd h
unchanged k past e Lent h up same = absurd h

-- ---- its power

-- A node of a world is one that may have no power.
pub weak : {C N E X D O : Type 0} (k : Kind C N E X D O) (past : List X) (node : Power C N) → Stands k past node → powers.Stands k past node
weak k past (On core) s = s.0
weak k past (Off notes) s = s
weak k past Lent s = s

-- What comes to the core that a node lends comes to the node;
pub lent_ends : {C N E X D O : Type 0} {cut : X} (k : Kind C N E X D O) → Laws k cut → (past : List X) (e : E) (was : Power C N) (old new : C)
    (result : Result O Fault) → Stands k past was → (powers.Stands k past was → powers.Shows k past was (Some old))
    → (k.core.StandsFor past old → steps.Ends k.core past e old new result) → Ends k past e (On new) result
lent_ends k l past e was old new result s lent stepped =
    let shown = lent (weak k past was s) in
    ends k l past e old new result shown.2 (stepped shown.1)

-- and where it lends none, it is off.
pub none_lent : {C N E X D O : Type 0} (k : Kind C N E X D O) (past : List X) (e : E) (fault : Fault) (was : Power C N) → Stands k past was
    → (powers.Stands k past was → (fault ≡ NodeOff) × powers.Shows k past was None) → Ends k past e was (Err fault)
none_lent k past e fault was s lent = off_ends k past e fault was (lent (weak k past was s)) s

-- One that is off stands for each list that says so, and of which its notes say what they say of the other.
pub relabel : {C N E X D O : Type 0} (k : Kind C N E X D O) (old new : List X) → k.core.words.is_up old ≡ false → k.core.words.is_up new ≡ false
    → ((notes : N) → k.Says old notes → k.Says new notes) → (node : Power C N) → Stands k old node → Stands k new node
relabel k old new off down says (On core) s = absurd (never (k.core.words.is_up old) s.1 off)
relabel k old new off down says (Off notes) s = (says notes s.0, down)
relabel k old new off down says Lent s = absurd s

pub stays_off : {C N E X D O : Type 0} (k : Kind C N E X D O) (cut : X) → Laws k cut → (past : List X) (node : Power C N) → Stands k past node
    → k.core.words.is_up past ≡ false → Stands k (cut ∷ past) node
stays_off k cut l past node s off = relabel k past (cut ∷ past) off (l.off past) (l.says past) node s

pub cut_stands : {C N E X D O : Type 0} (k : Kind C N E X D O) (cut : X) → Laws k cut → (past : List X) (old new : Power C N)
    (done : Result (Unit {0}) Fault) → Stands k past old
    → powers.Cuts k past old new done → Stands k (cut ∷ past) new
cut_stands k cut l past old new (Ok t) s c = subst (Stands k (cut ∷ past)) (sym c.off) (l.says past c.notes c.left.says, l.off past)
cut_stands k cut l past old new (Err fault) s (is, off, same) = subst (Stands k (cut ∷ past)) (sym same) (stays_off k cut l past old s off)

-- ---- a step, and a cut within its save

-- A node ends as its core does, where it makes a step.
pub took : {C N E X D O : Type 0} {cut : X} (k : Kind C N E X D O) → Laws k cut → (past : List X) (e : E) (old new : Power C N) (result : Result O Fault)
    → Stands k past old → powers.Takes k past e old new result → Ends k past e new result
took k l past e old new result s (inl step) =
    subst (λ node. Ends k past e node result) (sym step.now) (ends k l past e step.before step.after result step.on step.ends)
took k l past e old new result s (inr off) = rw (off.told, off.same) (off_ends k past e NodeOff old (refl, off.off) s)

-- One that is on, and may have no power, stands as a node of a world does.
strong : {C N E X D O : Type 0} (k : Kind C N E X D O) (past : List X) (node : Power C N) → powers.Stands k past node → k.core.words.is_up past ≡ true
    → Stands k past node
strong k past (On core) s up = (s, up)
strong k past (Off notes) s up = s
strong k past Lent s up = s

-- The saves of a world never fail by themselves.
pub record NeverFails {C N E X D O : Type 0} (k : Kind C N E X D O) : Type 0 where
  pub core : (core : C) → (k.core.note core).failures ≡ 0
  pub notes : (notes : N) → (k.note notes).failures ≡ 0

none_failed : {C N E X D O : Type 0} (k : Kind C N E X D O) → NeverFails k → (node : Power C N) → (powers.note_of k node).failures ≡ 0
none_failed k n (On core) = n.core core
none_failed k n (Off notes) = n.notes notes
none_failed k n Lent = refl

pub cut_within : {C N E X D O : Type 0} (k : Kind C N E X D O) → NeverFails k → (past : List X) (landed : Bool) (e : E) (old new : Power C N)
    (result : Result (Unit {0}) Fault) → Stands k past old → powers.CutsIn k past landed e old new result → CutsIn k past landed e new result
cut_within k n past landed e old new (Ok t) s c =
    (c.on, c.due, subst (Stands k (k.core.words.met e (powers.lost_by landed) ∷ past)) (sym c.off) (c.says, c.down))
cut_within k n past landed e old new (Err NodeOff) s c = (c.0, subst (Stands k past) (sym c.1) s)
cut_within k n past landed e old new (Err faults.NoSave) s c = (c.0, c.1, subst (Stands k past) (sym c.2) s)
cut_within k n past landed e old new (Err NoMemory) s c = (c.0, strong k past new c.2 c.0)
cut_within k n past landed e old new (Err _) s c = absurd (omega (arith, c.2.cause, none_failed k n new))
