-- How a node loses its power, and what it answers without, whichever node it is.
use Rattle.std.proofs.Common.{◌≡◌, refl, sym, ap, subst, inl, inr, ◌∷◌, true, false, List, Some, None, Result, Ok, Err}
use Rattle.std.specs.Prelude.{if◌then◌else◌, map}
use Rattle.fc_base.specs.declared.fault.Fault.{Fault}
use Rattle.fc_base.specs.declared.fault.Fault.TheVariants.{NodeOff, NodeOn}
use Rattle.messages.specs.FrameBytes.{frame_spelling}
use Rattle.node.specs.declared.power.Power.{Power}
use Rattle.node.specs.declared.power.Power.TheVariants.{Off}
use Rattle.node.specs.Kinds.{Kind, Stands, Cuts, WasOn, note_of}
use Rattle.node.specs.Kinds as nodes
use Rattle.cells.specs.Failures.{Counts}
use Rattle.cells.specs.Moves.{TaskEnds}
use Rattle.cells.specs.CoreRules.{CoreRules}
use Rattle.cells.specs.CoreLaws.{Starts}
use Rattle.cells.specs.Powers.{IsCut, told_of}
use Rattle.cells.specs.Rules.{Restarts, plain_reply}
use Rattle.cells.specs.Rules as rules
use Rattle.cells.proofs.MoveLemmas.{up, refused}

-- ---- a cut

gives_up : {C N E X D O : Type 0} (n : Kind C N E X D O) (c : CoreRules E X) (past : List X) (notes : N) → IsCut n c past → n.core.words.is_up past ≡ true → n.Says past notes
    → TaskEnds n c past rules.Cuts (Off notes) (Ok plain_reply)
gives_up n c past notes h on says = record {
  after = c.cut ∷ past;
  ends = record {
    free = up (n.core.words.is_up past) None (Some NodeOff) on;
    said_is = refl;
    entry = c.cut;
    entry_is = refl;
    sent_are = sym (ap (map frame_spelling) h.sends_none);
    after_is = refl;
  };
  stands = (h.says notes says, h.off);
  ranges = h.ranges;
}

pub cut_ends : {C N E X D O : Type 0} (n : Kind C N E X D O) (c : CoreRules E X) (past : List X) (old new : Power C N) (done : Result (Unit {0}) Fault) → IsCut n c past
    → Stands n past old → Cuts n past old new done → TaskEnds n c past rules.Cuts new (told_of done)
cut_ends n c past old new (Ok t) h s cuts =
    subst (λ power. TaskEnds n c past rules.Cuts power (Ok plain_reply)) (sym cuts.off) (gives_up n c past cuts.notes h cuts.on cuts.left.says)
cut_ends n c past old new (Err fault) h s (is, off, same) =
    rw (is, same) (refused n c past rules.Cuts NodeOff old refl (ap (λ b. if b then None else Some NodeOff) off) refl s)

pub cut_counts : {C N E X D O : Type 0} (n : Kind C N E X D O) (past : List X) (old new : Power C N) (done : Result (Unit {0}) Fault)
    → Cuts n past old new done → Counts false (note_of n old).failures (note_of n new).failures (told_of done)
cut_counts n past old new (Ok t) cuts = tt
cut_counts n past old new (Err fault) (is, off, same) = rw is (ap (λ power. (note_of n power).failures) same)

-- ---- a start

-- One that is on isn't started.
pub was_on : {C N E X D O : Type 0} (n : Kind C N E X D O) (c : CoreRules E X) (past : List X) (old new : Power C N) (done : Result (Unit {0}) Fault) → IsCut n c past
    → Stands n past old → WasOn n past old new done → TaskEnds n c past Restarts new (told_of done)
was_on n c past old new done h s w =
    rw (w.told, w.same)
    (refused n c past Restarts NodeOn old refl (up (n.core.words.is_up past) (Some NodeOn) (c.spent past) w.on) refl s)

pub was_on_counts : {C N E X D O : Type 0} (n : Kind C N E X D O) (past : List X) (old new : Power C N) (done : Result (Unit {0}) Fault)
    → WasOn n past old new done → Counts true (note_of n old).failures (note_of n new).failures (told_of done)
was_on_counts n past old new done w = rw w.told (ap (λ power. (note_of n power).failures) w.same)

-- How a start ends, where cores start as their rules have it.
pub restart_ends : {C N E X D O : Type 0} (n : Kind C N E X D O) (c : CoreRules E X) (Opens : N → Result C (N × Fault) → Type 0) (past : List X)
    (old new : Power C N) (done : Result (Unit {0}) Fault) → Starts n c Opens → IsCut n c past → Stands n past old → nodes.Restarts n Opens past old new done
    → TaskEnds n c past Restarts new (told_of done)
restart_ends n c Opens past old new done starts cuts s (inl w) = was_on n c past old new done cuts s w
restart_ends n c Opens past old new done starts cuts s (inr h) = rw (h.new_is, h.told) (starts.ends past h.notes h.made h.off h.left.says h.opens)

pub restart_counts : {C N E X D O : Type 0} (n : Kind C N E X D O) (c : CoreRules E X) (Opens : N → Result C (N × Fault) → Type 0) (past : List X)
    (old new : Power C N) (done : Result (Unit {0}) Fault) → Starts n c Opens → nodes.Restarts n Opens past old new done
    → Counts true (note_of n old).failures (note_of n new).failures (told_of done)
restart_counts n c Opens past old new done starts (inl w) = was_on_counts n past old new done w
restart_counts n c Opens past old new done starts (inr h) = rw (h.new_is, h.told, ← h.left.same) (starts.counts h.notes h.made h.opens)
