-- A node whose core hears frames: its own inputs and entries are what comes to the core, in the
-- node's words.
use Rattle.std.specs.Prelude.{List, map}
use Rattle.disk_model.specs.declared.save_outcome.SaveOutcome.{SaveOutcome}
use Rattle.node.specs.Steps.{Words, Steps}
use Rattle.messages.specs.Hearing.{Coming}
use Rattle.messages.specs.Senses.{Arrival}
use Rattle.node.specs.declared.hearer.Hearer.{Hearer}
use Rattle.node.specs.Hearers as hearers
use Rattle.node.specs.Hearers.{CoreKind}

-- A kind of node S with a core of this kind, to which I come, whose lists have entries F.
pub record Node (S I F C X E D O : Type 0) : Type 1 where
  pub kind : CoreKind C X E D O
  pub hearer : S → Hearer C  -- what hears in it
  pub arrival : I → Arrival X  -- what an input is to that
  pub coming : F → Coming E SaveOutcome  -- what an entry is to it
  pub met : I → SaveOutcome → F  -- the entry of an input whose save left this
  pub Sends : List F → I → O → Type 0  -- what is answered and sent for an input

-- What the list of such a node says.
abbrev pub words : {S I F C X E D O : Type 0} → Node S I F C X E D O → Words I F D
words n = record {
  is_up = λ past. (hearers.words n.kind).is_up (map n.coming past);
  refusal = λ past e. (hearers.words n.kind).refusal (map n.coming past) (n.arrival e);
  due = λ past e. (hearers.words n.kind).due (map n.coming past) (n.arrival e);
  met = n.met;
  spelled = λ past. (hearers.words n.kind).spelled (map n.coming past);
}

-- The steps of a node whose core hears frames.
abbrev pub steps : {S I F C X E D O : Type 0} → Node S I F C X E D O → Steps S I F D O
steps n = record {
  words = words n;
  note = λ node. n.kind.core.note (n.hearer node).core;
  StandsFor = λ past node. hearers.StandsFor n.kind (map n.coming past) (n.hearer node);
  Sends = n.Sends;
  Stays = λ past e node.
      (hearers.steps n.kind).Stays (map n.coming past) (n.arrival e) (n.hearer node);
}
