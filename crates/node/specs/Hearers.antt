-- A core over packets hears frames: what it makes of what comes, for which lists it stands then, and
-- how its steps end. Lists are newest first.
use Rattle.std.specs.Prelude.{◌≡◌, Bool, true, false, not, ◌&&◌, List, ◌∷◌, Option, Some, None, Result, Ok, Err}
use Rattle.fc_base.specs.declared.fault.Fault.{Fault}
use Rattle.fc_base.specs.declared.fault.Fault.TheVariants.{Down, Misdirected, FrameBadField, NoMemory}
use Rattle.disk_model.specs.declared.save_outcome.SaveOutcome.{SaveOutcome}
use Rattle.disk_model.specs.SaveOutcome.{is_lost}
use Rattle.node.specs.Steps.{Words, Steps, Ends}
use Rattle.messages.specs.declared.packet.PacketParts.{PacketParts}
use Rattle.messages.specs.declared.piece.PieceParts.{PieceParts}
use Rattle.messages.specs.declared.frame.Frame.TheVariants.{Piece}
use Rattle.messages.specs.Assemblies.{Row}
use Rattle.messages.specs.Laws.{IsPacket}
use Rattle.messages.specs.Hearing.{Rules, Heard, Coming, heard}
use Rattle.messages.specs.Senses as senses
use Rattle.messages.specs.Senses.{Arrival, Framed, coming, Sense, Hears, Keeps, Drops, Misses, is_drop, refusal_of_sense, heard_or, HearsInRange}
use Rattle.node.specs.declared.hearer.Hearer.{Hearer}

-- A kind of core over packets, of cores C to which X come, whose lists have entries E, which add D
-- to their notes, and answer O: what has to be known of it, so that it hears frames.
pub record CoreKind (C X E D O : Type 0) : Type 1 where
  pub core : Steps C X E D O  -- its steps
  pub delivers : PacketParts → X  -- a packet, as it comes to it
  pub is_for : PieceParts → Bool  -- the piece is for it
  pub ends : E → Bool  -- a cut or a restart
  pub nothing : O  -- what is answered of a piece that is kept
  pub IsInRange : X → Type 0  -- what comes is within its ranges

-- What comes to such a core never ends what has come together; it is on behind what comes where it
-- was, and no save was lost; what is refused leaves it as it was; and each packet is within the
-- ranges.
pub record Laws {C X E D O : Type 0} (k : CoreKind C X E D O) : Type 0 where
  pub goes_on : (x : X) (left : SaveOutcome) → k.ends (k.core.words.met x left) ≡ false
  pub on_behind : (past : List E) (x : X) (left : SaveOutcome)
      → k.core.words.is_up (k.core.words.met x left ∷ past)
      ≡ (k.core.words.is_up past && not (is_lost left))
  pub stays : (past : List E) (x : X) (core : C)
      → k.core.Stays past x core → k.core.StandsFor past core
  pub in_range : (p : PacketParts) → IsPacket p → k.IsInRange (k.delivers p)

-- The rules by which a core of this kind hears frames.
abbrev pub rules_of : {C X E D O : Type 0} → CoreKind C X E D O → Rules X E SaveOutcome
rules_of k = record {
  delivers = k.delivers;
  met = k.core.words.met;
  refusal = k.core.words.refusal;
  is_on = k.core.words.is_up;
  is_for = k.is_for;
  ends = k.ends;
}

-- What a core of this kind has heard.
abbrev pub heard_at : {C X E D O : Type 0} → CoreKind C X E D O → List (Coming E SaveOutcome) → Heard E
heard_at k past = heard (rules_of k) past

-- The entries of the packets that a core of this kind has heard.
abbrev pub entries : {C X E D O : Type 0} → CoreKind C X E D O → List (Coming E SaveOutcome) → List E
entries k past = (heard_at k past).entries

-- What has come together of pieces.
abbrev pub rows : {C X E D O : Type 0} → CoreKind C X E D O → List (Coming E SaveOutcome) → List Row
rows k past = (heard_at k past).rows

-- What an arrival is to a core of this kind, behind what came before.
abbrev pub sense : {C X E D O : Type 0} → CoreKind C X E D O → List (Coming E SaveOutcome) → Arrival X
    → Sense X
sense k past a = senses.sense (rules_of k) (heard_at k past) a

-- A hearer stands for what its core stands for, by the packets that are heard, and, while it is on,
-- keeps what has come together of pieces.
pub record StandsFor {C X E D O : Type 0} (k : CoreKind C X E D O) (past : List (Coming E SaveOutcome))
    (hearer : Hearer C) : Type 0 where
  pub core : k.core.StandsFor (entries k past) hearer.core
  pub pieces : k.core.words.is_up (entries k past) ≡ true → hearer.pieces ≡ rows k past

-- What is answered and sent is what the core answers to what is heard, and nothing for a piece that
-- is kept; the others aren't answered.
abbrev pub Sends : {C X E D O : Type 0} → CoreKind C X E D O → List E → Sense X → O → Type 0
Sends k past (Hears x) outs = k.core.Sends past x outs
Sends k past Keeps outs = outs ≡ k.nothing
Sends k past Drops outs = ⊥
Sends k past Misses outs = ⊥

-- What its list says: what is due is due to what is heard.
abbrev pub words : {C X E D O : Type 0} → CoreKind C X E D O → Words (Arrival X) (Coming E SaveOutcome) D
words k = record {
  is_up = λ past. k.core.words.is_up (entries k past);
  refusal = λ past a. refusal_of_sense (rules_of k) (entries k past) (sense k past a);
  due = λ past a. heard_or None (k.core.words.due (entries k past)) (sense k past a);
  met = coming k.core.words.met;
  spelled = λ past. k.core.words.spelled (entries k past);
}

-- The steps of a hearer: what is refused leaves it as it was, but where it drops a tag: that alone
-- changes.
abbrev pub steps : {C X E D O : Type 0} → CoreKind C X E D O
    → Steps (Hearer C) (Arrival X) (Coming E SaveOutcome) D O
steps k = record {
  words = words k;
  note = λ hearer. k.core.note hearer.core;
  StandsFor = λ past hearer. StandsFor k past hearer;
  Sends = λ past a outs. Sends k (entries k past) (sense k past a) outs;
  Stays = λ past a hearer. is_drop (sense k past a) ≡ false → StandsFor k past hearer;
}

-- How what comes is accepted: as these steps end; and what is heard is within its ranges, unless memory
-- ran out before it was known.
abbrev pub Accepts : {C X E D O : Type 0} → CoreKind C X E D O → List (Coming E SaveOutcome) → Arrival X
    → Hearer C → Hearer C → Result O Fault → Type 0
Accepts k past a old new result =
    Ends (steps k) past a old new result × HearsInRange k.IsInRange (sense k past a) result

-- The packet that a piece gives; that it gives none yet; or why it is refused, where memory didn't
-- run out.
abbrev pub IsSensed : {C X E D O : Type 0} → CoreKind C X E D O → List (Coming E SaveOutcome) → PieceParts
    → Result (Option PacketParts) Fault → Type 0
IsSensed k past q (Ok (Some p)) = sense k past (Framed (Piece q)) ≡ Hears (k.delivers p)
IsSensed k past q (Ok None) = sense k past (Framed (Piece q)) ≡ Keeps
IsSensed k past q (Err NoMemory) = Unit {0}
IsSensed k past q (Err FrameBadField) = sense k past (Framed (Piece q)) ≡ Drops
IsSensed k past q (Err Misdirected) =
    (sense k past (Framed (Piece q)) ≡ Misses) × (k.core.words.is_up (entries k past) ≡ true)
IsSensed k past q (Err Down) =
    (sense k past (Framed (Piece q)) ≡ Misses) × (k.core.words.is_up (entries k past) ≡ false)
IsSensed k past q (Err _) = ⊥
