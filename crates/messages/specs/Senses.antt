-- What comes is to a node that hears packets in frames, and what is answered of it by that.
use Rattle.std.specs.Prelude.{Bool, true, false, if◌then◌else◌, List, Option, Some, None, Result, Ok, Err}
use Rattle.fc_base.specs.declared.fault.Fault.{Fault}
use Rattle.fc_base.specs.declared.fault.Fault.TheVariants.{Down, Misdirected, FrameBadField}
use Rattle.fc_base.specs.declared.fault.FaultSort.{FaultSort}
use Rattle.fc_base.specs.declared.fault.FaultSort.TheVariants as sorts
use Rattle.fc_base.specs.Fault.{sort_of}
use Rattle.messages.specs.declared.packet.PacketParts.{PacketParts}
use Rattle.messages.specs.declared.frame.Frame.{Frame}
use Rattle.messages.specs.Hearing.{Rules, Heard, Coming, Comes, Happens, Meaning, Says, Waits, Spoils, Strays, meaning}

-- What comes to a node: a frame of the network, or what is heard as it is.
pub data Arrival (X : Type 0) : Type 0 where
  Framed : Frame → Arrival X
  Unframed : X → Arrival X

-- What happens to the node with it, where its save left this.
abbrev pub coming : {X E L : Type 0} → (X → L → E) → Arrival X → L → Coming E L
coming met (Framed f) left = Comes f left
coming met (Unframed x) left = Happens (met x left)

-- What comes is, to a node that hears X: an X; a piece that is kept, and gives nothing yet; one
-- whose tag is dropped, since the bytes aren't its packet; or a piece that isn't for the node.
pub data Sense (X : Type 0) : Type 0 where
  Hears : X → Sense X
  Keeps : Sense X
  Drops : Sense X
  Misses : Sense X

-- What a frame is, by what it says.
abbrev pub sense_of : {X : Type 0} → (PacketParts → X) → Meaning → Sense X
sense_of delivers (Says p) = Hears (delivers p)
sense_of delivers Waits = Keeps
sense_of delivers Spoils = Drops
sense_of delivers Strays = Misses

-- What comes is to a node that has heard this.
abbrev pub sense : {X E L : Type 0} → Rules X E L → Heard E → Arrival X → Sense X
sense r h (Framed f) = sense_of r.delivers (meaning r h f)
sense r h (Unframed x) = Hears x

-- A tag is dropped.
abbrev pub is_drop : {X : Type 0} → Sense X → Bool
is_drop (Hears x) = false
is_drop Keeps = false
is_drop Drops = true
is_drop Misses = false

-- A piece that isn't for this node is misdirected, unless the node is down; where the bytes aren't
-- their tag's packet a field is bad; and what is heard is refused by the node's own rule.
abbrev pub refusal_of_sense : {X E L : Type 0} → Rules X E L → List E → Sense X → Option Fault
refusal_of_sense r past (Hears x) = r.refusal past x
refusal_of_sense r past Keeps = None
refusal_of_sense r past Drops = Some FrameBadField
refusal_of_sense r past Misses = if r.is_on past then Some Misdirected else Some Down

-- What is heard gives what it gives by itself, and all else gives this.
abbrev pub heard_or : {X Y : Type 0} → Y → (X → Y) → Sense X → Y
heard_or other gives (Hears x) = gives x
heard_or other gives Keeps = other
heard_or other gives Drops = other
heard_or other gives Misses = other

-- What is heard is within its ranges.
abbrev pub SenseInRange : {X : Type 0} → (X → Type 0) → Sense X → Type 0
SenseInRange IsInRange (Hears x) = IsInRange x
SenseInRange IsInRange Keeps = Unit {0}
SenseInRange IsInRange Drops = Unit {0}
SenseInRange IsInRange Misses = Unit {0}

-- What is heard is within its ranges, but where memory ran out before it was known what comes.
abbrev pub UnlessMemory : {X : Type 0} → (X → Type 0) → FaultSort → Sense X → Type 0
UnlessMemory IsInRange sorts.Memory s = Unit {0}
UnlessMemory IsInRange sorts.Save s = SenseInRange IsInRange s
UnlessMemory IsInRange sorts.Refusal s = SenseInRange IsInRange s

-- What is heard is within its ranges, unless memory ran out.
abbrev pub HearsInRange : {X Y : Type 0} → (X → Type 0) → Sense X → Result Y Fault → Type 0
HearsInRange IsInRange s (Ok y) = SenseInRange IsInRange s
HearsInRange IsInRange s (Err fault) = UnlessMemory IsInRange (sort_of fault) s
