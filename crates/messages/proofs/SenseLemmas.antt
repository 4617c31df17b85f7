-- What is heard of what comes, and what it leaves together, by what it is to the node.
use Rattle.std.proofs.Common.{◌≡◌, refl, sym, ◌∙◌, ap, subst, Bool, true, false, ◌&&◌, List, [], Option, Some, None, Result, Ok, Err}
use Rattle.std.specs.Prelude.{if◌then◌else◌, is_some}
use Rattle.fc_base.specs.declared.fault.Fault.{Fault}
use Rattle.fc_base.specs.declared.fault.FaultSort.{FaultSort}
use Rattle.fc_base.specs.declared.fault.FaultSort.TheVariants as sorts
use Rattle.fc_base.specs.Fault.{sort_of}
use Rattle.messages.specs.declared.piece.PieceParts.{PieceParts}
use Rattle.messages.specs.declared.frame.Frame.TheVariants.{Whole, Piece}
use Rattle.messages.specs.Assemblies as looks
use Rattle.messages.specs.Assemblies.{Row, Look, Gives, look_at_piece, rows_after_piece, without_tag}
use Rattle.messages.specs.Hearing.{Rules, Heard, Meaning, Says, Waits, Spoils, Strays, said_by, meaning, heard_by, entry_of, rows_by, rows_of, with_entry}
use Rattle.messages.specs.Senses.{Arrival, Framed, Unframed, coming, Sense, Hears, Keeps, Drops, Misses, sense_of, sense, is_drop, refusal_of_sense, heard_or}
use Rattle.messages.specs.Senses.{SenseInRange, UnlessMemory, HearsInRange}
use Rattle.messages.proofs.HearingLemmas.{given_gone, spoiled_gone, refused_piece}

-- ---- the entry that is heard

-- The entry, by what comes is.
abbrev pub entry_by : {X E L : Type 0} → Rules X E L → L → Sense X → Option E
entry_by r left s = heard_or None (λ x. Some (r.met x left)) s

said_entry : {X E L : Type 0} (r : Rules X E L) (left : L) (m : Meaning) → heard_by r left m ≡ entry_by r left (sense_of r.delivers m)
said_entry r left (Says p) = refl
said_entry r left Waits = refl
said_entry r left Spoils = refl
said_entry r left Strays = refl

pub entry_is : {X E L : Type 0} (r : Rules X E L) (h : Heard E) (e : Arrival X) (left : L) → entry_of r h (coming r.met e left) ≡ entry_by r left (sense r h e)
entry_is r h (Framed f) left = said_entry r left (meaning r h f)
entry_is r h (Unframed x) left = refl

-- The entries behind what comes.
pub entries_are : {X E L : Type 0} (r : Rules X E L) (h : Heard E) (e : Arrival X) (left : L) (s : Sense X) → sense r h e ≡ s
    → with_entry (entry_of r h (coming r.met e left)) h.entries ≡ with_entry (entry_by r left s) h.entries
entries_are r h e left s is = ap (λ y. with_entry y h.entries) (entry_is r h e left ∙ ap (entry_by r left) is)

-- ---- what has come together

-- What has come together behind what comes.
abbrev pub rows_after : {X E L : Type 0} → Rules X E L → Heard E → Arrival X → L → List Row
rows_after r h e left = rows_of r h (coming r.met e left)

-- Nothing that is heard ends what has come together.
abbrev pub NeverEnds : {X E L : Type 0} → Rules X E L → Type 0
NeverEnds {X} {E} {L} r = (x : X) (left : L) → r.ends (r.met x left) ≡ false

-- The save doesn't matter for it.
pub same_rows : {X E L : Type 0} (r : Rules X E L) (h : Heard E) (e : Arrival X) (one other : L) → NeverEnds r → rows_after r h e one ≡ rows_after r h e other
same_rows r h (Framed (Whole p)) one other never = refl
same_rows r h (Framed (Piece q)) one other never = refl
same_rows r h (Unframed x) one other never = ap (λ (b : Bool). if b then [] else h.rows) (never x one ∙ sym (never x other))

-- What a piece that says nothing leaves together.
abbrev pub IsTaken : {X : Type 0} → PieceParts → List Row → List Row → Sense X → Type 0
IsTaken q old new (Hears x) = Unit {0}
IsTaken q old new Keeps = new ≡ rows_after_piece old q
IsTaken q old new Drops = new ≡ rows_after_piece old q
IsTaken q old new Misses = new ≡ old

said_taken : {X E L : Type 0} (r : Rules X E L) (h : Heard E) (q : PieceParts) (m : Meaning)
    → IsTaken q h.rows (rows_by r h q m) (sense_of r.delivers m)
said_taken r h q (Says p) = tt
said_taken r h q Waits = refl
said_taken r h q Spoils = refl
said_taken r h q Strays = refl

pub taken_by : {X E L : Type 0} (r : Rules X E L) (h : Heard E) (q : PieceParts) (left : L) (s : Sense X) → sense r h (Framed (Piece q)) ≡ s
    → IsTaken q h.rows (rows_after r h (Framed (Piece q)) left) s
taken_by r h q left s is = subst (IsTaken q h.rows (rows_by r h q (meaning r h (Piece q)))) is (said_taken r h q (meaning r h (Piece q)))

-- What is refused and drops no tag leaves what has come together.
said_refused : {X E L : Type 0} (r : Rules X E L) (h : Heard E) (q : PieceParts) (m : Meaning) (fault : Fault)
    → refusal_of_sense r h.entries (sense_of r.delivers m) ≡ Some fault → is_drop (sense_of r.delivers m) ≡ false → rows_by r h q m ≡ h.rows
said_refused r h q (Says p) fault why d = refused_piece h.rows q (r.refusal h.entries (r.delivers p)) fault why
said_refused r h q Waits fault why d = absurd cc
said_refused r h q Spoils fault why d = absurd cc
said_refused r h q Strays fault why d = refl

pub refused_rows : {X E L : Type 0} (r : Rules X E L) (h : Heard E) (e : Arrival X) (left : L) (fault : Fault) → NeverEnds r
    → refusal_of_sense r h.entries (sense r h e) ≡ Some fault → is_drop (sense r h e) ≡ false → rows_after r h e left ≡ h.rows
refused_rows r h (Framed (Whole p)) left fault never why d = refl
refused_rows r h (Framed (Piece q)) left fault never why d = said_refused r h q (meaning r h (Piece q)) fault why d
refused_rows r h (Unframed x) left fault never why d = ap (λ (b : Bool). if b then [] else h.rows) (never x left)

-- ---- a piece, by what looking at it gives

-- A piece that is for a node that is on.
pub piece_sense : {X E L : Type 0} (r : Rules X E L) (h : Heard E) (q : PieceParts) (l : Look) → r.is_on h.entries ≡ true → r.is_for q ≡ true
    → look_at_piece h.rows q ≡ l → sense r h (Framed (Piece q)) ≡ sense_of r.delivers (said_by l)
piece_sense r h q l on mine is =
    ap (λ (b : Bool). sense_of r.delivers (if b && r.is_for q then said_by (look_at_piece h.rows q) else Strays)) on
    ∙ ap (λ (b : Bool). sense_of r.delivers (if b then said_by (look_at_piece h.rows q) else Strays)) mine
    ∙ ap (λ (x : Look). sense_of r.delivers (said_by x)) is

same_heard : {X : Type 0} (a b : X) → Hears a ≡ Hears b → a ≡ b
same_heard a b e = ap (λ s. heard_or a (λ x. x) s) e

given_by : {X E L : Type 0} (r : Rules X E L) (h : Heard E) (q : PieceParts) (x : X) → r.refusal h.entries x ≡ None
    → (takes : Bool) (l : Look) → look_at_piece h.rows q ≡ l → sense_of r.delivers (if takes then said_by l else Strays) ≡ Hears x
    → rows_by r h q (if takes then said_by l else Strays) ≡ without_tag q.tag h.rows
given_by r h q x free true (Gives p) is e =
    ap (λ (y : Option Fault). if is_some y then h.rows else rows_after_piece h.rows q) (ap (r.refusal h.entries) (same_heard (r.delivers p) x e) ∙ free)
    ∙ given_gone h.rows q p is
given_by r h q x free true looks.Waits is e = absurd cc
given_by r h q x free true looks.NoPacket is e = absurd cc
given_by r h q x free false l is e = absurd cc

-- A piece whose packet is answered takes its tag out.
pub given_rows : {X E L : Type 0} (r : Rules X E L) (h : Heard E) (q : PieceParts) (x : X) (left : L) → sense r h (Framed (Piece q)) ≡ Hears x
    → r.refusal h.entries x ≡ None → rows_after r h (Framed (Piece q)) left ≡ without_tag q.tag h.rows
given_rows r h q x left is free = given_by r h q x free (r.is_on h.entries && r.is_for q) (look_at_piece h.rows q) refl is

dropped_by : {X E L : Type 0} (r : Rules X E L) (h : Heard E) (q : PieceParts) (takes : Bool) (l : Look) → look_at_piece h.rows q ≡ l
    → sense_of r.delivers (if takes then said_by l else Strays) ≡ Drops → rows_by r h q (if takes then said_by l else Strays) ≡ without_tag q.tag h.rows
dropped_by r h q true looks.NoPacket is e = spoiled_gone h.rows q is
dropped_by r h q true looks.Waits is e = absurd cc
dropped_by r h q true (Gives p) is e = absurd cc
dropped_by r h q false l is e = absurd cc

-- So does one that spoils it.
pub dropped_rows : {X E L : Type 0} (r : Rules X E L) (h : Heard E) (q : PieceParts) (left : L) → sense r h (Framed (Piece q)) ≡ Drops
    → rows_after r h (Framed (Piece q)) left ≡ without_tag q.tag h.rows
dropped_rows r h q left is = dropped_by r h q (r.is_on h.entries && r.is_for q) (look_at_piece h.rows q) refl is

-- ---- ranges

by_sort : {X : Type 0} (IsInRange : X → Type 0) (sort : FaultSort) (s : Sense X) → SenseInRange IsInRange s → UnlessMemory IsInRange sort s
by_sort IsInRange sorts.Memory s h = tt
by_sort IsInRange sorts.Save s h = h
by_sort IsInRange sorts.Refusal s h = h

pub hears_in_range : {X Y : Type 0} (IsInRange : X → Type 0) (s : Sense X) (result : Result Y Fault) → SenseInRange IsInRange s
    → HearsInRange IsInRange s result
hears_in_range IsInRange s (Ok y) h = h
hears_in_range IsInRange s (Err fault) h = by_sort IsInRange (sort_of fault) s h
