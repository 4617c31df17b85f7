-- What reading a header tells of the bytes.
use Rattle.std.specs.Prelude.{◌≡◌, ◌+◌, true, false, not, ◌&&◌, Bool, nat_lt, is_none, is_some, List}
use Rattle.std.specs.Prelude.{[], ◌∷◌, ◌++◌, length, slice_get, Option, Some, Result, Ok, Err, ℕ}
use Rattle.fc_base.specs.declared.fault.Fault.{Fault}
use Rattle.fc_base.specs.declared.fault.Fault.TheVariants.{FrameShort, FrameBadMagic, FrameBadField, FrameTooLong, FrameTrailing}
use Rattle.fc_base.specs.Faults.{when}
use Rattle.messages.specs.declared.reading.Header.{Header}
use Rattle.messages.specs.declared.reading.HeaderFields.{HeaderFields}
use Rattle.messages.specs.declared.reading.Ends.{Ends}
use Rattle.messages.specs.Nodes.{node_numbered, is_node}
use Rattle.fc_base.specs.Layouts.{numbers}
use Rattle.messages.specs.Packets.{header, header_at, has_magic, header_faults}

-- The numbers of a header.
abbrev pub fields_list : HeaderFields → List ℕ
fields_list f = f.first ∷ f.second ∷ f.version ∷ f.kind ∷ f.from ∷ f.to ∷ f.len ∷ []

-- The header begins as headers do and says these numbers, or the first fault is this, whatever the
-- others.
abbrev pub FieldsAre : Result HeaderFields Fault → List ℕ → Type 0
FieldsAre (Ok f) bytes = (nat_lt (length bytes) 16 ≡ false) × (has_magic bytes ≡ true)
    × (fields_list f ≡ numbers header bytes)
FieldsAre (Err g) bytes =
    (more : List Fault) → slice_get
    (when (nat_lt (length bytes) 16) FrameShort
    ++ (when (not (has_magic bytes)) FrameBadMagic ++ more)) 0 ≡ Some g

-- The faults of the ends and of the length of a header.
abbrev pub end_faults : ℕ → ℕ → ℕ → ℕ → ℕ → List Fault
end_faults from to size limit len =
    when (is_none (node_numbered from)) FrameBadField
    ++ (when (is_none (node_numbered to)) FrameBadField
    ++ (when (nat_lt limit size) FrameTooLong
    ++ (when (nat_lt len (16 + size)) FrameShort
    ++ when (nat_lt (16 + size) len) FrameTrailing)))

-- There is no fault and the ends are these, or the first fault is this.
abbrev pub EndsAre : Result Ends Fault → List Fault → ℕ → ℕ → Type 0
EndsAre (Ok e) faults from to =
    (faults ≡ []) × (node_numbered from ≡ Some e.from) × (node_numbered to ≡ Some e.to)
EndsAre (Err g) faults from to = slice_get faults 0 ≡ Some g

-- The header of kinds with these numbers has no fault and says this, or its first fault is this.
abbrev pub HeaderIs : {K : Type 0} → (ℕ → Option K) → ℕ → Result (Header K) Fault → List ℕ → Type 0
HeaderIs kind_in limit (Ok h) bytes =
    (header_faults (λ n. is_some (kind_in n)) limit bytes ≡ [])
    × (kind_in (header_at 3 bytes) ≡ Some h.kind)
    × (node_numbered (header_at 4 bytes) ≡ Some h.ends.from)
    × (node_numbered (header_at 5 bytes) ≡ Some h.ends.to)
HeaderIs kind_in limit (Err f) bytes =
    slice_get (header_faults (λ n. is_some (kind_in n)) limit bytes) 0 ≡ Some f

-- Both ends are nodes.
abbrev pub are_nodes : Ends → Bool
are_nodes e = is_node e.from && is_node e.to
