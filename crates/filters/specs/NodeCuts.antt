-- What is left of a node, whichever it is, whose filter is cut at any byte of its answers: in each the
-- save comes first. `note` gives its note at some moment.
use Rattle.std.specs.Prelude.{◌≡◌, ◌⊎◌, ◌<◌, ℕ, List, ◌++◌, length}
use Rattle.filters.specs.declared.kinds.OutRecordKind.TheVariants.{Save}
use Rattle.filters.specs.Kinds.{said_number}
use Rattle.filters.specs.Records.{record_bytes}

-- The bytes of a save.
abbrev pub saved : List ℕ → List ℕ
saved note = record_bytes (said_number Save) note

-- The note is as it was, or all of its save is in these bytes.
abbrev pub HasSaved : {S : Type 0} → (S → List ℕ) → S → S → List ℕ → Type 0
HasSaved note before after part =
    (note after ≡ note before) ⊎ ((more : List ℕ) × (part ≡ saved (note after) ++ more))

-- Of an answer only a part is there. Where that has the save, if there is one, the node is as behind
-- the record: what was sent counts as sent, and what is cut off as lost. Else just a part of the save
-- is there, and it is as if the record had not come.
abbrev pub CutsAnswer : {S : Type 0} → (S → List ℕ) → S → S → List ℕ → S → Type 0
CutsAnswer note before after part left =
    ((left ≡ after) × HasSaved note before after part)
    ⊎ ((left ≡ before)
    × ((more : List ℕ) × (saved (note after) ≡ part ++ more) × (0 < length more)))
