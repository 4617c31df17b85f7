-- What a block holds, whatever it has to hold.
use Rattle.std.specs.Prelude.{◌≡◌, ℕ, List, replicate}
use Rattle.recheck.specs.Expected.{Expected}
use Rattle.diagnosis.specs.declared.content.Content.{Content}
use Rattle.diagnosis.specs.declared.content.Content.TheVariants as contents
use Rattle.diagnosis.specs.Held.{HoldsWrite}
use Rattle.diagnosis.specs.Kinds.{IsMixed, unknown_sectors}

-- A block holds one byte over and over; or the whole of a write; or neither, and so many of its
-- sectors hold nothing that is known.
abbrev pub Contains : Expected → List ℕ → Content → Type 0
Contains e bytes (contents.Byte byte) = bytes ≡ replicate e.job.bs byte
Contains e bytes (contents.Whole write) = HoldsWrite e bytes write
Contains e bytes (contents.Mixed sectors) =
    IsMixed e bytes × (unknown_sectors e bytes ≡ sectors)
