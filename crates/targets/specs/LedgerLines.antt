-- The lines of a check by a ledger.
use Rattle.std.specs.Prelude.{ℕ, ◌==◌, List, [], ◌∷◌, ◌++◌, Option, Some, None, codes, decimal, if◌then◌else◌}
use Rattle.std.specs.List.{flat_map}
use Rattle.diagnosis.specs.declared.content.Content.{Content}
use Rattle.diagnosis.specs.declared.content.Content.TheVariants as contents
use Rattle.ledger.specs.declared.entry.RunWrite.{RunWrite}
use Rattle.recheck.specs.Expected.{Expected}
use Rattle.targets.specs.declared.ledger_found.Found.{Found}
use Rattle.targets.specs.declared.ledger_found.Found.TheVariants as founds
use Rattle.targets.specs.MapLines.{kind_word, line_words, write_words}
use Rattle.targets.specs.MapSectors.{sectors_words}

-- A write, and of which run.
abbrev pub run_write_words : RunWrite → List ℕ
run_write_words w = codes "write " ++ (decimal w.seq ++ (codes " of run " ++ decimal w.key.run))

abbrev pub or_run_write_words : RunWrite → List ℕ
or_run_write_words w = codes " or " ++ run_write_words w

-- The writes of which a block has to hold one.
abbrev pub entry_words : List RunWrite → List ℕ
entry_words [] = []
entry_words (w ∷ ws) = run_write_words w ++ flat_map or_run_write_words ws

-- What a block holds: a byte over and over; a write; or, where each sector is known or so many
-- aren't, what its sectors hold.
abbrev pub byte_words : ℕ → List ℕ
byte_words byte =
    if byte == 0 then codes ", holds zeros" else codes ", holds byte " ++ decimal byte

abbrev pub unknown_words : ℕ → List ℕ
unknown_words sectors =
    if sectors == 0 then codes ", torn" else codes ", unknown sectors " ++ decimal sectors

abbrev pub content_words : Expected → List ℕ → Content → List ℕ
content_words e bytes (contents.Byte byte) = byte_words byte
content_words e bytes (contents.Whole write) = write_words write
content_words e bytes (contents.Mixed sectors) = unknown_words sectors ++ sectors_words e bytes

-- The line of a block that was at rest and could not be read.
abbrev pub rest_unread_line : List RunWrite → ℕ → List ℕ
rest_unread_line entry block =
    codes "block " ++ (decimal block ++ (codes " unread: wants "
    ++ (entry_words entry ++ codes "\n")))

-- The line of one that was at rest and is lost.
abbrev pub rest_line : Expected → List RunWrite → ℕ → List ℕ → Content → List ℕ
rest_line e entry block bytes content =
    codes "block " ++ (decimal block ++ (codes " at-rest: wants "
    ++ (entry_words entry ++ (content_words e bytes content ++ codes "\n"))))

-- The bytes of a block, or none where it could not be read: the line of such a one tells of none.
abbrev pub bytes_in : Option (List ℕ) → List ℕ
bytes_in None = []
bytes_in (Some bytes) = bytes

-- The line of a block at which this is found: none where its entry asks for nothing or it holds a
-- write of it; that of a map where the run has completed a write to it; or that of one at rest.
abbrev pub found_line : Expected → List RunWrite → ℕ → Option (List ℕ) → Found → List ℕ
found_line e entry block bytes founds.Unchecked = []
found_line e entry block bytes founds.Sound = []
found_line e entry block bytes (founds.Written told) = line_words e block (bytes_in bytes) told
found_line e entry block bytes founds.RestUnread = rest_unread_line entry block
found_line e entry block bytes (founds.Rest content) =
    rest_line e entry block (bytes_in bytes) content

-- The word by which a block is told.
abbrev pub found_word : Found → List ℕ
found_word founds.Unchecked = codes "unchecked"
found_word founds.Sound = codes "sound"
found_word (founds.Written told) = kind_word told
found_word founds.RestUnread = codes "unread"
found_word (founds.Rest content) = codes "at-rest"
