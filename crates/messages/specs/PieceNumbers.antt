-- What reading the numbers of a piece tells of the bytes.
use Rattle.std.specs.Prelude.{ℕ, if◌then◌else◌, List, [], ◌∷◌, Option, Some, None}
use Rattle.std.specs.Option.{option_and_then}
use Rattle.messages.specs.declared.kind.PacketKind.{PacketKind}
use Rattle.messages.specs.declared.piece.Tag.{Tag}
use Rattle.messages.specs.declared.reading.frames.PieceFields.{PieceFields}
use Rattle.messages.specs.Kinds.{kind_numbered}
use Rattle.messages.specs.PieceRanges.{is_tag_in_range}

-- The numbers of a piece.
abbrev pub fields_numbers : PieceFields → List ℕ
fields_numbers f = f.whole ∷ f.run ∷ f.number ∷ f.server ∷ f.job ∷ f.length ∷ f.at ∷ []

-- The tag that the numbers say, where it is in its ranges.
abbrev pub tag_with : PieceFields → PacketKind → Tag
tag_with f whole = record {
  whole = whole;
  run = f.run;
  number = f.number;
  server = f.server;
  job = f.job;
  length = f.length;
}

-- A tag, if it is within its ranges.
abbrev pub tag_in_range : Tag → Option Tag
tag_in_range t = if is_tag_in_range t then Some t else None

-- The tag that the numbers of a piece say, if its kind is one and it is within its ranges.
abbrev pub tag_said : PieceFields → Option Tag
tag_said f = option_and_then (λ whole. tag_in_range (tag_with f whole)) (kind_numbered f.whole)
