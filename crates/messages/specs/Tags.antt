-- The test that tags are the same.
use Rattle.std.specs.Prelude.{Bool, ◌==◌, ◌&&◌}
use Rattle.messages.specs.declared.piece.Tag.{Tag}
use Rattle.messages.specs.Kinds.{number_of}

-- Two tags are the same.
abbrev pub is_tag : Tag → Tag → Bool
is_tag a b = (number_of a.whole == number_of b.whole) && (a.run == b.run) &&
    (a.number == b.number) && (a.server == b.server) && (a.job == b.job) && (a.length == b.length)
