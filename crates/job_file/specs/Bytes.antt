-- The bytes of a job file.
use Rattle.std.specs.Prelude.{ℕ, ◌-◌, Bool, ◌&&◌, ◌||◌, ◌==◌, nat_le, List, length, take, drop}
use Rattle.std.specs.List.{prefix_len, suffix_len}

-- Tab, line feed, carriage return, and printable ASCII.
abbrev pub is_text_byte : ℕ → Bool
is_text_byte b = b == 9 || b == 10 || b == 13 || (nat_le 32 b && nat_le b 126)

-- A byte is a space or a tab.
abbrev pub is_blank : ℕ → Bool
is_blank b = b == 32 || b == 9

-- The bytes from the first on that is no blank.
abbrev pub without_front : List ℕ → List ℕ
without_front bs = drop (prefix_len is_blank bs) bs

-- The bytes up to the last that is no blank.
abbrev pub without_end : List ℕ → List ℕ
without_end bs = take (length bs - suffix_len is_blank bs) bs

-- The bytes without the blanks at both ends.
abbrev pub trimmed : List ℕ → List ℕ
trimmed bs = without_end (without_front bs)
