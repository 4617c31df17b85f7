-- The numbers that values spell.
use Rattle.std.specs.Prelude.{ℕ, ◌+◌, ◌*◌, ◌^◌, Bool, ◌&&◌, ◌||◌, nat_lt, List, length, take, drop, Option, Some, None, option_and_then, codes, if◌then◌else◌}
use Rattle.std.specs.List.{list_all, prefix_len}
use Rattle.std.specs.Char.{is_digit, digit_value, is_ascii_digit}
use Rattle.std.specs.Str.{str_eq_ignore_ascii_case}
use Rattle.std.specs.Str.Parse.{digits_value}

-- A number, if 64 bits hold it.
abbrev pub fitting : ℕ → Option ℕ
fitting n = if nat_lt n (2 ^ 64) then Some n else None

-- A number with one more digit behind it, in a base.
abbrev pub with_digit : ℕ → ℕ → ℕ → Option ℕ
with_digit n radix c = if is_digit c radix then fitting (n * radix + digit_value c) else None

-- The value of one digit or more in a base.
abbrev pub numeral : ℕ → List ℕ → Option ℕ
numeral radix digits =
    if nat_lt 0 (length digits) && list_all (λ c. is_digit c radix) digits
    then fitting (digits_value radix digits) else None

-- The suffix is one of two words, in any case of its letters.
abbrev pub is_either : List ℕ → List ℕ → List ℕ → Bool
is_either suffix short long =
    str_eq_ignore_ascii_case suffix short || str_eq_ignore_ascii_case suffix long

-- What k, m and g stand for, which may have a `b` behind them; a `b` alone changes nothing.
abbrev pub unit_of : List ℕ → Option ℕ
unit_of suffix =
    if is_either suffix (codes "") (codes "b") then Some 1 else (
    if is_either suffix (codes "k") (codes "kb") then Some 1024 else (
    if is_either suffix (codes "m") (codes "mb") then Some (1024 * 1024) else (
    if is_either suffix (codes "g") (codes "gb") then Some (1024 * 1024 * 1024) else None)))

-- Decimal digits, and behind them a suffix that multiplies.
abbrev pub decimal : List ℕ → Option ℕ
decimal value =
    let digits = prefix_len is_ascii_digit value in
    option_and_then (λ n. option_and_then (λ unit. fitting (n * unit))
    (unit_of (drop digits value))) (numeral 10 (take digits value))

-- The value begins with `0x` or `0X`.
abbrev pub is_hexadecimal : List ℕ → Bool
is_hexadecimal value = str_eq_ignore_ascii_case (take 2 value) (codes "0x")

-- The number that a value spells, if it spells one that 64 bits hold.
abbrev pub number_of : List ℕ → Option ℕ
number_of value = if is_hexadecimal value then numeral 16 (drop 2 value) else decimal value
