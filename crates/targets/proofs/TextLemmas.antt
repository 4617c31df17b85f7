-- A text that comes behind its length, part by part.
use Rattle.std.proofs.Common.{◌≡◌, ◌<◌, ◌+◌, ◌^◌, ℕ, List, ◌++◌, length, min, get_or, take, Option, Some, None, Err, append-nil, sym, ap, ◌∙◌, subst, inr, arith}
use Rattle.std.specs.Int.{w32, from_be_bytes}
use Rattle.std.specs.Io.KnownBytes.{Consumes, IsAtEnd}
use Rattle.std.proofs.KnownBytes.{Consumes-trans}
use Rattle.std.proofs.lemmas.Nat.{be_bytes_4}
use Rattle.std.proofs.lemmas.List.{take_all, length-take-le}
use Rattle.fc_base.specs.Layouts.{bytes_of, number_in}
use Rattle.fc_base.specs.declared.fault.Fault.{Fault}
use Rattle.fc_base.specs.declared.fault.Fault.TheVariants as faults
use Rattle.program_io.specs.Input.{IsRead}
use Rattle.targets.specs.Texts.{IsText, HasNoText, FillsAll}

-- A buffer that is filled holds what was read.
pub filled : (old new : Option (List ℕ)) (buffer : List ℕ) (count : ℕ) → count ≡ length buffer → IsRead (length buffer) old new (take count buffer)
    → Consumes old new buffer
filled old new buffer count is read = subst (Consumes old new) (take_all count buffer (omega (arith, is))) read.taken

-- One that isn't holds all that there was.
pub not_filled : (old new : Option (List ℕ)) (buffer : List ℕ) (count : ℕ) → count < length buffer → IsRead (length buffer) old new (take count buffer)
    → (bytes : List ℕ) × Consumes old new bytes × (length bytes < length buffer) × IsAtEnd new
not_filled old new buffer count less read =
    let is : length (take count buffer) ≡ count = length-take-le count buffer (omega (arith, less)) in
    (take count buffer, read.taken, omega (arith, is, less), read.whole (omega (arith, is, less)))

-- The bytes of a length.
pub length_bytes : (bytes : List ℕ) (n : ℕ) → ((i : ℕ) → get_or bytes i 0 < 256) → length bytes ≡ 4 → n ≡ number_in w32 bytes → bytes ≡ bytes_of w32 n
unfolding bytes_of number_in
length_bytes bytes n h len is = sym (be_bytes_4 bytes n len h (is ∙ ap (from_be_bytes w32) (take_all 4 bytes (omega (arith, len)))))

-- A text behind its length.
pub is_text : (most n : ℕ) (old mid new : Option (List ℕ)) (told text : List ℕ) → Consumes old mid told → told ≡ bytes_of w32 n → Consumes mid new text
    → length text ≡ min n (most + 1) → n < 2 ^ 32
    → IsText most old new text
is_text most n old mid new told text first is second len fits = record {
  told = n;
  fits = fits;
  bytes = Consumes-trans old mid new (bytes_of w32 n) text (subst (Consumes old mid) is first) second;
  is = len;
}

-- What was all that there was.
all_that : (input : List ℕ) (new : Option (List ℕ)) (bytes : List ℕ) → Consumes (Some input) new bytes → IsAtEnd new → input ≡ bytes
all_that input None bytes read end = absurd read
all_that input (Some rest) bytes read end = read ∙ ap (λ l. bytes ++ l) end ∙ append-nil bytes

-- Nor where the text isn't.
pub no_text : (most n : ℕ) (old mid new : Option (List ℕ)) (told buffer : List ℕ) (fault : Fault) → Consumes old mid told → told ≡ bytes_of w32 n
    → length buffer ≡ min n (most + 1) → n < 2 ^ 32
    → FillsAll mid new buffer (Err fault) → HasNoText most old fault
no_text most n None mid new told buffer faults.EndOfInput first is len fits why = tt
no_text most n (Some input) mid new told buffer faults.EndOfInput first is len fits (bytes, read, short, end) =
    let all : input ≡ told ++ bytes = all_that input new (told ++ bytes) (Consumes-trans (Some input) mid new told bytes first read) end in
    inr (n, bytes, fits, all ∙ ap (λ l. l ++ bytes) is, subst (λ k. length bytes < k) len short)
no_text most n old mid new told buffer faults.ReadError first is len fits why = tt
no_text most n old mid new told buffer _ first is len fits why = absurd why
