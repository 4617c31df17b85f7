-- How many lines a map has of each kind, with one block more.
use Rattle.std.proofs.Common.{◌≡◌, ◌+◌, ℕ, Bool, true, false, not, ◌&&◌, List, [], ◌∷◌, ◌++◌, length, Option, filter, add-zero, refl, ap, ◌∙◌}
use Rattle.std.specs.Str.{bytes_eq}
use Rattle.std.specs.Prelude.{codes, Some}
use Rattle.std.proofs.lemmas.List.{length-append}
use Rattle.std.proofs.lemmas.List.Elements.{filter-append}
use Rattle.diagnosis.specs.declared.holds.Holds.TheVariants as holds
use Rattle.recheck.specs.Expected.{Expected}
use Rattle.targets.specs.declared.block_verdict.BlockVerdict.{BlockVerdict}
use Rattle.targets.specs.declared.block_verdict.BlockVerdict.TheVariants as tolds
use Rattle.targets.specs.Units.{is_sound_by}
use Rattle.targets.specs.MapKinds.{kinds_by, with_line}
use Rattle.targets.specs.MapLines.{kind_word}
use Rattle.targets.specs.Maps.{Cell, Tells, has_line, is_sound, kinds_of, lines_with}

-- ---- which blocks have a line

-- What is told of a block that has one.
unfoldable pub is_line : BlockVerdict → Bool
is_line tolds.Unchecked = false
is_line tolds.Unread = true
is_line tolds.Sound = false
is_line (tolds.Fault kind) = true

sound_is : (unit : Option ℕ) (e : Expected) (block : ℕ) (bytes : Option (List ℕ)) (told : BlockVerdict) (held : List ℕ) → bytes ≡ Some held
    → is_sound unit e (record { block = block; bytes = bytes; told = told }) ≡ is_sound_by unit e block held
sound_is unit e block bytes told held is = ap (λ (bs : Option (List ℕ)). is_sound unit e (record { block = block; bytes = bs; told = told })) is

pub line_is : (unit : Option ℕ) (e : Expected) (block : ℕ) (bytes : Option (List ℕ)) (told : BlockVerdict) → Tells unit e block bytes told
    → has_line unit e (record { block = block; bytes = bytes; told = told }) ≡ is_line told
unfolding is_line
line_is unit e block bytes tolds.Unchecked tells =
    ap (λ b. b && not (is_sound unit e (record { block = block; bytes = bytes; told = tolds.Unchecked }))) tells
line_is unit e block bytes tolds.Unread (checked, none) =
    ap (λ b. b && not (is_sound unit e (record { block = block; bytes = bytes; told = tolds.Unread }))) checked
    ∙ ap (λ (bs : Option (List ℕ)). not (is_sound unit e (record { block = block; bytes = bs; told = tolds.Unread }))) none
line_is unit e block bytes tolds.Sound (checked, (held, is, expected)) =
    ap (λ b. b && not (is_sound unit e (record { block = block; bytes = bytes; told = tolds.Sound }))) checked
    ∙ ap not (sound_is unit e block bytes tolds.Sound held is ∙ expected)
line_is unit e block bytes (tolds.Fault kind) (checked, (held, is, unexpected, holds)) =
    ap (λ b. b && not (is_sound unit e (record { block = block; bytes = bytes; told = tolds.Fault kind }))) checked
    ∙ ap not (sound_is unit e block bytes (tolds.Fault kind) held is ∙ unexpected)

-- ---- one more

unfoldable pub one_if : Bool → ℕ → ℕ
one_if true n = n + 1
one_if false n = n

one_passes : {X : Type 0} (p : X → Bool) (x : X) (b : Bool) → p x ≡ b → length (filter p (x ∷ [])) ≡ one_if b 0
unfolding one_if
one_passes p x true is = rw (is) refl
one_passes p x false is = rw (is) refl

add_if : (b : Bool) (n : ℕ) → n + one_if b 0 ≡ one_if b n
unfolding one_if
add_if true n = refl
add_if false n = add-zero n

pub length_more : {X : Type 0} (p : X → Bool) (xs : List X) (x : X) (b : Bool) → p x ≡ b → length (filter p (xs ++ x ∷ [])) ≡ one_if b (length (filter p xs))
length_more p xs x b is =
    ap length (filter-append p xs (x ∷ [])) ∙ length-append (filter p xs) (filter p (x ∷ []))
    ∙ ap (λ n. length (filter p xs) + n) (one_passes p x b is) ∙ add_if b (length (filter p xs))

-- Sums that are the same by each word are the same.
pub kinds_alike : (f g : List ℕ → ℕ) → ((word : List ℕ) → f word ≡ g word) → kinds_by f ≡ kinds_by g
kinds_alike f g same =
    rw (same (codes "unwritten")) (rw (same (codes "filled")) (rw (same (codes "lost")) (rw (same (codes "unissued")) (rw (same (codes "other-run"))
    (rw (same (codes "misdirected")) (rw (same (codes "torn")) (rw (same (codes "corrupt")) (rw (same (codes "unread")) refl))))))))

-- One block more adds to the sum of its word.
told_more : (f : List ℕ → ℕ) (told : BlockVerdict) → kinds_by (λ word. one_if (is_line told && bytes_eq (kind_word told) word) (f word)) ≡ with_line (kinds_by f) told
unfolding one_if is_line
told_more f tolds.Unchecked = refl
told_more f tolds.Unread = refl
told_more f tolds.Sound = refl
told_more f (tolds.Fault holds.Sound) = refl
told_more f (tolds.Fault holds.Unwritten) = refl
told_more f (tolds.Fault (holds.Filled byte)) = refl
told_more f (tolds.Fault (holds.Lost k)) = refl
told_more f (tolds.Fault (holds.Unissued k)) = refl
told_more f (tolds.Fault (holds.OtherRun write)) = refl
told_more f (tolds.Fault (holds.Misdirected write)) = refl
told_more f (tolds.Fault holds.Torn) = refl
told_more f (tolds.Fault (holds.Corrupt sectors)) = refl

pub kinds_more : (unit : Option ℕ) (e : Expected) (cells : List Cell) (block : ℕ) (bytes : Option (List ℕ)) (told : BlockVerdict) → Tells unit e block bytes told
    → kinds_of unit e (cells ++ record { block = block; bytes = bytes; told = told } ∷ []) ≡ with_line (kinds_of unit e cells) told
kinds_more unit e cells block bytes told tells =
    let cell : Cell = record { block = block; bytes = bytes; told = told } in
    kinds_alike (lines_with unit e (cells ++ cell ∷ [])) (λ word. one_if (is_line told && bytes_eq (kind_word told) word) (lines_with unit e cells word))
    (λ word. length_more (λ (c : Cell). has_line unit e c && bytes_eq (kind_word c.told) word) cells cell (is_line told && bytes_eq (kind_word told) word)
    (ap (λ b. b && bytes_eq (kind_word told) word) (line_is unit e block bytes told tells)))
    ∙ told_more (lines_with unit e cells) told
