-- Blocks that a map passes over.
use Rattle.std.proofs.Common.{◌≡◌, ℕ, Bool, true, false, not, ◌&&◌, List, [], ◌∷◌, ◌++◌, length, map, filter, Option, Some, None, IfSome, refl, sym, ap, ◌∙◌, subst}
use Rattle.std.specs.Prelude.{if◌then◌else◌, is_some}
use Rattle.std.specs.List.{flat_map}
use Rattle.std.specs.Str.{bytes_eq}
use Rattle.recheck.specs.Expected.{Expected}
use Rattle.recheck.specs.Faults.{is_checked}
use Rattle.targets.specs.declared.block_verdict.BlockVerdict.{BlockVerdict}
use Rattle.targets.specs.declared.block_verdict.BlockVerdict.TheVariants as tolds
use Rattle.targets.specs.MapLines.{kind_word, line_words}
use Rattle.targets.specs.Maps.{AreTold, Cell, Tells, bytes_in, has_line, is_unread, lines_of, lines_with, read_blocks}
use Rattle.targets.specs.Units.{is_fault_by}
use Rattle.targets.specs.WantedLaws.{CheckedBlocksSuffice, as_checked}
use Rattle.targets.proofs.WantedLawLemmas.{any_as, counted_as, kinds_same, seen_as}

-- A checked block comes as it did.
checked_comes : (e : Expected) (c : Cell) → is_checked e c.block ≡ true → as_checked e c ≡ c
checked_comes e c is = rw is refl

line_as : (unit : Option ℕ) (e : Expected) (c : Cell) → has_line unit e (as_checked e c) ≡ has_line unit e c
line_as unit e c = by (is_checked e c.block) refl
  where
    by : (a : Bool) → is_checked e c.block ≡ a → has_line unit e (as_checked e c) ≡ has_line unit e c
    by true is = ap (has_line unit e) (checked_comes e c is)
    by false is = rw is refl

unread_as : (e : Expected) (c : Cell) → is_unread e (as_checked e c) ≡ is_unread e c
unread_as e c = by (is_checked e c.block) c.bytes
  where
    by : (a : Bool) (bytes : Option (List ℕ)) → (a && not (is_some (if a then bytes else None))) ≡ (a && not (is_some bytes))
    by true bytes = refl
    by false bytes = refl

lines_as : (unit : Option ℕ) (e : Expected) (cells : List Cell) → lines_of unit e (map (as_checked e) cells) ≡ lines_of unit e cells
lines_as unit e [] = refl
lines_as unit e (c ∷ cs) = by (is_checked e c.block) refl (has_line unit e c) refl (lines_as unit e cs)
  where
    text : Cell → List ℕ
    text x = line_words e x.block (bytes_in x.bytes) x.told

    -- A block that comes as it did, in front of the others.
    ahead : (b : Bool) → has_line unit e c ≡ b → lines_of unit e (map (as_checked e) cs) ≡ lines_of unit e cs
        → flat_map text (filter (has_line unit e) (c ∷ map (as_checked e) cs)) ≡ flat_map text (filter (has_line unit e) (c ∷ cs))
    ahead true has ih = rw has (ap (λ l. text c ++ l) ih)
    ahead false has ih = rw has ih

    by : (a : Bool) → is_checked e c.block ≡ a → (b : Bool) → has_line unit e c ≡ b → lines_of unit e (map (as_checked e) cs) ≡ lines_of unit e cs
        → lines_of unit e (map (as_checked e) (c ∷ cs)) ≡ lines_of unit e (c ∷ cs)
    by true is b has ih = ap (λ x. lines_of unit e (x ∷ map (as_checked e) cs)) (checked_comes e c is) ∙ ahead b has ih
    by false is b has ih = rw is ih

-- A test that only checked blocks pass keeps the same ones of those that were read.
read_as : (e : Expected) (q : ℕ → Bool) → ((b : ℕ) → is_checked e b ≡ false → q b ≡ false) → (cells : List Cell)
    → filter q (read_blocks (map (as_checked e) cells)) ≡ filter q (read_blocks cells)
read_as e q none [] = refl
read_as e q none (c ∷ cs) = by (is_checked e c.block) refl c.bytes refl (read_as e q none cs)
  where
    -- A number in front of the others.
    before : (b : Bool) → q c.block ≡ b → filter q (read_blocks (map (as_checked e) cs)) ≡ filter q (read_blocks cs)
        → filter q (c.block ∷ read_blocks (map (as_checked e) cs)) ≡ filter q (c.block ∷ read_blocks cs)
    before true is ih = rw is (ap (λ l. c.block ∷ l) ih)
    before false is ih = rw is ih

    by : (a : Bool) → is_checked e c.block ≡ a → (bytes : Option (List ℕ)) → c.bytes ≡ bytes
        → filter q (read_blocks (map (as_checked e) cs)) ≡ filter q (read_blocks cs)
        → filter q (read_blocks (map (as_checked e) (c ∷ cs))) ≡ filter q (read_blocks (c ∷ cs))
    by true is None has ih = rw (is, has) ih
    by true is (Some held) has ih = rw (is, has) (before (q c.block) refl ih)
    by false is None has ih = rw (is, has) ih
    by false is (Some held) has ih = rw (is, has) (ih ∙ sym (rw (none c.block is) refl))

-- Of a block that isn't checked that is told.
none_told : (unit : Option ℕ) (e : Expected) (block : ℕ) (bytes : Option (List ℕ)) (told : BlockVerdict) → is_checked e block ≡ false
    → Tells unit e block bytes told → told ≡ tolds.Unchecked
none_told unit e block bytes tolds.Unchecked is h = refl
none_told unit e block bytes tolds.Unread is (checked, none) = absurd cc
none_told unit e block bytes tolds.Sound is (checked, held) = absurd cc
none_told unit e block bytes (tolds.Fault kind) is (checked, held) = absurd cc

told_as : (unit : Option ℕ) (e : Expected) (cells : List Cell) → AreTold unit e cells → AreTold unit e (map (as_checked e) cells)
told_as unit e [] are = tt
told_as unit e (c ∷ cs) (here, rest) = (by (is_checked e c.block) refl, told_as unit e cs rest)
  where
    Is : Option (List ℕ) → Type 0
    Is bytes = Tells unit e c.block bytes c.told × IfSome bytes (λ l. length l ≡ e.job.bs)

    by : (a : Bool) → is_checked e c.block ≡ a → Is (if is_checked e c.block then c.bytes else None)
    by true is = rw is here
    by false is = rw is (subst (λ t. Tells unit e c.block None t) (sym (none_told unit e c.block c.bytes c.told is here.0)) is, tt)

fault_checked : (unit : Option ℕ) (e : Expected) (held : ℕ → List ℕ) (b : ℕ) → is_checked e b ≡ false → is_fault_by unit e held b ≡ false
fault_checked unit e held b is = rw is refl

pub checked_suffice : CheckedBlocksSuffice
checked_suffice unit e n cells come =
    let f = as_checked e in
    record {
      come = record {
        blocks = seen_as f (λ (c : Cell). c.block) (λ c. refl) cells ∙ come.blocks;
        told = told_as unit e cells come.told;
      };
      lines = lines_as unit e cells;
      report = λ held.
          rw (read_as e (is_checked e) (λ b is. is) cells, read_as e (is_fault_by unit e held) (fault_checked unit e held) cells) refl;
      kinds = kinds_same (lines_with unit e (map f cells)) (lines_with unit e cells) (λ word.
          counted_as f (λ c. has_line unit e c && bytes_eq (kind_word c.told) word)
          (λ c. ap (λ b. b && bytes_eq (kind_word c.told) word) (line_as unit e c)) cells);
      status = λ r. rw (any_as f (is_unread e) (unread_as e) cells) refl;
    }
