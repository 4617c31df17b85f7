-- A run that is cut at any byte of its answers.
use Rattle.std.specs.Prelude.{◌≡◌, ◌⊎◌, ℕ, List, [], ◌∷◌, ◌++◌}
use Rattle.filters.specs.Lives.{RecordParts, Lives}

-- These bytes are a front of the answer to the first of these records, which stands last. `Within
-- before after part left` says how a node is left that is cut behind a part of an answer.
pub record CutsNext {S : Type 0} (Takes : S → RecordParts → S → List ℕ → Type 0)
    (Within : S → S → List ℕ → S → Type 0) (before : S) (later : List RecordParts)
    (part : List ℕ) (left : S) : Type 0 where
  pub next : RecordParts
  pub others : List RecordParts
  pub after : S
  pub rest : List ℕ
  pub later_are : later ≡ others ++ next ∷ []
  pub takes : Takes before next after (part ++ rest)
  pub within : Within before after part left

-- These bytes are the whole answers to the first records, and maybe a part of the next one, and the
-- node is left so.
pub record CutsBehind {S : Type 0} (Takes : S → RecordParts → S → List ℕ → Type 0)
    (Within : S → S → List ℕ → S → Type 0) (first : S) (records : List RecordParts)
    (front : List ℕ) (left : S) : Type 0 where
  pub whole : List RecordParts
  pub later : List RecordParts
  pub before : S
  pub told : List ℕ
  pub part : List ℕ
  pub records_are : records ≡ later ++ whole
  pub lived : Lives Takes first whole before told
  pub front_is : front ≡ told ++ part
  pub ends :
      ((part ≡ []) × (left ≡ before)) ⊎ CutsNext Takes Within before later part left
