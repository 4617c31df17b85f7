-- How a list of at most 32 blocks is kept: in an array, with zeros behind. No public contract cites
-- this.
use Rattle.std.specs.Prelude.{◌≡◌, ℕ, ◌-◌, ◌≤◌, List, ◌++◌, length, take, drop}
use Rattle.std.specs.Prelude.{replicate}
use Rattle.std.proofs.Common.{ap, ◌∙◌, sym, arith}
use Rattle.std.proofs.lemmas.List.{length-take, take-append-drop}
use Rattle.fc_base.specs.declared.limits.TheConstants.{MAX_LISTED}
use Rattle.fc_base.specs.declared.report.Blocks.TheInside.{Inside}

-- The blocks that are listed.
abbrev pub listed : Inside → List ℕ
listed b = take b.len b.blocks

-- The array has 32 numbers, and behind those listed they are zeros.
pub record HasZerosBehind (b : Inside) : Type 0 where
  pub few : b.len ≤ MAX_LISTED
  pub long : length b.blocks ≡ MAX_LISTED
  pub zeros : drop b.len b.blocks ≡ replicate (MAX_LISTED - b.len) 0

-- The fields that a list was shown by.
abbrev pub kept : List ℕ → Inside
kept blocks =
    record { len = length blocks; blocks = blocks ++ replicate (MAX_LISTED - length blocks) 0 }

-- The fields of a list of blocks are given back by the blocks that are listed.
pub kept_again : (b : Inside) → HasZerosBehind b → kept (listed b) ≡ b
kept_again b h =
    let len : length (take b.len b.blocks) ≡ b.len =
    omega (arith, length-take b.len b.blocks, h.few, h.long) in
    let whole : take b.len b.blocks ++ replicate (MAX_LISTED - b.len) 0 ≡ b.blocks =
    ap (λ l. take b.len b.blocks ++ l) (sym h.zeros) ∙ take-append-drop b.len b.blocks in
    ap (λ (n : ℕ). let k : Inside =
    record { len = n; blocks = take b.len b.blocks ++ replicate (MAX_LISTED - n) 0 } in k) len
    ∙ ap (λ (l : List ℕ). let k : Inside = record { len = b.len; blocks = l } in k) whole
