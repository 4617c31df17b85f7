-- The sums of a map by kind.
use Rattle.std.specs.Prelude.{ℕ, ◌==◌, ◌+◌, List, [], ◌++◌, codes, decimal, if◌then◌else◌}
use Rattle.diagnosis.specs.declared.holds.Holds.{Holds}
use Rattle.diagnosis.specs.declared.holds.Holds.TheVariants as holds
use Rattle.targets.specs.declared.kind_counts.KindCounts.{KindCounts}
use Rattle.targets.specs.declared.block_verdict.BlockVerdict.{BlockVerdict}
use Rattle.targets.specs.declared.block_verdict.BlockVerdict.TheVariants as tolds

-- The sums of the kinds, where this gives the sum of each by its word.
abbrev pub kinds_by : (List ℕ → ℕ) → KindCounts
kinds_by sum_of = record {
  unwritten = sum_of (codes "unwritten");
  filled = sum_of (codes "filled");
  lost = sum_of (codes "lost");
  unissued = sum_of (codes "unissued");
  other_run = sum_of (codes "other-run");
  misdirected = sum_of (codes "misdirected");
  torn = sum_of (codes "torn");
  corrupt = sum_of (codes "corrupt");
  unread = sum_of (codes "unread");
}

-- The sum of a kind, where there is any.
abbrev pub sum_words : List ℕ → ℕ → List ℕ
sum_words word count =
    if count == 0 then [] else codes " " ++ (word ++ (codes " " ++ decimal count))

-- The sums of blocks that hold one byte over and over.
abbrev pub sums_of_bytes : KindCounts → List ℕ
sums_of_bytes k = sum_words (codes "unwritten") k.unwritten ++ sum_words (codes "filled") k.filled

-- The sums of blocks that hold a whole write.
abbrev pub sums_of_writes : KindCounts → List ℕ
sums_of_writes k =
    sum_words (codes "lost") k.lost ++ (sum_words (codes "unissued") k.unissued
    ++ (sum_words (codes "other-run") k.other_run
    ++ sum_words (codes "misdirected") k.misdirected))

-- The sums of other blocks, and of those that could not be read.
abbrev pub sums_of_parts : KindCounts → List ℕ
sums_of_parts k =
    sum_words (codes "torn") k.torn ++ (sum_words (codes "corrupt") k.corrupt
    ++ sum_words (codes "unread") k.unread)

-- All sums, as ` lost 4 torn 1`.
abbrev pub kinds_words : KindCounts → List ℕ
kinds_words k = sums_of_bytes k ++ (sums_of_writes k ++ sums_of_parts k)

-- How many lines these are together.
abbrev pub all_lines : KindCounts → ℕ
all_lines k =
    k.unwritten + k.filled + k.lost + k.unissued + k.other_run + k.misdirected + k.torn + k.corrupt
    + k.unread

-- The sums of a map before its first line.
abbrev pub no_lines : KindCounts
no_lines = kinds_by (λ word. 0)

-- The sums with one more faulty block, which holds this.
abbrev pub with_fault : KindCounts → Holds → KindCounts
with_fault k holds.Sound = k
with_fault k holds.Unwritten = record k { unwritten = k.unwritten + 1 }
with_fault k (holds.Filled byte) = record k { filled = k.filled + 1 }
with_fault k (holds.Lost seq) = record k { lost = k.lost + 1 }
with_fault k (holds.Unissued seq) = record k { unissued = k.unissued + 1 }
with_fault k (holds.OtherRun write) = record k { other_run = k.other_run + 1 }
with_fault k (holds.Misdirected write) = record k { misdirected = k.misdirected + 1 }
with_fault k holds.Torn = record k { torn = k.torn + 1 }
with_fault k (holds.Corrupt sectors) = record k { corrupt = k.corrupt + 1 }

-- The sums with one more block, of which this is told: one that isn't checked, or is sound, has no
-- line.
abbrev pub with_line : KindCounts → BlockVerdict → KindCounts
with_line k tolds.Unchecked = k
with_line k tolds.Sound = k
with_line k tolds.Unread = record k { unread = k.unread + 1 }
with_line k (tolds.Fault kind) = with_fault k kind
