-- How the bytes of a block differ from others.
use Rattle.std.specs.Prelude.{ℕ, ◌==◌, not, List, filter, length, bit_xor, count_ones, slice_get, slice_index}
use Rattle.std.specs.List.{range_with_len, sum_by}
use Rattle.diagnosis.specs.declared.difference.Difference.{Difference}

-- The places at which the first n bytes of one list differ from those of the other, ascending.
abbrev pub differing_below : List ℕ → List ℕ → ℕ → List ℕ
differing_below bytes others n =
    filter (λ i. not (slice_index bytes i == slice_index others i)) (range_with_len 0 n)

-- How many bits differ at a place.
abbrev pub bits_apart : List ℕ → List ℕ → ℕ → ℕ
bits_apart bytes others i = count_ones (bit_xor (slice_index bytes i) (slice_index others i))

-- What is told of these places: how many they are, how many bits differ there, and the first.
abbrev pub difference_at : List ℕ → List ℕ → List ℕ → Difference
difference_at bytes others places = record {
  bytes = length places;
  bits = sum_by (bits_apart bytes others) places;
  first = slice_get places 0;
}

-- How bytes differ from others.
abbrev pub difference_of : List ℕ → List ℕ → Difference
difference_of bytes others =
    difference_at bytes others (differing_below bytes others (length bytes))
