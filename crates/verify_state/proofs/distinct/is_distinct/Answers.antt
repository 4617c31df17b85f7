use Rattle.std.proofs.Common.{subst, List, ℕ}
use Rattle.std.specs.List.Sorted.{IsPermutation}
use Rattle.std.proofs.lemmas.List.Sorted.{IsNonDecreasingBy-from_sort}
use Rattle.verify_state.proofs.DistinctLemmas.{sorted_tells}
use Rattle.verify_state.proofs.distinct.is_distinct.Goals as goal

pub returns : goal.returns
returns c =
    let sorted = c.sort_unstable.new.self in
    sorted_tells c.args.list.now sorted c.rise.result
    (subst (λ (xs : List ℕ). IsPermutation xs sorted) c.copy_numbers.ensures c.sort_unstable.ensures.permutation)
    (IsNonDecreasingBy-from_sort (λ x. x) sorted c.sort_unstable.ensures.sorted)
    c.rise.ensures
