use Rattle.std.proofs.Common.{◌≡◌, ◌<◌, ◌≤◌, ◌*◌, ◌-◌, ℕ, List, [], length}
use Rattle.std.specs.Prelude.{◌^◌}
use Rattle.std.specs.Int.{w64}
use Rattle.std.specs.List.{AllByRecursion}
use Rattle.fc_base.specs.Layouts.{bytes_of}
use Rattle.verify_state.specs.Spelling.{words}
use Rattle.ledger.proofs.ReadingLemmas.{IsUnderWay}
use Rattle.ledger.proofs.reading.words_of.Given as goal

abbrev pub invariant-loop : goal.invariant-loop
invariant-loop l = record {
  room : 8 * (l.count - l.counter) ≤ length l.rest;
  way : (ns : List ℕ) → AllByRecursion (λ (n : ℕ). n < 2 ^ 64) ns → l.fn.body ≡ words ns
      → IsUnderWay (bytes_of w64) (λ (n : ℕ). n < 2 ^ 64) ns l.numbers.items l.rest [] (l.count - l.counter);
}
