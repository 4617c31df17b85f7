use Rattle.std.proofs.Common.{◌≡◌, length, sym, ap, ◌∙◌, arith}
use Rattle.std.specs.Prelude.{Some}
use Rattle.std.proofs.lemmas.List.{length_push}
use Rattle.ledger.specs.Reading.{IsReadable}
use Rattle.ledger.specs.Spelling.{run_numbers, index_in, write_numbers}
use Rattle.ledger.proofs.ReadingLemmas.{pair_of, has_next, on_by, some_is}
use Rattle.ledger.proofs.reading.writes_in.Goals as goal

pub returns-in_default-clause-read : goal.returns-in_default-clause-read
returns-in_default-clause-read c table writes more rows len good is =
    let next = has_next (write_numbers table) (IsReadable table) _ c.loop.entry c.loop.rest.now more _ (omega (arith, c.loop-test.true)) (c.loop.invariant.way table writes more rows len good is) in
    let pair = pair_of c.loop.rest.now c.split_at.result.0.now c.split_at.result.1.now next.behind (index_in (run_numbers next.next) table) next.next.seq
    c.split_at.ensures.front c.split_at.ensures.back next.rest_is in
    let read = c.write_in.ensures table next.next rows next.good pair.0 pair.1.0 in
    absurd (c.in_default.not-Some next.next read)

pub loop-preserved : goal.loop-preserved
loop-preserved c = record {
  len = omega (arith, ap length c.in_ok-push.ensures, length_push c.loop.entry c.in-Some.write, c.loop.invariant.len);
  size = omega (arith, c.split_at.ensures.back_len, c.loop.invariant.size, c.loop-test.true);
  way = λ table writes more rows len good is.
      let next = has_next (write_numbers table) (IsReadable table) _ c.loop.entry c.loop.rest.now more _ (omega (arith, c.loop-test.true)) (c.loop.invariant.way table writes more rows len good is) in
      let pair = pair_of c.loop.rest.now c.split_at.result.0.now c.split_at.result.1.now next.behind (index_in (run_numbers next.next) table) next.next.seq
      c.split_at.ensures.front c.split_at.ensures.back next.rest_is in
      let read = c.write_in.ensures table next.next rows next.good pair.0 pair.1.0 in
      let write : Some c.in-Some.write ≡ Some next.next = sym c.in-Some.is ∙ read in
      on_by (write_numbers table) (IsReadable table) _ c.loop.entry _ _ next.behind more _ _ next.next c.in-Some.write next.on c.in_ok-push.ensures
      (some_is c.in-Some.write next.next write) pair.1.1 (omega (arith, c.loop-test.true));
}
