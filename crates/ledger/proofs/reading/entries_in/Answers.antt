use Rattle.std.proofs.Common.{length, ap, arith}
use Rattle.std.proofs.lemmas.List.{length_push}
use Rattle.std.proofs.lemmas.Result.{err_from_is_err_and}
use Rattle.ledger.specs.Reading.{IsReadableEntry}
use Rattle.ledger.specs.Spelling.{entry_numbers}
use Rattle.ledger.proofs.ReadingLemmas.{entries_there, entry_behind_is, has_next, on_by}
use Rattle.ledger.proofs.reading.entries_in.Goals as goal

pub returns-then-words-count-clause-read : goal.returns-then-words-count-clause-read
returns-then-words-count-clause-read c table entries rows len good is =
    absurd (omega (arith, c.if-words-count.true, entries_there table entries, ap length is))

pub returns-in_err-entry-clause-read : goal.returns-in_err-entry-clause-read
returns-in_err-entry-clause-read c table entries rows len good is =
    let next = has_next (entry_numbers table) (IsReadableEntry table) _ c.loop.entries.items c.loop.rest.now _ _ (omega (arith, c.loop-test.true))
    (c.loop.invariant.way table entries rows len good is) in
    let told = err_from_is_err_and c.from_residual-in_err-entry.result c.from_residual-in_err-entry.ensures.1 in
    rw (told.1, told.2) (c.in_err-entry.ensures.read table next.next next.behind rows next.good next.rest_is)

pub loop-preserved : goal.loop-preserved
loop-preserved c = record {
  len = omega (arith, ap length c.in_ok-push.ensures.items, length_push c.loop.entries.items c.in_ok-entry.entry, c.loop.invariant.len);
  way = λ table entries rows len good is.
      let next = has_next (entry_numbers table) (IsReadableEntry table) _ c.loop.entries.items c.loop.rest.now _ _ (omega (arith, c.loop-test.true))
      (c.loop.invariant.way table entries rows len good is) in
      let read = c.in_ok-entry.ensures.read table next.next next.behind rows next.good next.rest_is in
      let behind = entry_behind_is table next.next c.loop.rest.now c.split_at.result.1.now next.behind _ (omega (arith, ap length c.as_slice.ensures, ap length read)) c.split_at.ensures.back next.rest_is in
      on_by (entry_numbers table) (IsReadableEntry table) _ c.loop.entries.items _ _ next.behind _ _ _ next.next c.in_ok-entry.entry next.on c.in_ok-push.ensures.items
      read behind (omega (arith, c.loop-test.true));
}
