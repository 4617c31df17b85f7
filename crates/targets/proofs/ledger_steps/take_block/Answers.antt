use Rattle.std.proofs.Common.{◌≡◌, ◌∙◌, ap, arith, subst, sym, Some, Ok}
use Rattle.std.proofs.lemmas.List.{take_at}
use Rattle.ledger.specs.Checks.{with_block_fed}
use Rattle.ledger.specs.Entries.{verdict}
use Rattle.ledger.specs.Places.{entry_of}
use Rattle.targets.specs.Ledgers.{IsFound}
use Rattle.targets.specs.MapInput.{Comes}
use Rattle.targets.proofs.MapLemmas.{unread_kept}
use Rattle.targets.proofs.ledger_steps.take_block.Goals as goal

pub returns-in-Bytes-clause-takes : goal.returns-in-Bytes-clause-takes
returns-in-Bytes-clause-takes g c =
    let map = c.args.map.now in
    let bytes = c.next_block.new.bytes in
    let entry = entry_of map.check.place c.args.block in
    let fed : c.deref.result.now ≡ bytes =
    c.deref.ensures.value ∙ take_at bytes _ map.bytes.len (omega (arith, c.next_block.auto.bytes, c.deref_mut.ensures.len)) in
    let found : c.deref-in-Bytes.result.now ≡ bytes =
    c.deref-in-Bytes.ensures.value ∙ take_at bytes _ map.bytes.len (omega (arith, c.next_block.auto.bytes, c.deref_mut.ensures.len)) in
    record {
      bytes = Some bytes;
      came = subst (λ k. Comes (g.R.Read.remaining c.args.reader.now) (g.R.Read.remaining c.next_block.new.reader) bytes (Ok k)) c.in-Bytes.is
          c.in_ok-next_block.ensures;
      whole = omega (arith, c.next_block.auto.bytes, c.deref_mut.ensures.len, c.requires.goes_on.room);
      here = take_at bytes _ map.bytes.len (omega (arith, c.next_block.auto.bytes, c.deref_mut.ensures.len));
      finds = subst (λ l. IsFound map.since map.recheck.expected entry c.args.block (Some l) c.find.result) found
          (subst (λ e. IsFound map.since e entry c.args.block (Some c.deref-in-Bytes.result.now) c.find.result) c.expected.ensures
          (c.find.ensures entry (c.feed-seen.ensures.verdict ∙ ap (λ l. verdict c.args.block l entry) (fed ∙ sym found))));
      check = c.feed-seen.ensures.left ∙ ap (with_block_fed map.check c.args.block) fed;
      unread = unread_kept map.unread _;
    }
