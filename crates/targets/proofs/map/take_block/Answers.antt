use Rattle.std.proofs.Common.{◌≡◌, ◌∙◌, ap, arith, subst, sym, Some, None, Ok, ◌||◌}
use Rattle.std.proofs.lemmas.List.{take_at}
use Rattle.targets.specs.MapInput.{Comes}
use Rattle.recheck.specs.Faults.{is_checked}
use Rattle.targets.specs.Maps.{Tells}
use Rattle.targets.proofs.UnitLemmas.{and_true}
use Rattle.targets.specs.Mapping.{fed_bytes}
use Rattle.targets.proofs.MapLemmas.{unread_kept}
use Rattle.targets.proofs.map.take_block.Goals as goal

pub returns-in-Bytes-clause-takes : goal.returns-in-Bytes-clause-takes
returns-in-Bytes-clause-takes g c =
    let bytes = c.next_block.new.bytes in
    let same : c.deref.result.now ≡ bytes =
    c.deref.ensures.value ∙ take_at bytes _ c.args.map.now.bytes.len (omega (arith, c.next_block.auto.bytes, c.deref_mut.ensures.len)) in
    record {
      bytes = Some bytes;
      came = subst (λ k. Comes (g.R.Read.remaining c.args.reader.now) (g.R.Read.remaining c.next_block.new.reader) bytes (Ok k)) c.in-Bytes.is
          c.in_ok-next_block.ensures;
      whole = omega (arith, c.next_block.auto.bytes, c.deref_mut.ensures.len, c.requires.goes_on.room);
      here = take_at bytes _ c.args.map.now.bytes.len (omega (arith, c.next_block.auto.bytes, c.deref_mut.ensures.len));
      tells = subst (λ l. Tells c.args.unit c.args.map.now.check.expected c.args.block (Some l) c.tell_bytes-told.result) same c.tell_bytes-told.ensures.tells.tells;
      taken = λ held blocks holds seen. c.tell_bytes-told.ensures.tells.taken held blocks
          (holds ∙ ap (fed_bytes c.args.unit c.args.map.now.check.expected c.args.block) (sym same)) seen;
      unread = unread_kept c.args.map.now.unread _;
    }

pub returns-in-Unread-clause-takes : goal.returns-in-Unread-clause-takes
returns-in-Unread-clause-takes g c = record {
  bytes = None;
  came = subst (λ k. Comes (g.R.Read.remaining c.args.reader.now) (g.R.Read.remaining c.next_block.new.reader) c.next_block.new.bytes (Ok k)) c.in-Unread.is
      c.in_ok-next_block.ensures;
  whole = tt;
  here = tt;
  tells = c.tell_unread.ensures.tells c.args.unit;
  taken = c.tell_unread.ensures.check;
  unread = c.tell_unread.ensures.unread ∙ ap (λ b. c.args.map.now.unread || b) (sym (and_true (is_checked c.args.map.now.check.expected c.args.block)));
}
