use Rattle.std.proofs.Common.{arith, sym, subst}
use Rattle.std.proofs.lemmas.List.{take_at}
use Rattle.std.proofs.lemmas.Result.{err_from_is_err_and}
use Rattle.targets.specs.Texts.{IsText}
use Rattle.targets.proofs.TextLemmas.{is_text, no_text}
use Rattle.targets.proofs.texts.read_text.Goals as goal

pub returns-clause-text : goal.returns-clause-text
returns-clause-text g c =
    subst (IsText _ _ _) (sym (take_at c.fill_all-2.new.buffer _ c.in-Ok.text.len (omega (arith, c.fill_all-2.auto.buffer, c.deref_mut.ensures.len))))
    (is_text c.args.most c.length_in-length.result _ _ _ c.fill_all.new.buffer c.fill_all-2.new.buffer c.in_ok-fill_all.ensures
    c.length_in-length.ensures
    c.in_ok-fill_all-2.ensures (omega (arith, c.fill_all-2.auto.buffer, c.deref_mut.ensures.len, c.in-Ok.ensures.len, c.min.ensures))
    (omega (arith, c.length_in-length.type_inv)))

pub returns-in_err-fill_all-2-clause-none : goal.returns-in_err-fill_all-2-clause-none
returns-in_err-fill_all-2-clause-none g c =
    let p = err_from_is_err_and c.from_residual-in_err-fill_all-2.result c.from_residual-in_err-fill_all-2.ensures.1 in
    rw (p.1, p.2)
    (no_text c.args.most c.length_in-length.result (g.R.Read.remaining c.args.reader.now) (g.R.Read.remaining c.fill_all.new.reader)
    (g.R.Read.remaining c.fill_all-2.new.reader) c.fill_all.new.buffer c.fill_all-2.new.buffer
    c.in_err-fill_all-2.field-0.0 c.in_ok-fill_all.ensures
    c.length_in-length.ensures
    (omega (arith, c.fill_all-2.auto.buffer, c.deref_mut.ensures.len, c.in-Ok.ensures.len, c.min.ensures))
    (omega (arith, c.length_in-length.type_inv)) c.in_err-fill_all-2.ensures)
