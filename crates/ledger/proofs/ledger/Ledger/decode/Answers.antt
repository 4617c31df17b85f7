use Rattle.std.proofs.Common.{◌≡◌, true, false, not, sym, ap, ◌∙◌}
use Rattle.std.specs.Prelude.{bytes_eq}
use Rattle.std.proofs.lemmas.Result.{err_from_is_err_and}
use Rattle.std.proofs.lemmas.Slice.Eq.{bytes_eq-Decides}
use Rattle.ledger.specs.Possible.{is_possible}
use Rattle.ledger.specs.Spelling.{spelling, body_of, numbers_of, table_of}
use Rattle.ledger.proofs.TableLemmas.{numbers_fit}
use Rattle.ledger.proofs.ledger.Ledger.decode.Goals as goal

pub returns-in_err-ledger-clause-read : goal.returns-in_err-ledger-clause-read
returns-in_err-ledger-clause-read c place ranged possible is =
    let words = c.in_ok-words.ensures (numbers_of place (table_of place.entries)) (numbers_fit place ranged) (c.in_ok-body.ensures.read (body_of place) is) in
    let told = err_from_is_err_and c.from_residual-in_err-ledger.result c.from_residual-in_err-ledger.ensures.1 in
    rw (told.1, told.2) (c.in_err-ledger.ensures place ranged (c.deref.ensures.value ∙ words))

pub returns-then-ne-clause-read : goal.returns-then-ne-clause-read
returns-then-ne-clause-read c place ranged possible is =
    let words = c.in_ok-words.ensures (numbers_of place (table_of place.entries)) (numbers_fit place ranged) (c.in_ok-body.ensures.read (body_of place) is) in
    let read = c.in_ok-ledger.ensures place ranged (c.deref.ensures.value ∙ words) in
    let same : c.as_slice.result.now ≡ c.in_ok-body.body.now =
    c.as_slice.ensures.value ∙ c.in_ok-again.ensures.body ∙ ap body_of read ∙ sym (c.in_ok-body.ensures.read (body_of place) is) in
    let equal : bytes_eq c.as_slice.result.now c.in_ok-body.body.now ≡ true = (bytes_eq-Decides c.as_slice.result.now c.in_ok-body.body.now).1 same in
    let bad : true ≡ false = c.if-ne.ensures ∙ ap not equal in
    absurd cc

pub returns-clause-read : goal.returns-clause-read
returns-clause-read c place ranged possible is =
    let words = c.in_ok-words.ensures (numbers_of place (table_of place.entries)) (numbers_fit place ranged) (c.in_ok-body.ensures.read (body_of place) is) in
    c.in_ok-ledger.ensures place ranged (c.deref.ensures.value ∙ words)

pub returns-then-not-is_possible-clause-read : goal.returns-then-not-is_possible-clause-read
returns-then-not-is_possible-clause-read c place ranged possible is =
    let words = c.in_ok-words.ensures (numbers_of place (table_of place.entries)) (numbers_fit place ranged) (c.in_ok-body.ensures.read (body_of place) is) in
    let read = c.in_ok-ledger.ensures place ranged (c.deref.ensures.value ∙ words) in
    let bad : false ≡ true = c.if-not-is_possible.ensures ∙ ap is_possible read ∙ possible in
    absurd cc
