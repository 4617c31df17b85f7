use Rattle.std.proofs.Common.{◌≡◌, ◌*◌, length, sym, ap, ◌∙◌, arith, refl}
use Rattle.std.proofs.lemmas.Result.{err_from_is_err_and}
use Rattle.ledger.specs.declared.spelling.TheConstants.{MAGIC}
use Rattle.ledger.specs.Spelling.{table_of}
use Rattle.ledger.proofs.TableLemmas.{readable}
use Rattle.ledger.proofs.ReadingLemmas.{four_of, cut_of, rows_by, behind_head, behind_length}
use Rattle.ledger.proofs.reading.ledger_in.Goals as goal

pub returns-then-head-rest : goal.returns-then-head-rest
returns-then-head-rest c place ranged is =
    let head = four_of c.args.words.now c.split_at.result.0.now c.split_at.result.1.now MAGIC place.bs (length place.entries) (length (table_of place.entries))
    (behind_head place) c.split_at.ensures.front c.split_at.ensures.back is in
    absurd (omega (arith, c.if-head-rest.true, head.runs, ap length head.rest_is, behind_length place ranged))

pub returns-in_err-entries : goal.returns-in_err-entries
returns-in_err-entries c place ranged is =
    let head = four_of c.args.words.now c.split_at.result.0.now c.split_at.result.1.now MAGIC place.bs (length place.entries) (length (table_of place.entries))
    (behind_head place) c.split_at.ensures.front c.split_at.ensures.back is in
    let cut = cut_of place c.split_at.result.1.now c.split_at-2.result.0.now c.split_at-2.result.1.now _ ranged head.rest_is (ap (λ n. 12 * n) head.runs)
    c.split_at-2.ensures.front c.split_at-2.ensures.back in
    let told = err_from_is_err_and c.from_residual.result c.from_residual.ensures.1 in
    rw (told.1, told.2) (c.in_err-entries.ensures.read (table_of place.entries) place.entries (rows_by place c.split_at-2.result.0.now ranged cut.0) (sym head.count)
    (readable place.entries ranged.entries) cut.1)

pub returns : goal.returns
returns c place ranged is =
    let head = four_of c.args.words.now c.split_at.result.0.now c.split_at.result.1.now MAGIC place.bs (length place.entries) (length (table_of place.entries))
    (behind_head place) c.split_at.ensures.front c.split_at.ensures.back is in
    let cut = cut_of place c.split_at.result.1.now c.split_at-2.result.0.now c.split_at-2.result.1.now _ ranged head.rest_is (ap (λ n. 12 * n) head.runs)
    c.split_at-2.ensures.front c.split_at-2.ensures.back in
    let read = c.in_ok-entries.ensures.read (table_of place.entries) place.entries (rows_by place c.split_at-2.result.0.now ranged cut.0) (sym head.count)
    (readable place.entries ranged.entries) cut.1 in
    let made : record { bs = place.bs; entries = place.entries } ≡ place = refl in
    c.with_entries.ensures ∙ (rw (head.bs, read) made)
