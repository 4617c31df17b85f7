use Rattle.std.proofs.Common.{refl, sym, ◌∙◌, ap}
use Rattle.disk_model.specs.Notes.{Note}
use Rattle.client_core.specs.Note.{is_blank}
use Rattle.cells.proofs.ClientCellLemmas.{first, opening_by, opened_once, said_then, seen_said, new_cell}
use Rattle.cells.proofs.client_cell.ClientCell.new.Goals as goal

pub invariant_of-result : goal.invariant_of-result
invariant_of-result g c =
    let note = g.N.Notes.note in
    let client = c.in_ok-client.client in
    let h = c.in_ok-client.ensures in
    let blank = c.is_blank-is_blank.ensures (opening_by c.args.servers h.said) first (opened_once note c.args.servers c.args.notes client h) in
    let said = seen_said note c.args.servers c.args.notes client _ h c.of.ensures in (
      new_cell note c.args.servers c.args.notes client _ h c.new.result.items _ c.requires.some c.requires.few c.of.ensures c.new.ensures,
      blank ∙ ap is_blank (sym said),
    )

pub returns-clause-opened : goal.returns-clause-opened
returns-clause-opened g c =
    let note = g.N.Notes.note in
    let h = c.in_ok-client.ensures in (
      refl,
      rw (c.of.ensures, said_then note c.args.servers c.args.notes c.in_ok-client.client h) h.says,
      rw c.new.ensures refl,
      ap (λ (n : Note). n.failures) h.same,
    )
