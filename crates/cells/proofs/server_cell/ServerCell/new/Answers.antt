use Rattle.std.proofs.Common.{refl, sym, ◌-◌}
use Rattle.cells.proofs.ServerCellLemmas.{first, opening_by, opened_once, boot_is, last_is, one_at_least, before, new_cell}
use Rattle.cells.proofs.server_cell.ServerCell.new.Goals as goal

pub overflow_sub-cell : goal.overflow_sub-cell
overflow_sub-cell g c =
    let h = c.in_ok-server.ensures in
    let o = opening_by c.args.me h.said in
    one_at_least c.status-boot.result.boot o.boot (boot_is o c.status-boot.result
    (c.status-boot.ensures o first (opened_once g.N.Notes.note c.args.me c.args.notes c.in_ok-server.server h)))

pub invariant_of-cell : goal.invariant_of-cell
invariant_of-cell g c =
    let h = c.in_ok-server.ensures in
    let o = opening_by c.args.me h.said in
    let shown = c.status-boot.ensures o first (opened_once g.N.Notes.note c.args.me c.args.notes c.in_ok-server.server h) in
    new_cell g.N.Notes.note c.args.me c.args.notes c.in_ok-server.server h
    (c.status-boot.result.boot - 1) c.status-boot.result.last_run c.new.result.items c.requires.server
    (before c.status-boot.result.boot o.boot (boot_is o c.status-boot.result shown)) (sym (last_is o c.status-boot.result shown)) c.new.ensures

pub returns-clause-opened : goal.returns-clause-opened
returns-clause-opened g c =
    let h = c.in_ok-server.ensures in
    let o = opening_by c.args.me h.said in
    let shown = c.status-boot.ensures o first (opened_once g.N.Notes.note c.args.me c.args.notes c.in_ok-server.server h) in (
      refl,
      rw (← before c.status-boot.result.boot o.boot (boot_is o c.status-boot.result shown), last_is o c.status-boot.result shown) h.says,
      rw c.new.ensures refl,
    )
