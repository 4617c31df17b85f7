use Rattle.std.proofs.Common.{◌≡◌, ℕ, Some, None, ap, sym, ◌∙◌, refl, length}
use Rattle.std.specs.Prelude.{slice_get}
use Rattle.std.proofs.lemmas.Option.{slice_get_read, slice_get_past}
use Rattle.messages.specs.declared.node.Node.TheVariants.{Server}
use Rattle.assembly.specs.Ran.{ran_of}
use Rattle.assembly.proofs.OpenedLemmas.{fits_cell, fits_none}
use Rattle.assembly.proofs.opened.fits.Goals as goal

pub returns-in-Some : goal.returns-in-Some
returns-in-Some g c =
    let at : c.args.seat.now.server ≡ c.get.inside.0 = sym (c.get.view_is ∙ c.server.ensures) in
    let found = slice_get_read c.args.servers.now (length c.args.servers.now) c.get.inside.0 c.in-Some.cell.now refl c.in-Some.ensures.lookup.3.0
    c.in-Some.ensures.lookup.1 in
    let is : slice_get c.args.servers.now c.args.seat.now.server ≡ Some c.in-Some.cell.now = ap (λ (i : ℕ). slice_get c.args.servers.now i) at ∙ found in
    rw c.is_right.ensures (fits_cell (ran_of c.args.client.now c.args.servers.now) c.args.seat.now c.in-Some.cell.now is
    (c.requires (Server c.args.seat.now.server) c.in-Some.cell.now is))

pub returns-in-None : goal.returns-in-None
returns-in-None g c =
    let at : c.args.seat.now.server ≡ c.get.inside.0 = sym (c.get.view_is ∙ c.server.ensures) in
    let none : slice_get c.args.servers.now c.args.seat.now.server ≡ None =
    ap (λ (i : ℕ). slice_get c.args.servers.now i) at ∙ slice_get_past c.args.servers.now c.get.inside.0 c.in-None.ensures.lookup.3 in
    rw c.applied.ensures (fits_none (ran_of c.args.client.now c.args.servers.now) c.args.seat.now none)
