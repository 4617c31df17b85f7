use Rattle.std.proofs.Common.{refl, inr, arith, []}
use Rattle.disk_model.specs.MemNotes.{note_of}
use Rattle.server_core.specs.Note.{Says, blank}
use Rattle.net_world.specs.Trace.{opening_of}
use Rattle.net_world.proofs.server_node.open.Goals as goal

nothing_said : Says [] blank
nothing_said = record { boot_range = omega arith; last_range = omega arith; spelled = inr (refl, refl) }

pub returns-in-Ok : goal.returns-in-Ok
returns-in-Ok c =
    let says : Says (note_of c.new-2.result).bytes blank = rw (c.new-2.ensures, c.new.ensures.items) nothing_said in
    (c.in-Ok.ensures.stands (opening_of c.args.me) [] refl says, refl)
