-- What an event of a world is: something that can happen.
use Rattle.std.specs.Prelude.{ℕ}
use Rattle.server_core.specs.declared.input.WriteEnd.{WriteEnd}
use Rattle.server_core.specs.declared.input.WriteEnd.TheVariants as ends
use Rattle.net_world.specs.declared.event.PlainEvent.{PlainEvent}
use Rattle.net_world.specs.declared.event.PlainEvent.TheVariants as plain
use Rattle.net_world.specs.declared.event.WorldEvent.{WorldEvent}
use Rattle.net_world.specs.declared.event.WorldEvent.TheVariants as events
use Rattle.net_world.specs.Happenings.{Happening, Begin, Trigger, StopRun, Verify, Tick, Deliver, Issue}
use Rattle.net_world.specs.Happenings.{Land, Done, Fail, Rot, Check, Cut, Restart, LoseNote, Renew, CutIn}

-- An event that is no cut within a save.
abbrev pub plain_happening : PlainEvent → Happening
plain_happening (plain.Begin text) = Begin text.items
plain_happening (plain.Trigger run act) = Trigger run act
plain_happening (plain.StopRun run) = StopRun run
plain_happening (plain.Verify run text) = Verify run text.items
plain_happening plain.Tick = Tick
plain_happening (plain.Deliver frame) = Deliver frame
plain_happening (plain.Issue server job) = Issue server job
plain_happening (plain.Land server job write mask) = Land server job write mask
plain_happening (plain.Done server job write) = Done server job write
plain_happening (plain.Fail server job write) = Fail server job write
plain_happening (plain.Rot server job sector bytes) = Rot server job sector bytes.value
plain_happening (plain.Check server job) = Check server job
plain_happening (plain.Cut node) = Cut node
plain_happening (plain.Restart node) = Restart node
plain_happening plain.LoseNote = LoseNote
plain_happening (plain.Renew generation) = Renew generation

-- An event. None is a cut within the save of a cut within a save.
abbrev pub happening : WorldEvent → Happening
happening (events.Plain e) = plain_happening e
happening (events.CutIn landed e) = CutIn landed (plain_happening e)

-- The worker of a write tells how it ended.
abbrev pub happening_of_end : WriteEnd → ℕ → ℕ → ℕ → Happening
happening_of_end ends.Done server job write = Done server job write
happening_of_end ends.Failed server job write = Fail server job write
