-- What the commands of a script make happen in a world.
use Rattle.std.specs.Prelude.{ℕ, List, replicate}
use Rattle.net_world.specs.Happenings as worlds
use Rattle.net_world.specs.Happenings.{Happening, CutIn}
use Rattle.net_script.specs.declared.command.Saving.{Saving}
use Rattle.net_script.specs.declared.command.Saving.TheVariants.{Begin, Verify, Deliver, Restart, Renew}
use Rattle.net_script.specs.declared.command.Command.{Command}
use Rattle.net_script.specs.declared.command.Command.TheVariants.{Saves, CutShort, Trigger, Stop, Tick, Issue, Land, Done, Fail, Rot, Check, Cut, LoseNote}

-- What a command makes happen in which a node may save, with its text.
abbrev pub saving_happens : Saving → List ℕ → Happening
saving_happens Begin text = worlds.Begin text
saving_happens (Verify run) text = worlds.Verify run text
saving_happens (Deliver frame) text = worlds.Deliver frame
saving_happens (Restart node) text = worlds.Restart node
saving_happens (Renew generation) text = worlds.Renew generation

-- What a command makes happen, with its text. A sector rots to a byte over and over.
abbrev pub happens : Command → List ℕ → Happening
happens (Saves command) text = saving_happens command text
happens (CutShort landed command) text = CutIn landed (saving_happens command text)
happens (Trigger run act) text = worlds.Trigger run act
happens (Stop run) text = worlds.StopRun run
happens Tick text = worlds.Tick
happens (Issue server job) text = worlds.Issue server job
happens (Land server job write mask) text = worlds.Land server job write mask
happens (Done server job write) text = worlds.Done server job write
happens (Fail server job write) text = worlds.Fail server job write
happens (Rot server job sector byte) text = worlds.Rot server job sector (replicate 512 byte)
happens (Check server job) text = worlds.Check server job
happens (Cut node) text = worlds.Cut node
happens LoseNote text = worlds.LoseNote
