-- How a command is asked in which a node may save.
use Rattle.net_script.specs.declared.command.Saving.{Saving}
use Rattle.net_script.specs.declared.command.Command.{Command}
use Rattle.net_script.specs.declared.command.Command.TheVariants as commands
use Rattle.net_script.specs.declared.table.cuts.Asked.{Asked}
use Rattle.net_script.specs.declared.table.cuts.Asked.TheVariants.{AsItIs, CutShort}

-- The command, as it is or cut short.
abbrev pub saving_command : Asked → Saving → Command
saving_command AsItIs command = commands.Saves command
saving_command (CutShort landed) command = commands.CutShort landed command
