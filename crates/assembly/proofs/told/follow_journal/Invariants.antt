use Rattle.std.proofs.Common.{◌≡◌, reverse}
use Rattle.messages.specs.Journal.{count_sent}
use Rattle.assembly.specs.Ran.{ran_of}
use Rattle.assembly.specs.Order.{IsFollowed}
use Rattle.assembly.proofs.JournalLemmas.{told_of}
use Rattle.assembly.proofs.told.follow_journal.Given as goal

abbrev pub invariant-loop-line : goal.invariant-loop-line
invariant-loop-line g l =
    IsFollowed (ran_of l.client l.servers) l.hub.net (told_of (reverse l.hub.net.journal) l.line-index) l.order
    × (l.sent ≡ count_sent (told_of (reverse l.hub.net.journal) l.line-index))
