-- Why there is no list of events.
use Rattle.std.proofs.Common.{inr, List}
use Rattle.messages.specs.Network.{Network}
use Rattle.cells.specs.Seated.{Seated}
use Rattle.assembly.specs.Marks.{marks_in, marks_of}
use Rattle.assembly.specs.declared.fault.AssembleFault.{AssembleFault}
use Rattle.assembly.specs.declared.fault.AssembleFault.TheVariants.{Unlike, NoMemory}
use Rattle.assembly.specs.Ran.{Ran, history_of}
use Rattle.assembly.specs.Unlike.{IsWhy}
use Rattle.assembly.specs.Order.{Differs}
use Rattle.assembly.proofs.MarkLemmas.{differing}

-- A history and the journal differ.
pub differs_why : (r : Ran) (net : Network) (seats : List Seated) (fault : AssembleFault) → Differs r net fault → IsWhy r net seats fault
differs_why r net seats (Unlike node at) d =
    (λ agrees. differing (marks_of (history_of r node)) (marks_in net.frames node net.journal) at d agrees.marked, inr (inr d))
differs_why r net seats NoMemory d = tt
