-- The rows of the faults in the table of faults.
use Rattle.fc_base.specs.declared.fault.Fault.{Fault}
use Rattle.fc_base.specs.declared.fault.Fault.TheVariants as faults
use Rattle.assembly.specs.declared.fault.AssembleFault.{AssembleFault}
use Rattle.assembly.specs.declared.fault.AssembleFault.TheVariants.{Unlike, NoMemory}

-- The fault of an assembly, as its row in the table of faults.
abbrev pub fault_of : AssembleFault → Fault
fault_of (Unlike node at) = faults.Unlike
fault_of NoMemory = faults.NoMemory
