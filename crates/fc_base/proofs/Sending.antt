-- A fault may go from one thread to another.
use denote.Param.Send.{IsSend, sendable}
use Rattle.std.proofs.Crossing.{crosses}
use Rattle.fc_base.specs.contracts.fault.Fault as fault

pub fault_sent : IsSend fault.the_row
fault_sent = search (sendable, crosses) depth 300 fits 20000

pub fault_field_sent : IsSend (fault.the_field).row
fault_field_sent = search (sendable, crosses) depth 300 fits 20000
