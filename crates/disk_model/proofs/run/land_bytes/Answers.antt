use Rattle.std.proofs.Common.{arith}
use Rattle.disk_model.specs.Picks.{is_picked}
use Rattle.disk_model.proofs.SectorLemmas.{landed_part}
use Rattle.disk_model.proofs.run.land_bytes.Goals as goal

pub returns : goal.returns
returns c i lt =
    landed_part (is_picked c.args.picks) c.args.run.now c.args.bytes.now c.copy.new.to c.args.first i
    (omega arith) (omega arith) (omega arith) c.copy.ensures
