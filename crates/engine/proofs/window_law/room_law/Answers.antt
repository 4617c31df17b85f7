use Rattle.std.proofs.Common.{refl}
use Rattle.engine.specs.Kept.{kept_of}
use Rattle.engine.proofs.StepLemmas.{room_is}
use Rattle.engine.proofs.window_law.room_law.Goals as goal

pub returns : goal.returns
returns c depth window h some l = room_is depth window (kept_of depth window h) h some (record { legal = l; kept_is = refl })
