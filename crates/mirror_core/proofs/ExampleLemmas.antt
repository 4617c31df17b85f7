-- An example, by computation.
use Rattle.std.proofs.Common.{refl}
use Rattle.verify_state.specs.Same.{is_same}
use Rattle.mirror_core.specs.Examples.{KeepsTheFirst}

pub keeps_the_first : KeepsTheFirst
unfolding is_same
keeps_the_first = record { saves = refl; told = refl; kept = refl; saved_once = refl; again = refl; conflict = refl }
