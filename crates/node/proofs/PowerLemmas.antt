-- Whether a node is on, whichever it is.
use Rattle.std.proofs.Common.{◌≡◌, sym, true, false, List, Option, Some, None}
use Rattle.std.specs.Prelude.{is_some}
use Rattle.std.specs.Borrow.{Bor}
use Rattle.std.specs.Option.{option_copied}
use Rattle.node.specs.declared.power.Power.{Power}
use Rattle.node.specs.Kinds.{Kind, Shows}

pub hidden : {C N E X D O : Type 0} (k : Kind C N E X D O) (past : List X) (power : Power C N) (shown : Option (Bor C))
    → Shows k past power (option_copied shown) → is_some shown ≡ false → k.core.words.is_up past ≡ false
hidden k past power None s h = s
hidden k past power (Some core) s h = cc

pub there : {C N E X D O : Type 0} (k : Kind C N E X D O) (past : List X) (power : Power C N) (shown : Option (Bor C))
    → Shows k past power (option_copied shown) → is_some shown ≡ true → k.core.words.is_up past ≡ true
there k past power None s h = cc
there k past power (Some core) s h = s.2

pub shown : {C N E X D O : Type 0} (k : Kind C N E X D O) (past : List X) (power : Power C N) (shown : Option (Bor C))
    → Shows k past power (option_copied shown) → is_some shown ≡ k.core.words.is_up past
shown k past power None s = sym s
shown k past power (Some core) s = sym s.2
