use Rattle.std.proofs.Common.{◌≡◌, ◌<◌, ℕ, false}
use Rattle.commands.specs.Texts.{is_closing}
use Rattle.commands.proofs.texts.texts_of.Given as goal

abbrev pub invariant-loop-at : goal.invariant-loop-at
invariant-loop-at l = (earlier : ℕ) → earlier < l.at → is_closing l.input earlier ≡ false
