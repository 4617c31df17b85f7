-- The codes of the choices of a job.
use Rattle.std.specs.Prelude.{ℕ, zero, suc}
use Rattle.fc_base.specs.declared.record.Kind.{Kind}
use Rattle.fc_base.specs.declared.record.Kind.TheVariants.{Sequential, RandomMap, RandomFree}
use Rattle.fc_base.specs.declared.record.Verify.{Verify}
use Rattle.fc_base.specs.declared.record.Verify.TheVariants.{Stamp, Pattern}

-- The code of an order.
abbrev pub kind_code : Kind → ℕ
kind_code Sequential = 0
kind_code RandomMap = 1
kind_code RandomFree = 2

-- The code of what is written.
abbrev pub verify_code : Verify → ℕ
verify_code Stamp = 0
verify_code Pattern = 1

-- The order that a code stands for.
abbrev pub kind_of : ℕ → Kind
kind_of zero = Sequential
kind_of (suc zero) = RandomMap
kind_of (suc (suc code)) = RandomFree

-- What a code says is written.
abbrev pub verify_of : ℕ → Verify
verify_of zero = Stamp
verify_of (suc code) = Pattern
