-- Which call of a failing device fails.
use Rattle.std.specs.Prelude.{ℕ, ◌-◌, ◌==◌, Option, Some, None, if◌then◌else◌}
use Rattle.disk_model.specs.declared.countdown.Countdown.{Countdown}
use Rattle.disk_model.specs.declared.countdown.Countdown.TheVariants.{Left, Failed, Passed}

-- How many calls come before the one that fails, or none once that call was made.
abbrev pub left_of : Countdown → Option ℕ
left_of (Left n) = Some n
left_of Failed = None
left_of Passed = None

-- How often the device has failed.
abbrev pub failures_of : Countdown → ℕ
failures_of (Left n) = 0
failures_of Failed = 1
failures_of Passed = 0

-- How many calls are left once one more was made.
abbrev pub one_fewer : Option ℕ → Option ℕ
one_fewer None = None
one_fewer (Some n) = if n == 0 then None else Some (n - 1)
