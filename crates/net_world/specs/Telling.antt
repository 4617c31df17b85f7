-- What is told of what sends nothing.
use Rattle.std.specs.Prelude.{ℕ}
use Rattle.messages.specs.declared.refusal.Act.TheVariants as acts
use Rattle.net_world.specs.declared.told.WorldAnswer.TheVariants.{Plain}
use Rattle.net_world.specs.declared.told.Told.{Told}

-- Something is told that sends nothing and asks for nothing, behind so many frames.
abbrev pub plainly_told : ℕ → Told
plainly_told first = record { answer = Plain; first = first; sent = 0; act = acts.None }
