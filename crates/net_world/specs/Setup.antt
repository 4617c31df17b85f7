-- What a world is made with.
use Rattle.std.specs.Prelude.{ℕ, Bool, false}
use Rattle.net_world.specs.declared.config.Config.{Config}

-- A world has this many servers, and a mirror or none.
pub record Setup : Type 0 where
  pub servers : ℕ
  pub mirror : Bool

-- A world with this many servers, and no mirror.
abbrev pub without_mirror : ℕ → Setup
without_mirror n = record { servers = n; mirror = false }

-- What a configuration says.
abbrev pub setup_of : Config → Setup
setup_of config = record { servers = config.servers; mirror = config.mirror }
