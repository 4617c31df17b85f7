-- How an engine is kept. No public contract cites this.
use Rattle.std.specs.Prelude.{◌≡◌, ℕ, ◌≤◌, false, IsTrue, List, length, map, vec_capacity}
use Rattle.fc_base.specs.declared.record.JobParts.{JobParts}
use Rattle.fc_base.specs.JobParts.{is_within_limits}
use Rattle.write_order.specs.Blocks.{block_of}
use Rattle.engine.specs.History.{Event}
use Rattle.engine.specs.declared.writes.OpenWrite.{OpenWrite}
use Rattle.engine.specs.declared.engine.Engine.TheInside.{Inside}
use Rattle.fc_base.specs.Keys.{is_key}
use Rattle.engine.specs.Running.{Origin, Running, StandsFor}

-- Where the writes of an engine come from.
abbrev pub origin_in : Inside → Origin
origin_in engine = record { boot = engine.boot; key = engine.key; job = engine.rec }

-- What the fields of an engine show.
abbrev pub running_in : Inside → Running
running_in engine = record {
  origin = origin_in engine;
  stopped = engine.stopped;
  failed = engine.failed;
  kept = engine.window;
}

-- An open write, as it is kept.
abbrev pub open_write : JobParts → ℕ → OpenWrite
open_write job k = record { seq = k; block = block_of job k }

-- The job is within its limits and the key is one that a state can have; the window has the job's
-- limits; the order stands at the next write; the open writes are those of the window, at most
-- depth of them, with room for as many; all writes in flight are open until one fails; and there is
-- a history that all this comes from.
pub record IsConsistent (engine : Inside) : Type 0 where
  pub limits : IsTrue (is_within_limits engine.rec)
  pub key : IsTrue (is_key engine.key)
  pub depth : engine.window.depth ≡ engine.rec.depth
  pub window : engine.window.window ≡ engine.rec.window
  pub order : engine.order ≡ record { job = engine.rec; issued = engine.window.issued }
  pub open_writes : engine.open.items ≡ map (open_write engine.rec) engine.window.open_writes
  pub few : length engine.window.open_writes ≤ engine.rec.depth
  pub room : engine.rec.depth ≤ vec_capacity engine.open
  pub none_failed : engine.failed ≡ false → engine.window.in_flight ≡ engine.window.open_writes
  pub history : ∥ ((h : List Event) × StandsFor (running_in engine) h) ∥₁
