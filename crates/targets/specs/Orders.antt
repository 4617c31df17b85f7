-- The orders by which the writes of a job are carried out elsewhere.
use Rattle.std.specs.Prelude.{ℕ, List, ◌++◌}
use Rattle.std.specs.List.{flat_map}
use Rattle.std.specs.Int.{w64}
use Rattle.fc_base.specs.Layouts.{bytes_of}
use Rattle.fc_base.specs.declared.numbers.Key.{Key}
use Rattle.fc_base.specs.declared.record.JobParts.{JobParts}
use Rattle.write_order.specs.Blocks.{block_of}
use Rattle.write_order.specs.Stamps as block
use Rattle.engine.specs.History.{Event, issues}

-- The order of write k: its number and its block, eight bytes each, and then the bytes of the
-- block.
abbrev pub order_bytes : Key → JobParts → ℕ → List ℕ
order_bytes key job k =
    bytes_of w64 k ++ (bytes_of w64 (block_of job k) ++ block.bytes_of key job k)

-- The orders of a history, each behind these bytes: one for each write that was issued, in their
-- order.
abbrev pub orders_behind : List ℕ → Key → JobParts → List Event → List ℕ
orders_behind head key job h = flat_map (λ k. head ++ order_bytes key job k) (issues h)

-- The orders of a history: one for each write that was issued, in their order.
abbrev pub orders : Key → JobParts → List Event → List ℕ
orders key job h = flat_map (order_bytes key job) (issues h)
