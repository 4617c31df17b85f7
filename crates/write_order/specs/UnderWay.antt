-- How an order is kept.
use Rattle.std.specs.Prelude.{◌≡◌, ◌≤◌, ℕ}
use Rattle.fc_base.specs.declared.record.JobParts.{JobParts}
use Rattle.fc_base.specs.declared.record.Kind.{Kind}
use Rattle.fc_base.specs.declared.record.Kind.TheVariants.{Sequential, RandomMap, RandomFree}
use Rattle.write_order.specs.declared.order.Chooser.{Chooser}
use Rattle.write_order.specs.declared.order.Chooser.TheVariants.{InTurn, WithMap, WithoutMap}
use Rattle.write_order.specs.declared.order.Order.TheInside.{Inside}
use Rattle.write_order.specs.Words.{word}
use Rattle.write_order.specs.Ahead.{words_after}
use Rattle.write_order.specs.Passes.{PassLeft, pass_before}
use Rattle.write_order.specs.Places.{words_used}

-- How an order finds its next block: only one with a map needs a pass.
abbrev pub chooser_of : Kind → PassLeft → Chooser
chooser_of Sequential pass = InTurn
chooser_of RandomMap pass = WithMap pass
chooser_of RandomFree pass = WithoutMap

-- How the block of write k is found.
abbrev pub chooser_before : JobParts → ℕ → Chooser
chooser_before job k = chooser_of job.kind (pass_before (word job.seed) job.blocks k)

-- The words and the chooser stand where the writes issued so far have brought them.
pub record IsUnderWay (order : Inside) : Type 0 where
  pub issued : order.issued ≤ order.rec.total
  pub words : order.words ≡ words_after order.rec.seed (words_used order.rec.kind order.issued)
  pub chooser : order.chooser ≡ chooser_before order.rec order.issued
