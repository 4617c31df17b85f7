use Rattle.std.proofs.Common.{rules, filter, ap, ◌∙◌}
use Rattle.std.proofs.lemmas.Fn.{filter_same}
use Rattle.ledger.specs.Entries.{is_held}
use Rattle.ledger.proofs.entry.Entry.keep_held.Goals as goal

pub returns : goal.returns
returns c = filter_same _ _ _ (λ x b f' k. search rules) _ _ c.retain.ensures.filtered ∙ ap (filter (is_held c.args.block c.args.bytes.now)) c.self.view_is
