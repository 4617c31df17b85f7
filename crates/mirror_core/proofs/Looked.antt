-- A mirror that is on answers from the whole list.
use Rattle.std.proofs.Common.{refl, [], ◌∷◌}
use Rattle.disk_model.specs.SaveOutcome.{is_lost}
use Rattle.node.proofs.StepLemmas.{shows_all}
use Rattle.mirror_core.specs.History.{Met, Cut, Restart}
use Rattle.mirror_core.specs.Words.{is_on, shown_entries}
use Rattle.mirror_core.specs.Laws.{LooksAtAll}

pub looks_at_all : LooksAtAll
looks_at_all [] h = cc
looks_at_all (Met f left ∷ past) h = shows_all (is_on past) (is_lost left) (Met f left) past (shown_entries past) h
looks_at_all (Cut ∷ past) h = cc
looks_at_all (Restart ∷ past) h = refl
