-- A client that is on answers from the whole list.
use Rattle.std.proofs.Common.{refl, [], ◌∷◌}
use Rattle.disk_model.specs.SaveOutcome.{is_lost}
use Rattle.node.proofs.StepLemmas.{shows_all}
use Rattle.client_core.specs.History.{Met, Cut, Restart, Renew, Lose}
use Rattle.client_core.specs.Words.{is_on, shown_entries}
use Rattle.client_core.specs.Laws.{LooksAtAll}

pub looks_at_all : LooksAtAll
looks_at_all [] h = cc
looks_at_all (Met c left ∷ past) h = shows_all (is_on past) (is_lost left) (Met c left) past (shown_entries past) h
looks_at_all (Cut ∷ past) h = cc
looks_at_all (Restart mirror ∷ past) h = refl
looks_at_all (Renew g left ∷ past) h = rw h refl
looks_at_all (Lose ∷ past) h = cc
