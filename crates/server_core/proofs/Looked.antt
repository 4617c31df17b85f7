-- A server that is on shows all that came to it.
use Rattle.std.proofs.Common.{◌≡◌, refl, true, List, [], ◌∷◌}
use Rattle.disk_model.specs.SaveOutcome.{is_lost}
use Rattle.node.proofs.StepLemmas.{shows_all}
use Rattle.server_core.specs.History.{Entry, Met, Cut, Restart}
use Rattle.server_core.specs.Words.{is_on}
use Rattle.server_core.specs.Answers.{shown_entries}

pub looked_on : (past : List Entry) → is_on past ≡ true → shown_entries past ≡ past
looked_on [] h = refl
looked_on (Met e left ∷ past) h = shows_all (is_on past) (is_lost left) (Met e left) past (shown_entries past) h
looked_on (Cut ∷ past) h = cc
looked_on (Restart left ∷ past) h = refl
