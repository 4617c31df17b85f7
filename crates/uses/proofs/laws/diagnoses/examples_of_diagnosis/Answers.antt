use Rattle.std.proofs.Common.{refl, arith}
use Rattle.write_order.specs.Stamps.{counting_bytes, stamped_sector}
use Rattle.uses.proofs.DiagnosisLemmas as lemmas
use Rattle.uses.proofs.laws.diagnoses.examples_of_diagnosis.Goals as goal

pub returns-clause-says : goal.returns-clause-says
returns-clause-says c = lemmas.says_that_alone c.sectors_say_one_thing.ensures

pub returns-clause-alone : goal.returns-clause-alone
unfolding stamped_sector counting_bytes lib.Count.ones
returns-clause-alone c =
    lemmas.is_lost_alone _ refl refl refl
    (record { stamps = refl; room = lemmas.room _ 0 (omega arith) (omega arith); possible = refl; held = refl }) (omega arith)
    c.each_block_holds_one_kind.ensures

pub returns-clause-misdirected : goal.returns-clause-misdirected
returns-clause-misdirected c = lemmas.is_misdirected c.named_writes_are_held.ensures

pub returns-clause-older : goal.returns-clause-older
returns-clause-older c = lemmas.lost_is_older c.own_writes_are_what_they_are_told.ensures.lost

pub returns-clause-unissued : goal.returns-clause-unissued
returns-clause-unissued c = lemmas.is_unissued c.own_writes_are_what_they_are_told.ensures.unissued

pub returns-clause-far : goal.returns-clause-far
returns-clause-far c = lemmas.is_far c.other_writes_are_far.ensures

pub returns-clause-told : goal.returns-clause-told
returns-clause-told c = lemmas.is_told_as_its_stamp c.pieces_say.ensures
