-- What survives of a run's writes, by computation and by the laws of targets.
use Rattle.std.proofs.Common.{◌≡◌, ◌<◌, ◌≤◌, refl, ap, arith, ℕ, zero, suc, true, false, [], ◌∷◌, length}
use Rattle.std.specs.Prelude.{IsTrue, slice_index}
use Rattle.write_order.specs.Stamps.{counting_bytes, stamped_sector, written_bytes}
use Rattle.targets.specs.declared.notice.Notice.TheVariants.{Done}
use Rattle.targets.specs.Examples.{three_writes, one_told, two_told, holds_write, two_tiles, two_tiles_written}
use Rattle.targets.specs.Fronts.{IsBehind, HistoriesAreOne, FrontsAreBehind, HistoriesGoOn, OrdersGoOn, OrderedAreIssued, ToldAreCounted, OrderedAreOpen}
use Rattle.targets.specs.Losses.{Survives, AllSurvive, SurvivorsAreNoFaults, LossesAreFaults}
use Rattle.targets.specs.Notices.{notice_bytes}
use Rattle.targets.specs.TourLaws.{TilesAreRuns}
use Rattle.targets.specs.Tours.{IsTour}
use Rattle.targets.specs.Units.{SoundBlocksHaveSoundUnits, BlocksAreUnits}
use Rattle.recheck.specs.Faults.{is_expected}
use Rattle.targets.specs.Units.{has_sound_units}
use Rattle.uses.specs.Losses.{OneIsAhead, both, wide, written, torn, SurvivorsAreThere, LossIsAFault, SoundBlockHasSoundUnits, BlockIsItsUnit, TileIsARun}
use Rattle.uses.proofs.ListLemmas.{of_those}

survives_0 : Survives three_writes one_told (holds_write 1) 0
survives_0 = record { write = 1; later = omega arith; ordered = omega arith; goes = refl; holds = refl }

survives_1 : Survives three_writes one_told (holds_write 1) 1
survives_1 = record { write = 1; later = omega arith; ordered = omega arith; goes = refl; holds = refl }

survives : AllSurvive three_writes both one_told (holds_write 1)
survives = of_those (Survives three_writes one_told (holds_write 1)) (0 ∷ 1 ∷ []) (survives_0, (survives_1, tt))

pub survivors_are_there : IsBehind three_writes (Done 0 ∷ []) both one_told two_told → SurvivorsAreNoFaults → SurvivorsAreThere
survivors_are_there behind law = record {
  behind = behind;
  is_open = refl;
  survive = survives;
  no_fault = law three_writes (Done 0 ∷ []) both one_told two_told (holds_write 1) behind survives;
}

-- Write 0 has another last byte of its number than writes 1 and 2.
other : (k : ℕ) → 1 ≤ k → k < 3 → written_bytes three_writes.key three_writes.job 0 0 ≡ written_bytes three_writes.key three_writes.job k 0 → ⊥
unfolding stamped_sector counting_bytes
other zero some few e = absurd (omega (arith, some))
other (suc zero) some few e = let byte : 0 ≡ 1 = ap (λ l. slice_index l 23) e in absurd (omega (arith, byte))
other (suc (suc zero)) some few e = let byte : 0 ≡ 2 = ap (λ l. slice_index l 23) e in absurd (omega (arith, byte))
other (suc (suc (suc k))) some few e = absurd (omega (arith, few))

gone : Survives three_writes two_told (holds_write 0) 1 → ⊥
gone s = other s.write s.later s.ordered s.holds

pub loss_is_a_fault : IsBehind three_writes (Done 0 ∷ []) both one_told two_told → LossesAreFaults → LossIsAFault
loss_is_a_fault behind law = record {
  limits = refl;
  history = behind.history;
  told = refl;
  gone = gone;
  fault = law three_writes both two_told (holds_write 0) 1 refl behind.history refl gone;
}

-- ---- two runs

pub one_is_ahead : IsBehind three_writes (Done 0 ∷ []) both one_told two_told → HistoriesAreOne → FrontsAreBehind → HistoriesGoOn → OrdersGoOn
    → OrderedAreIssued → ToldAreCounted → OrderedAreOpen → OneIsAhead
one_is_ahead behind one fronts histories orders_on issued_law counts opens =
    let first = behind.first_history in
    let ahead = behind.history in
    let itself : IsBehind three_writes (Done 0 ∷ []) (Done 0 ∷ []) one_told one_told =
    record { more = []; front = refl; first_history = first; history = first } in
    record {
      limits = refl;
      first_history = first;
      history = ahead;
      one_history = λ h is. one three_writes both two_told h ahead is;
      front = refl;
      behind = fronts three_writes (Done 0 ∷ []) both one_told two_told (notice_bytes (Done 1)) refl first ahead refl;
      goes_on = histories three_writes (Done 0 ∷ []) both one_told two_told behind;
      orders_go_on = orders_on three_writes (Done 0 ∷ []) both one_told two_told behind;
      ordered = omega arith;
      is_issued = issued_law three_writes (Done 0 ∷ []) both one_told two_told behind 1 (omega arith);
      counted = counts three_writes both two_told ahead 1;
      at_itself = itself;
      untold = refl;
      not_failed = refl;
      is_open = opens three_writes (Done 0 ∷ []) (Done 0 ∷ []) one_told one_told itself 1 (omega arith) refl refl;
    }

-- ---- units

sound : IsTrue (is_expected wide 1 (written 3))
unfolding stamped_sector counting_bytes
sound = refl

length_is : length torn ≡ 1024
unfolding stamped_sector counting_bytes
length_is = refl

unsound : is_expected wide 1 torn ≡ false
unfolding stamped_sector counting_bytes
unsound = refl

sectors : has_sound_units wide 512 1 torn ≡ true
unfolding stamped_sector counting_bytes
sectors = refl

pub sound_block_has_sound_units : SoundBlocksHaveSoundUnits → SoundBlockHasSoundUnits
sound_block_has_sound_units law = record { sound = sound; units = law wide 512 1 (written 3) sound }

pub block_is_its_unit : BlocksAreUnits → BlockIsItsUnit
block_is_its_unit law = record {
  limits = refl;
  length_is = length_is;
  whole = law wide refl 1 torn length_is;
  unsound = unsound;
  sectors = sectors;
}

-- ---- a tour

pub tile_is_a_run : IsTour 0 three_writes.job two_tiles two_tiles_written → TilesAreRuns → TileIsARun
tile_is_a_run tour law = record {
  tour = tour;
  run_is = refl;
  told = refl;
  closed = refl;
  is_open = refl;
  is_run = law 0 three_writes.job two_tiles two_tiles_written 0 1 tour refl refl;
}
