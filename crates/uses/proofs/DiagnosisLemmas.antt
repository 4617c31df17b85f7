-- What a sector holds, by computation and by the laws of diagnosis.
use Rattle.std.proofs.Common.{◌≡◌, ◌<◌, refl, ap, arith, ℕ, true, false, List, length, Some}
use Rattle.std.specs.Prelude.{IsTrue, nat_lt}
use Rattle.std.specs.List.{list_all}
use Rattle.write_order.specs.Stamps.{counting_bytes, stamped_sector}
use Rattle.diagnosis.specs.declared.holds.Holds.TheVariants as kinds
use Rattle.diagnosis.specs.Damage.{IsDamaged, is_near_expected}
use Rattle.diagnosis.specs.Held.{HoldsWrite, own_write}
use Rattle.diagnosis.specs.Kinds.{BlockHolds}
use Rattle.diagnosis.specs.Laws.{SectorsSayOneThing, EachBlockHoldsOneKind, NamedWritesAreHeld, LostWritesAreOlder, UnissuedWritesWereNotIssued, OtherWritesAreFar, PiecesSay}
use Rattle.diagnosis.specs.Sectors.{Says, HasRoom, fields_of}
use Rattle.recheck.specs.Faults.{is_expected}
use Rattle.uses.specs.OneJob.{key, job, state}
use Rattle.uses.specs.Diagnoses.{expected, sector, said, SaysThatAlone, IsLostAlone, IsMisdirected, LostIsOlder, IsUnissued, IsFar, IsToldAsItsStamp}
use Rattle.uses.proofs.ListLemmas.{each_is_byte}

-- ---- what block 0 may hold is far from what it holds

far_0 : is_near_expected expected 0 (sector 0 0) ≡ false
unfolding stamped_sector counting_bytes lib.Count.ones
far_0 = refl

far_3 : is_near_expected expected 0 (sector 3 1) ≡ false
unfolding stamped_sector counting_bytes lib.Count.ones
far_3 = refl

far_4 : is_near_expected expected 0 (sector 4 0) ≡ false
unfolding stamped_sector counting_bytes lib.Count.ones
far_4 = refl

unexpected_0 : is_expected expected 0 (sector 0 0) ≡ false
unfolding stamped_sector counting_bytes
unexpected_0 = refl

unexpected_3 : is_expected expected 0 (sector 3 1) ≡ false
unfolding stamped_sector counting_bytes
unexpected_3 = refl

unexpected_4 : is_expected expected 0 (sector 4 0) ≡ false
unfolding stamped_sector counting_bytes
unexpected_4 = refl

undamaged : (bytes : List ℕ) → is_near_expected expected 0 bytes ≡ false → IsDamaged expected 0 bytes → ⊥
undamaged bytes far d = let near : is_near_expected expected 0 bytes ≡ true = d.near in absurd cc

-- ---- what it holds

pub room : (k block : ℕ) → k < 6 → block < 2 → HasRoom (said k block).write
room k block few near = record { run = omega arith; server = omega arith; job = omega arith; seq = omega (arith, few); block = omega (arith, near) }

holds_0 : HoldsWrite expected (sector 0 0) (said 0 0).write
unfolding stamped_sector counting_bytes
holds_0 = record { stamps = refl; room = room 0 0 (omega arith) (omega arith); possible = refl; held = refl }

holds_3 : HoldsWrite expected (sector 3 1) (said 3 1).write
unfolding stamped_sector counting_bytes
holds_3 = record { stamps = refl; room = room 3 1 (omega arith) (omega arith); possible = refl; held = refl }

holds_4 : HoldsWrite expected (sector 4 0) (said 4 0).write
unfolding stamped_sector counting_bytes
holds_4 = record { stamps = refl; room = room 4 0 (omega arith) (omega arith); possible = refl; held = refl }

lost : BlockHolds expected 0 (sector 0 0) (kinds.Lost 0)
lost = let older : 0 < 2 = omega arith in (unexpected_0, (undamaged (sector 0 0) far_0, (holds_0, older)))

unissued : BlockHolds expected 0 (sector 4 0) (kinds.Unissued 4)
unissued = let newer : 2 < 4 = omega arith in (unexpected_4, (undamaged (sector 4 0) far_4, (holds_4, newer)))

elsewhere : (said 3 1).write ≡ own_write expected 0 3 → ⊥
elsewhere e = absurd (omega (arith, ap (λ w. w.block) e))

misdirected : BlockHolds expected 0 (sector 3 1) (kinds.Misdirected (said 3 1).write)
misdirected = (unexpected_3, (undamaged (sector 3 1) far_3, (holds_3, refl, elsewhere)))

-- ---- by the laws

says : Says (sector 3 1) (fields_of (said 3 1))
says = record {
  room = record { run = omega arith; server = omega arith; job = omega arith; write = omega arith; block = omega arith; sector = omega arith };
  bytes = refl;
}

length_0 : length (sector 0 0) ≡ 512
unfolding stamped_sector counting_bytes
length_0 = refl

length_3 : length (sector 3 1) ≡ 512
unfolding stamped_sector counting_bytes
length_3 = refl

bytes_3 : IsTrue (list_all (λ x. nat_lt x 256) (sector 3 1))
unfolding stamped_sector counting_bytes
bytes_3 = refl

pub says_that_alone : SectorsSayOneThing → SaysThatAlone
says_that_alone law = record { says = says; alone = λ fields h. law (sector 3 1) (fields_of (said 3 1)) fields says h }

-- Where block 0 holds write k: each premise is a computation at that number.
pub is_lost_alone : (k : ℕ) → length (sector k 0) ≡ 512 → is_expected expected 0 (sector k 0) ≡ false → is_near_expected expected 0 (sector k 0) ≡ false
    → HoldsWrite expected (sector k 0) (said k 0).write → k < 2 → EachBlockHoldsOneKind → IsLostAlone k
is_lost_alone k length_is unexpected far held older law =
    let holds : BlockHolds expected 0 (sector k 0) (kinds.Lost k) = (unexpected, (undamaged (sector k 0) far, (held, older))) in
    record {
      limits = refl;
      length_is = length_is;
      holds = holds;
      alone = λ kind h. law expected refl 0 (sector k 0) length_is (kinds.Lost k) kind holds h;
    }

pub is_misdirected : NamedWritesAreHeld → IsMisdirected
is_misdirected law = record { holds = misdirected; held = law expected 0 (sector 3 1) (kinds.Misdirected (said 3 1).write) misdirected }

pub lost_is_older : LostWritesAreOlder → LostIsOlder
lost_is_older law = record {
  within = omega arith;
  holds = lost;
  older = law key job (Some state) 0 (sector 0 0) 0 (omega arith) lost;
}

pub is_unissued : UnissuedWritesWereNotIssued → IsUnissued
is_unissued law = record {
  within = omega arith;
  holds = unissued;
  goes = refl;
  not_issued = λ issued. law key job (Some state) 0 (sector 4 0) 4 (omega arith) unissued issued refl;
}

pub is_far : OtherWritesAreFar → IsFar
is_far law = record {
  one_sector = refl;
  another = refl;
  holds = misdirected;
  far = law expected refl 0 (sector 3 1) (kinds.Misdirected (said 3 1).write) refl misdirected;
}

pub is_told_as_its_stamp : PiecesSay → IsToldAsItsStamp
is_told_as_its_stamp law =
    let fits = each_is_byte (sector 3 1) bytes_3 in
    record {
      stamps = refl;
      length_is = length_3;
      fits = fits;
      says = says;
      possible = refl;
      told = (law expected refl (sector 3 1) length_3 fits (said 3 1)).1 (says, refl);
      told_so = λ stamp h. ((law expected refl (sector 3 1) length_3 fits stamp).0 h).0;
    }
