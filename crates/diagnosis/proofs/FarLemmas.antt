-- Blocks of one sector that are told as another write.
use Rattle.std.proofs.Common.{◌≡◌, ℕ, ◌<◌, ◌≤◌, Bool, true, false, ◌&&◌, eqb, List, [], ◌∷◌, take, refl, sym, ap, ◌∙◌, inl, arith}
use Rattle.std.specs.Prelude.{Option, Some, None, IsTrue, IsSomeAnd, nat_le}
use Rattle.std.specs.List.{list_any}
use Rattle.std.proofs.lemmas.Bool.{and_parts, eqb-true, leb-true, or_right}
use Rattle.std.proofs.lemmas.Slice.Eq.{bytes_eq-Decides}
use Rattle.fc_base.specs.Keys.{is_same_key}
use Rattle.write_order.specs.Stamps.{written_bytes}
use Rattle.recheck.specs.Expected.{Expected}
use Rattle.recheck.specs.Faults.{last_write, is_expected, is_write, writes_to}
use Rattle.diagnosis.specs.declared.holds.Holds.{Holds}
use Rattle.diagnosis.specs.declared.holds.Holds.TheVariants as kinds
use Rattle.diagnosis.specs.declared.piece.Piece.TheVariants as pieces
use Rattle.diagnosis.specs.declared.stamp.Write.{Write}
use Rattle.diagnosis.specs.Damage.{AreInPlace, IsDamaged, is_in_place, is_near_expected, is_stamp_in_place, may_have_come}
use Rattle.diagnosis.specs.Held.{HoldsWrite, own_write}
use Rattle.diagnosis.specs.Kinds.{BlockHolds}
use Rattle.diagnosis.specs.Laws.{is_another_write}
use Rattle.diagnosis.specs.Pieces.{is_all, piece_at, says_something}
use Rattle.diagnosis.proofs.SectorLemmas.{stamp_with}
use Rattle.diagnosis.proofs.BlockLemmas.{first_sector, says_write}
use Rattle.diagnosis.proofs.PieceLemmas.{counts_on, is_piece}

-- What the first sector of a whole write holds.
first_piece : (e : Expected) (bytes : List ℕ) (w : Write) → 512 ≤ e.job.bs → HoldsWrite e bytes w → piece_at e bytes 0 ≡ pieces.Stamp (stamp_with w 0)
unfolding piece_at
first_piece e bytes w some h =
    let sector = take 512 bytes in
    let says = says_write e bytes w some h in
    let none : is_all 0 sector ≡ false = ap (is_all 0) (first_sector e.job bytes w some h.stamps h.held) ∙ counts_on w 0 0 in
    is_piece e sector (is_all 0 sector) (says_something e sector) h.stamps refl refl none says.0 ∙ ap pieces.Stamp says.1

-- Where each sector is in its place, so is the first stamp of a whole write.
in_place : (e : Expected) (block : ℕ) (bytes : List ℕ) (w : Write) → e.job.bs ≡ 512 → HoldsWrite e bytes w → AreInPlace e block bytes
    → is_stamp_in_place e block 0 (stamp_with w 0) ≡ true
in_place e block bytes w one h all =
    sym (ap (is_in_place e block 0) (first_piece e bytes w (omega (arith, one)) h)) ∙ all 0 (omega (arith, one))

abbrev write_by : ℕ → ℕ → ℕ → ℕ → ℕ → Write
write_by run server job seq block = record { key = record { run = run; server = server; job = job }; seq = seq; block = block }

-- Such a stamp is one of the job's own writes to the block, which may have come to it.
own_stamp : (e : Expected) (block : ℕ) (w : Write) → is_stamp_in_place e block 0 (stamp_with w 0) ≡ true
    → (w ≡ own_write e block w.seq) × (may_have_come e block w.seq ≡ true)
own_stamp e block w is =
    let one = and_parts (is_same_key w.key e.key) (eqb w.block block && (eqb 0 0 && may_have_come e block w.seq)) is in
    let two = and_parts (eqb w.block block) (eqb 0 0 && may_have_come e block w.seq) one.1 in
    let three = and_parts (eqb 0 0) (may_have_come e block w.seq) two.1 in
    let key = and_parts (eqb w.key.run e.key.run) (eqb w.key.server e.key.server && eqb w.key.job e.key.job) one.0 in
    let rest = and_parts (eqb w.key.server e.key.server) (eqb w.key.job e.key.job) key.1 in
    let run = eqb-true w.key.run e.key.run key.0 in
    let server = eqb-true w.key.server e.key.server rest.0 in
    let job = eqb-true w.key.job e.key.job rest.1 in
    let at = eqb-true w.block block two.0 in
    let same : write_by w.key.run w.key.server w.key.job w.seq w.block ≡ write_by e.key.run e.key.server e.key.job w.seq block = rw (run, server, job, at) refl in
    (same, three.1)

-- One of a list that passes.
passes : (test : ℕ → Bool) (k : ℕ) (xs : List ℕ) → list_any (λ j. eqb j k) xs ≡ true → test k ≡ true → list_any test xs ≡ true
passes test k [] e told = absurd cc
passes test k (x ∷ xs) e told = by (eqb x k) refl (λ rest. passes test k xs rest told)
  where
    by : (b : Bool) → eqb x k ≡ b → (list_any (λ j. eqb j k) xs ≡ true → list_any test xs ≡ true) → list_any test (x ∷ xs) ≡ true
    by true is below = let here : test x ≡ true = ap test (eqb-true x k is) ∙ told in rw here refl
    by false is below = or_right (test x) (list_any test xs) (below (rw is at e))

-- A write past the last completed one that may have come to the block is in flight there.
past_last : (e : Expected) (block : ℕ) (bytes : List ℕ) (k : ℕ) (last : Option ℕ) → last_write e block ≡ last → IsSomeAnd last (λ l. l < k)
    → bytes ≡ written_bytes e.key e.job k block → may_have_come e block k ≡ true → is_expected e block bytes ≡ true
past_last e block bytes k None is past held come = absurd past
past_last e block bytes k (Some l) is past held come = by (nat_le k l) refl
  where
    yes : is_write e block bytes k ≡ true
    yes = (bytes_eq-Decides bytes (written_bytes e.key e.job k block)).1 held

    by : (b : Bool) → nat_le k l ≡ b → is_expected e block bytes ≡ true
    by true le = let not_past = leb-true k l le in absurd (omega arith)
    by false le =
        let flies : list_any (λ j. eqb j k) (writes_to block e.in_flight) ≡ true = rw le at (rw is at come) in
        rw is (or_right (is_write e block bytes l) (list_any (is_write e block bytes) (writes_to block e.in_flight)) (passes (is_write e block bytes) k (writes_to block e.in_flight) flies yes))

far : (e : Expected) (block : ℕ) (bytes : List ℕ) → e.job.bs ≡ 512 → (IsDamaged e block bytes → ⊥) → (AreInPlace e block bytes → ⊥) → is_near_expected e block bytes ≡ false
far e block bytes one whole out = by (is_near_expected e block bytes) refl
  where
    by : (b : Bool) → is_near_expected e block bytes ≡ b → is_near_expected e block bytes ≡ false
    by true near = absurd (whole (record { near = near; out_of_place = out; unconfirmed = inl one }))
    by false none = none

both_ways : (b : Bool) → b ≡ true → b ≡ false → ⊥
both_ways b p q = let e : true ≡ false = sym p ∙ q in absurd cc

pub other_is_far : (e : Expected) → e.job.bs ≡ 512 → (block : ℕ) (bytes : List ℕ) (kind : Holds) → IsTrue (is_another_write kind) → BlockHolds e block bytes kind
    → is_near_expected e block bytes ≡ false
other_is_far e one block bytes kinds.Sound other h = absurd cc
other_is_far e one block bytes kinds.Unwritten other h = absurd cc
other_is_far e one block bytes (kinds.Filled byte) other h = absurd cc
other_is_far e one block bytes (kinds.Lost k) other h = absurd cc
other_is_far e one block bytes (kinds.Unissued k) other h =
    let held = h.1.1.0 in
    far e block bytes one h.1.0 (λ all.
    let own = own_stamp e block (own_write e block k) (in_place e block bytes (own_write e block k) one held all) in
    both_ways (is_expected e block bytes) (past_last e block bytes k (last_write e block) refl h.1.1.1 held.held own.1) h.0)
other_is_far e one block bytes (kinds.OtherRun w) other h =
    let held = h.1.1.0 in
    far e block bytes one h.1.0 (λ all. h.1.1.1 (ap (λ (v : Write). v.key.run) (own_stamp e block w (in_place e block bytes w one held all)).0))
other_is_far e one block bytes (kinds.Misdirected w) other h =
    let held = h.1.1.0 in
    far e block bytes one h.1.0 (λ all. h.1.1.2 (own_stamp e block w (in_place e block bytes w one held all)).0)
other_is_far e one block bytes kinds.Torn other h = absurd cc
other_is_far e one block bytes (kinds.Corrupt n) other h = absurd cc
