-- What a sector is told as.
use Rattle.std.proofs.Common.{◌≡◌, ℕ, ◌+◌, ◌%◌, ◌^◌, ◌<◌, Bool, true, false, List, length, get_or, replicate, refl, sym, ap, subst, ◌∙◌, arith}
use Rattle.std.specs.Prelude.{nat_lt, if◌then◌else◌}
use Rattle.std.proofs.lemmas.Bool.{and_parts, false_from_ne_true, ltb-true}
use Rattle.std.proofs.lemmas.List.{get_or-replicate, get_or-drop}
use Rattle.fc_base.specs.declared.limits.TheConstants.{MAX_BLOCKS, MAX_WRITES}
use Rattle.fc_base.specs.Keys.{is_key}
use Rattle.fc_base.specs.declared.record.Verify.TheVariants as verifies
use Rattle.recheck.specs.Expected.{Expected}
use Rattle.write_order.specs.Laws.{HasRoomInAStamp, sector_with}
use Rattle.diagnosis.specs.declared.piece.Piece.TheVariants as pieces
use Rattle.diagnosis.specs.declared.stamp.Stamp.{Stamp}
use Rattle.diagnosis.specs.declared.stamp.Write.{Write}
use Rattle.diagnosis.specs.Sectors.{Says, fields_of, HasRoom, stamp_in, is_stamped}
use Rattle.diagnosis.specs.Limits.{can_be, fits_its_job, is_of_some_job}
use Rattle.diagnosis.specs.Pieces.{is_all, piece_of, says_something}
use Rattle.diagnosis.proofs.SectorLemmas.{IsBytes, stamp_with, read_back, is_stamped-stamp, stamped_is, stamp_room, tail_of, count_at}
use Rattle.diagnosis.proofs.BlockLemmas.{all_same, length-stamped_sector, stamp_says}

-- A stamp is no byte over and over: the bytes behind its numbers count up.
pub counts_on : (w : Write) (sector byte : ℕ) → is_all byte (sector_with (fields_of (stamp_with w sector))) ≡ false
counts_on w sector byte = false_from_ne_true (is_all byte bytes) (λ all.
    let same : bytes ≡ replicate 512 byte = all_same byte bytes all ∙ ap (λ n. replicate n byte) (length-stamped_sector w.key w.seq w.block sector) in
    let at = λ (i : ℕ) (lt : i < 476).
    let within : 36 + i < 512 = omega arith in
    let here : (w.seq + i) % 256 ≡ byte =
    sym (count_at w.seq 476 i lt) ∙ ap (λ l. get_or l i 0) (sym (tail_of w sector)) ∙ get_or-drop 36 bytes i 0
    ∙ ap (λ l. get_or l (36 + i) 0) same ∙ get_or-replicate 512 (36 + i) byte 0 within in
    here in
    let zeroth = at 0 (omega arith) in
    let next = at 1 (omega arith) in
    absurd (omega arith))
  where
    bytes : List ℕ
    bytes = sector_with (fields_of (stamp_with w sector))

low_block : (e : Expected) (stamp : Stamp) → can_be e stamp ≡ true → stamp.write.block < 2 ^ 32
low_block e stamp can =
    let some = (and_parts (is_of_some_job stamp) (fits_its_job e stamp) can).0 in
    let below = (and_parts (is_key stamp.write.key) _ some).1 in
    let rest = (and_parts (nat_lt stamp.write.seq MAX_WRITES) _ below).1 in
    let lt : stamp.write.block < MAX_BLOCKS = ltb-true stamp.write.block MAX_BLOCKS (and_parts (nat_lt stamp.write.block MAX_BLOCKS) _ rest).0 in
    omega arith

pub is_piece : (e : Expected) (sector : List ℕ) (zeros says : Bool) → e.job.verify ≡ verifies.Stamp → is_all 0 sector ≡ zeros → says_something e sector ≡ says
    → zeros ≡ false → says ≡ true → piece_of e sector ≡ pieces.Stamp (stamp_in sector)
is_piece e sector zeros says stamps all some none told = rw (all ∙ none, stamps, some ∙ told) refl

pub says_piece : (e : Expected) (sector : List ℕ) (stamp : Stamp) → e.job.verify ≡ verifies.Stamp → can_be e stamp ≡ true → Says sector (fields_of stamp)
    → piece_of e sector ≡ pieces.Stamp stamp
says_piece e sector stamp stamps can says =
    let w = stamp.write in
    let room : HasRoom w = record { run = says.room.run; server = says.room.server; job = says.room.job; seq = says.room.write; block = low_block e stamp can } in
    let bytes = sector_with (fields_of stamp) in
    let is = read_back w stamp.sector room says.room.sector in
    let something = stamp_says e bytes stamp (is_stamped-stamp w stamp.sector room says.room.sector) is can in
    ap (piece_of e) says.bytes ∙ is_piece e bytes (is_all 0 bytes) (says_something e bytes) stamps refl refl (counts_on w stamp.sector 0) something ∙ ap pieces.Stamp is

is_stamp : (e : Expected) (sector : List ℕ) (stamp : Stamp) (zeros says : Bool) → says_something e sector ≡ says
    → (if zeros then pieces.Zeros else (if says then pieces.Stamp (stamp_in sector) else pieces.Unknown)) ≡ pieces.Stamp stamp
    → (is_stamped sector ≡ true) × (stamp_in sector ≡ stamp) × (can_be e stamp ≡ true)
is_stamp e sector stamp true says is told = absurd cc
is_stamp e sector stamp false true is told =
    let both = and_parts (is_stamped sector) (can_be e (stamp_in sector)) is in
    let same : stamp_in sector ≡ stamp = cc in
    (both.0, same, ap (can_be e) (sym same) ∙ both.1)
is_stamp e sector stamp false false is told = absurd cc

pub piece_says : (e : Expected) (sector : List ℕ) (stamp : Stamp) → e.job.verify ≡ verifies.Stamp → IsBytes sector → length sector ≡ 512
    → piece_of e sector ≡ pieces.Stamp stamp → Says sector (fields_of stamp) × (can_be e stamp ≡ true)
piece_says e sector stamp stamps fits len told =
    let P : Stamp → Type 0 = λ s. HasRoomInAStamp (fields_of s) in
    let is = is_stamp e sector stamp (is_all 0 sector) (says_something e sector) refl (rw stamps at told) in (
      record {
        room = subst P is.1 (stamp_room sector fits);
        bytes = stamped_is sector is.0 ∙ ap (λ (s : Stamp). sector_with (fields_of s)) is.1;
      },
      is.2,
    )
