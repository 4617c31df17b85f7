-- How a block is filled.
use Rattle.std.proofs.Common.{◌≡◌, ℕ, ◌+◌, ◌*◌, ◌%◌, ◌<◌, ◌≤◌, List, [], ◌++◌, ◌/◌, length, get_or, take}
use Rattle.std.proofs.Common.{drop, refl, sym, ap, ◌∙◌, arith, length-append, length-take, length-drop}
use borrow.Rule.Slice.PartMut.{put_mid, post_of}
use Rattle.std.specs.List.{range_with_len, flat_map}
use Rattle.std.specs.Int.{w32, w64, to_be_bytes}
use Rattle.std.proofs.lemmas.List.{append_assoc, append-nil, drop-drop, drop_all, flat_map_more}
use Rattle.std.proofs.lemmas.List.FromFn.{fill_by_all}
use Rattle.std.proofs.lemmas.Slice.{take-put_mid}
use Rattle.fc_base.specs.declared.record.JobParts.{JobParts}
use Rattle.fc_base.specs.declared.record.Verify.TheVariants.{Stamp}
use Rattle.fc_base.specs.declared.numbers.Key.{Key}
use Rattle.write_order.specs.Stamps.{counting_bytes, stamped_sector, written_bytes}
use Rattle.write_order.specs.Filling.{with_number}
use Rattle.write_order.proofs.PickSteps.{range_with_len-more}

-- Bytes that each count up are counting bytes.
pub counting_bytes-from : (from : ℕ) (xs : List ℕ) (n : ℕ) → length xs ≡ n → ((k : ℕ) → k < n → get_or xs k 0 ≡ (from + k) % 256) → xs ≡ counting_bytes from n
unfolding counting_bytes
counting_bytes-from from xs n len each = fill_by_all (λ i. (from + i) % 256) xs n 0 len each

-- A copy of the stamp, with the number written into it.
pub with_number-from : (xs ys stamp : List ℕ) (number : ℕ) → xs ≡ stamp → ys ≡ to_be_bytes w32 number → put_mid 32 4 xs ys ≡ with_number stamp number
with_number-from xs ys stamp number copied written =
    rw (copied, written) (sym (append_assoc (take 32 stamp) (to_be_bytes w32 number) (drop 4 (drop 32 stamp)))
    ∙ ap (λ zs. take 32 stamp ++ to_be_bytes w32 number ++ zs) (drop-drop 4 32 stamp))

-- One more sector.
pub sectors-more : (f : ℕ → List ℕ) (number k : ℕ) (bytes sector : List ℕ) → take (number * 512) bytes ≡ flat_map f (range_with_len 0 number)
    → sector ≡ f number → length sector ≡ 512 → number * 512 ≤ length bytes
    → take ((number + 1) * 512) (put_mid (number * 512) k bytes sector) ≡ flat_map f (range_with_len 0 (number + 1))
sectors-more f number k bytes sector before is len within =
    take-put_mid (number * 512) k bytes sector ((number + 1) * 512) (omega arith) within
    ∙ ap (λ xs. xs ++ sector) before ∙ ap (λ xs. flat_map f (range_with_len 0 number) ++ xs) is
    ∙ flat_map_more f [] (range_with_len 0 number) number
    ∙ ap (flat_map f) (sym (range_with_len-more number))

-- One more field at the front.
pub front-more : (at next : ℕ) (old new front field : List ℕ) → take at old ≡ front → take next new ≡ take at old ++ field → take next new ≡ front ++ field
front-more at next old new front field before put = put ∙ ap (λ xs. xs ++ field) before

-- The fields of a stamp, one after another.
pub stamped_sector-fields : (key : Key) (k block : ℕ) (a b c d e f t : List ℕ) → a ≡ to_be_bytes w64 key.run → b ≡ to_be_bytes w32 key.server
    → c ≡ to_be_bytes w32 key.job → d ≡ to_be_bytes w64 k → e ≡ to_be_bytes w64 block → f ≡ to_be_bytes w32 0 → t ≡ counting_bytes k 476
    → a ++ b ++ c ++ d ++ e ++ f ++ t ≡ stamped_sector key k block 0
unfolding stamped_sector
stamped_sector-fields key k block a b c d e f t p q r s u v w = rw (p, q, r, s, u, v, w) refl

-- The rest behind the fields.
pub rest-put : (at k : ℕ) (xs ys front : List ℕ) → take at xs ≡ front → length xs ≤ at + k → put_mid at k xs ys ≡ front ++ ys
rest-put at k xs ys front before end =
    let none : post_of at k xs ≡ [] = drop-drop k at xs ∙ drop_all (at + k) xs end in
    rw (none, append-nil) (ap (λ zs. zs ++ ys) before)

-- The stamp of a sector is that of the first with the sector's number.
pub with_number-sector : (key : Key) (k block : ℕ) → with_number (stamped_sector key k block 0) ≡ stamped_sector key k block
unfolding stamped_sector
with_number-sector key k block = refl

pub length-with_number : (stamp : List ℕ) (number : ℕ) → length stamp ≡ 512 → length (with_number stamp number) ≡ 512
length-with_number stamp number len =
    omega (arith, length-append {A = ℕ}, length-take {A = ℕ}, length-drop {A = ℕ})

-- The stamps of all sectors are the bytes of the write.
pub stamps_are-bytes : (key : Key) (job : JobParts) (k block sectors : ℕ) (stamp bytes : List ℕ) → job.verify ≡ Stamp → stamp ≡ stamped_sector key k block 0
    → sectors ≡ job.bs / 512 → bytes ≡ flat_map (with_number stamp) (range_with_len 0 sectors) → bytes ≡ written_bytes key job k block
stamps_are-bytes key job k block sectors stamp bytes verify is count filled =
    rw verify (filled ∙ ap (λ n. flat_map (with_number stamp) (range_with_len 0 n)) count
    ∙ ap (λ (f : ℕ → List ℕ). flat_map f (range_with_len 0 (job.bs / 512))) (ap with_number is ∙ with_number-sector key k block))
