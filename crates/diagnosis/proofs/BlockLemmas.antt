-- What whole blocks hold.
use Rattle.std.proofs.Common.{◌*◌, ◌≡◌, ℕ, zero, suc, ◌+◌, ◌/◌, ◌%◌, ◌<◌, ◌≤◌, Bool, true, false, ◌&&◌, eqb, List, [], ◌∷◌, ◌++◌}
use Rattle.std.proofs.Common.{length, drop, take, get_or, filter, replicate, cond, refl, sym, ap, subst, ◌∙◌, arith, length-append, add-zero}
use Rattle.std.specs.List.{range_with_len, flat_map, list_all}
use Rattle.std.specs.Prelude.{Option, Some, None, MatchOption, if◌then◌else◌}
use Rattle.std.specs.Str.{bytes_eq}
use Rattle.std.proofs.Math.Seq.{take-append_seam, drop-append-add}
use Rattle.std.proofs.lemmas.Bool.{and_parts, eqb-true, eq-eqb}
use Rattle.std.proofs.lemmas.List.{get_or-replicate, get_or-take, get_or-drop}
use Rattle.std.proofs.lemmas.List.{map-id}
use Rattle.std.proofs.lemmas.List.Elements.{filter-append}
use Rattle.std.proofs.lemmas.Slice.Eq.{bytes_eq-Decides}
use Rattle.std.proofs.lemmas.List.Concat.{flat_map-cons}
use Rattle.std.proofs.lemmas.List.FromFn.{map-range_with_len_more}
use Rattle.fc_base.specs.declared.record.JobParts.{JobParts}
use Rattle.fc_base.specs.declared.record.Verify.TheVariants as verifies
use Rattle.fc_base.specs.declared.numbers.Key.{Key}
use Rattle.write_order.specs.Stamps.{stamped_sector, written_bytes}
use Rattle.write_order.specs.Laws.{sector_with}
use Rattle.diagnosis.specs.declared.stamp.Stamp.{Stamp}
use Rattle.diagnosis.specs.declared.stamp.Write.{Write}
use Rattle.recheck.specs.Expected.{Expected}
use Rattle.diagnosis.specs.declared.holds.Holds.{Holds}
use Rattle.diagnosis.specs.Sectors.{fields_of, stamp_in, is_stamped, HasRoom}
use Rattle.diagnosis.specs.Pieces.{is_unknown, piece_at, says_something, unknown_below}
use Rattle.diagnosis.specs.Steps.{HoldsNoWrite, held_write, filled_kind, mixed_kind}
use Rattle.diagnosis.specs.Held.{HoldsWrite}
use Rattle.diagnosis.specs.Limits.{can_be}
use Rattle.diagnosis.specs.Kinds.{IsMixed, OtherHolds, unknown_sectors}
use Rattle.diagnosis.proofs.SectorLemmas.{stamp_with, read_back, is_stamped-stamp, length-counting_bytes, tail_of, count_at}

-- ---- a byte over and over

pub all_same : (x : ℕ) (bytes : List ℕ) → list_all (λ b. eqb b x) bytes ≡ true → bytes ≡ replicate (length bytes) x
all_same x [] e = refl
all_same x (b ∷ bytes) e =
    let both = and_parts (eqb b x) (list_all (λ b. eqb b x) bytes) e in
    let here : b ≡ x = eqb-true b x both.0 in
    rw (here) (ap (λ l. x ∷ l) (all_same x bytes both.1))

all_of_one : (x n : ℕ) → list_all (λ b. eqb b x) (replicate n x) ≡ true
all_of_one x zero = refl
all_of_one x (suc n) = rw (eq-eqb x x refl) (all_of_one x n)

-- Bytes that aren't all like the first aren't any byte over and over.
pub not_same : (bytes : List ℕ) (n byte : ℕ) → 0 < n → list_all (λ b. eqb b (get_or bytes 0 0)) bytes ≡ false → bytes ≡ replicate n byte → ⊥
not_same bytes n byte some none e =
    let first : get_or bytes 0 0 ≡ byte = ap (λ l. get_or l 0 0) e ∙ get_or-replicate n 0 byte 0 some in
    let yes : list_all (λ b. eqb b (get_or bytes 0 0)) bytes ≡ true =
    ap (λ x. list_all (λ b. eqb b x) bytes) first ∙ ap (list_all (λ b. eqb b byte)) e ∙ all_of_one byte n in
    let both : true ≡ false = sym yes ∙ none in absurd cc

-- ---- a whole write

pub length-stamped_sector : (key : Key) (k block sector : ℕ) → length (stamped_sector key k block sector) ≡ 512
unfolding stamped_sector
length-stamped_sector key k block sector = omega (arith, length-counting_bytes k 476)

-- A sector of bytes that are made sector by sector.
pub sector_at : (f : ℕ → List ℕ) (n i a : ℕ) → ((k : ℕ) → length (f k) ≡ 512) → i < n → take 512 (drop (i * 512) (flat_map f (range_with_len a n))) ≡ f (a + i)
sector_at f zero i a len lt = absurd (omega arith)
sector_at f (suc n) zero a len lt =
    let rest = flat_map f (range_with_len (a + 1) n) in
    rw (flat_map-cons f a (range_with_len (a + 1) n))
    (subst (λ m. take m (f a ++ rest) ≡ f (a + 0)) (len a) (take-append_seam (f a) rest ∙ ap f (sym (add-zero a))))
sector_at f (suc n) (suc i) a len lt =
    let rest = flat_map f (range_with_len (a + 1) n) in
    let at : suc i * 512 ≡ length (f a) + i * 512 = omega (arith, len a) in
    let next : (a + 1) + i ≡ a + suc i = omega arith in
    rw (flat_map-cons f a (range_with_len (a + 1) n), at, drop-append-add (f a) rest (i * 512))
    (sector_at f n i (a + 1) len (omega arith) ∙ ap f next)

pub first_sector : (job : JobParts) (bytes : List ℕ) (w : Write) → 512 ≤ job.bs → job.verify ≡ verifies.Stamp → bytes ≡ written_bytes w.key job w.seq w.block
    → take 512 bytes ≡ sector_with (fields_of (stamp_with w 0))
first_sector job bytes w some stamps held =
    ap (take 512) held
    ∙ rw stamps (sector_at (stamped_sector w.key w.seq w.block) (job.bs / 512) 0 0 (length-stamped_sector w.key w.seq w.block) (omega arith))

-- The first sector says the write.
first_says : (job : JobParts) (bytes : List ℕ) (w : Write) → 512 ≤ job.bs → job.verify ≡ verifies.Stamp → HasRoom w → bytes ≡ written_bytes w.key job w.seq w.block
    → (is_stamped (take 512 bytes) ≡ true) × (stamp_in (take 512 bytes) ≡ stamp_with w 0)
first_says job bytes w some stamps room held =
    let first = first_sector job bytes w some stamps held in
    (ap is_stamped first ∙ is_stamped-stamp w 0 room (omega arith), ap stamp_in first ∙ read_back w 0 room (omega arith))

-- A sector with a stamp that can be says something.
pub stamp_says : (e : Expected) (s : List ℕ) (stamp : Stamp) → is_stamped s ≡ true → stamp_in s ≡ stamp → can_be e stamp ≡ true → says_something e s ≡ true
stamp_says e s stamp stamped is can = ap (λ b. b && can_be e (stamp_in s)) stamped ∙ (ap (can_be e) is ∙ can)

pub says_write : (e : Expected) (bytes : List ℕ) (w : Write) → 512 ≤ e.job.bs → HoldsWrite e bytes w
    → (says_something e (take 512 bytes) ≡ true) × (stamp_in (take 512 bytes) ≡ stamp_with w 0)
says_write e bytes w some h =
    let first = first_says e.job bytes w some h.stamps h.room h.held in
    (stamp_says e (take 512 bytes) (stamp_with w 0) first.0 first.1 h.possible, first.1)

pub one_write : (e : Expected) (bytes : List ℕ) (v w : Write) → 512 ≤ e.job.bs → HoldsWrite e bytes v → HoldsWrite e bytes w → v ≡ w
one_write e bytes v w some h g =
    ap (λ (s : Stamp). s.write) (sym (says_write e bytes v some h).1 ∙ (says_write e bytes w some g).1)

-- A write is no byte over and over: the bytes behind the numbers count up.
pub not_filled : (x : Expected) (bytes : List ℕ) (w : Write) (byte : ℕ) → 512 ≤ x.job.bs → HoldsWrite x bytes w → bytes ≡ replicate x.job.bs byte → ⊥
not_filled x bytes w byte some h e =
    let first = first_sector x.job bytes w some h.stamps h.held in
    let at = λ (i : ℕ) (lt : i < 476).
    let inside : 36 + i < 512 = omega arith in
    let within : 36 + i < x.job.bs = omega arith in
    let front : get_or (take 512 bytes) (36 + i) 0 ≡ byte =
    get_or-take 512 bytes (36 + i) 0 inside ∙ ap (λ l. get_or l (36 + i) 0) e ∙ get_or-replicate x.job.bs (36 + i) byte 0 within in
    let here : (w.seq + i) % 256 ≡ byte =
    sym (count_at w.seq 476 i lt) ∙ ap (λ l. get_or l i 0) (sym (tail_of w 0))
    ∙ get_or-drop 36 (stamped_sector w.key w.seq w.block 0) i 0 ∙ ap (λ l. get_or l (36 + i) 0) (sym first) ∙ front in
    here in
    let zeroth = at 0 (omega arith) in
    let next = at 1 (omega arith) in
    absurd (omega arith)

-- ---- how it is found

abbrev no_stamp : Option Stamp
no_stamp = None

pub unsaid : (x : Expected) (s : List ℕ) → no_stamp ≡ (if says_something x s then Some (stamp_in s) else None) → says_something x s ≡ true → ⊥
unsaid x s e is = let both : no_stamp ≡ Some (stamp_in s) = rw is at e in absurd cc

-- What is said, and that it can be.
said : (x : Expected) (s : List ℕ) (stamp : Stamp) (b : Bool) → says_something x s ≡ b → Some stamp ≡ (if b then Some (stamp_in s) else None)
    → (stamp ≡ stamp_in s) × (can_be x (stamp_in s) ≡ true)
said x s stamp true is e = (cc, (and_parts (is_stamped s) (can_be x (stamp_in s)) is).1)
said x s stamp false is e = absurd cc

abbrev nothing : Option Write
nothing = None

-- The write that the first sector says, where the block has its bytes.
pub found : (x : Expected) (bytes : List ℕ) (stamp : Stamp) (r : Option Write) → x.job.verify ≡ verifies.Stamp → 512 ≤ x.job.bs → HasRoom stamp.write
    → Some stamp ≡ (if says_something x (take 512 bytes) then Some (stamp_in (take 512 bytes)) else None) → r ≡ held_write x.job bytes stamp.write
    → MatchOption r (HoldsNoWrite x bytes) (HoldsWrite x bytes)
found x bytes stamp r stamps some room says told = by (bytes_eq bytes written) refl
  where
    w : Write
    w = stamp.write

    written : List ℕ
    written = written_bytes w.key x.job w.seq w.block

    is : (stamp ≡ stamp_in (take 512 bytes)) × (can_be x (stamp_in (take 512 bytes)) ≡ true)
    is = said x (take 512 bytes) stamp (says_something x (take 512 bytes)) refl says

    holds : bytes ≡ written → HoldsWrite x bytes w
    holds held = record {
      stamps = stamps;
      room = room;
      possible = ap (can_be x) (sym (first_says x.job bytes w some stamps room held).1) ∙ is.1;
      held = held;
    }

    same : (v : Write) → HoldsWrite x bytes v → w ≡ v
    same v h = ap (λ (s : Stamp). s.write) (is.0 ∙ (says_write x bytes v some h).1)

    other_write : (v : Write) → HoldsWrite x bytes v → bytes_eq bytes written ≡ false → ⊥
    other_write v h differ =
        let held : bytes ≡ written = h.held ∙ ap (λ (u : Write). written_bytes u.key x.job u.seq u.block) (sym (same v h)) in
        let alike = (bytes_eq-Decides bytes written).1 held in
        let both : true ≡ false = sym alike ∙ differ in absurd cc

    by : (b : Bool) → bytes_eq bytes written ≡ b → MatchOption r (HoldsNoWrite x bytes) (HoldsWrite x bytes)
    by true e =
        let P : Option Write → Type 0 = λ o. MatchOption o (HoldsNoWrite x bytes) (HoldsWrite x bytes) in
        let here : Some w ≡ r = sym (rw e at told) in
        subst P here (holds ((bytes_eq-Decides bytes written).0 e))
    by false e =
        let P : Option Write → Type 0 = λ o. MatchOption o (HoldsNoWrite x bytes) (HoldsWrite x bytes) in
        let here : nothing ≡ r = sym (rw e at told) in
        subst P here (λ v h. other_write v h e)

pub range_with_len-more : (n : ℕ) → range_with_len 0 (n + 1) ≡ range_with_len 0 n ++ n ∷ []
range_with_len-more n = simp map-id at (map-range_with_len_more (λ (x : ℕ). x) 0 n n (omega arith))

one_more : (test : ℕ → Bool) (n : ℕ) → length (filter test (n ∷ [])) ≡ cond (test n) 1 0
one_more test n = by (test n) refl
  where
    by : (b : Bool) → test n ≡ b → length (filter test (n ∷ [])) ≡ cond (test n) 1 0
    by true e = rw e refl
    by false e = rw e refl

pub unknown_more : (e : Expected) (bytes : List ℕ) (n : ℕ) → unknown_below e bytes (n + 1) ≡ unknown_below e bytes n + cond (is_unknown (piece_at e bytes n)) 1 0
unknown_more e bytes n =
    let test = λ (k : ℕ). is_unknown (piece_at e bytes k) in
    ap (λ l. length (filter test l)) (range_with_len-more n) ∙ ap length (filter-append test (range_with_len 0 n) (n ∷ []))
    ∙ length-append (filter test (range_with_len 0 n)) (filter test (n ∷ [])) ∙ ap (λ k. unknown_below e bytes n + k) (one_more test n)

-- ---- what is told of it

pub filled_holds : (e : Expected) (block : ℕ) (bytes : List ℕ) (x : ℕ) (r : Holds) → length bytes ≡ e.job.bs → bytes ≡ replicate (length bytes) x
    → r ≡ filled_kind x → OtherHolds e block bytes r
filled_holds e block bytes x r len all told = let P : Holds → Type 0 = OtherHolds e block bytes in subst P (sym told) (by x all)
  where
    by : (x : ℕ) → bytes ≡ replicate (length bytes) x → OtherHolds e block bytes (filled_kind x)
    by zero all = all ∙ ap (λ n. replicate n 0) len
    by (suc n) all = (all ∙ ap (λ m. replicate m (suc n)) len, λ e. omega arith)

pub mixed_holds : (e : Expected) (block : ℕ) (bytes : List ℕ) (n : ℕ) (r : Holds) → IsMixed e bytes → n ≡ unknown_sectors e bytes
    → r ≡ mixed_kind n → OtherHolds e block bytes r
mixed_holds e block bytes n r is count told = let P : Holds → Type 0 = OtherHolds e block bytes in subst P (sym told) (by n count)
  where
    by : (n : ℕ) → n ≡ unknown_sectors e bytes → OtherHolds e block bytes (mixed_kind n)
    by zero count = (is, sym count)
    by (suc n) count = (is, sym count, omega arith)
