-- What holds of blocks and sectors, whatever lands.
use Rattle.std.proofs.Common.{◌≡◌, ◌≢◌, ℕ, zero, suc, ◌+◌, ◌*◌, ◌-◌, ◌/◌, ◌%◌, ◌<◌, ◌≤◌, ◌&&◌, Bool, true, false, cond, leb, ltb, List}
use Rattle.std.proofs.Common.{length, drop, Result, Ok, Err, refl, sym, ◌∙◌, ap, ⊎_elim, arith, length-append, length-drop, length-take-le}
use Rattle.std.proofs.lemmas.Bool.{cases_lt}
use Rattle.std.proofs.lemmas.Bool.Decides.{nat_tests}
use Rattle.std.proofs.lemmas.List.{take_all, length-replicate}
use Rattle.std.proofs.Math.Nat.{mul-le-mul_right}
use Rattle.fc_base.specs.declared.fault.Fault.{Fault}
use Rattle.fc_base.specs.declared.fault.Fault.TheVariants.{NoMemory, Off, WriteFault, ReadFault}
use Rattle.disk_model.specs.Disk.{IsWritten, IsRead}
use Rattle.disk_model.specs.File.{File, zeros, sector_of, sectors, landed, first_sector, block_bytes, with_landed, with_sector, IsBlock, HasWholeSectors}
use Rattle.disk_model.proofs.SectorLemmas.{sectors-read, sectors-same}
use Rattle.disk_model.proofs.ContentLemmas.{landed-outside, is_within-another}

-- a picked sector of the bytes is there
landed-here : (picks : ℕ → Bool) (first : ℕ) (bytes : List ℕ) (content : ℕ → List ℕ) (i : ℕ) → i < length bytes / 512 → picks i ≡ true →
    landed picks first bytes content (first + i) ≡ sector_of bytes i
landed-here picks first bytes content i lt picked =
    ap (λ b. cond (b && picks (first + i - first)) (sector_of bytes (first + i - first)) (content (first + i))) within
    ∙ ap (λ k. cond (picks k) (sector_of bytes k) (content (first + i))) back
    ∙ ap (λ b. cond b (sector_of bytes i) (content (first + i))) picked
  where
    within : (leb first (first + i) && ltb (first + i) (first + length bytes / 512)) ≡ true
    within = grind (arith, nat_tests)

    back : first + i - first ≡ i
    back = omega arith

pub lands_whole : (picks : ℕ → Bool) (file : File) (block : ℕ) (bytes : List ℕ) → IsBlock block (length bytes) →
    ((i : ℕ) → i < length bytes / 512 → picks i ≡ true) →
    block_bytes (with_landed picks block bytes file).content (length bytes) block ≡ bytes
lands_whole picks file block bytes is all =
    let first = first_sector block (length bytes) in
    let whole = is.whole in
    sym (sectors-read (landed picks first bytes file.content) bytes first (length bytes / 512) (omega arith)
    (λ i lt. sym (landed-here picks first bytes file.content i lt (all i lt))))

-- no sector of one block is a sector of another
apart : (block other n i : ℕ) → other ≢ block → i < n →
    (leb (block * n) (other * n + i) && ltb (other * n + i) (block * n + n)) ≡ false
apart block other n i differ lt = ⊎_elim before (λ le. behind (omega arith)) (cases_lt other block)
  where
    before : other < block → (leb (block * n) (other * n + i) && ltb (other * n + i) (block * n + n)) ≡ false
    before below =
        let most : (other + 1) * n ≤ block * n = mul-le-mul_right n (omega arith) in
        let sum : other * n + n ≤ block * n = omega (arith, most) in
        grind (arith, nat_tests)

    behind : block < other → (leb (block * n) (other * n + i) && ltb (other * n + i) (block * n + n)) ≡ false
    behind above =
        let most : (block + 1) * n ≤ other * n = mul-le-mul_right n (omega arith) in
        let sum : block * n + n ≤ other * n = omega (arith, most) in
        grind (arith, nat_tests)

pub keeps_other_blocks : (picks : ℕ → Bool) (file : File) (block other : ℕ) (bytes : List ℕ) → other ≢ block →
    block_bytes (with_landed picks block bytes file).content (length bytes) other ≡ block_bytes file.content (length bytes) other
keeps_other_blocks picks file block other bytes differ =
    let n = length bytes / 512 in
    sectors-same (landed picks (block * n) bytes file.content) file.content (other * n) (other * n) n
    (λ i lt. landed-outside picks (block * n) bytes file.content (other * n + i) (apart block other n i differ lt))

pub replaces_one_sector : (file : File) (sector : ℕ) (bytes : List ℕ) → length bytes ≡ 512 →
    ((with_sector sector bytes file).content sector ≡ bytes)
    × ((other : ℕ) → other ≢ sector → (with_sector sector bytes file).content other ≡ file.content other)
replaces_one_sector file sector bytes len = (here, elsewhere)
  where
    here : (with_sector sector bytes file).content sector ≡ bytes
    here =
        let at : sector + 0 ≡ sector = omega arith in
        ap (with_sector sector bytes file).content (sym at)
        ∙ landed-here (λ _. true) sector bytes file.content 0 (omega arith) refl ∙ take_all 512 bytes (omega arith)

    elsewhere : (other : ℕ) → other ≢ sector → (with_sector sector bytes file).content other ≡ file.content other
    elsewhere other differ =
        landed-outside (λ _. true) sector bytes file.content other (is_within-another sector (length bytes / 512) other (omega arith) differ)

-- what lands is whole
whole_choice : (b : Bool) (x y : List ℕ) → length x ≡ 512 → length y ≡ 512 → length (cond b x y) ≡ 512
whole_choice true x y xs ys = xs
whole_choice false x y xs ys = ys

pub landed-whole : (picks : ℕ → Bool) (first : ℕ) (bytes : List ℕ) (content : ℕ → List ℕ) → length bytes % 512 ≡ 0 →
    ((s : ℕ) → length (content s) ≡ 512) → (s : ℕ) → length (landed picks first bytes content s) ≡ 512
landed-whole picks first bytes content len whole s =
    ⊎_elim below (λ le. ⊎_elim (within le) above (cases_lt s (first + length bytes / 512))) (cases_lt s first)
  where
    below : s < first → length (landed picks first bytes content s) ≡ 512
    below lt =
        let out : (leb first s && ltb s (first + length bytes / 512)) ≡ false = grind (arith, nat_tests) in
        ap length (landed-outside picks first bytes content s out) ∙ whole s

    above : first + length bytes / 512 ≤ s → length (landed picks first bytes content s) ≡ 512
    above le =
        let out : (leb first s && ltb s (first + length bytes / 512)) ≡ false = grind (arith, nat_tests) in
        ap length (landed-outside picks first bytes content s out) ∙ whole s

    within : first ≤ s → s < first + length bytes / 512 → length (landed picks first bytes content s) ≡ 512
    within le lt =
        let rest : 512 ≤ length (drop (512 * (s - first)) bytes) = omega (arith, length-drop (512 * (s - first)) bytes) in
        whole_choice (leb first s && ltb s (first + length bytes / 512) && picks (s - first)) (sector_of bytes (s - first)) (content s)
        (length-take-le 512 (drop (512 * (s - first)) bytes) rest) (whole s)

pub starts_whole : length zeros ≡ 512
unfolding zeros
starts_whole = length-replicate {A = ℕ} 512 0

pub written_whole : (old new : File) (epoch block : ℕ) (bytes : List ℕ) (result : Result (Unit {0}) Fault) →
    IsBlock block (length bytes) → HasWholeSectors old → IsWritten old new epoch block bytes result → HasWholeSectors new
written_whole old new epoch block bytes (Ok x) is whole written =
    λ s. ap (λ (f : File). length (f.content s)) written.1 ∙ landed-whole (λ _. true) (first_sector block (length bytes)) bytes old.content is.whole whole s
written_whole old new epoch block bytes (Err Off) is whole written = λ s. ap (λ (f : File). length (f.content s)) written.1 ∙ whole s
written_whole old new epoch block bytes (Err NoMemory) is whole written = λ s. ap (λ (f : File). length (f.content s)) written ∙ whole s
written_whole old new epoch block bytes (Err WriteFault) is whole written = written.4 whole
written_whole old new epoch block bytes (Err _) is whole written = absurd written

pub read_whole : (old new : File) (block : ℕ) (bytes : List ℕ) (result : Result (Unit {0}) Fault) →
    HasWholeSectors old → IsRead old new block bytes result → HasWholeSectors new
read_whole old new block bytes (Ok x) whole was = λ s. ap (λ (f : File). length (f.content s)) was.1 ∙ whole s
read_whole old new block bytes (Err Off) whole was = λ s. ap (λ (f : File). length (f.content s)) was.1 ∙ whole s
read_whole old new block bytes (Err ReadFault) whole was = λ s. ap (λ (f : File). length (f.content s)) was.2 ∙ whole s
read_whole old new block bytes (Err _) whole was = absurd was

pub length-sectors : (content : ℕ → List ℕ) (first count : ℕ) → ((s : ℕ) → length (content s) ≡ 512) →
    length (sectors content first count) ≡ 512 * count
length-sectors content first zero whole = refl
length-sectors content first (suc count) whole =
    let here = whole first in
    let rest = length-sectors content (first + 1) count whole in
    omega (arith, length-append (content first) (sectors content (first + 1) count), here, rest)
