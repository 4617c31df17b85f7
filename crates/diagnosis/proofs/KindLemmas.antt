-- A block holds one kind.
use Rattle.std.proofs.Common.{◌≡◌, ℕ, zero, suc, ◌<◌, ◌≤◌, ◌%◌, Bool, true, false, ◌&&◌, ◌||◌, eqb, List, replicate, get_or, cond, refl, sym, ap, subst, ◌∙◌, inl, inr, arith}
use Rattle.std.specs.Prelude.{◌⊎◌, nat_le, Option, Some, None, IsTrue, IfSome, IsSomeAnd}
use Rattle.std.proofs.lemmas.Bool.{lt-ltb, eq-eqb, ne_eqb, eqb-true, false_from_ne_true, and_parts, le-ltb, leb-true, cases_eq, cases_lt}
use Rattle.std.proofs.lemmas.Slice.Eq.{bytes_eq-Decides}
use Rattle.std.specs.List.{list_any}
use Rattle.std.proofs.lemmas.List.{get_or-replicate}
use Rattle.fc_base.specs.declared.record.JobParts.{JobParts}
use Rattle.fc_base.specs.declared.limits.TheConstants.{MAX_BLOCK_SIZE}
use Rattle.fc_base.specs.JobParts.{is_within_limits, has_block_size, has_region, has_queue, has_pattern}
use Rattle.recheck.specs.Expected.{Expected}
use Rattle.recheck.specs.Faults.{last_write, is_checked, is_expected, is_write, writes_to}
use Rattle.diagnosis.specs.declared.holds.Holds.{Holds}
use Rattle.diagnosis.specs.declared.holds.Holds.TheVariants as kinds
use Rattle.diagnosis.specs.declared.stamp.Write.{Write}
use Rattle.diagnosis.specs.Damage.{IsDamaged}
use Rattle.diagnosis.specs.Held.{HoldsWrite, own_write}
use Rattle.diagnosis.specs.Kinds.{IsMixed, OtherHolds, FaultHolds, BlockHolds, unknown_sectors}
use Rattle.diagnosis.specs.Laws.{named_write}
use Rattle.write_order.specs.Stamps.{written_bytes}
use Rattle.diagnosis.specs.Steps.{filled_kind, mixed_kind, own_kind}
use Rattle.diagnosis.proofs.BlockLemmas.{not_filled, one_write}

-- ---- three bases, of which one is so

-- One byte over and over, one whole write, or neither.
pub data Basis : Type 0 where
  one : ℕ → Basis
  whole : Write → Basis
  mixed : Basis

abbrev pub IsBasis : Expected → List ℕ → Basis → Type 0
IsBasis e bytes (one byte) = bytes ≡ replicate e.job.bs byte
IsBasis e bytes (whole write) = HoldsWrite e bytes write
IsBasis e bytes mixed = IsMixed e bytes

same_byte : (n a b : ℕ) → 0 < n → replicate n a ≡ replicate n b → a ≡ b
same_byte n a b some e =
    sym (get_or-replicate n 0 a 0 some) ∙ ap (λ l. get_or l 0 0) e ∙ get_or-replicate n 0 b 0 some

one_basis : (e : Expected) (bytes : List ℕ) (b c : Basis) → 512 ≤ e.job.bs → IsBasis e bytes b → IsBasis e bytes c → b ≡ c
one_basis e bytes (one a) (one b) some p q = ap one (same_byte e.job.bs a b (omega arith) (sym p ∙ q))
one_basis e bytes (one a) (whole w) some p q = absurd (not_filled e bytes w a some q p)
one_basis e bytes (one a) mixed some p q = absurd (q.no_byte a p)
one_basis e bytes (whole v) (one b) some p q = absurd (not_filled e bytes v b some p q)
one_basis e bytes (whole v) (whole w) some p q = ap whole (one_write e bytes v w some p q)
one_basis e bytes (whole v) mixed some p q = absurd (q.no_write v p)
one_basis e bytes mixed (one b) some p q = absurd (p.no_byte b q)
one_basis e bytes mixed (whole w) some p q = absurd (p.no_write w q)
one_basis e bytes mixed mixed some p q = refl

-- ---- what follows from the basis

is_own : Expected → ℕ → Write → Bool
is_own e block w = eqb w.key.server e.key.server && (eqb w.key.job e.key.job && eqb w.block block)

write_kind : Expected → ℕ → Write → Holds
write_kind e block w =
    cond (eqb w.key.run e.key.run) (cond (is_own e block w) (own_kind (last_write e block) w.seq) (kinds.Misdirected w)) (kinds.OtherRun w)

kind_from : Expected → ℕ → List ℕ → Basis → Holds
kind_from e block bytes (one byte) = filled_kind byte
kind_from e block bytes (whole w) = write_kind e block w
kind_from e block bytes mixed = mixed_kind (unknown_sectors e bytes)

is_filled_kind : (byte : ℕ) → (byte ≡ 0 → ⊥) → kinds.Filled byte ≡ filled_kind byte
is_filled_kind zero some = absurd (some refl)
is_filled_kind (suc n) some = refl

is_lost : (last : Option ℕ) (k : ℕ) → IsSomeAnd last (λ l. k < l) → kinds.Lost k ≡ own_kind last k
is_lost None k h = absurd h
is_lost (Some l) k h = rw (lt-ltb k l h) refl

is_unissued : (last : Option ℕ) (k : ℕ) → IsSomeAnd last (λ l. l < k) → kinds.Unissued k ≡ own_kind last k
is_unissued None k h = absurd h
is_unissued (Some l) k h = rw (le-ltb k l (omega arith)) refl

own : (e : Expected) (block k : ℕ) → own_kind (last_write e block) k ≡ write_kind e block (own_write e block k)
unfolding write_kind is_own
own e block k =
    rw (eq-eqb e.key.run e.key.run refl, eq-eqb e.key.server e.key.server refl, eq-eqb e.key.job e.key.job refl, eq-eqb block block refl) refl

-- A write that says all that an own one does is one.
abbrev write_by : ℕ → ℕ → ℕ → ℕ → ℕ → Write
write_by run server job seq block = record { key = record { run = run; server = server; job = job }; seq = seq; block = block }

same_write : (e : Expected) (block : ℕ) (w : Write) → w.key.run ≡ e.key.run → is_own e block w ≡ true → w ≡ own_write e block w.seq
unfolding is_own
same_write e block w run own =
    let one = and_parts (eqb w.key.server e.key.server) (eqb w.key.job e.key.job && eqb w.block block) own in
    let two = and_parts (eqb w.key.job e.key.job) (eqb w.block block) one.1 in
    let server = eqb-true w.key.server e.key.server one.0 in
    let job = eqb-true w.key.job e.key.job two.0 in
    let at = eqb-true w.block block two.1 in
    let same : write_by w.key.run w.key.server w.key.job w.seq w.block ≡ write_by e.key.run e.key.server e.key.job w.seq block = rw (run, server, job, at) refl in
    same

is_misdirected : (e : Expected) (block : ℕ) (w : Write) → w.key.run ≡ e.key.run → (w ≡ own_write e block w.seq → ⊥) → kinds.Misdirected w ≡ write_kind e block w
unfolding write_kind
is_misdirected e block w run other =
    let none : is_own e block w ≡ false = false_from_ne_true (is_own e block w) (λ own. other (same_write e block w run own)) in
    rw (eq-eqb w.key.run e.key.run run, none) refl

is_other_run : (e : Expected) (block : ℕ) (w : Write) → (w.key.run ≡ e.key.run → ⊥) → kinds.OtherRun w ≡ write_kind e block w
unfolding write_kind
is_other_run e block w other = rw (ne_eqb w.key.run e.key.run other) refl

is_corrupt : (n m : ℕ) → n ≡ m → 0 < m → kinds.Corrupt m ≡ mixed_kind n
is_corrupt zero m e some = absurd (omega arith)
is_corrupt (suc n) m e some = ap kinds.Corrupt (sym e)

-- What a fault's kind rests on.
record Rests (e : Expected) (block : ℕ) (bytes : List ℕ) (kind : Holds) : Type 0 where
  basis : Basis
  holds : IsBasis e bytes basis
  is : kind ≡ kind_from e block bytes basis

rests : (e : Expected) (block : ℕ) (bytes : List ℕ) (kind : Holds) → OtherHolds e block bytes kind → Rests e block bytes kind
unfolding kind_from
rests e block bytes kinds.Sound h = absurd h
rests e block bytes kinds.Unwritten h = record { basis = one 0; holds = h; is = refl }
rests e block bytes (kinds.Filled byte) h = record { basis = one byte; holds = h.0; is = is_filled_kind byte h.1 }
rests e block bytes (kinds.Lost k) h =
    record { basis = whole (own_write e block k); holds = h.0; is = is_lost (last_write e block) k h.1 ∙ own e block k }
rests e block bytes (kinds.Unissued k) h =
    record { basis = whole (own_write e block k); holds = h.0; is = is_unissued (last_write e block) k h.1 ∙ own e block k }
rests e block bytes (kinds.OtherRun w) h = record { basis = whole w; holds = h.0; is = is_other_run e block w h.1 }
rests e block bytes (kinds.Misdirected w) h = record { basis = whole w; holds = h.0; is = is_misdirected e block w h.1 h.2 }
rests e block bytes kinds.Torn h = record { basis = mixed; holds = h.0; is = ap mixed_kind (sym h.1) }
rests e block bytes (kinds.Corrupt n) h =
    record { basis = mixed; holds = h.0; is = is_corrupt (unknown_sectors e bytes) n h.1 h.2 }

one_other : (e : Expected) (block : ℕ) (bytes : List ℕ) (a b : Holds) → 512 ≤ e.job.bs → OtherHolds e block bytes a → OtherHolds e block bytes b → a ≡ b
one_other e block bytes a b some p q =
    let first = rests e block bytes a p in
    let second = rests e block bytes b q in
    first.is ∙ ap (kind_from e block bytes) (one_basis e bytes first.basis second.basis some first.holds second.holds) ∙ sym second.is

-- ---- damaged or not

damaged_or_not : (e : Expected) (block : ℕ) (bytes : List ℕ) (kind : Holds) → FaultHolds e block bytes kind
    → (IsDamaged e block bytes × (kind ≡ kinds.Corrupt (unknown_sectors e bytes))) ⊎ ((IsDamaged e block bytes → ⊥) × OtherHolds e block bytes kind)
damaged_or_not e block bytes kinds.Sound h = inr h
damaged_or_not e block bytes kinds.Unwritten h = inr h
damaged_or_not e block bytes (kinds.Filled byte) h = inr h
damaged_or_not e block bytes (kinds.Lost k) h = inr h
damaged_or_not e block bytes (kinds.Unissued k) h = inr h
damaged_or_not e block bytes (kinds.OtherRun w) h = inr h
damaged_or_not e block bytes (kinds.Misdirected w) h = inr h
damaged_or_not e block bytes kinds.Torn h = inr h
damaged_or_not e block bytes (kinds.Corrupt n) h = elim h [ inl x ↦ inl (x.0, ap kinds.Corrupt (sym x.1)) | inr y ↦ inr y ]

one_fault : (e : Expected) (block : ℕ) (bytes : List ℕ) (a b : Holds) → 512 ≤ e.job.bs → FaultHolds e block bytes a → FaultHolds e block bytes b → a ≡ b
one_fault e block bytes a b some p q =
    elim (damaged_or_not e block bytes a p) [
      | inl x ↦ elim (damaged_or_not e block bytes b q) [ inl y ↦ x.1 ∙ sym y.1 | inr y ↦ absurd (y.0 x.0) ]
      | inr x ↦ elim (damaged_or_not e block bytes b q) [ inl y ↦ absurd (x.0 y.0) | inr y ↦ one_other e block bytes a b some x.1 y.1 ]
    ]

-- ---- sound or not

sound_or_not : (e : Expected) (block : ℕ) (bytes : List ℕ) (kind : Holds) → BlockHolds e block bytes kind
    → ((is_expected e block bytes ≡ true) × (kind ≡ kinds.Sound)) ⊎ ((is_expected e block bytes ≡ false) × FaultHolds e block bytes kind)
sound_or_not e block bytes kinds.Sound h = inl (h, refl)
sound_or_not e block bytes kinds.Unwritten h = inr h
sound_or_not e block bytes (kinds.Filled byte) h = inr h
sound_or_not e block bytes (kinds.Lost k) h = inr h
sound_or_not e block bytes (kinds.Unissued k) h = inr h
sound_or_not e block bytes (kinds.OtherRun w) h = inr h
sound_or_not e block bytes (kinds.Misdirected w) h = inr h
sound_or_not e block bytes kinds.Torn h = inr h
sound_or_not e block bytes (kinds.Corrupt n) h = inr h

pub fault_is_held : (e : Expected) (block : ℕ) (bytes : List ℕ) (kind : Holds) → is_expected e block bytes ≡ false → FaultHolds e block bytes kind
    → BlockHolds e block bytes kind
fault_is_held e block bytes kinds.Sound none h = absurd h.1
fault_is_held e block bytes kinds.Unwritten none h = (none, h)
fault_is_held e block bytes (kinds.Filled byte) none h = (none, h)
fault_is_held e block bytes (kinds.Lost k) none h = (none, h)
fault_is_held e block bytes (kinds.Unissued k) none h = (none, h)
fault_is_held e block bytes (kinds.OtherRun w) none h = (none, h)
fault_is_held e block bytes (kinds.Misdirected w) none h = (none, h)
fault_is_held e block bytes kinds.Torn none h = (none, h)
fault_is_held e block bytes (kinds.Corrupt n) none h = (none, h)

both_ways : (b : Bool) → b ≡ true → b ≡ false → ⊥
both_ways b p q = let e : true ≡ false = sym p ∙ q in absurd cc

pub one_kind : (e : Expected) (block : ℕ) (bytes : List ℕ) (a b : Holds) → 512 ≤ e.job.bs → BlockHolds e block bytes a → BlockHolds e block bytes b → a ≡ b
one_kind e block bytes a b some p q =
    elim (sound_or_not e block bytes a p) [
      | inl x ↦ elim (sound_or_not e block bytes b q) [ inl y ↦ x.1 ∙ sym y.1 | inr y ↦ absurd (both_ways (is_expected e block bytes) x.0 y.0) ]
      | inr x ↦ elim (sound_or_not e block bytes b q) [ inl y ↦ absurd (both_ways (is_expected e block bytes) y.0 x.0) | inr y ↦ one_fault e block bytes a b some x.1 y.1 ]
    ]

-- ---- a write of the job itself

-- A faulty block doesn't hold the last completed write.
not_last : (e : Expected) (block : ℕ) (bytes : List ℕ) (l : ℕ) → last_write e block ≡ Some l → is_expected e block bytes ≡ false
    → bytes ≡ written_bytes e.key e.job l block → ⊥
not_last e block bytes l is none held =
    let some : (is_write e block bytes l || list_any (is_write e block bytes) (writes_to block e.in_flight)) ≡ false = rw is at none in
    let yes : is_write e block bytes l ≡ true = (bytes_eq-Decides bytes (written_bytes e.key e.job l block)).1 held in
    let both : true ≡ false = rw yes at some in absurd cc

pub own_holds : (e : Expected) (block : ℕ) (bytes : List ℕ) (k : ℕ) (r : Holds) → HoldsWrite e bytes (own_write e block k) → is_checked e block ≡ true
    → is_expected e block bytes ≡ false → r ≡ own_kind (last_write e block) k → OtherHolds e block bytes r
own_holds e block bytes k r h checked none told = by (last_write e block) refl
  where
    P : Holds → Type 0
    P = OtherHolds e block bytes

    past : (l : ℕ) → last_write e block ≡ Some l → l ≤ k → l < k
    past l is le =
        elim (cases_eq k l) [
          | inl same ↦ absurd (not_last e block bytes l is none (rw same at h.held))
          | inr other ↦ omega (arith, other)
        ]

    by : (last : Option ℕ) → last_write e block ≡ last → OtherHolds e block bytes r
    by None is = let both : false ≡ true = rw is at checked in absurd cc
    by (Some l) is =
        elim (cases_lt k l) [
          | inl lt ↦
              let here : r ≡ kinds.Lost k = told ∙ rw (is, lt-ltb k l lt) refl in
              let held : P (kinds.Lost k) = (h, rw is lt) in
              subst P (sym here) held
          | inr le ↦
              let here : r ≡ kinds.Unissued k = told ∙ rw (is, le-ltb k l le) refl in
              let held : P (kinds.Unissued k) = (h, rw is (past l is le)) in
              subst P (sym here) held
        ]

-- ---- what a kind names

pub named_is_held : (e : Expected) (block : ℕ) (bytes : List ℕ) (kind : Holds) → BlockHolds e block bytes kind
    → IfSome (named_write e block kind) (λ w. bytes ≡ written_bytes w.key e.job w.seq w.block)
named_is_held e block bytes kinds.Sound h = tt
named_is_held e block bytes kinds.Unwritten h = tt
named_is_held e block bytes (kinds.Filled byte) h = tt
named_is_held e block bytes (kinds.Lost k) h = h.1.1.0.held
named_is_held e block bytes (kinds.Unissued k) h = h.1.1.0.held
named_is_held e block bytes (kinds.OtherRun w) h = h.1.1.0.held
named_is_held e block bytes (kinds.Misdirected w) h = h.1.1.0.held
named_is_held e block bytes kinds.Torn h = tt
named_is_held e block bytes (kinds.Corrupt n) h = tt

-- ---- what the limits of a job say

pub block_size : (job : JobParts) → IsTrue (is_within_limits job) → 512 ≤ job.bs
block_size job limits =
    let three = and_parts (has_block_size job && has_region job && has_queue job) (has_pattern job) limits in
    let two = and_parts (has_block_size job && has_region job) (has_queue job) three.0 in
    let one = and_parts (has_block_size job) (has_region job) two.0 in
    let size = and_parts (nat_le 512 job.bs && nat_le job.bs MAX_BLOCK_SIZE) (eqb (job.bs % 512) 0) one.0 in
    leb-true 512 job.bs (and_parts (nat_le 512 job.bs) (nat_le job.bs MAX_BLOCK_SIZE) size.0).0
