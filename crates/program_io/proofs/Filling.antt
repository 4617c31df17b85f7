-- A buffer that reads fill from its front on.
use Rattle.std.proofs.Common.{◌≡◌, ℕ, ◌+◌, List, ◌++◌, Option, None, Some, Result, Ok, Err, IfOk}
use Rattle.std.proofs.Common.{length, take, drop, sym, ap, subst, ◌∙◌, append_assoc, drop_at}
use Rattle.std.specs.Io.{ReadsAtMost}
use Rattle.std.specs.Io.KnownBytes.{Consumes, Keeps, ReadConsumes}
use lib.Seq.{take-add, take-append-le}

-- What a read put into a part of the buffer stands behind the front.
pub part_behind : {E : Type 0} (a b : Option (List ℕ)) (r : Result ℕ E) (front part rest : List ℕ) (at : ℕ) → length front ≡ at → ReadsAtMost r part
    → ReadConsumes a b r part → IfOk r (λ n. Consumes a b (take n (drop at (front ++ (part ++ rest)))))
part_behind a b (Ok n) front part rest at long fits read =
    subst (Consumes a b) (sym (ap (take n) (drop_at front (part ++ rest) at long) ∙ take-append-le n part rest fits.0)) read.0
part_behind a b (Err e) front part rest at long fits read = tt

-- Two reads in a row take what both give.
taken_twice : (a b c : Option (List ℕ)) (bs cs : List ℕ) → Consumes a b bs → Consumes b c cs → Consumes a c (bs ++ cs)
taken_twice None b c bs cs p q = tt
taken_twice (Some x) None c bs cs p q = absurd p
taken_twice (Some x) (Some y) None bs cs p q = absurd q
taken_twice (Some x) (Some y) (Some z) bs cs p q = p ∙ ap (λ l. bs ++ l) q ∙ sym (append_assoc bs cs z)

-- A failed read takes nothing.
pub taken_before : (a b c : Option (List ℕ)) (bs : List ℕ) → Consumes a b bs → Keeps b c → Consumes a c bs
taken_before None b c bs p q = tt
taken_before (Some x) None c bs p q = absurd p
taken_before (Some x) (Some y) None bs p q = absurd q
taken_before (Some x) (Some y) (Some z) bs p q = p ∙ ap (λ l. bs ++ l) (sym q)

-- The front grows by what a read put behind it.
pub filled_more : (a b c : Option (List ℕ)) (old new : List ℕ) (filled n : ℕ) → take filled new ≡ take filled old
    → Consumes a b (take filled old) → Consumes b c (take n (drop filled new)) → Consumes a c (take (filled + n) new)
filled_more a b c old new filled n front before read =
    subst (Consumes a c) (ap (λ l. l ++ take n (drop filled new)) (sym front) ∙ sym (take-add filled n new)) (taken_twice a b c _ _ before read)
