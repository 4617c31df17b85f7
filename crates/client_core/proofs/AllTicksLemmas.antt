-- Over all runs and attempts a tick sends few packets.
use Rattle.std.proofs.Common.{◌≡◌, refl, ap, ℕ, zero, suc, ◌+◌, ◌*◌, ◌<◌, ◌≤◌, arith, Bool, true}
use Rattle.std.proofs.Common.{false, ◌==◌, List, [], ◌∷◌, length, length-append, mul-le-mul_left}
use Rattle.std.specs.List.{flat_map, range_with_len}
use Rattle.std.proofs.lemmas.Bool.Decides.{nat_tests}
use Rattle.messages.specs.declared.packet.PacketParts.{PacketParts}
use Rattle.client_core.specs.Asked.{rising, runs_of, attempts_of}
use Rattle.client_core.specs.Bounds.{is_request}
use Rattle.client_core.specs.Life.{Deed, Begins, Triggers, Stops, Verifies, Hears}
use Rattle.client_core.specs.Packets.{run_again, attempt_again, requests_again}
use Rattle.client_core.proofs.AgainLemmas.{no_run_again, no_attempt_again}
use Rattle.client_core.proofs.RisingLemmas.{above, order_spread}
use Rattle.client_core.proofs.TickLemmas.{count, one, count_more, for_run, for_attempt, run_sends, attempt_sends}

-- The sum of so many, from a on.
abbrev tally : (ℕ → ℕ) → ℕ → ℕ → ℕ
tally m a zero = 0
tally m a (suc n) = m a + tally m (a + 1) n

all_sends : (f : ℕ → List PacketParts) (m : ℕ → ℕ) (servers : ℕ) → ((r : ℕ) → length (f r) ≤ servers * m r) → (a n : ℕ)
    → length (flat_map f (range_with_len a n)) ≤ servers * tally m a n
all_sends f m servers few a zero = omega arith
all_sends f m servers few a (suc n) = omega (arith, length-append (f a) (flat_map f (range_with_len (a + 1) n)), few a, all_sends f m servers few (a + 1) n)

tally_more : (m l k : ℕ → ℕ) → ((r : ℕ) → m r ≤ l r + k r) → (a n : ℕ) → tally m a n ≤ tally l a n + tally k a n
tally_more m l k h a zero = omega arith
tally_more m l k h a (suc n) = omega (arith, h a, tally_more m l k h (a + 1) n)

tally_none : (m : ℕ → ℕ) (a n : ℕ) → ((r : ℕ) → a ≤ r → m r ≤ 0) → tally m a n ≤ 0
tally_none m a zero h = omega arith
tally_none m a (suc n) h = omega (arith, h a (omega arith), tally_none m (a + 1) n (λ r l. h r (omega arith)))

-- One number is one of them at most once.
tally_one : (x a n : ℕ) → tally (λ r. one (x == r)) a n ≤ 1
tally_one x a zero = omega arith
tally_one x a (suc n) = by_test (x == a) refl (tally_one x (a + 1) n)
  where
    differ : (r : ℕ) → x < r → one (x == r) ≤ 0
    differ r l = let d : (x == r) ≡ false = grind (arith, nat_tests) in omega (arith, ap one d)

    by_test : (b : Bool) → (x == a) ≡ b → tally (λ r. one (x == r)) (a + 1) n ≤ 1 → one b + tally (λ r. one (x == r)) (a + 1) n ≤ 1
    by_test true is rest =
        let same : x ≡ a = grind (arith, nat_tests) in
        omega (arith, tally_none (λ r. one (x == r)) (a + 1) n (λ r l. differ r (omega arith)))
    by_test false is rest = omega (arith, rest)

tally_few : (p : ℕ → Deed → Bool) (q : Deed → Bool) → ((d : Deed) (a n : ℕ) → tally (λ r. one (p r d)) a n ≤ one (q d)) → (ds : List Deed) (a n : ℕ)
    → tally (λ r. count (p r) ds) a n ≤ count q ds
tally_few p q h [] a n = tally_none (λ r. 0) a n (λ r l. omega arith)
tally_few p q h (d ∷ ds) a n = omega (
  arith,
  count_more q d ds,
  h d a n,
  tally_few p q h ds a n,
  tally_more (λ r. count (p r) (d ∷ ds)) (λ r. one (p r d)) (λ r. count (p r) ds) (λ r. omega (arith, count_more (p r) d ds)) a n,
)

abbrev of_run : Deed → Bool
of_run (Begins r text) = true
of_run (Triggers r act) = true
of_run (Stops r) = true
of_run (Verifies r a text) = false
of_run (Hears s body) = false

abbrev of_attempt : Deed → Bool
of_attempt (Begins r text) = false
of_attempt (Triggers r act) = false
of_attempt (Stops r) = false
of_attempt (Verifies r a text) = true
of_attempt (Hears s body) = false

run_once : (d : Deed) (a n : ℕ) → tally (λ r. one (for_run r d)) a n ≤ one (of_run d)
run_once (Begins x text) a n = tally_one x a n
run_once (Triggers x act) a n = tally_one x a n
run_once (Stops x) a n = tally_one x a n
run_once (Verifies x y text) a n = tally_none (λ r. 0) a n (λ r l. omega arith)
run_once (Hears s body) a n = tally_none (λ r. 0) a n (λ r l. omega arith)

attempt_once : (d : Deed) (a n : ℕ) → tally (λ r. one (for_attempt r d)) a n ≤ one (of_attempt d)
attempt_once (Begins x text) a n = tally_none (λ r. 0) a n (λ r l. omega arith)
attempt_once (Triggers x act) a n = tally_none (λ r. 0) a n (λ r l. omega arith)
attempt_once (Stops x) a n = tally_none (λ r. 0) a n (λ r l. omega arith)
attempt_once (Verifies x y text) a n = tally_one y a n
attempt_once (Hears s body) a n = tally_none (λ r. 0) a n (λ r l. omega arith)

both : (ds : List Deed) → count of_run ds + count of_attempt ds ≤ count is_request ds
both [] = omega arith
both (d ∷ ds) = omega (arith, count_more of_run d ds, count_more of_attempt d ds, count_more is_request d ds, both ds, step d)
  where
    step : (d : Deed) → one (of_run d) + one (of_attempt d) ≤ one (is_request d)
    step (Begins r text) = omega arith
    step (Triggers r act) = omega arith
    step (Stops r) = omega arith
    step (Verifies r a text) = omega arith
    step (Hears s body) = omega arith

pub requests_again_few : (servers : ℕ) (ds : List Deed) → length (requests_again servers ds) ≤ servers * count is_request ds
requests_again_few servers ds =
    let run = run_again servers ds in
    let attempt = attempt_again servers ds in
    let last = above (runs_of ds) in
    let most = above (attempts_of ds) in
    let runs = tally (λ r. count (for_run r) ds) 0 last in
    let attempts = tally (λ r. count (for_attempt r) ds) 0 most in
    let few : runs + attempts ≤ count is_request ds =
    omega (arith, tally_few for_run of_run run_once ds 0 last, tally_few for_attempt of_attempt attempt_once ds 0 most, both ds) in
    omega (
      arith,
      length-append (flat_map run (rising (runs_of ds))) (flat_map attempt (rising (attempts_of ds))),
      ap length (order_spread run (runs_of ds) (λ n none. no_run_again servers ds n none)),
      ap length (order_spread attempt (attempts_of ds) (λ n none. no_attempt_again servers ds n none)),
      all_sends run (λ r. count (for_run r) ds) servers (run_sends servers ds) 0 last,
      all_sends attempt (λ r. count (for_attempt r) ds) servers (attempt_sends servers ds) 0 most,
      mul-le-mul_left servers few,
    )
