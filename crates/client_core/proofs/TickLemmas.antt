-- A tick sends few packets: it asks again for what was asked in this life.
use Rattle.std.proofs.Common.{◌≡◌, ap, ℕ, zero, suc, ◌+◌, ◌*◌, ◌≤◌, arith, Bool, true}
use Rattle.std.proofs.Common.{false, ◌==◌, List, [], ◌∷◌, ◌++◌, length, length-append}
use Rattle.std.specs.Prelude.{if◌then◌else◌, filter}
use Rattle.std.specs.List.{flat_map}
use Rattle.std.proofs.lemmas.List.Concat.{flat_map-append}
use Rattle.fc_base.specs.Counted.{numbers_below}
use Rattle.messages.specs.declared.packet.PacketParts.{PacketParts}
use Rattle.messages.specs.declared.body.Body.{Body}
use Rattle.messages.specs.declared.body.Body.TheVariants as bodies
use Rattle.client_core.specs.declared.beginning.Beginning.{Beginning}
use Rattle.client_core.specs.declared.beginning.Beginning.TheVariants as begins
use Rattle.client_core.specs.Begins.{begin_heard, begin_at}
use Rattle.client_core.specs.Life.{Deed, Begins, Triggers, Stops, Verifies, Hears, text_of, act_of, run_of, check_of}
use Rattle.client_core.specs.Packets.{begin_again, packets_again, run_again, attempt_again}
use Rattle.client_core.specs.Requests as requests
use Rattle.client_core.specs.Requests.{Request, trigger_heard, stop_heard, verify_heard, trigger_at, stop_at, verify_at}
use Rattle.client_core.proofs.UnaskedLemmas.{begin_unasked, trigger_unasked, stop_unasked, verify_unasked}

-- How many of the deeds are such.
abbrev pub count : (Deed → Bool) → List Deed → ℕ
count p deeds = length (filter p deeds)

abbrev pub one : Bool → ℕ
one true = 1
one false = 0

pub count_more : (p : Deed → Bool) (d : Deed) (ds : List Deed) → count p (d ∷ ds) ≡ one (p d) + count p ds
count_more p d ds = by_test (p d)
  where
    by_test : (b : Bool) → length (if b then d ∷ filter p ds else filter p ds) ≡ one b + length (filter p ds)
    by_test true = omega arith
    by_test false = omega arith

-- ---- what is asked

-- 1 where it was asked for.
abbrev asked_begin : Beginning → ℕ
asked_begin begins.Unbegun = 0
asked_begin _ = 1

abbrev asked : Request → ℕ
asked requests.Unasked = 0
asked _ = 1

begin_one : (b : Beginning) → asked_begin b ≤ 1
begin_one begins.Unbegun = omega arith
begin_one begins.Staging = omega arith
begin_one begins.Starting = omega arith
begin_one begins.Started = omega arith
begin_one (begins.Denied reason) = omega arith

asked_one : (q : Request) → asked q ≤ 1
asked_one requests.Unasked = omega arith
asked_one (requests.Open told) = omega arith
asked_one requests.Served = omega arith
asked_one (requests.Denied reason) = omega arith

-- What a server says asks for nothing.
begin_no_more : (run : ℕ) (body : Body) (b : Beginning) → asked_begin (begin_heard run body b) ≤ asked_begin b
begin_no_more run body begins.Unbegun = omega (arith, ap asked_begin (begin_unasked run body))
begin_no_more run body begins.Staging = begin_one (begin_heard run body begins.Staging)
begin_no_more run body begins.Starting = begin_one (begin_heard run body begins.Starting)
begin_no_more run body begins.Started = begin_one (begin_heard run body begins.Started)
begin_no_more run body (begins.Denied reason) = begin_one (begin_heard run body (begins.Denied reason))

no_more : (f : Request → Request) → f requests.Unasked ≡ requests.Unasked → (q : Request) → asked (f q) ≤ asked q
no_more f e requests.Unasked = omega (arith, ap asked e)
no_more f e (requests.Open told) = asked_one (f (requests.Open told))
no_more f e requests.Served = asked_one (f requests.Served)
no_more f e (requests.Denied reason) = asked_one (f (requests.Denied reason))

-- Where that server says it.
begin_if : (here : Bool) (run : ℕ) (body : Body) (b : Beginning) → asked_begin (if here then begin_heard run body b else b) ≤ asked_begin b
begin_if true run body b = begin_no_more run body b
begin_if false run body b = omega arith

asked_if : (here : Bool) (q r : Request) → asked r ≤ asked q → asked (if here then r else q) ≤ asked q
asked_if true q r h = h
asked_if false q r h = omega arith

-- Where it is asked for.
begin_new : (b : Bool) (x : Beginning) → asked_begin (if b then begins.Staging else x) ≤ one b + asked_begin x
begin_new true x = omega arith
begin_new false x = omega arith

asked_new : (b : Bool) (q : Request) → asked (if b then requests.Open [] else q) ≤ one b + asked q
asked_new true q = omega arith
asked_new false q = omega arith

-- ---- what is asked of a run, and of an attempt

abbrev pub for_run : ℕ → Deed → Bool
for_run run (Begins r text) = r == run
for_run run (Triggers r act) = r == run
for_run run (Stops r) = r == run
for_run run (Verifies r a text) = false
for_run run (Hears s body) = false

abbrev pub for_attempt : ℕ → Deed → Bool
for_attempt attempt (Verifies r a text) = a == attempt
for_attempt attempt (Begins r text) = false
for_attempt attempt (Triggers r act) = false
for_attempt attempt (Stops r) = false
for_attempt attempt (Hears s body) = false

run_asked : (run s : ℕ) (ds : List Deed) → asked_begin (begin_at run s ds) + (asked (trigger_at run s ds) + asked (stop_at run s ds)) ≤ count (for_run run) ds
run_asked run s [] = omega arith
run_asked run s (d ∷ ds) = omega (arith, count_more (for_run run) d ds, run_asked run s ds, step d)
  where
    step : (d : Deed) → asked_begin (begin_at run s (d ∷ ds)) + (asked (trigger_at run s (d ∷ ds)) + asked (stop_at run s (d ∷ ds)))
        ≤ one (for_run run d) + (asked_begin (begin_at run s ds) + (asked (trigger_at run s ds) + asked (stop_at run s ds)))
    step (Begins r text) = omega (arith, begin_new (r == run) (begin_at run s ds))
    step (Triggers r act) = omega (arith, asked_new (r == run) (trigger_at run s ds))
    step (Stops r) = omega (arith, asked_new (r == run) (stop_at run s ds))
    step (Verifies r a text) = omega arith
    step (Hears t body) = omega (
      arith,
      begin_if (t == s) run body (begin_at run s ds),
      asked_if (t == s) (trigger_at run s ds) (trigger_heard run body (trigger_at run s ds))
          (no_more (trigger_heard run body) (trigger_unasked run body) (trigger_at run s ds)),
      asked_if (t == s) (stop_at run s ds) (stop_heard run body (stop_at run s ds)) (no_more (stop_heard run body) (stop_unasked run body) (stop_at run s ds)),
    )

attempt_asked : (attempt s : ℕ) (ds : List Deed) → asked (verify_at attempt s ds) ≤ count (for_attempt attempt) ds
attempt_asked attempt s [] = omega arith
attempt_asked attempt s (d ∷ ds) = omega (arith, count_more (for_attempt attempt) d ds, attempt_asked attempt s ds, step d)
  where
    step : (d : Deed) → asked (verify_at attempt s (d ∷ ds)) ≤ one (for_attempt attempt d) + asked (verify_at attempt s ds)
    step (Begins r text) = omega arith
    step (Triggers r act) = omega arith
    step (Stops r) = omega arith
    step (Verifies r a text) = asked_new (a == attempt) (verify_at attempt s ds)
    step (Hears t body) = omega (
      arith,
      asked_if (t == s) (verify_at attempt s ds) (verify_heard (run_of attempt ds) attempt body (verify_at attempt s ds))
          (no_more (verify_heard (run_of attempt ds) attempt body) (verify_unasked (run_of attempt ds) attempt body) (verify_at attempt s ds)),
    )

-- ---- what is sent again

begin_sends : (run : ℕ) (text : List ℕ) (s : ℕ) (b : Beginning) → length (begin_again run text s b) ≤ asked_begin b
begin_sends run text s begins.Unbegun = omega arith
begin_sends run text s begins.Staging = omega arith
begin_sends run text s begins.Starting = omega arith
begin_sends run text s begins.Started = omega arith
begin_sends run text s (begins.Denied reason) = omega arith

asked_sends : (body : Body) (s : ℕ) (q : Request) → length (packets_again body s q) ≤ asked q
asked_sends body s requests.Unasked = omega arith
asked_sends body s (requests.Open told) = omega arith
asked_sends body s requests.Served = omega arith
asked_sends body s (requests.Denied reason) = omega arith

-- Three packets at most to each server are no more than so many times the servers.
each_server : (f g h : ℕ → List PacketParts) (k : ℕ) → ((s : ℕ) → length (f s) + (length (g s) + length (h s)) ≤ k) → (n : ℕ)
    → length (flat_map f (numbers_below n)) + (length (flat_map g (numbers_below n)) + length (flat_map h (numbers_below n))) ≤ n * k
each_server f g h k few zero = omega arith
each_server f g h k few (suc n) = omega (arith, each_server f g h k few n, few n, last f n, last g n, last h n)
  where
    last : (f : ℕ → List PacketParts) (n : ℕ) → length (flat_map f (numbers_below n ++ n ∷ [])) ≡ length (flat_map f (numbers_below n)) + length (f n)
    last f n = omega (
      arith,
      ap length (flat_map-append f (numbers_below n) (n ∷ [])),
      length-append (flat_map f (numbers_below n)) (f n ++ []),
      length-append (f n) [],
    )

pub run_sends : (servers : ℕ) (ds : List Deed) (run : ℕ) → length (run_again servers ds run) ≤ servers * count (for_run run) ds
run_sends servers ds run =
    let one = λ (s : ℕ). begin_again run (text_of run ds) s (begin_at run s ds) in
    let two = λ (s : ℕ). packets_again (bodies.Trigger run (act_of run ds)) s (trigger_at run s ds) in
    let three = λ (s : ℕ). packets_again (bodies.Stop run) s (stop_at run s ds) in
    omega (
      arith,
      length-append (flat_map one (numbers_below servers)) (flat_map two (numbers_below servers) ++ flat_map three (numbers_below servers)),
      length-append (flat_map two (numbers_below servers)) (flat_map three (numbers_below servers)),
      each_server one two three (count (for_run run) ds)
          (λ s. omega (
            arith,
            run_asked run s ds,
            begin_sends run (text_of run ds) s (begin_at run s ds),
            asked_sends (bodies.Trigger run (act_of run ds)) s (trigger_at run s ds),
            asked_sends (bodies.Stop run) s (stop_at run s ds),
          )) servers,
    )

pub attempt_sends : (servers : ℕ) (ds : List Deed) (attempt : ℕ) → length (attempt_again servers ds attempt) ≤ servers * count (for_attempt attempt) ds
attempt_sends servers ds attempt =
    let one = λ (s : ℕ). packets_again (bodies.Verify (run_of attempt ds) attempt (check_of attempt ds)) s (verify_at attempt s ds) in
    omega (
      arith,
      each_server one nothing nothing (count (for_attempt attempt) ds) (λ s. omega
          (arith, attempt_asked attempt s ds, asked_sends (bodies.Verify (run_of attempt ds) attempt (check_of attempt ds)) s (verify_at attempt s ds)))
          servers,
    )
  where
    nothing : ℕ → List PacketParts
    nothing s = []
