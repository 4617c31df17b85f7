-- A job that is written elsewhere, notice by notice.
use Rattle.std.proofs.Common.{◌≡◌, ◌<◌, ◌≤◌, ℕ, Bool, true, false, ◌==◌, List, [], ◌∷◌, ◌++◌, length, length-append, take, Option}
use Rattle.std.proofs.Common.{Some, None, Err, IfSome, append-nil, refl, sym, ap, ◌∙◌, subst, inl, inr, arith}
use Rattle.std.specs.Prelude.{if◌then◌else◌}
use Rattle.std.specs.Int.{w64}
use Rattle.std.specs.Io.KnownBytes.{Appends, Consumes, IsAtEnd, Keeps}
use Rattle.std.proofs.KnownBytes.{Appends-trans, Appends-kept, Consumes-trans, Keeps-trans}
use Rattle.std.proofs.lemmas.Grind.{flat_map-append}
use Rattle.std.proofs.lemmas.Bool.{cases_Bool}
use Rattle.std.proofs.lemmas.List.{take_at}
use Rattle.fc_base.specs.Counted.{has}
use Rattle.fc_base.specs.declared.numbers.Key.{Key}
use Rattle.fc_base.specs.declared.record.JobParts.{JobParts}
use Rattle.fc_base.specs.declared.fault.Fault.{Fault}
use Rattle.fc_base.specs.declared.fault.Fault.TheVariants as faults
use Rattle.fc_base.specs.Layouts.{bytes_of}
use Rattle.write_order.specs.Blocks.{block_of}
use Rattle.write_order.specs.Stamps as stamps
use Rattle.engine.specs.History.{Event, issue, issues}
use Rattle.engine.specs.Numbers.{without}
use Rattle.engine.specs.declared.issue.Ticket.{Ticket}
use Rattle.engine.specs.Answers.{open_ticket, ticket_of}
use Rattle.engine.specs.Running.{Origin, Running, after_done, after_fail}
use Rattle.targets.specs.declared.notice.Notice.{Notice}
use Rattle.targets.specs.declared.notice.Notice.TheVariants.{Done, Failed, Take}
use Rattle.targets.specs.declared.writing.RunEnd.{RunEnd}
use Rattle.targets.specs.declared.writing.RunEnd.TheVariants.{Taken, Refused}
use Rattle.targets.specs.Notices.{notice_bytes, told_bytes, NoticeFits}
use Rattle.targets.specs.Orders.{order_bytes, orders, orders_behind}
use Rattle.targets.specs.Runs.{IsHistory, HasRun, TakesNext, EndsNone, IsNoNotice, Runs}
use Rattle.targets.specs.Writing.{ReadsNotice, EndsNothing, GoesOn, FollowsBy, Steps, SoFar, steps_left}

-- What is appended behind a flush is appended.
pub kept_appends : (first mid text : Option (List ℕ)) (bytes : List ℕ) → Keeps first mid → Appends mid text bytes → Appends first text bytes
kept_appends None mid text bytes kept appends = tt
kept_appends (Some x) None text bytes kept appends = absurd kept
kept_appends (Some x) (Some y) None bytes kept appends = absurd appends
kept_appends (Some x) (Some y) (Some z) bytes kept appends = appends ∙ ap (λ l. l ++ bytes) kept

-- A flush before a notice is followed leaves what is said of that.
pub flushed : (n : Notice) (h : List Event) (old new : Running) (first mid text : Option (List ℕ)) (end : Option RunEnd) → Keeps first mid
    → FollowsBy [] n h old new mid text end → FollowsBy [] n h old new first text end
flushed n h old new first mid text None kept (same, more) = (
  same,
  record {
    history = more.history;
    bytes = more.bytes;
    follows = more.follows;
    stands = more.stands;
    written = kept_appends first mid text more.bytes kept more.written;
    ordered = more.ordered;
  },
)
flushed n h old new first mid text (Some (Taken state)) kept (later, take, is) = (Keeps-trans first mid text kept later, take, is)
flushed n h old new first mid text (Some (Refused faults.NotInFlight)) kept (later, none) = (Keeps-trans first mid text kept later, none)
flushed n h old new first mid text (Some (Refused _)) kept why = absurd why

-- The orders with that of one more write.
pub orders_more : (head : List ℕ) (key : Key) (job : JobParts) (k : ℕ) (h : List Event)
    → orders_behind head key job (issue k ∷ h) ≡ orders_behind head key job h ++ (head ++ order_bytes key job k)
orders_more head key job k h =
    flat_map-append (λ j. head ++ order_bytes key job j) (issues h) (k ∷ []) ∙ ap (λ l. orders_behind head key job h ++ l)
    (append-nil (head ++ order_bytes key job k))

-- The order of a write, in three parts.
pub order_written : (old first second new : Option (List ℕ)) (key : Key) (job : JobParts) (k : ℕ) (numbers blocks bytes : List ℕ)
    → Appends old first numbers → numbers ≡ bytes_of w64 k → Appends first second blocks → blocks ≡ bytes_of w64 (block_of job k) → Appends second new bytes
    → bytes ≡ stamps.bytes_of key job k
    → Appends old new (order_bytes key job k)
order_written old first second new key job k numbers blocks bytes a a_is b b_is c c_is =
    Appends-trans old first new (bytes_of w64 k) (bytes_of w64 (block_of job k) ++ stamps.bytes_of key job k) (subst (Appends old first) a_is a)
    (Appends-trans first second new (bytes_of w64 (block_of job k)) (stamps.bytes_of key job k) (subst (Appends first second) b_is b)
    (subst (Appends second new) c_is c))

-- A run with one more notice.
pub goes_on : (running new : Running) (n : Notice) (first_input old_input input first_text old_text text : Option (List ℕ))
    → (so_far : SoFar running first_input old_input first_text old_text) → new.origin ≡ running.origin → Consumes old_input input (notice_bytes n)
    → GoesOn [] so_far.history n running.origin new old_text text
    → SoFar new first_input input first_text text
goes_on running new n first_input old_input input first_text old_text text so_far same told more = record {
  notices = n ∷ so_far.notices;
  history = more.history;
  stands = more.stands;
  is_history = subst (λ o. IsHistory o (n ∷ so_far.notices) more.history) (sym same) (so_far.history, so_far.is_history, more.follows);
  told = Consumes-trans first_input old_input input (told_bytes so_far.notices) (notice_bytes n) so_far.told told;
  written = subst (Appends first_text text) (sym (ap (λ (o : Origin). orders o.key o.job more.history) same ∙ more.ordered))
      (Appends-trans first_text old_text text _ more.bytes so_far.written more.written);
}

-- What is left of known bytes.
pub known_rest : (whole : List ℕ) (input : Option (List ℕ)) (bytes : List ℕ) → Consumes (Some whole) input bytes
    → (rest : List ℕ) × (input ≡ Some rest) × (whole ≡ bytes ++ rest)
known_rest whole None bytes told = absurd told
known_rest whole (Some rest) bytes told = (rest, refl, told)

-- A run ends as runs do, where what is left of its input does.
run_has : (running : Running) (whole : List ℕ) (input first_text text new_text : Option (List ℕ)) (P : List ℕ → List Event → Type 0)
    → (so_far : SoFar running (Some whole) input first_text text) → Keeps text new_text
    → ((rest : List ℕ) → input ≡ Some rest → P rest so_far.history)
    → HasRun running.origin whole first_text new_text P
run_has running whole input first_text text new_text P so_far kept ends =
    let known = known_rest whole input (told_bytes so_far.notices) so_far.told in
    record {
      notices = so_far.notices;
      history = so_far.history;
      rest = known.0;
      is_history = so_far.is_history;
      told = known.2;
      written = Appends-kept first_text text new_text _ so_far.written kept;
      ended = ends known.0 known.1;
    }

takes_next : (rest : List ℕ) (input new : Option (List ℕ)) → input ≡ Some rest → Consumes input new (notice_bytes Take) → TakesNext rest
takes_next rest input new is told =
    let known = known_rest rest new (notice_bytes Take) (subst (λ i. Consumes i new (notice_bytes Take)) is told) in
    record { rest = known.0; take = known.2 }

ends_none : (n : Notice) (rest : List ℕ) (h : List Event) (input new : Option (List ℕ)) → input ≡ Some rest → Consumes input new (notice_bytes n)
    → NoticeFits n → EndsNothing n h → EndsNone rest h
ends_none (Done k) rest h input new is told fits none =
    let known = known_rest rest new (notice_bytes (Done k)) (subst (λ i. Consumes i new (notice_bytes (Done k))) is told) in
    record { write = k; rest = known.0; told = inl known.2; fits = fits; none = none }
ends_none (Failed k) rest h input new is told fits none =
    let known = known_rest rest new (notice_bytes (Failed k)) (subst (λ i. Consumes i new (notice_bytes (Failed k))) is told) in
    record { write = k; rest = known.0; told = inr known.2; fits = fits; none = none }
ends_none Take rest h input new is told fits none = absurd none

no_notice : (rest : List ℕ) (input new : Option (List ℕ)) → input ≡ Some rest → ReadsNotice input new (Err faults.BadNotice) → IsNoNotice rest
no_notice rest input new is (bytes, told, len, none) =
    let known = known_rest rest new bytes (subst (λ i. Consumes i new bytes) is told) in
    let front : take 16 rest ≡ bytes = ap (take 16) known.2 ∙ take_at bytes known.0 16 len in
    record {
      long = omega (arith, ap length known.2, length-append bytes known.0, len);
      none = λ n same. none n (sym front ∙ same);
    }

too_short : (rest : List ℕ) (input new : Option (List ℕ)) → input ≡ Some rest → ReadsNotice input new (Err faults.EndOfInput) → length rest < 16
too_short rest input new is (bytes, told, short, end) =
    let known = known_rest rest new bytes (subst (λ i. Consumes i new bytes) is told) in
    let none : known.0 ≡ [] = subst IsAtEnd known.1 end in
    omega (arith, ap length (known.2 ∙ ap (λ l. bytes ++ l) none ∙ append-nil bytes), short)

-- A notice that ends a run.
ended_by : (running new : Running) (n : Notice) (whole : List ℕ) (input new_input first_text text new_text : Option (List ℕ)) (end : RunEnd)
    → (so_far : SoFar running (Some whole) input first_text text) → Consumes input new_input (notice_bytes n) → NoticeFits n
    → FollowsBy [] n so_far.history running new text new_text (Some end)
    → Runs running.origin whole first_text new_text end
ended_by running new n whole input new_input first_text text new_text (Taken state) so_far told fits (kept, take, is) =
    run_has running whole input first_text text new_text _ so_far kept
    (λ rest at. (takes_next rest input new_input at (subst (λ m. Consumes input new_input (notice_bytes m)) take told), is))
ended_by running new n whole input new_input first_text text new_text (Refused faults.NotInFlight) so_far told fits (kept, none) =
    run_has running whole input first_text text new_text _ so_far kept (λ rest at. ends_none n rest so_far.history input new_input at told fits none)
ended_by running new n whole input new_input first_text text new_text (Refused _) so_far told fits why = absurd why

-- No notice ends a run, too.
unread_by : (running : Running) (whole : List ℕ) (input new_input first_text text new_text : Option (List ℕ)) (fault : Fault)
    → SoFar running (Some whole) input first_text text → Keeps text new_text → ReadsNotice input new_input (Err fault)
    → Runs running.origin whole first_text new_text (Refused fault)
unread_by running whole input new_input first_text text new_text faults.BadNotice so_far kept why =
    run_has running whole input first_text text new_text _ so_far kept (λ rest at. no_notice rest input new_input at why)
unread_by running whole input new_input first_text text new_text faults.EndOfInput so_far kept why =
    run_has running whole input first_text text new_text _ so_far kept (λ rest at. too_short rest input new_input at why)
unread_by running whole input new_input first_text text new_text faults.ReadError so_far kept why =
    run_has running whole input first_text text new_text _ so_far kept (λ rest at. tt)
unread_by running whole input new_input first_text text new_text _ so_far kept why = absurd why

-- So a step ends a run as runs end.
pub step_ends : (running new : Running) (first_input input new_input first_text text new_text : Option (List ℕ)) (end : RunEnd)
    → (so_far : SoFar running first_input input first_text text)
    → Steps so_far.history running new input new_input text new_text (Some end)
    → IfSome first_input (λ whole. Runs running.origin whole first_text new_text end)
step_ends running new None input new_input first_text text new_text end so_far step = tt
step_ends running new (Some whole) input new_input first_text text new_text end so_far (inl (n, told, fits, follows)) =
    ended_by running new n whole input new_input first_text text new_text end so_far told fits follows
step_ends running new (Some whole) input new_input first_text text new_text end so_far (inr (fault, is, kept, why)) =
    let same : end ≡ Refused fault = cc in
    subst (Runs running.origin whole first_text new_text) (sym same) (unread_by running whole input new_input first_text text new_text fault so_far kept why)

-- And goes on as they go on.
pub step_goes_on : (running new : Running) (first_input input new_input first_text text new_text : Option (List ℕ))
    → (so_far : SoFar running first_input input first_text text)
    → Steps so_far.history running new input new_input text new_text None
    → SoFar new first_input new_input first_text new_text × (new.origin ≡ running.origin)
step_goes_on running new first_input input new_input first_text text new_text so_far (inl (n, told, fits, more)) =
    (goes_on running new n first_input input new_input first_text text new_text so_far more.0 told more.1, more.0)
step_goes_on running new first_input input new_input first_text text new_text so_far (inr (fault, is, kept, why)) = absurd cc

-- ---- what is left

-- A list without one of its numbers is shorter.
pub without_less : (k : ℕ) (xs : List ℕ) → has xs k ≡ true → length (without k xs) < length xs
without_less k [] h = absurd cc
without_less k (x ∷ xs) h = elim (cases_Bool (x == k)) [
  | inl t ↦ rw t (omega (arith, without_most k xs))
  | inr f ↦
      let later : has xs k ≡ true = rw f at h in
      rw f (omega (arith, without_less k xs later))
]
  where
    without_most : (k : ℕ) (xs : List ℕ) → length (without k xs) ≤ length xs
    without_most k [] = omega arith
    without_most k (x ∷ xs) = elim (cases_Bool (x == k)) [
      | inl t ↦ rw t (omega (arith, without_most k xs))
      | inr f ↦ rw f (omega (arith, without_most k xs))
    ]

-- A ticket is there where the write is open.
pub open_is : (origin : Origin) (writes : List ℕ) (k : ℕ) (ticket : Ticket) → open_ticket origin writes k ≡ Some ticket
    → (has writes k ≡ true) × (ticket.seq ≡ k)
open_is origin writes k ticket h = by (has writes k) refl h
  where
    by : (b : Bool) → has writes k ≡ b → (if b then Some (ticket_of origin k) else None) ≡ Some ticket → (has writes k ≡ true) × (ticket.seq ≡ k)
    by true e is = (e, let same : ticket_of origin k ≡ ticket = cc in sym (ap (λ (t : Ticket). t.seq) same))
    by false e is = absurd cc

-- Less is left once a write has ended.
pub less_by_done : (running new : Running) (k seq : ℕ) (ok : Bool) → ok ≡ true → new ≡ (if ok then after_done running seq else running) → seq ≡ k
    → has running.kept.open_writes k ≡ true
    → steps_left new < steps_left running
less_by_done running new k seq ok is new_is same h =
    let done_is : new ≡ after_done running k = new_is ∙ ap (λ b. if b then after_done running seq else running) is ∙ ap (after_done running) same in
    subst (λ r. steps_left r < steps_left running) (sym done_is) (omega (arith, without_less k running.kept.open_writes h))

pub less_by_fail : (running new : Running) (k seq : ℕ) (ok : Bool) → ok ≡ true → new ≡ (if ok then after_fail running seq else running) → seq ≡ k
    → has running.kept.open_writes k ≡ true
    → steps_left new < steps_left running
less_by_fail running new k seq ok is new_is same h =
    let fail_is : new ≡ after_fail running k = new_is ∙ ap (λ b. if b then after_fail running seq else running) is ∙ ap (after_fail running) same in
    subst (λ r. steps_left r < steps_left running) (sym fail_is) (omega (arith, without_less k running.kept.open_writes h))
