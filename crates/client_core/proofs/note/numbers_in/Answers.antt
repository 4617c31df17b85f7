use Rattle.std.proofs.Common.{refl, ◌∙◌, ap, subst, ℕ, List, drop, arith, None, Some}
use Rattle.std.specs.Int.{w32, w64}
use Rattle.fc_base.specs.Layouts.{number_in}
use Rattle.verify_state.specs.TableReading.{ReadsStates}
use Rattle.client_core.proofs.NoteLemmas.{too_short, too_many, no_states, numbers_say}
use Rattle.client_core.proofs.note.numbers_in.Goals as goal

pub returns-then-bytes-lt-NUMBERS-clause-said : goal.returns-then-bytes-lt-NUMBERS-clause-said
returns-then-bytes-lt-NUMBERS-clause-said c = λ n k a. too_short c.spelled_are_read.ensures c.args.bytes.now n (omega (arith, c.if-bytes-lt-NUMBERS.true)) k a

pub returns-then-count-gt-KEPT_LIMIT-clause-said : goal.returns-then-count-gt-KEPT_LIMIT-clause-said
returns-then-count-gt-KEPT_LIMIT-clause-said c =
    let attempts = c.split_u64-attempts.ensures.rest ∙ ap (drop 8) c.split_u64-runs.ensures.rest in
    let count = c.split_u32-count.ensures.number ∙ ap (λ l. number_in w32 l) attempts in
    λ n k a. too_many c.spelled_are_read.ensures c.args.bytes.now n c.split_u32-count.result.0 count (omega (arith, c.if-count-gt-KEPT_LIMIT.true)) k a

pub returns-in-Some-clause-said : goal.returns-in-Some-clause-said
returns-in-Some-clause-said c =
    let runs = c.split_u64-runs.ensures.rest in
    let attempts = c.split_u64-attempts.ensures.rest ∙ ap (drop 8) runs in
    let states = c.split_u32-count.ensures.rest ∙ ap (drop 4) attempts in
    let read = subst (λ (l : List ℕ). ReadsStates c.split_u32-count.result.0 l (Some c.in-Some.kept)) states
    (subst (ReadsStates c.split_u32-count.result.0 c.split_u32-count.result.1.now) c.in-Some.is c.in_ok-kept.ensures.states) in
    let says = numbers_say c.spelled_are_read.ensures c.read_were_spelled.ensures c.args.bytes.now c.args.generation c.split_u64-runs.result.0
    c.split_u64-attempts.result.0 c.split_u32-count.result.0 c.in-Some.kept (λ i. omega (arith, c.type_inv.bytes i))
    (omega (arith, c.if-bytes-lt-NUMBERS.false)) (omega (arith, c.number-number.ensures.value, c.number-number.ensures.range)) c.split_u64-runs.ensures.number
    (c.split_u64-attempts.ensures.number ∙ ap (λ l. number_in w64 l) runs)
    (c.split_u32-count.ensures.number ∙ ap (λ l. number_in w32 l) attempts)
    (omega arith) (omega arith) (omega (arith, c.if-count-gt-KEPT_LIMIT.false)) read.0 read.1 in
    (refl, says.0, says.1)

pub returns-in-None-clause-said : goal.returns-in-None-clause-said
returns-in-None-clause-said c =
    let attempts = c.split_u64-attempts.ensures.rest ∙ ap (drop 8) c.split_u64-runs.ensures.rest in
    let count = c.split_u32-count.ensures.number ∙ ap (λ l. number_in w32 l) attempts in
    let states = c.split_u32-count.ensures.rest ∙ ap (drop 4) attempts in
    let read = subst (λ (l : List ℕ). ReadsStates c.split_u32-count.result.0 l None) states
    (subst (ReadsStates c.split_u32-count.result.0 c.split_u32-count.result.1.now) c.in-None.is c.in_ok-kept.ensures.states) in
    λ n k a. no_states c.spelled_are_read.ensures c.args.bytes.now n c.split_u32-count.result.0 count read k a
