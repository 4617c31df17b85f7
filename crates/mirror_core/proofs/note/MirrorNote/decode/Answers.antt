use Rattle.std.proofs.Common.{◌∙◌, ap, subst, ℕ, List, take, drop, arith, None, Some}
use Rattle.std.specs.Prelude.{codes}
use Rattle.std.specs.Int.{w32, w64}
use Rattle.std.proofs.lemmas.Slice.Eq.{bytes_eq-Decides}
use Rattle.fc_base.specs.Layouts.{number_in}
use Rattle.verify_state.specs.TableReading.{ReadsStates}
use Rattle.mirror_core.proofs.NoteLemmas.{some_bytes, no_magic, too_short, too_great, too_many, no_states, read_says}
use Rattle.mirror_core.proofs.note.MirrorNote.decode.Goals as goal

pub returns-in_default-clause-said : goal.returns-in_default-clause-said
returns-in_default-clause-said c =
    λ n s. no_magic c.spelled_are_read.ensures c.args.bytes.now n (some_bytes c.args.bytes.now c.if-is_empty.ensures) c.in_default.ensures.cases s

pub returns-then-rest-lt-NUMBERS-clause-said : goal.returns-then-rest-lt-NUMBERS-clause-said
returns-then-rest-lt-NUMBERS-clause-said c =
    let len = c.in-Some.ensures.cases.2 in
    λ n s. too_short c.spelled_are_read.ensures c.args.bytes.now n (some_bytes c.args.bytes.now c.if-is_empty.ensures)
    (omega (arith, len, c.if-rest-lt-NUMBERS.true)) s

pub returns-then-generation-gt-MAX_GENERATION-clause-said : goal.returns-then-generation-gt-MAX_GENERATION-clause-said
returns-then-generation-gt-MAX_GENERATION-clause-said c =
    let generation = c.split_u64-generation.ensures.number ∙ ap (λ l. number_in w64 l) c.in-Some.ensures.cases.1 in
    λ n s. too_great c.spelled_are_read.ensures c.args.bytes.now n c.split_u64-generation.result.0
    (some_bytes c.args.bytes.now c.if-is_empty.ensures) generation c.if-generation-gt-MAX_GENERATION.true s

pub returns-then-count-gt-KEPT_LIMIT-clause-said : goal.returns-then-count-gt-KEPT_LIMIT-clause-said
returns-then-count-gt-KEPT_LIMIT-clause-said c =
    let generation = c.split_u64-generation.ensures.rest ∙ ap (drop 8) c.in-Some.ensures.cases.1 in
    let count = c.split_u32-count.ensures.number ∙ ap (λ l. number_in w32 l) generation in
    λ n s. too_many c.spelled_are_read.ensures c.args.bytes.now n c.split_u32-count.result.0 (some_bytes c.args.bytes.now c.if-is_empty.ensures) count
    (omega (arith, c.if-count-gt-KEPT_LIMIT.true)) s

pub returns-in-Some-2-clause-said : goal.returns-in-Some-2-clause-said
returns-in-Some-2-clause-said c =
    let mark = (bytes_eq-Decides (take 4 c.args.bytes.now) (codes "FCM1")).0 c.in-Some.ensures.cases.0 in
    let after = c.in-Some.ensures.cases.1 in
    let generation = c.split_u64-generation.ensures.rest ∙ ap (drop 8) after in
    let states = c.split_u32-count.ensures.rest ∙ ap (drop 4) generation in
    let read = subst (λ (l : List ℕ). ReadsStates c.split_u32-count.result.0 l (Some c.in-Some-2.kept)) states
    (subst (ReadsStates c.split_u32-count.result.0 c.split_u32-count.result.1.now) c.in-Some-2.is c.in_ok-kept.ensures.states) in
    read_says c.spelled_are_read.ensures c.read_were_spelled.ensures c.args.bytes.now c.split_u64-generation.result.0 c.split_u32-count.result.0
    c.in-Some-2.kept (λ i. omega (arith, c.type_inv.bytes i)) mark
    (omega (arith, c.in-Some.ensures.cases.2, c.if-rest-lt-NUMBERS.false))
    (c.split_u64-generation.ensures.number ∙ ap (λ l. number_in w64 l) after)
    (c.split_u32-count.ensures.number ∙ ap (λ l. number_in w32 l) generation)
    (omega (arith, c.if-generation-gt-MAX_GENERATION.false)) (omega (arith, c.if-count-gt-KEPT_LIMIT.false)) read.0 read.1

pub returns-in-None-clause-said : goal.returns-in-None-clause-said
returns-in-None-clause-said c =
    let generation = c.split_u64-generation.ensures.rest ∙ ap (drop 8) c.in-Some.ensures.cases.1 in
    let count = c.split_u32-count.ensures.number ∙ ap (λ l. number_in w32 l) generation in
    let states = c.split_u32-count.ensures.rest ∙ ap (drop 4) generation in
    let read = subst (λ (l : List ℕ). ReadsStates c.split_u32-count.result.0 l None) states
    (subst (ReadsStates c.split_u32-count.result.0 c.split_u32-count.result.1.now) c.in-None.is c.in_ok-kept.ensures.states) in
    λ n s. no_states c.spelled_are_read.ensures c.args.bytes.now n c.split_u32-count.result.0 (some_bytes c.args.bytes.now c.if-is_empty.ensures) count read s
