use Rattle.std.proofs.Common.{◌∙◌, ◌≤◌, ap, subst, take, drop, length, arith}
use Rattle.std.specs.Prelude.{codes}
use Rattle.std.specs.Int.{w64}
use Rattle.fc_base.specs.Layouts.{number_in}
use Rattle.client_core.specs.Note.{Reads, ReadsNumbers}
use Rattle.client_core.proofs.NoteLemmas.{some_bytes, is_equal, no_magic, if_ok, begins_states, reads_old, reads_new}
use Rattle.client_core.proofs.NoteLemmas.{short_note, past_generation, within_generation, above_generation}
use Rattle.client_core.proofs.note.ClientNote.decode.Goals as goal

pub returns-in-Some-clause-said : goal.returns-in-Some-clause-said
returns-in-Some-clause-said c =
    let bytes = c.args.bytes.now in
    if_ok c.numbers_in.result (ReadsNumbers c.none.result c.in-Some.rest.now) (Reads bytes)
    (λ x h. reads_old bytes c.in-Some.rest.now (some_bytes bytes c.if-is_empty.ensures)
    (is_equal (take 4 bytes) (codes "FCC1") c.in-Some.ensures.cases.0) c.in-Some.ensures.cases.1 x
    (subst (λ g. ReadsNumbers g c.in-Some.rest.now x) c.none.ensures h))
    c.numbers_in.ensures.said

pub returns-in_default-strip_prefix-clause-said : goal.returns-in_default-strip_prefix-clause-said
returns-in_default-strip_prefix-clause-said c =
    λ n s. no_magic c.args.bytes.now n (some_bytes c.args.bytes.now c.if-is_empty.ensures) c.in_default.ensures.cases c.in_default-strip_prefix.ensures.cases s

pub returns-then-rest-lt-GENERATION_LENGTH-clause-said : goal.returns-then-rest-lt-GENERATION_LENGTH-clause-said
returns-then-rest-lt-GENERATION_LENGTH-clause-said c =
    let behind = c.in-Some-strip_prefix.ensures.cases.1 in
    λ n s. short_note c.args.bytes.now n (some_bytes c.args.bytes.now c.if-is_empty.ensures) c.in_default.ensures.cases
    (omega (arith, ap length behind, c.if-rest-lt-GENERATION_LENGTH.true)) s

pub returns-in-Some-of_note-clause-said : goal.returns-in-Some-of_note-clause-said
returns-in-Some-of_note-clause-said c =
    let bytes = c.args.bytes.now in
    let behind = c.in-Some-strip_prefix.ensures.cases.1 in
    let number = c.split_u64-generation.ensures.number ∙ ap (λ l. number_in w64 l) behind in
    let generation = within_generation c.split_u64-generation.result.0 c.in-Some-of_note.generation c.in-Some-of_note.ensures ∙ number in
    let rest = c.split_u64-generation.ensures.rest ∙ ap (drop 8) behind in
    let long : 8 ≤ length (drop 4 bytes) = omega (arith, ap length behind, c.if-rest-lt-GENERATION_LENGTH.false) in
    let reads = reads_new bytes c.split_u64-generation.result.1.now c.in-Some-of_note.generation (some_bytes bytes c.if-is_empty.ensures)
    (λ i. omega (arith, c.type_inv.bytes i)) c.in_default.ensures.cases
    (is_equal (take 4 bytes) (codes "FCC2") c.in-Some-strip_prefix.ensures.cases.0) long generation rest in
    if_ok c.numbers_in-in-Some-of_note.result (ReadsNumbers c.in-Some-of_note.generation c.split_u64-generation.result.1.now)
    (Reads bytes) reads c.numbers_in-in-Some-of_note.ensures.said

pub returns-in-None-clause-said : goal.returns-in-None-clause-said
returns-in-None-clause-said c =
    let behind = c.in-Some-strip_prefix.ensures.cases.1 in
    let number = c.split_u64-generation.ensures.number ∙ ap (λ l. number_in w64 l) behind in
    λ n s. past_generation c.args.bytes.now n c.split_u64-generation.result.0
    (some_bytes c.args.bytes.now c.if-is_empty.ensures) c.in_default.ensures.cases number
    (above_generation c.split_u64-generation.result.0 c.in-None.ensures) s

pub returns-in-Some-of_note-clause-memory : goal.returns-in-Some-of_note-clause-memory
returns-in-Some-of_note-clause-memory c =
    let bytes = c.args.bytes.now in
    let rest = c.split_u64-generation.ensures.rest ∙ ap (drop 8) c.in-Some-strip_prefix.ensures.cases.1 in
    begins_states c.numbers_in-in-Some-of_note.result bytes c.split_u64-generation.result.1.now
    (is_equal (take 4 bytes) (codes "FCC2") c.in-Some-strip_prefix.ensures.cases.0) rest c.numbers_in-in-Some-of_note.ensures.memory
