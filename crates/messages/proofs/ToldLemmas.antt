-- A body that is read from bytes: its numbers and its tail are theirs.
use Rattle.std.proofs.Common.{◌≡◌, ℕ, ◌+◌, ◌≤◌, Bool, true, false, Option, Some, None, List, [], length, drop, refl, sym, subst, ap, ◌∙◌, arith}
use Rattle.std.specs.Prelude.{◌==◌, nat_le, slice_index}
use Rattle.std.specs.Option.{option_map, option_and_then}
use Rattle.std.proofs.lemmas.Bool.{eqb-true, leb-true, and_parts}
use Rattle.std.proofs.lemmas.List.{length-drop, nil_from_length}
use Rattle.std.proofs.lemmas.Option.{same_Some}
use Rattle.fc_base.specs.declared.report.ReportEnd.{ReportEnd}
use Rattle.messages.specs.declared.body.Body.{Body}
use Rattle.messages.specs.declared.body.Body.TheVariants.{Jobs, JobsOk, Start, Started, Trigger, State, NoState, StateAck, Stop, Stopped}
use Rattle.messages.specs.declared.body.Body.TheVariants.{Verify, WantState, Saved, NoSaved, Report, Refused, Copy, CopyOk, Fetch, Granted}
use Rattle.messages.specs.declared.kind.PacketKind.{PacketKind}
use Rattle.messages.specs.declared.kind.PacketKind.TheVariants as kinds
use Rattle.messages.specs.declared.refusal.RefusedRequest.{RefusedRequest}
use Rattle.messages.specs.declared.refusal.Reason.{Reason}
use Rattle.messages.specs.Choices.{act_numbered, asked_numbered, reason_numbered}
use Rattle.fc_base.specs.Layouts.{size, numbers, blocks_in}
use Rattle.messages.specs.Ranges.{is_body, KeepsState}
use Rattle.messages.specs.Bodies.{kind_of, layout, numbers_of, tail_of, spelled_body, length_of, takes_all, body_of, body_at, end_numbered, state_said}
use Rattle.verify_state.specs.Laws.{IsSpelled, SaysAState}
use Rattle.verify_state.specs.Reading.{is_layout_1}
use Rattle.messages.proofs.StateLemmas.{state_is}
use Rattle.verify_state.proofs.FieldLemmas.{IsBytes, bytes_drop}
use Rattle.messages.proofs.LayoutLemmas.{length-blocks_in, length-spelled_blocks, spelled_blocks-blocks_in, spelled-numbers}
use Rattle.messages.proofs.ChoiceLemmas.{act_is, asked_is, reason_is, end_is}
use Rattle.messages.proofs.BodyLemmas.{are_wide, whole_some}

pub some_of : {A B : Type 0} (f : A → B) (o : Option A) (y : B) → option_map f o ≡ Some y → (x : A) × (o ≡ Some x) × (f x ≡ y)
some_of f None y e = absurd cc
some_of f (Some x) y e = (x, refl, cc)

pub some_then : {A B : Type 0} (f : A → Option B) (o : Option A) (y : B) → option_and_then f o ≡ Some y → (x : A) × (o ≡ Some x) × (f x ≡ Some y)
some_then f None y e = absurd cc
some_then f (Some x) y e = (x, refl, e)

-- The bytes behind the numbers are a verify state in layout 1.
abbrev pub is_old : PacketKind → List ℕ → Bool
is_old kinds.State bytes = is_layout_1 (drop 4 bytes)
is_old kinds.Saved bytes = is_layout_1 (drop 8 bytes)
is_old kinds.Copy bytes = is_layout_1 bytes
is_old k bytes = false

-- The body has the kind and the numbers of the bytes. Where it takes all of them, the numbers are
-- there, and what stands behind is its tail, unless that is an old state.
record Told (k : PacketKind) (bytes : List ℕ) (b : Body) : Type 0 where
  pub kind : kind_of b ≡ k
  pub numbers : numbers_of b ≡ numbers (layout k) bytes
  pub long : takes_all b (length bytes) ≡ true → size (layout k) ≤ length bytes
  pub tail : takes_all b (length bytes) ≡ true → is_old k bytes ≡ false → tail_of b ≡ drop (size (layout k)) bytes
  pub keeps : KeepsState b

no_tail : (n : ℕ) (bytes : List ℕ) → n + 0 ≡ length bytes → [] ≡ drop n bytes
no_tail n bytes e = sym (nil_from_length (drop n bytes) (omega (arith, length-drop n bytes)))

abbrev IsExact : Body → List ℕ → Type 0
IsExact b bytes = takes_all b (length bytes) ≡ true → length_of b ≡ length bytes

-- Bodies of numbers alone.
plain : (k : PacketKind) (bytes : List ℕ) (x b : Body) → Some x ≡ Some b → kind_of x ≡ k → numbers_of x ≡ numbers (layout k) bytes → tail_of x ≡ []
    → KeepsState x → IsExact x bytes → Told k bytes b
plain k bytes x b e kind same none keeps exact =
    let whole : takes_all x (length bytes) ≡ true → size (layout k) + 0 ≡ length bytes =
    λ all. ap (λ (j : PacketKind). size (layout j) + 0) (sym kind) ∙ ap (λ (t : List ℕ). size (layout (kind_of x)) + length t) (sym none) ∙ exact all in
    subst (λ (y : Body). Told k bytes y) (same_Some x b e) (record {
      kind = kind;
      numbers = same;
      long = λ all. omega (arith, whole all);
      tail = λ all other. none ∙ no_tail (size (layout k)) bytes (whole all);
      keeps = keeps;
    })

-- A report, whose tail is as many blocks as it says.
report_told : (bytes : List ℕ) (b : Body) → IsBytes bytes → body_of kinds.Report (numbers (layout kinds.Report) bytes) (drop 41 bytes) ≡ Some b
    → Told kinds.Report bytes b
report_told bytes b fits e =
    let ns = numbers (layout kinds.Report) bytes in
    let count = slice_index ns 8 in
    let tail = drop 41 bytes in
    let bs = blocks_in count tail in
    let report = λ (end : ReportEnd). Report (slice_index ns 0) (slice_index ns 1) (slice_index ns 2) (slice_index ns 3)
    (record { checked = slice_index ns 6; faults = slice_index ns 7; first = bs; end = end }) in
    let end = some_of report (end_numbered (slice_index ns 4) (slice_index ns 5)) b e in
    let is = end_is (slice_index ns 4) (slice_index ns 5) end.0 end.1 in
    let many = length-blocks_in count tail in
    let exact : takes_all (report end.0) (length bytes) ≡ true → length_of (report end.0) ≡ length bytes =
    λ all. eqb-true (length_of (report end.0)) (length bytes) all in
    subst (λ (y : Body). Told kinds.Report bytes y) end.2 (record {
      kind = refl;
      numbers = rw (is.0, is.1, many) refl;
      long = λ all. omega (arith, exact all);
      tail = λ all other. spelled_blocks-blocks_in count tail (bytes_drop 41 bytes fits)
          (omega (arith, length-drop 41 bytes, length-spelled_blocks bs, many, exact all));
      keeps = tt;
    })

at_least : (n : ℕ) (bytes : List ℕ) → nat_le n (length bytes) ≡ true → n ≤ length bytes
at_least n bytes e = leb-true n (length bytes) e

whole_text : (n : ℕ) (bytes : List ℕ) → (n + length (drop n bytes) == length bytes) ≡ true → n ≤ length bytes
whole_text n bytes e = omega (arith, eqb-true (n + length (drop n bytes)) (length bytes) e, length-drop n bytes)

told : IsSpelled → SaysAState → (k : PacketKind) (bytes : List ℕ) (b : Body) → IsBytes bytes
    → body_of k (numbers (layout k) bytes) (drop (size (layout k)) bytes) ≡ Some b → Told k bytes b
told law says kinds.Jobs bytes b fits e =
    subst (λ (y : Body). Told kinds.Jobs bytes y) (same_Some (Jobs _ (drop 8 bytes)) b e)
    (record { kind = refl; numbers = refl; long = λ all. whole_text 8 bytes all; tail = λ all other. refl; keeps = tt })
told law says kinds.JobsOk bytes b fits e = plain kinds.JobsOk bytes (JobsOk _ _) b e refl refl refl tt (λ all. eqb-true _ _ all)
told law says kinds.Start bytes b fits e = plain kinds.Start bytes (Start _) b e refl refl refl tt (λ all. eqb-true _ _ all)
told law says kinds.Started bytes b fits e = plain kinds.Started bytes (Started _) b e refl refl refl tt (λ all. eqb-true _ _ all)
told law says kinds.Trigger bytes b fits e =
    let n = slice_index (numbers (layout kinds.Trigger) bytes) 1 in
    let run = slice_index (numbers (layout kinds.Trigger) bytes) 0 in
    let act = some_of (Trigger run) (act_numbered n) b e in
    plain kinds.Trigger bytes (Trigger run act.0) b (ap (λ (y : Body). Some y) act.2) refl (rw (act_is n act.0 act.1) refl) refl tt (λ all. eqb-true _ _ all)
told law says kinds.State bytes b fits e =
    let jobs = slice_index (numbers (layout kinds.State) bytes) 0 in
    let state = some_of (State jobs) (state_said (drop 4 bytes)) b e in
    let is = state_is law says (drop 4 bytes) state.0 (bytes_drop 4 bytes fits) state.1 in
    subst (λ (y : Body). Told kinds.State bytes y) state.2
    (record { kind = refl; numbers = refl; long = λ all. at_least 4 bytes all; tail = λ all other. is.1 other; keeps = is.0 })
told law says kinds.NoState bytes b fits e = plain kinds.NoState bytes (NoState _ _ _) b e refl refl refl tt (λ all. eqb-true _ _ all)
told law says kinds.StateAck bytes b fits e = plain kinds.StateAck bytes (StateAck _ _) b e refl refl refl tt (λ all. eqb-true _ _ all)
told law says kinds.Stop bytes b fits e = plain kinds.Stop bytes (Stop _) b e refl refl refl tt (λ all. eqb-true _ _ all)
told law says kinds.Stopped bytes b fits e = plain kinds.Stopped bytes (Stopped _) b e refl refl refl tt (λ all. eqb-true _ _ all)
told law says kinds.Verify bytes b fits e =
    subst (λ (y : Body). Told kinds.Verify bytes y) (same_Some (Verify _ _ (drop 16 bytes)) b e)
    (record { kind = refl; numbers = refl; long = λ all. whole_text 16 bytes all; tail = λ all other. refl; keeps = tt })
told law says kinds.WantState bytes b fits e = plain kinds.WantState bytes (WantState _ _ _) b e refl refl refl tt (λ all. eqb-true _ _ all)
told law says kinds.Saved bytes b fits e =
    let attempt = slice_index (numbers (layout kinds.Saved) bytes) 0 in
    let state = some_of (Saved attempt) (state_said (drop 8 bytes)) b e in
    let is = state_is law says (drop 8 bytes) state.0 (bytes_drop 8 bytes fits) state.1 in
    subst (λ (y : Body). Told kinds.Saved bytes y) state.2
    (record { kind = refl; numbers = refl; long = λ all. at_least 8 bytes all; tail = λ all other. is.1 other; keeps = is.0 })
told law says kinds.NoSaved bytes b fits e = plain kinds.NoSaved bytes (NoSaved _ _ _) b e refl refl refl tt (λ all. eqb-true _ _ all)
told law says kinds.Report bytes b fits e = report_told bytes b fits e
told law says kinds.Refused bytes b fits e =
    let ns = numbers (layout kinds.Refused) bytes in
    let refusal = λ (a : RefusedRequest) (r : Reason). Refused (record {
      asked = a;
      reason = r;
      job = slice_index ns 2;
      jobs = slice_index ns 3;
      run = slice_index ns 4;
      attempt = slice_index ns 5;
      value = slice_index ns 6;
    }) in
    let asked = some_then (λ a. option_map (refusal a) (reason_numbered (slice_index ns 1))) (asked_numbered (slice_index ns 0)) b e in
    let reason = some_of (refusal asked.0) (reason_numbered (slice_index ns 1)) b asked.2 in
    plain kinds.Refused bytes (refusal asked.0 reason.0) b (ap (λ (y : Body). Some y) reason.2) refl
    (rw (asked_is (slice_index ns 0) asked.0 asked.1, reason_is (slice_index ns 1) reason.0 reason.1) refl) refl tt (λ all. eqb-true _ _ all)
told law says kinds.Copy bytes b fits e =
    let state = some_of Copy (state_said bytes) b e in
    let is = state_is law says bytes state.0 fits state.1 in
    subst (λ (y : Body). Told kinds.Copy bytes y) state.2
    (record { kind = refl; numbers = refl; long = λ all. omega arith; tail = λ all other. is.1 other; keeps = is.0 })
told law says kinds.CopyOk bytes b fits e = plain kinds.CopyOk bytes (CopyOk _ _ _) b e refl refl refl tt (λ all. eqb-true _ _ all)
told law says kinds.Fetch bytes b fits e = plain kinds.Fetch bytes (Fetch _) b e refl refl refl tt (λ all. eqb-true _ _ all)
told law says kinds.Granted bytes b fits e = plain kinds.Granted bytes (Granted _) b e refl refl refl tt (λ all. eqb-true _ _ all)

-- What is read as a body of a kind is of that kind and in its ranges, its numbers are there, and it is
-- spelled by the bytes unless they hold an old state.
pub record IsRead (k : PacketKind) (bytes : List ℕ) (b : Body) : Type 0 where
  pub kind : kind_of b ≡ k
  pub in_range : is_body b ≡ true
  pub keeps : KeepsState b
  pub spelled : is_old k bytes ≡ false → spelled_body b ≡ bytes

pub read_body : IsSpelled → SaysAState → (k : PacketKind) (bytes : List ℕ) (b : Body) → IsBytes bytes → body_at k bytes ≡ Some b → IsRead k bytes b
read_body law says k bytes b fits e =
    let found = whole_some bytes (body_of k (numbers (layout k) bytes) (drop (size (layout k)) bytes)) b e in
    let tests = and_parts (takes_all b (length bytes)) (is_body b) found.1 in
    let is = told law says k bytes b fits found.0 in
    record {
      kind = is.kind;
      in_range = tests.1;
      keeps = is.keeps;
      spelled = λ other.
          let tail = is.tail tests.0 other in
          rw (is.kind, is.numbers, tail) (spelled-numbers (layout k) bytes (are_wide k) fits (is.long tests.0));
    }
