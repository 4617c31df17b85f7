use Rattle.std.proofs.Common.{◌≡◌, ℕ, Bool, List, length, ◌∙◌, ap, sym, arith}
use Rattle.fc_base.specs.Marks.{floor_of}
use Rattle.verify_state.specs.declared.reading.Front.{Front}
use Rattle.verify_state.specs.Front.{front_in}
use Rattle.verify_state.specs.State.{has_come_by}
use Rattle.verify_state.specs.Reading.{job_in, issued_in, marks_at}
use Rattle.verify_state.proofs.LayoutLemmas.{marks_fault, marks_no_fault, floor_differs, marks_differ, marks_hold}
use Rattle.verify_state.proofs.layouts.marked.Goals as goal

floor_is : (bytes : List ℕ) (front : Front) (window floor : ℕ) → front ≡ front_in bytes → window ≡ front.rec.window → floor ≡ floor_of window front.issued
    → floor ≡ floor_of (job_in bytes).window (issued_in bytes)
floor_is bytes front window floor is w f =
    f ∙ ap (λ n. floor_of n front.issued) w ∙ ap (λ (x : Front). floor_of x.rec.window x.issued) is

come_is : (bytes : List ℕ) (front : Front) (come : Bool) (marks : List ℕ) → front ≡ front_in bytes → marks ≡ marks_at bytes
    → come ≡ has_come_by front.rec front.issued marks → come ≡ has_come_by (job_in bytes) (issued_in bytes) (marks_at bytes)
come_is bytes front come marks is m c =
    c ∙ ap (λ (x : Front). has_come_by x.rec x.issued marks) is ∙ ap (has_come_by (job_in bytes) (issued_in bytes)) m

pub returns-then-u64_at-floor : goal.returns-then-u64_at-floor
returns-then-u64_at-floor c =
    let bytes = c.args.bytes.now in
    let floor = floor_is bytes c.args.front.now c.window.result c.floor_of-floor.result c.requires c.window.ensures.value c.floor_of-floor.ensures.value in
    let exact : length bytes ≡ 136 = omega (arith, c.if-bytes-lt-LENGTH.false, c.if-bytes-gt-LENGTH.false) in
    marks_fault bytes exact (floor_differs bytes (λ e. c.if-u64_at-floor.true (c.u64_at.ensures ∙ e ∙ sym floor)))

pub returns-then-not-has_come_by : goal.returns-then-not-has_come_by
returns-then-not-has_come_by c =
    let bytes = c.args.bytes.now in
    let come = come_is bytes c.args.front.now c.has_come_by.result c.from_words-marks.result c.requires
    (c.from_words-marks.ensures ∙ c.words_at.ensures) c.has_come_by.ensures in
    let exact : length bytes ≡ 136 = omega (arith, c.if-bytes-lt-LENGTH.false, c.if-bytes-gt-LENGTH.false) in
    marks_fault bytes exact (marks_differ bytes (sym come ∙ c.if-not-has_come_by.true))

pub returns : goal.returns
returns c =
    let bytes = c.args.bytes.now in
    let marks = c.from_words-marks.ensures ∙ c.words_at.ensures in
    let floor = floor_is bytes c.args.front.now c.window.result c.floor_of-floor.result c.requires c.window.ensures.value c.floor_of-floor.ensures.value in
    let come = come_is bytes c.args.front.now c.has_come_by.result c.from_words-marks.result c.requires marks c.has_come_by.ensures in
    let exact : length bytes ≡ 136 = omega (arith, c.if-bytes-lt-LENGTH.false, c.if-bytes-gt-LENGTH.false) in (
      marks_no_fault bytes exact (marks_hold bytes (sym c.u64_at.ensures ∙ c.if-u64_at-floor.false ∙ floor) (sym come ∙ c.if-not-has_come_by.false)),
      marks,
    )
