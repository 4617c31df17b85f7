-- What may be added to a legal history, and what stays as events are added.
use Rattle.std.proofs.Common.{◌≡◌, ℕ, ◌<◌, Bool, true, false, ◌||◌, not, eqb, ltb, leb, List, [], ◌∷◌, length, refl, ap, sym, subst, ◌∙◌, arith, inl, inr}
use Rattle.std.specs.List.{list_any}
use Rattle.std.proofs.lemmas.Bool.{cases_Bool, cases_lt, false≢true, and_parts, and_from, or_cases, or_parts, or_left}
use Rattle.std.proofs.lemmas.Bool.{or_right, not-true, eqb-true, eq-eqb, ltb-true, lt-ltb, leb-true, leb-false}
use Rattle.std.proofs.lemmas.List.{length_push}
use Rattle.fc_base.specs.Counted.{has}
use Rattle.fc_base.specs.declared.record.JobParts.{JobParts}
use Rattle.fc_base.specs.NumberLaws.{has_push}
use Rattle.write_order.specs.Blocks.{block_of}
use Rattle.engine.specs.History.{Event, issue, done, fail, issues, completions, issued, is_done, in_flight, open_writes}
use Rattle.engine.specs.WindowRules as rules
use Rattle.engine.specs.Sets.{InFlightIsNotDone, RoomIsRight}
use Rattle.engine.specs.Kept.{is_held, room_by}
use Rattle.engine.specs.declared.issue.Ticket.{Ticket}
use Rattle.engine.specs.declared.issue.Issue.TheVariants.{Finished, Stopped}
use Rattle.engine.specs.Legal.{IsLegal, has_failed, any_goes_to}
use Rattle.engine.specs.Laws.{WritesAreLegal, EndsAreLegal, LaterWaits, FlyApart, StaysStopped, StaysFinished}
use Rattle.engine.proofs.AnswerLemmas.{first_of_tests, next_from_write, open_from_verdict}
use Rattle.engine.proofs.RunningLemmas.{failed_now}

-- ---- what is answered

room_open : (full held : Bool) (depth window : ℕ) (h : List Event) → full ≡ false → held ≡ false → rules.HasRoom depth window h (room_by full held)
    → (length (in_flight h) < depth) × rules.IsClear window h
room_open false false depth window h a b room = room
room_open true held depth window h a b room = cc
room_open false true depth window h a b room = cc

pub writes_are_legal : RoomIsRight → WritesAreLegal
writes_are_legal right origin stopped h ticket some legal e =
    let job = origin.job in
    let n = next_from_write _ _ _ _ _ _ ticket (sym e) in
    let seq_is : ticket.seq ≡ issued h = ap (λ (t : Ticket). t.seq) n.ticket_is in
    let room = room_open (leb job.depth (length (in_flight h))) (is_held job.window (issued h) (in_flight h)) job.depth job.window h n.free n.clear
    (right job.depth job.window h some legal.by_window) in
    let unfailed = (or_parts stopped (has_failed h) n.runs).1 in
    let next : IsLegal job (issue (issued h) ∷ h) = record {
      by_window = (legal.by_window, refl, room.0, room.1);
      by_job = (legal.by_job, leb-false _ _ n.fewer, n.alone, unfailed);
    } in
    (n.ticket_is, subst (λ k. IsLegal job (issue k ∷ h)) (sym seq_is) next)

pub ends_are_legal : EndsAreLegal
ends_are_legal origin h ticket legal e =
    let opened = open_from_verdict origin (open_writes h) ticket (sym e) in (
      opened,
      record { by_window = (legal.by_window, opened); by_job = legal.by_job },
      record { by_window = (legal.by_window, opened); by_job = legal.by_job },
    )

-- ---- writes to one block

any_where : (p : ℕ → Bool) (ks : List ℕ) (k : ℕ) → has ks k ≡ true → p k ≡ true → list_any p ks ≡ true
any_where p [] k h e = h
any_where p (x ∷ ks) k h e = elim (or_cases (eqb x k) (has ks k) h) [
  | inl here ↦ or_left (p x) (list_any p ks) (ap p (eqb-true x k here) ∙ e)
  | inr there ↦ or_right (p x) (list_any p ks) (any_where p ks k there e)
]

-- no write in flight goes to the block of the next one, so an earlier write to it has completed
next_waits : InFlightIsNotDone → (job : JobParts) (h : List Event) (j k : ℕ) → rules.IsLegal job.depth job.window h
    → any_goes_to job (block_of job k) (in_flight h) ≡ false → j < issued h → block_of job j ≡ block_of job k → is_done h j ≡ true
next_waits flying job h j k legal alone below same = elim (cases_Bool (is_done h j)) [
  | inl t ↦ t
  | inr f ↦
      let flies : has (in_flight h) j ≡ true =
      flying job.depth job.window h legal j ∙ and_from (ltb j (issued h)) (not (is_done h j)) (lt-ltb j (issued h) below) (ap not f) in
      absurd (false≢true (sym alone ∙ any_where (λ i. eqb (block_of job i) (block_of job k)) (in_flight h) j flies
      (eq-eqb (block_of job j) (block_of job k) same)))
]

pub later_waits : InFlightIsNotDone → LaterWaits
later_waits flying job [] j k legal lt below same = absurd (omega arith)
later_waits flying job (issue m ∷ h) j k legal lt below same =
    let before : IsLegal job h = record { by_window = legal.by_window.0; by_job = legal.by_job.0 } in
    let more = length_push (issues h) m in
    elim (cases_lt k (issued h)) [
      | inl old ↦ later_waits flying job h j k before lt old same
      | inr new ↦
          let last : k ≡ m = omega (arith, legal.by_window.1) in
          next_waits flying job h j m legal.by_window.0 legal.by_job.2 (omega (arith, legal.by_window.1)) (same ∙ ap (block_of job) last)
    ]
later_waits flying job (done m ∷ h) j k legal lt below same =
    let before : IsLegal job h = record { by_window = legal.by_window.0; by_job = legal.by_job } in
    has_push (completions h) m j ∙ or_left (is_done h j) (eqb m j) (later_waits flying job h j k before lt below same)
later_waits flying job (fail m ∷ h) j k legal lt below same =
    later_waits flying job h j k (record { by_window = legal.by_window.0; by_job = legal.by_job }) lt below same

-- an earlier write in flight keeps a later one from being issued
not_both : InFlightIsNotDone → (job : JobParts) (h : List Event) (j k : ℕ) → IsLegal job h → has (in_flight h) j ≡ true → has (in_flight h) k ≡ true
    → block_of job j ≡ block_of job k → j < k → ⊥
not_both flying job h j k legal a b same lt =
    let first = and_parts (ltb j (issued h)) (not (is_done h j)) (sym (flying job.depth job.window h legal.by_window j) ∙ a) in
    let second = and_parts (ltb k (issued h)) (not (is_done h k)) (sym (flying job.depth job.window h legal.by_window k) ∙ b) in
    false≢true (sym (not-true (is_done h j) first.1) ∙ later_waits flying job h j k legal lt (ltb-true k (issued h) second.0) same)

pub fly_apart : InFlightIsNotDone → FlyApart
fly_apart flying job h j k legal a b same = elim (cases_lt j k) [
  | inl lt ↦ absurd (not_both flying job h j k legal a b same lt)
  | inr ge ↦ elim (cases_lt k j) [
    | inl lt ↦ absurd (not_both flying job h k j legal b a (sym same) lt)
    | inr le ↦ omega arith
  ]
]

-- ---- what stays

stopped_by : (stopped finished full held overlaps : Bool) (next : Ticket) → first_of_tests stopped finished full held overlaps next ≡ Stopped → stopped ≡ true
stopped_by true finished full held overlaps next e = refl
stopped_by false true full held overlaps next e = cc
stopped_by false false true held overlaps next e = cc
stopped_by false false false true overlaps next e = cc
stopped_by false false false false true next e = cc
stopped_by false false false false false next e = cc

finished_by : (stopped finished full held overlaps : Bool) (next : Ticket) → first_of_tests stopped finished full held overlaps next ≡ Finished
    → (stopped ≡ false) × (finished ≡ true)
finished_by true finished full held overlaps next e = cc
finished_by false true full held overlaps next e = (refl, refl)
finished_by false false true held overlaps next e = cc
finished_by false false false true overlaps next e = cc
finished_by false false false false true next e = cc
finished_by false false false false false next e = cc

stays_failed : (stopped : Bool) (event : Event) (h : List Event) → (stopped || has_failed h) ≡ true → (stopped || has_failed (event ∷ h)) ≡ true
stays_failed stopped (issue k) h e = e
stays_failed stopped (done k) h e = e
stays_failed stopped (fail k) h e = or_right stopped (has_failed (fail k ∷ h)) (sym (failed_now k h))

pub stays_stopped : StaysStopped
stays_stopped origin stopped event h e =
    rw (stays_failed stopped event h (stopped_by (stopped || has_failed h) _ _ _ _ _ e)) refl

-- no write can be issued where all were
all_issued : (job : JobParts) (event : Event) (h : List Event) → IsLegal job (event ∷ h) → leb job.total (issued h) ≡ true
    → leb job.total (issued (event ∷ h)) ≡ true
all_issued job (issue k) h legal e = absurd (omega (arith, leb-true job.total (issued h) e, legal.by_window.1, legal.by_job.1))
all_issued job (done k) h legal e = e
all_issued job (fail k) h legal e = e

pub stays_finished : StaysFinished
stays_finished origin stopped event h legal e unfailed =
    let was = finished_by (stopped || has_failed h) (leb origin.job.total (issued h)) _ _ _ _ e in
    let runs = or_parts stopped (has_failed h) was.0 in
    rw (runs.0, unfailed, all_issued origin.job event h legal was.1) refl
