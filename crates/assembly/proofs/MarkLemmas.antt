-- The marks of a history, from a place on.
use Rattle.std.proofs.Common.{◌≡◌, ◌≢◌, refl, sym, ◌∙◌, ap, subst, ◌⊎◌, inl, inr, ℕ, zero, suc, ◌+◌, ◌-◌, ◌≤◌, ◌<◌}
use Rattle.std.proofs.Common.{arith, Bool, true, false, List, [], ◌∷◌, ◌++◌, length, drop, get_or, Option, Some, None}
use Rattle.std.specs.Prelude.{reverse, if◌then◌else◌, slice_get}
use Rattle.std.specs.Option.{ForSome}
use Rattle.std.proofs.lemmas.List.{append_assoc, length-append, length-reverse}
use Rattle.std.proofs.lemmas.Option.{slice_get_cases}
use Rattle.cells.specs.declared.entry.HistoryEntry.{HistoryEntry}
use Rattle.cells.specs.AtHub.{is_left_out}
use Rattle.assembly.specs.Marks.{Mark, frame_of, mark_of, marks_if, marks_of}
use Rattle.assembly.specs.Rising.{MarksRise, marks_before}
use Rattle.assembly.specs.Unlike.{GoesOn, first_place, DifferAt}
use Rattle.assembly.specs.Order.{whole_mark, IsMarkedAt, IsOther}

-- ---- one event

-- It took and sent nothing.
pub record HasNone (taken : Option (List ℕ)) (sent : List (List ℕ)) (marks : List Mark) : Type 0 where
  pub no_frame : taken ≡ None
  pub no_sent : sent ≡ []
  pub no_mark : marks ≡ []

pub none_or_one : (at : ℕ) (taken : Option (List ℕ)) (sent : List (List ℕ))
    → HasNone taken sent (marks_if at taken sent) ⊎ (marks_if at taken sent ≡ (record { at = at; taken = taken; sent = sent }) ∷ [])
none_or_one at None [] = inl (record { no_frame = refl; no_sent = refl; no_mark = refl })
none_or_one at None (f ∷ fs) = inr refl
none_or_one at (Some bytes) sent = inr refl

-- An event has its whole mark, or none.
abbrev pub OneMark : ℕ → HistoryEntry → Type 0
OneMark at l = (mark_of at l ≡ []) ⊎ (mark_of at l ≡ whole_mark at l ∷ [])

one_if : (at : ℕ) (taken : Option (List ℕ)) (sent : List (List ℕ))
    → (marks_if at taken sent ≡ []) ⊎ (marks_if at taken sent ≡ (record { at = at; taken = taken; sent = sent }) ∷ [])
one_if at taken sent = by_mark (none_or_one at taken sent)
  where
    by_mark : HasNone taken sent (marks_if at taken sent) ⊎ (marks_if at taken sent ≡ (record { at = at; taken = taken; sent = sent }) ∷ [])
        → (marks_if at taken sent ≡ []) ⊎ (marks_if at taken sent ≡ (record { at = at; taken = taken; sent = sent }) ∷ [])
    by_mark (inl none) = inl none.no_mark
    by_mark (inr one) = inr one

one_by : (at : ℕ) (l : HistoryEntry) (b : Bool) →
    ((if b then [] else marks_if at (frame_of l.came) l.sent) ≡ []) ⊎ ((if b then [] else marks_if at (frame_of l.came) l.sent) ≡ whole_mark at l ∷ [])
one_by at l true = inl refl
one_by at l false = one_if at (frame_of l.came) l.sent

pub one_mark : (at : ℕ) (l : HistoryEntry) → OneMark at l
one_mark at l = one_by at l (is_left_out l.answer)

stands_by : (at : ℕ) (l : HistoryEntry) (b : Bool) → (if b then [] else marks_if at (frame_of l.came) l.sent) ≡ whole_mark at l ∷ [] → b ≡ false
stands_by at l true e = cc
stands_by at l false e = refl

-- What is marked stands in its list.
pub stands : (at : ℕ) (l : HistoryEntry) → mark_of at l ≡ whole_mark at l ∷ [] → is_left_out l.answer ≡ false
stands at l e = stands_by at l (is_left_out l.answer) e

-- ---- how the marks go on

-- The marks go on from those before a place with one that isn't below it, or there are no more.
pub record Further (h : List HistoryEntry) (from : ℕ) : Type 0 where
  event : Option Mark
  goes_on : GoesOn (marks_before from h) (marks_of h) event
  low : ForSome event (λ m. from ≤ m.at)

-- What goes on has the older marks behind it.
pub rest_of : (older marks : List Mark) (event : Option Mark) → GoesOn older marks event → (newer : List Mark) × (marks ≡ newer ++ older)
rest_of older marks None e = ([], e)
rest_of older marks (Some m) e = (e.0 ++ m ∷ [], e.1 ∙ sym (append_assoc e.0 (m ∷ []) older))

-- The event at a place of a history.
pub at_place : (h : List HistoryEntry) (at : ℕ) → at < length h → (l : HistoryEntry) × (slice_get (reverse h) at ≡ Some l)
at_place h at low = by (slice_get_cases (reverse h) at).1
  where
    by : ((l : HistoryEntry) × (at < length (reverse h)) × (slice_get (reverse h) at ≡ Some l) × (get_or (reverse h) at l ≡ l))
        ⊎ ((length (reverse h) ≤ at) × (slice_get (reverse h) at ≡ None)) → (l : HistoryEntry) × (slice_get (reverse h) at ≡ Some l)
    by (inl p) = (p.0, p.2)
    by (inr p) = absurd (omega (arith, p.0, length-reverse h, low))

one_further : (h : List HistoryEntry) (rise : MarksRise h) (from : ℕ) (l : HistoryEntry) → slice_get (reverse h) from ≡ Some l → Further h (from + 1) → OneMark from l
    → Further h from
one_further h rise from l is f (inl none) =
    let same : marks_before (from + 1) h ≡ marks_before from h = rise.more from l is ∙ ap (λ (ms : List Mark). ms ++ marks_before from h) none in
    record {
      event = f.event;
      goes_on = subst (λ (older : List Mark). GoesOn older (marks_of h) f.event) same f.goes_on;
      low = λ m e. omega (arith, f.low m e);
    }
one_further h rise from l is f (inr one) =
    let more : marks_before (from + 1) h ≡ whole_mark from l ∷ marks_before from h =
    rise.more from l is ∙ ap (λ (ms : List Mark). ms ++ marks_before from h) one in
    let rest = rest_of (marks_before (from + 1) h) (marks_of h) f.event f.goes_on in
    record {
      event = Some (whole_mark from l);
      goes_on = (rest.0, rest.1 ∙ ap (λ (ms : List Mark). rest.0 ++ ms) more);
      low = λ m e. let same : whole_mark from l ≡ m = cc in omega (arith, ap (λ (k : Mark). k.at) same);
    }

further_by : (h : List HistoryEntry) → MarksRise h → (k from : ℕ) → from + k ≡ length h → Further h from
further_by h rise zero from e =
    let end : from ≡ length h = omega (arith, e) in
    record {
      event = None;
      goes_on = subst (λ (n : ℕ). marks_of h ≡ marks_before n h) (sym end) (sym rise.all);
      low = λ m none. absurd (cc);
    }
further_by h rise (suc k) from e =
    let event = at_place h from (omega (arith, e)) in
    one_further h rise from event.0 event.1 (further_by h rise k (from + 1) (omega (arith, e))) (one_mark from event.0)

pub further : (h : List HistoryEntry) → MarksRise h → (from : ℕ) → from ≤ length h → Further h from
further h rise from low = further_by h rise (length h - from) from (omega (arith, low))

-- ---- a mark that comes next

-- The event at a place is marked, and none before it from another place on: its mark comes next.
pub comes_next : (h : List HistoryEntry) → MarksRise h → (from at : ℕ) (l : HistoryEntry) → at < length h → slice_get (reverse h) at ≡ Some l
    → marks_before at h ≡ marks_before from h
    → mark_of at l ≡ whole_mark at l ∷ [] → GoesOn (marks_before from h) (marks_of h) (Some (whole_mark at l))
comes_next h rise from at l low is same one =
    let f = further h rise (at + 1) (omega (arith, low)) in
    let rest = rest_of (marks_before (at + 1) h) (marks_of h) f.event f.goes_on in
    let more : marks_before (at + 1) h ≡ whole_mark at l ∷ marks_before from h =
    rise.more at l is ∙ (ap (λ (ms : List Mark). ms ++ marks_before at h) one ∙ ap (λ (ms : List Mark). whole_mark at l ∷ ms) same) in
    (rest.0, rest.1 ∙ ap (λ (ms : List Mark). rest.0 ++ ms) more)

-- ---- what isn't the mark of an entry

first_is : (event : Option Mark) (entry : Mark) (at : ℕ) → entry.at ≡ at → ForSome event (λ m. at ≤ m.at) → at ≡ first_place event (Some entry)
first_is None entry at e low = sym e
first_is (Some m) entry at e low = omega (arith, e, low m refl)

-- The marks go on with one at or behind an entry's place, that isn't the entry's.
pub other_than : (h : List HistoryEntry) (from at : ℕ) (entry : Mark) (event : Option Mark) → GoesOn (marks_before from h) (marks_of h) event → entry.at ≡ at
    → ForSome event (λ m. at ≤ m.at) → event ≢ Some entry → IsOther h from entry at
other_than h from at entry event goes_on e low differ = record { event = event; goes_on = goes_on; differ = differ; at_is = first_is event entry at e low }

behind : (event : Option Mark) (entry : Mark) (at : ℕ) → entry.at ≡ at → ForSome event (λ m. at + 1 ≤ m.at) → event ≢ Some entry
behind event entry at e low same = omega (arith, e, low entry same)

-- They go on behind the entry's place.
pub other_behind : (h : List HistoryEntry) → MarksRise h → (from at to : ℕ) (entry : Mark) → to ≤ length h → marks_before to h ≡ marks_before from h → entry.at ≡ at
    → at + 1 ≤ to → IsOther h from entry at
other_behind h rise from at to entry within same e low =
    let f = further h rise to within in
    other_than h from at entry f.event (subst (λ (older : List Mark). GoesOn older (marks_of h) f.event) same f.goes_on) e
    (λ m is. omega (arith, low, f.low m is))
    (behind f.event entry at e (λ m is. omega (arith, low, f.low m is)))

-- They don't go on.
pub other_than_none : (h : List HistoryEntry) → MarksRise h → (from at : ℕ) (entry : Mark) → marks_before (length h) h ≡ marks_before from h → entry.at ≡ at
    → IsOther h from entry at
other_than_none h rise from at entry same e =
    other_than h from at entry None (sym rise.all ∙ same) e (λ m is. absurd (cc)) (λ is. cc)

-- They go on before the entry's place.
pub other_before : (h : List HistoryEntry) (from to at : ℕ) (entry : Mark) → IsMarkedAt h from to at → to ≤ entry.at → IsOther h from entry at
other_before h from to at entry marked low = record {
  event = Some marked.mark;
  goes_on = marked.goes_on;
  differ = λ e. let same : marked.mark ≡ entry = cc in omega (arith, low, marked.below, marked.at_is, ap (λ (k : Mark). k.at) same);
  at_is = omega (arith, marked.at_is, marked.below, low);
}

-- ---- lists that differ are not the same

drop_front : (xs ys : List Mark) → drop (length xs) (xs ++ ys) ≡ ys
drop_front [] ys = refl
drop_front (x ∷ xs) ys = drop_front xs ys

backs : (xs ys zs ws : List Mark) → xs ++ ys ≡ zs ++ ws → length ys ≡ length ws → ys ≡ ws
backs xs ys zs ws e len =
    let long : length xs ≡ length zs = omega (arith, len, length-append xs ys, length-append zs ws, ap (λ (ms : List Mark). length ms) e) in
    sym (drop_front xs ys) ∙ (ap (λ (ms : List Mark). drop (length xs) ms) e ∙ (ap (λ (n : ℕ). drop n (zs ++ ws)) long ∙ drop_front zs ws))

longer : (newer older : List Mark) (m : Mark) → older ≡ newer ++ m ∷ older → ⊥
longer newer older m e = omega (arith, length-append newer (m ∷ older), ap (λ (ms : List Mark). length ms) e)

one_way : (older marks : List Mark) (a b : Option Mark) → GoesOn older marks a → GoesOn older marks b → a ≡ b
one_way older marks None None ha hb = refl
one_way older marks None (Some m) ha hb = absurd (longer hb.0 older m (sym ha ∙ hb.1))
one_way older marks (Some m) None ha hb = absurd (longer ha.0 older m (sym hb ∙ ha.1))
one_way older marks (Some m) (Some k) ha hb =
    let both : (m ∷ older) ≡ (k ∷ older) = backs ha.0 (m ∷ older) hb.0 (k ∷ older) (sym ha.1 ∙ hb.1) refl in
    cc

pub differing : (marks noted : List Mark) (at : ℕ) → DifferAt marks noted at → marks ≡ noted → ⊥
differing marks noted at d e =
    d.differ (one_way d.older marks d.event d.entry d.goes_on (subst (λ (ms : List Mark). GoesOn d.older ms d.entry) (sym e) d.is_noted))
