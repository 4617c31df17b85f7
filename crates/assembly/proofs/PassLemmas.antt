-- Following a node, event by event.
use Rattle.std.proofs.Common.{◌≡◌, ◌≢◌, refl, sym, ◌∙◌, ap, subst, inl, inr, ℕ, ◌+◌, ◌==◌, ◌≤◌, ◌<◌, arith}
use Rattle.std.proofs.Common.{Bool, true, false, not, ◌&&◌, List, [], ◌∷◌, ◌++◌, length, Option, Some, None}
use Rattle.std.specs.Prelude.{reverse, if◌then◌else◌, slice_get}
use Rattle.std.specs.Option.{ForSome}
use Rattle.std.proofs.lemmas.Bool.Decides.{nat_tests}
use Rattle.std.proofs.lemmas.List.{append_assoc, append-nil, reverse-append, length-reverse}
use Rattle.messages.specs.declared.node.Node.{Node}
use Rattle.cells.specs.declared.input.NodeInput.{NodeInput}
use Rattle.cells.specs.declared.input.NodeInput.TheVariants as came
use Rattle.cells.specs.declared.entry.HistoryEntry.{HistoryEntry}
use Rattle.cells.specs.AtHub.{is_frame, is_left_out, is_quiet}
use Rattle.assembly.specs.declared.place.Place.{Place}
use Rattle.assembly.specs.Marks.{Mark, frame_of, mark_of, marks_if}
use Rattle.assembly.specs.Orders.{places_between}
use Rattle.assembly.specs.Rising.{HistoriesRise, marks_before}
use Rattle.assembly.specs.declared.fault.AssembleFault.{AssembleFault}
use Rattle.assembly.specs.declared.fault.AssembleFault.TheVariants.{Unlike, NoMemory}
use Rattle.assembly.specs.Order.{Followed, next_of, with_next, whole_mark, IsPassed, IsMarkedAt, IsStopped, IsTold, IsOther, IsUntold}
use Rattle.assembly.proofs.MarkLemmas.{OneMark, at_place, one_mark, comes_next, stands, other_before, other_behind, other_than, other_than_none}

-- The place of an event, and its place alone where it stands.
abbrev pub place_at : Node → ℕ → Place
place_at node at = record { node = node; at = at }

-- The places with one event more, if it stands.
abbrev pub with_event : Bool → List Place → Place → List Place
with_event true places place = places
with_event false places place = places ++ place ∷ []

behind_all : (old between_them : List Place) (place : Place) → (old ++ reverse between_them) ++ place ∷ [] ≡ old ++ reverse (place ∷ between_them)
behind_all old between_them place =
    append_assoc old (reverse between_them) (place ∷ []) ∙ ap (λ (ps : List Place). old ++ ps) (sym (reverse-append (place ∷ []) between_them))

more_places : (node : Node) (from at : ℕ) (b : Bool) (old mid between_them more : List Place) → mid ≡ old ++ reverse between_them
    → more ≡ (if b then between_them else place_at node at ∷ between_them)
    → with_event b mid (place_at node at) ≡ old ++ reverse more
more_places node from at true old mid between_them more e m = rw m e
more_places node from at false old mid between_them more e m =
    rw m (ap (λ (ps : List Place). ps ++ place_at node at ∷ []) e ∙ behind_all old between_them (place_at node at))

-- What a test says of an event's mark.
pub marked_so : (l : HistoryEntry) (r : Bool) → ((at : ℕ) → mark_of at l ≡ (if r then whole_mark at l ∷ [] else [])) → r ≡ true → (at : ℕ)
    → mark_of at l ≡ whole_mark at l ∷ []
marked_so l true h e at = h at
marked_so l false h e at = absurd (cc)

pub unmarked_so : (l : HistoryEntry) (r : Bool) → ((at : ℕ) → mark_of at l ≡ (if r then whole_mark at l ∷ [] else [])) → r ≡ false → (at : ℕ) → mark_of at l ≡ []
unmarked_so l true h e at = absurd (cc)
unmarked_so l false h e at = h at

event_added : (b : Bool) (mid : List Place) (place : Place) → (if b then mid else mid ++ place ∷ []) ≡ with_event b mid place
event_added true mid place = refl
event_added false mid place = refl

-- ---- an event that is quiet: it stands, and neither took nor sent a frame

no_frame : (c : NodeInput) → is_frame c ≡ false → frame_of c ≡ None
no_frame (came.Frame bytes) h = absurd (cc)
no_frame (came.Issue j) h = refl
no_frame (came.WriteDone ticket end) h = refl
no_frame (came.CheckDone boot a j report) h = refl
no_frame (came.Request request) h = refl
no_frame came.Tick h = refl
no_frame came.Cut h = refl
no_frame came.Restart h = refl

-- What a test for it says, where it is left out or not, has a frame or none, and sent these.
abbrev quiet_if : Bool → Bool → List (List ℕ) → Bool
quiet_if out frame sent = not out && not frame && (length sent == 0)

sent_none : (at : ℕ) (sent : List (List ℕ)) → (length sent == 0) ≡ true → marks_if at None sent ≡ []
sent_none at [] h = refl
sent_none at (f ∷ fs) h = absurd (grind (arith, nat_tests))

unmarked_if : (at : ℕ) (out frame : Bool) (taken : Option (List ℕ)) (sent : List (List ℕ)) → (frame ≡ false → taken ≡ None) → quiet_if out frame sent ≡ true
    → (out ≡ false) × ((if out then [] else marks_if at taken sent) ≡ [])
unmarked_if at true frame taken sent none h = absurd (cc)
unmarked_if at false true taken sent none h = absurd (cc)
unmarked_if at false false taken sent none h = (refl, rw (none refl) (sent_none at sent h))

pub quiet_stands : (at : ℕ) (l : HistoryEntry) → is_quiet l ≡ true → (is_left_out l.answer ≡ false) × (mark_of at l ≡ [])
quiet_stands at l h = unmarked_if at (is_left_out l.answer) (is_frame l.came) (frame_of l.came) l.sent (no_frame l.came) h

some_frame : (c : NodeInput) → is_frame c ≡ true → frame_of c ≢ None
some_frame (came.Frame bytes) h = λ e. cc
some_frame (came.Issue j) h = absurd (cc)
some_frame (came.WriteDone ticket end) h = absurd (cc)
some_frame (came.CheckDone boot a j report) h = absurd (cc)
some_frame (came.Request request) h = absurd (cc)
some_frame came.Tick h = absurd (cc)
some_frame came.Cut h = absurd (cc)
some_frame came.Restart h = absurd (cc)

taken_or_sent : (at : ℕ) (frame : Bool) (taken : Option (List ℕ)) (sent : List (List ℕ)) → (frame ≡ true → taken ≢ None) → quiet_if false frame sent ≡ false
    → marks_if at taken sent ≢ []
taken_or_sent at frame (Some bytes) sent some h = λ e. cc
taken_or_sent at true None sent some h = absurd (some refl refl)
taken_or_sent at false None [] some h = absurd (cc)
taken_or_sent at false None (f ∷ fs) some h = λ e. cc

left_out_if : (at : ℕ) (out frame : Bool) (taken : Option (List ℕ)) (sent : List (List ℕ)) → (frame ≡ true → taken ≢ None) → quiet_if out frame sent ≡ false
    → (if out then [] else marks_if at taken sent) ≡ [] → out ≡ true
left_out_if at true frame taken sent some h none = refl
left_out_if at false frame taken sent some h none = absurd (taken_or_sent at frame taken sent some h none)

-- What isn't quiet, and isn't marked, is left out.
pub is_out : (at : ℕ) (l : HistoryEntry) → is_quiet l ≡ false → mark_of at l ≡ [] → is_left_out l.answer ≡ true
is_out at l h none = left_out_if at (is_left_out l.answer) (is_frame l.came) (frame_of l.came) l.sent (some_frame l.came) h none

-- Nothing was passed yet.
pub passed_none : HistoriesRise → (node : Node) (h : List HistoryEntry) (from : ℕ) (old : List Place) → IsPassed node h from from old old
passed_none rise node h from old = record {
  places = sym (ap (λ (ps : List Place). old ++ reverse ps) ((rise node h).0.none from) ∙ append-nil old);
  unmarked = refl;
}

-- The places up to the event at a place and with it, if it stands.
pub places_with : HistoriesRise → (node : Node) (h : List HistoryEntry) (from at : ℕ) (l : HistoryEntry) (old mid : List Place) → from ≤ at
    → slice_get (reverse h) at ≡ Some l
    → mid ≡ old ++ reverse (places_between node from at h)
    → with_event (is_left_out l.answer) mid (place_at node at) ≡ old ++ reverse (places_between node from (at + 1) h)
places_with rise node h from at l old mid low is e =
    more_places node from at (is_left_out l.answer) old mid (places_between node from at h) (places_between node from (at + 1) h) e
    ((rise node h).0.more from at l low is)

-- The event at a place of the history, as it is read.
pub read_there : (history h : List HistoryEntry) (at : ℕ) (l : HistoryEntry) → history ≡ reverse h → slice_get history at ≡ Some l → slice_get (reverse h) at ≡ Some l
read_there history h at l e is = ap (λ (ls : List HistoryEntry). slice_get ls at) (sym e) ∙ is

pub long_as : (history h : List HistoryEntry) → history ≡ reverse h → length history ≡ length h
long_as history h e = ap (λ (ls : List HistoryEntry). length ls) e ∙ length-reverse h

-- One event more was passed, which isn't marked.
pub passed_more : HistoriesRise → (node : Node) (h : List HistoryEntry) (from at : ℕ) (l : HistoryEntry) (old mid new : List Place) → from ≤ at
    → slice_get (reverse h) at ≡ Some l
    → mark_of at l ≡ [] → IsPassed node h from at old mid → new ≡ (if is_left_out l.answer then mid else mid ++ place_at node at ∷ [])
    → IsPassed node h from (at + 1) old new
passed_more rise node h from at l old mid new low is none passed e = record {
  places = e ∙ (event_added (is_left_out l.answer) mid (place_at node at) ∙ places_with rise node h from at l old mid low is passed.places);
  unmarked = (rise node h).1.more at l is ∙ (ap (λ (ms : List Mark). ms ++ marks_before at h) none ∙ passed.unmarked);
}

added_by : (out : Bool) (mid : List Place) (place : Place) → out ≡ false → mid ++ place ∷ [] ≡ (if out then mid else mid ++ place ∷ [])
added_by out mid place h = rw h refl

kept_by : (out : Bool) (mid : List Place) (place : Place) → out ≡ true → mid ≡ (if out then mid else mid ++ place ∷ [])
kept_by out mid place h = rw h refl

-- So was one more that is quiet, which is added.
pub passed_quiet : HistoriesRise → (node : Node) (history h : List HistoryEntry) (from at : ℕ) (quiet : Bool) (old mid new : List Place) → history ≡ reverse h
    → from ≤ at → at < length h
    → ForSome (slice_get history at) (λ l. quiet ≡ is_quiet l) → quiet ≡ true → IsPassed node h from at old mid → new ≡ mid ++ place_at node at ∷ []
    → IsPassed node h from (at + 1) old new
passed_quiet rise node history h from at quiet old mid new e low within test is passed added =
    let event = at_place h at within in
    let l = event.0 in
    let q = quiet_stands at l (sym (test l (ap (λ (ls : List HistoryEntry). slice_get ls at) e ∙ event.1)) ∙ is) in
    passed_more rise node h from at l old mid new low event.1 q.1 passed (added ∙ added_by (is_left_out l.answer) mid (place_at node at) q.0)

-- So was one more that isn't, and isn't marked: it is left out.
pub passed_by : HistoriesRise → (node : Node) (history h : List HistoryEntry) (from at : ℕ) (l : HistoryEntry) (quiet : Bool) (old mid : List Place) → history ≡ reverse h
    → from ≤ at → slice_get history at ≡ Some l
    → ForSome (slice_get history at) (λ l. quiet ≡ is_quiet l) → quiet ≡ false → mark_of at l ≡ [] → IsPassed node h from at old mid
    → IsPassed node h from (at + 1) old mid
passed_by rise node history h from at l quiet old mid e low is test loud none passed =
    passed_more rise node h from at l old mid mid low (read_there history h at l e is) none passed
    (kept_by (is_left_out l.answer) mid (place_at node at) (is_out at l (sym (test l is) ∙ loud) none))

-- The next event is marked.
pub stopped_at : HistoriesRise → (node : Node) (h : List HistoryEntry) (from to at : ℕ) (l : HistoryEntry) (old mid : List Place) → at < to → at < length h
    → slice_get (reverse h) at ≡ Some l
    → mark_of at l ≡ whole_mark at l ∷ [] → IsPassed node h from at old mid → IsMarkedAt h from to at
stopped_at rise node h from to at l old mid below low is one passed = record {
  mark = whole_mark at l;
  goes_on = comes_next h (rise node h).1 from at l low is passed.unmarked one;
  at_is = refl;
  below = below;
}

-- ---- up to the event of an entry

-- Why an entry wasn't told, since an event before it is marked.
pub untold_before : (node : Node) (h : List HistoryEntry) (from to : ℕ) (entry : Mark) (fault : AssembleFault) → to ≤ entry.at → IsStopped node h from to fault
    → IsUntold node h from entry fault
untold_before node h from to entry (Unlike n at) low stopped = (stopped.0, other_before h from to at entry stopped.1 low)
untold_before node h from to entry NoMemory low stopped = tt

-- The entry's event is told.
pub told_at : HistoriesRise → (node : Node) (h : List HistoryEntry) (at : ℕ) (l : HistoryEntry) (entry : Mark) (old : Followed) (mid : List Place) (new : Followed)
    → at < length h → slice_get (reverse h) at ≡ Some l → next_of old.next node ≤ at → entry.at ≡ at → mark_of at l ≡ whole_mark at l ∷ []
    → whole_mark at l ≡ entry
    → IsPassed node h (next_of old.next node) at old.places mid → new.places ≡ mid ++ place_at node at ∷ [] → new.next ≡ with_next old.next node (at + 1)
    → IsTold node h entry old new
told_at rise node h at l entry old mid new low is from entry_is one same passed places next =
    let out : is_left_out l.answer ≡ false = stands at l one in
    let all = places_with rise node h (next_of old.next node) at l old.places mid from is passed.places in
    record {
      within = omega (arith, low, entry_is);
      rises = omega (arith, from, entry_is);
      places = rw entry_is (places ∙ (ap (λ (b : Bool). with_event b mid (place_at node at)) (sym out) ∙ all));
      next = rw entry_is next;
      marks = subst (λ (n : ℕ). marks_before (n + 1) h ≡ entry ∷ marks_before (next_of old.next node) h) (sym entry_is)
          ((rise node h).1.more at l is ∙ (ap (λ (ms : List Mark). ms ++ marks_before at h) one
          ∙ (ap (λ (m : Mark). m ∷ marks_before at h) same ∙ ap (λ (ms : List Mark). entry ∷ ms) passed.unmarked)));
    }

-- It is marked otherwise.
other_mark : HistoriesRise → (node : Node) (h : List HistoryEntry) (from at : ℕ) (l : HistoryEntry) (entry : Mark) (old mid : List Place) → at < length h
    → slice_get (reverse h) at ≡ Some l → entry.at ≡ at
    → mark_of at l ≡ whole_mark at l ∷ [] → whole_mark at l ≢ entry → IsPassed node h from at old mid → IsOther h from entry at
other_mark rise node h from at l entry old mid low is e one differ passed =
    other_than h from at entry (Some (whole_mark at l)) (comes_next h (rise node h).1 from at l low is passed.unmarked one) e
    (λ m is_m. let same : whole_mark at l ≡ m = cc in omega (arith, ap (λ (k : Mark). k.at) same))
    (λ same. differ (cc))

-- It isn't marked.
no_mark : HistoriesRise → (node : Node) (h : List HistoryEntry) (from at : ℕ) (l : HistoryEntry) (entry : Mark) (old mid : List Place) → at < length h
    → slice_get (reverse h) at ≡ Some l → entry.at ≡ at
    → mark_of at l ≡ [] → IsPassed node h from at old mid → IsOther h from entry at
no_mark rise node h from at l entry old mid low is e none passed =
    other_behind h (rise node h).1 from at (at + 1) entry (omega (arith, low))
    ((rise node h).1.more at l is ∙ (ap (λ (ms : List Mark). ms ++ marks_before at h) none ∙ passed.unmarked)) e (omega arith)

-- There is no such event.
pub no_event : HistoriesRise → (node : Node) (h : List HistoryEntry) (from at : ℕ) (entry : Mark) (old mid : List Place) → entry.at ≡ at
    → IsPassed node h from (length h) old mid → IsOther h from entry at
no_event rise node h from at entry old mid e passed = other_than_none h (rise node h).1 from at entry passed.unmarked e

-- The node was followed beyond it.
pub gone_by : HistoriesRise → (node : Node) (h : List HistoryEntry) (from at : ℕ) (entry : Mark) → from ≤ length h → entry.at ≡ at → at < from
    → IsOther h from entry at
gone_by rise node h from at entry within e low = other_behind h (rise node h).1 from at from entry within refl e (omega (arith, low))

-- Its mark isn't that of the entry.
pub other_event : HistoriesRise → (node : Node) (h : List HistoryEntry) (from at : ℕ) (l : HistoryEntry) (entry : Mark) (old mid : List Place) → at < length h
    → slice_get (reverse h) at ≡ Some l → entry.at ≡ at
    → (mark_of at l ≡ entry ∷ [] → ⊥) → IsPassed node h from at old mid → IsOther h from entry at
other_event rise node h from at l entry old mid low is e differ passed = by (one_mark at l)
  where
    by : OneMark at l → IsOther h from entry at
    by (inl none) = no_mark rise node h from at l entry old mid low is e none passed
    by (inr one) = other_mark rise node h from at l entry old mid low is e one (λ same. differ (one ∙ ap (λ (m : Mark). m ∷ []) same)) passed

never_one : (marks : List Mark) (entry : Mark) → marks ≡ [] → marks ≡ entry ∷ [] → ⊥
never_one marks entry none one = cc

-- It is that of the entry.
pub told_so : HistoriesRise → (node : Node) (h : List HistoryEntry) (at : ℕ) (l : HistoryEntry) (entry : Mark) (old : Followed) (mid : List Place) (new : Followed)
    → at < length h → slice_get (reverse h) at ≡ Some l → next_of old.next node ≤ at → entry.at ≡ at → mark_of at l ≡ entry ∷ []
    → IsPassed node h (next_of old.next node) at old.places mid → new.places ≡ mid ++ place_at node at ∷ [] → new.next ≡ with_next old.next node (at + 1)
    → IsTold node h entry old new
told_so rise node h at l entry old mid new low is from entry_is told passed places next = by (one_mark at l)
  where
    by : OneMark at l → IsTold node h entry old new
    by (inl none) = absurd (never_one (mark_of at l) entry none told)
    by (inr one) =
        let both : (whole_mark at l ∷ []) ≡ (entry ∷ []) = sym one ∙ told in
        told_at rise node h at l entry old mid new low is from entry_is one (cc) passed places next
