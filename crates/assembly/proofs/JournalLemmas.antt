-- The journal, from its oldest entry on.
use Rattle.std.proofs.Common.{◌≡◌, refl, sym, ◌∙◌, ap, subst, ℕ, ◌+◌, ◌≤◌, ◌<◌, arith, Bool, true, false, List, [], ◌∷◌, ◌++◌, length, take, drop, get_or, Some}
use Rattle.std.specs.Prelude.{reverse, slice_get}
use Rattle.std.proofs.lemmas.List.{length-reverse, reverse-append, reverse-reverse, take-append-drop, take_more}
use Rattle.std.proofs.lemmas.Option.{slice_get_within, get_or_from_slice_get, slice_get_read}
use Rattle.messages.specs.declared.node.Node.{Node}
use Rattle.messages.specs.Nodes.{is_node}
use Rattle.messages.specs.declared.line.Line.{Line}
use Rattle.messages.specs.Network.{Network}
use Rattle.messages.specs.Waiting.{is_same_node}
use Rattle.messages.specs.Journal.{count_sent}
use Rattle.cells.specs.declared.entry.HistoryEntry.{HistoryEntry}
use Rattle.assembly.specs.Marks.{Mark, mark_of_line, marks_in, marks_of}
use Rattle.assembly.specs.Orders.{places_between, next_place, up_to_last}
use Rattle.assembly.specs.Rising.{HistoriesRise, marks_before}
use Rattle.assembly.specs.declared.fault.AssembleFault.{AssembleFault}
use Rattle.assembly.specs.declared.fault.AssembleFault.TheVariants.{Unlike, NoMemory}
use Rattle.assembly.specs.Ran.{Ran, history_of}
use Rattle.assembly.specs.Unlike.{GoesOn, DifferAt}
use Rattle.assembly.specs.Order.{Followed, next_of, with_next, nothing_followed, IsTold, IsFollowed, IsUntold, Differs}
use Rattle.messages.proofs.NodeLemmas.{same_node, is_same_as_itself}
use Rattle.assembly.proofs.NextLemmas.{has_place, long_with, next_same, next_other, next_none}

-- ---- entries, and those before and behind them

-- The first i entries of a journal that is told from its oldest one on.
abbrev pub told_of : List Line → ℕ → List Line
told_of lines i = reverse (take i lines)

pub told_more : (lines : List Line) (i : ℕ) (l : Line) → slice_get lines i ≡ Some l → told_of lines (i + 1) ≡ l ∷ told_of lines i
told_more lines i l is =
    ap (λ (ls : List Line). reverse ls) (take_more lines i l (slice_get_within lines i l is)
    ∙ ap (λ (x : Line). take i lines ++ x ∷ []) (get_or_from_slice_get lines i l l is))
    ∙ reverse-append (take i lines) (l ∷ [])

-- The entry of the journal that is read at an index.
pub line_there : (lines journal : List Line) (i : ℕ) (l : Line) → lines ≡ reverse journal → i < length lines → l ≡ get_or lines i l
    → slice_get (reverse journal) i ≡ Some l
line_there lines journal i l e low is = subst (λ (ls : List Line). slice_get ls i ≡ Some l) e (slice_get_read lines (length lines) i l refl low is)

-- The whole journal has an entry behind the newer ones, and before the older.
pub whole : (lines : List Line) (i : ℕ) (l : Line) → slice_get lines i ≡ Some l → (newer : List Line) × (reverse lines ≡ newer ++ l ∷ told_of lines i)
whole lines i l is = (
  reverse (drop (i + 1) lines),
  ap (λ (ls : List Line). reverse ls) (sym (take-append-drop (i + 1) lines))
      ∙ (reverse-append (take (i + 1) lines) (drop (i + 1) lines)
      ∙ ap (λ (ls : List Line). reverse (drop (i + 1) lines) ++ ls) (told_more lines i l is)),
)

count_more : (newer older : List Line) → count_sent older ≤ count_sent (newer ++ older)
count_more [] older = omega arith
count_more (l ∷ newer) older = omega (arith, count_more newer older)

-- The frames that an entry sent are there.
pub frames_there : (net : Network) (lines : List Line) (i : ℕ) (l : Line) → lines ≡ reverse net.journal → slice_get lines i ≡ Some l
    → count_sent net.journal ≡ length net.frames
    → count_sent (told_of lines i) + l.sent ≤ length net.frames
frames_there net lines i l e is all =
    let w = whole lines i l is in
    let same : net.journal ≡ w.0 ++ l ∷ told_of lines i = sym (reverse-reverse net.journal) ∙ (ap (λ (ls : List Line). reverse ls) (sym e) ∙ w.1) in
    omega (arith, all, count_more w.0 (l ∷ told_of lines i), ap (λ (ls : List Line). count_sent ls) same)

-- ---- marks of entries

mark_here : (frames : List (List ℕ)) (older : List Line) (l : Line) (node : Node) → is_same_node l.node node ≡ true
    → marks_in frames node (l ∷ older) ≡ mark_of_line frames (count_sent older) l ∷ marks_in frames node older
mark_here frames older l node e = rw e refl

one_more : (node : Node) (frames : List (List ℕ)) (l : Line) (ls : List Line) (xs ys : List Mark) → marks_in frames node ls ≡ xs ++ ys → (b : Bool)
    → is_same_node l.node node ≡ b
    → (newer : List Mark) × (marks_in frames node (l ∷ ls) ≡ newer ++ ys)
one_more node frames l ls xs ys e true same =
    (mark_of_line frames (count_sent ls) l ∷ xs, rw same (ap (λ (ms : List Mark). mark_of_line frames (count_sent ls) l ∷ ms) e))
one_more node frames l ls xs ys e false same = (xs, rw same e)

-- The marks of older entries stand behind those of the newer.
behind_newer : (node : Node) (frames : List (List ℕ)) (newer older : List Line)
    → (marks : List Mark) × (marks_in frames node (newer ++ older) ≡ marks ++ marks_in frames node older)
behind_newer node frames [] older = ([], refl)
behind_newer node frames (l ∷ newer) older =
    let rest = behind_newer node frames newer older in
    one_more node frames l (newer ++ older) rest.0 (marks_in frames node older) rest.1 (is_same_node l.node node) refl

-- Behind the marks of the older entries, the journal goes on with that of an entry.
pub goes_on_noted : (net : Network) (lines : List Line) (i : ℕ) (l : Line) → lines ≡ reverse net.journal → slice_get lines i ≡ Some l
    → GoesOn (marks_in net.frames l.node (told_of lines i)) (marks_in net.frames l.node net.journal)
    (Some (mark_of_line net.frames (count_sent (told_of lines i)) l))
goes_on_noted net lines i l e is =
    let w = whole lines i l is in
    let same : net.journal ≡ w.0 ++ l ∷ told_of lines i = sym (reverse-reverse net.journal) ∙ (ap (λ (ls : List Line). reverse ls) (sym e) ∙ w.1) in
    let rest = behind_newer l.node net.frames w.0 (l ∷ told_of lines i) in (
      rest.0,
      ap (λ (ls : List Line). marks_in net.frames l.node ls) same
          ∙ (rest.1 ∙ ap (λ (ms : List Mark). rest.0 ++ ms) (mark_here net.frames (told_of lines i) l l.node (is_same_as_itself l.node))),
    )

-- ---- following

-- Nothing is followed, and there is no entry.
pub followed_none : HistoriesRise → (r : Ran) (net : Network) → IsFollowed r net [] nothing_followed
followed_none rise r net = record {
  long = refl;
  places = refl;
  next = λ node. next_none node;
  within = λ node. omega arith;
  marked = λ node. (rise node (history_of r node)).1.none;
}

-- One entry more.
pub followed_more : (r : Ran) (net : Network) (older : List Line) (l : Line) (before : ℕ) (old new : Followed) → length r.servers ≤ 8
    → before ≡ count_sent older → IsFollowed r net older old
    → IsTold l.node (history_of r l.node) (mark_of_line net.frames before l) old new → IsFollowed r net (l ∷ older) new
followed_more r net older l before old new few sent followed told =
    let valid = has_place r l.node l.at few told.within in
    record {
      long = ap (λ (ns : List ℕ). length ns) told.next ∙ (long_with old.next l.node (l.at + 1) ∙ followed.long);
      places = told.places ∙ order_more;
      next = λ node. next_by valid node (is_same_node l.node node) refl;
      within = λ node. within_by node (is_same_node l.node node) refl;
      marked = λ node. marked_by node (is_same_node l.node node) refl;
    }
  where
    ran : Node → List HistoryEntry
    ran = history_of r

    from_is : next_of old.next l.node ≡ next_place l.node older
    from_is = followed.next l.node

    order_more : old.places ++ reverse (places_between l.node (next_of old.next l.node) (l.at + 1) (ran l.node)) ≡ reverse (up_to_last ran (l ∷ older))
    order_more =
        rw (from_is, followed.places) (sym (reverse-append (places_between l.node (next_place l.node older) (l.at + 1) (ran l.node)) (up_to_last ran older)))

    next_by : is_node l.node ≡ true → (node : Node) (b : Bool) → is_same_node l.node node ≡ b → next_of new.next node ≡ next_place node (l ∷ older)
    next_by valid node true e =
        let same : l.node ≡ node = same_node l.node node e in
        rw (told.next, e) (subst (λ (n : Node). next_of (with_next old.next l.node (l.at + 1)) n ≡ l.at + 1) same
        (next_same old.next l.node (l.at + 1) followed.long valid))
    next_by valid node false e = rw (told.next, e) (next_other old.next l.node node (l.at + 1) e ∙ followed.next node)

    within_by : (node : Node) (b : Bool) → is_same_node l.node node ≡ b → next_place node (l ∷ older) ≤ length (ran node)
    within_by node true e = rw e (subst (λ (n : Node). l.at + 1 ≤ length (ran n)) (same_node l.node node e) (omega (arith, told.within)))
    within_by node false e = rw e (followed.within node)

    here : marks_before (l.at + 1) (ran l.node) ≡ mark_of_line net.frames (count_sent older) l ∷ marks_in net.frames l.node older
    here = rw (← sent) (told.marks ∙ ap (λ (ms : List Mark). mark_of_line net.frames before l ∷ ms)
        (ap (λ (n : ℕ). marks_before n (ran l.node)) from_is ∙ followed.marked l.node))

    marked_by : (node : Node) (b : Bool) → is_same_node l.node node ≡ b
        → marks_before (next_place node (l ∷ older)) (ran node) ≡ marks_in net.frames node (l ∷ older)
    marked_by node true e =
        rw e (subst (λ (n : Node). marks_before (l.at + 1) (ran n) ≡ mark_of_line net.frames (count_sent older) l ∷ marks_in net.frames n older)
        (same_node l.node node e) here)
    marked_by node false e = rw e (followed.marked node)

-- The next entry of the journal.
pub followed_line : (r : Ran) (net : Network) (i : ℕ) (l : Line) (before : ℕ) (old new : Followed) → length r.servers ≤ 8
    → slice_get (reverse net.journal) i ≡ Some l
    → IsFollowed r net (told_of (reverse net.journal) i) old → before ≡ count_sent (told_of (reverse net.journal) i)
    → IsTold l.node (history_of r l.node) (mark_of_line net.frames before l) old new
    → IsFollowed r net (told_of (reverse net.journal) (i + 1)) new × (before + l.sent ≡ count_sent (told_of (reverse net.journal) (i + 1)))
followed_line r net i l before old new few is followed sent told =
    let more = sym (told_more (reverse net.journal) i l is) in (
      subst (λ (ls : List Line). IsFollowed r net ls new) more (followed_more r net (told_of (reverse net.journal) i) l before old new few sent followed told),
      ap (λ (n : ℕ). n + l.sent) sent ∙ ap (λ (ls : List Line). count_sent ls) more,
    )

-- The place from which its node is to be followed is there.
pub next_within : (r : Ran) (net : Network) (journal : List Line) (old : Followed) (node : Node) (list : List HistoryEntry) → IsFollowed r net journal old
    → list ≡ reverse (history_of r node)
    → next_of old.next node ≤ length list
next_within r net journal old node list followed e =
    omega (arith, followed.next node, followed.within node, ap (λ (ls : List HistoryEntry). length ls) e, length-reverse (history_of r node))

-- An entry that isn't told differs from the history of its node.
pub differs_there : (r : Ran) (net : Network) (lines : List Line) (i : ℕ) (l : Line) (before : ℕ) (old : Followed) (fault : AssembleFault)
    → lines ≡ reverse net.journal → slice_get lines i ≡ Some l
    → before ≡ count_sent (told_of lines i) → IsFollowed r net (told_of lines i) old
    → IsUntold l.node (history_of r l.node) (next_of old.next l.node) (mark_of_line net.frames before l) fault → Differs r net fault
differs_there r net lines i l before old NoMemory e is sent followed untold = tt
differs_there r net lines i l before old (Unlike n at) e is sent followed untold =
    subst (λ (node : Node). DifferAt (marks_of (history_of r node)) (marks_in net.frames node net.journal) at) (sym untold.0) (record {
      older = marks_before (next_of old.next l.node) (history_of r l.node);
      event = untold.1.event;
      entry = Some (mark_of_line net.frames before l);
      goes_on = untold.1.goes_on;
      is_noted = subst (λ (older : List Mark). GoesOn older (marks_in net.frames l.node net.journal) (Some (mark_of_line net.frames before l))) (sym all)
          (rw sent (goes_on_noted net lines i l e is));
      differ = untold.1.differ;
      at_is = untold.1.at_is;
    })
  where
    all : marks_before (next_of old.next l.node) (history_of r l.node) ≡ marks_in net.frames l.node (told_of lines i)
    all = ap (λ (n : ℕ). marks_before n (history_of r l.node)) (followed.next l.node) ∙ followed.marked l.node
