-- An order that merges histories which agree with a legal journal names a trace.
use Rattle.std.proofs.Common.{◌≡◌, refl, sym, ◌∙◌, ap, subst, ◌⊎◌, inl, inr, ℕ, ◌≤◌, arith, Bool, true, false, List, [], ◌∷◌, ◌++◌, length, take, Option}
use Rattle.std.specs.Prelude.{map, if◌then◌else◌}
use Rattle.std.proofs.Math.Seq.{take-add}
use Rattle.std.proofs.lemmas.List.{append-nil, take_all}
use Rattle.messages.specs.declared.node.Node.{Node}
use Rattle.messages.specs.declared.node.Node.TheVariants.{Server, Client, Mirror}
use Rattle.messages.specs.declared.line.Line.{Line}
use Rattle.messages.specs.Waiting.{is_same_node}
use Rattle.cells.specs.declared.entry.HistoryEntry.{HistoryEntry}
use Rattle.cells.specs.Replay.{Makes}
use Rattle.net_world.specs.Setup.{without_mirror}
use Rattle.net_world.specs.Frames.{frames_sent}
use Rattle.net_world.specs.InRange.{FitsFrames}
use Rattle.assembly.specs.declared.place.Place.{Place}
use Rattle.messages.specs.Journal.{count_sent, AreSentBefore}
use Rattle.assembly.specs.Marks.{Mark, frame_of, mark_of_line, marks_if, marks_in, marks_of}
use Rattle.assembly.specs.Lists.{EndAt, Lists}
use Rattle.assembly.specs.Orders.{IsWithin, place_of, places_of, standing_places}
use Rattle.assembly.specs.Laws.{MergesNameATrace, MergedOrdersAreMerges, AgreeingNodesAreATrace}
use Rattle.assembly.proofs.MarkLemmas.{HasNone, none_or_one}
use Rattle.assembly.proofs.RefusalLemmas.{CameOf}
use Rattle.assembly.proofs.ReadBackLemmas.{Laws, taken_was_sent}
use Rattle.messages.proofs.NodeLemmas.{same_node, is_same_as_itself}
use Rattle.assembly.proofs.PlaceLemmas.{own_places}
use Rattle.assembly.proofs.NodeLemmas.{EntryOf, IsBelow, AreMade, goes, made_with, opens, coming_to, rules_of, with_history, with_list}
use Rattle.assembly.proofs.TellLemmas.{Newest, Told, more, newest_of, none_sent, opened_still}
use Rattle.assembly.proofs.LeftLemmas.{few_below, has_within, ends_with, marked_line, node_below}
use Rattle.assembly.proofs.LeftLemmas.{older_place, other_marks, own_marks, place_left, places_left}

-- Of each node the marks of its history are those of the journal.
abbrev AreMarked : List (List ℕ) → List Line → (Node → List HistoryEntry) → Type 0
AreMarked frames journal ran = (node : Node) → marks_of (ran node) ≡ marks_in frames node journal

-- What is told of the order without its newest event.
abbrev Before : ℕ → List (List ℕ) → Place → List Place → (Node → List HistoryEntry) → ((node : Node) → List (EntryOf node)) → Type 0
Before n frames p order ran lists =
    (journal : List Line) (older : List HistoryEntry) (past : List (EntryOf p.node)) → AreSentBefore journal → Makes (rules_of n p.node) older past
    → standing_places older ≡ places_of p.node order
    → AreMarked frames journal (with_history p.node older ran) → IsWithin (map place_of journal) order
    → Told n (take (count_sent journal) frames) (with_list p.node past lists) order

-- ---- an event that has to do with no frames

-- Its place is that of no entry.
not_first : (frames : List (List ℕ)) (p : Place) (journal : List Line) (rest : List Place) (older : List HistoryEntry) → map place_of journal ≡ p ∷ rest
    → length older ≡ p.at → marks_of older ≡ marks_in frames p.node journal → ⊥
not_first frames p [] rest older is len marks = never is
  where
    never : [] ≡ p ∷ rest → ⊥
    never h = cc
not_first frames p (l ∷ lines) rest older is len marks =
    let here : place_of l ≡ p = firsts (place_of l) (map place_of lines) is in
    let same : is_same_node l.node p.node ≡ true = ap (λ (q : Place). is_same_node l.node q.node) (sym here) ∙ is_same_as_itself l.node in
    older_place older p.at (mark_of_line frames (count_sent lines) l) (marks_in frames p.node lines) len
    (marks ∙ ap (λ b. if b then mark_of_line frames (count_sent lines) l ∷ marks_in frames p.node lines else marks_in frames p.node lines) same)
    (ap (λ (q : Place). q.at) here)
  where
    firsts : (q : Place) (qs : List Place) → q ∷ qs ≡ p ∷ rest → q ≡ p
    firsts q qs h = cc

later_within : (frames : List (List ℕ)) (p : Place) (order : List Place) (journal : List Line) (older : List HistoryEntry) → length older ≡ p.at
    → marks_of older ≡ marks_in frames p.node journal → IsWithin (map place_of journal) (p ∷ order) → IsWithin (map place_of journal) order
later_within frames p order journal older len marks (inl w) = w
later_within frames p order journal older len marks (inr w) = absurd (not_first frames p journal w.0 older w.1 len marks)

quietly : Laws → (n : ℕ) → n ≤ 8 → (frames : List (List ℕ)) (p : Place) (order : List Place) (journal : List Line) (ran : Node → List HistoryEntry)
    (lists : (node : Node) → List (EntryOf node)) →
    IsBelow n p.node → AreSentBefore journal → AreMarked frames journal ran → IsWithin (map place_of journal) (p ∷ order) →
    (top : Newest n p.node (ran p.node) (lists p.node) p.at (places_of p.node order)) →
    HasNone (frame_of top.event.came) top.event.sent (marks_if (length top.older) (frame_of top.event.came) top.event.sent) →
    marks_of (ran p.node) ≡ marks_if (length top.older) (frame_of top.event.came) top.event.sent ++ marks_of top.older →
    Before n frames p order ran lists → Told n (take (count_sent journal) frames) lists (p ∷ order)
quietly laws n few frames p order journal ran lists below sent marked within top none marks before =
    let here : marks_of top.older ≡ marks_in frames p.node journal = sym (marks ∙ ap (λ ms. ms ++ marks_of top.older) none.no_mark) ∙ marked p.node in
    let t = before journal top.older top.past sent top.made top.rest_is (left here) (later_within frames p order journal top.older top.at_is here within) in
    let came : CameOf (frames_sent (without_mirror n) t.0) (frame_of top.event.came) =
    subst (λ (x : Option (List ℕ)). CameOf (frames_sent (without_mirror n) t.0) x) (sym none.no_frame) tt in
    let told = more n p order (take (count_sent journal) frames) top.event.sent lists top.past t.0 t.1
    (goes n p.node (frames_sent (without_mirror n) t.0) top.past (lists p.node) top.event (few_below n p.node few below) came top.stands top.ends) in
    subst (λ fs. Told n fs lists (p ∷ order)) (ap (λ fs. take (count_sent journal) frames ++ fs) none.no_sent ∙ append-nil (take (count_sent journal) frames))
    told
  where
    left : marks_of top.older ≡ marks_in frames p.node journal → AreMarked frames journal (with_history p.node top.older ran)
    left here node = by_test (is_same_node p.node node) refl
      where
        by_test : (b : Bool) → is_same_node p.node node ≡ b → marks_of (with_history p.node top.older ran node) ≡ marks_in frames node journal
        by_test true e = own_marks p top.older ran node e ∙ subst (λ (m : Node). marks_of top.older ≡ marks_in frames m journal) (same_node p.node node e) here
        by_test false e = other_marks p top.older ran node e ∙ marked node

-- ---- an event that has an entry in the journal

-- What the journal's newest entry tells, where it is of this event.
record IsNoted (frames : List (List ℕ)) (p : Place) (l : Line) (lines : List Line) (mark : Mark) (older : List HistoryEntry) : Type 0 where
  same : l.node ≡ p.node
  mark_is : mark ≡ mark_of_line frames (count_sent lines) l
  older_are : marks_of older ≡ marks_in frames p.node lines

noted_first : (frames : List (List ℕ)) (p : Place) (l : Line) (lines : List Line) (mark : Mark) (older : List HistoryEntry) → place_of l ≡ p
    → mark ∷ marks_of older ≡ marks_in frames p.node (l ∷ lines) → IsNoted frames p l lines mark older
noted_first frames p l lines mark older here marks = record { same = ap (λ (q : Place). q.node) here; mark_is = firsts both; older_are = lasts both }
  where
    same : is_same_node l.node p.node ≡ true
    same = ap (λ (q : Place). is_same_node l.node q.node) (sym here) ∙ is_same_as_itself l.node

    both : mark ∷ marks_of older ≡ mark_of_line frames (count_sent lines) l ∷ marks_in frames p.node lines
    both = marks ∙ ap (λ b. if b then mark_of_line frames (count_sent lines) l ∷ marks_in frames p.node lines else marks_in frames p.node lines) same

    firsts : mark ∷ marks_of older ≡ mark_of_line frames (count_sent lines) l ∷ marks_in frames p.node lines → mark ≡ mark_of_line frames (count_sent lines) l
    firsts h = cc

    lasts : mark ∷ marks_of older ≡ mark_of_line frames (count_sent lines) l ∷ marks_in frames p.node lines → marks_of older ≡ marks_in frames p.node lines
    lasts h = cc

with_line : Laws → (n : ℕ) → n ≤ 8 → (frames : List (List ℕ)) (p : Place) (order : List Place) (l : Line) (lines : List Line) (ran : Node → List HistoryEntry)
    (lists : (node : Node) → List (EntryOf node)) →
    IsBelow n p.node → AreSentBefore (l ∷ lines) → AreMarked frames (l ∷ lines) ran → IsWithin (map place_of lines) order →
    (top : Newest n p.node (ran p.node) (lists p.node) p.at (places_of p.node order)) →
    IsNoted frames p l lines (record { at = length top.older; taken = frame_of top.event.came; sent = top.event.sent }) top.older →
    Before n frames p order ran lists → Told n (take (count_sent (l ∷ lines)) frames) lists (p ∷ order)
with_line laws n few frames p order l lines ran lists below sent marked within top noted before =
    let t = before lines top.older top.past sent.0 top.made top.rest_is left within in
    let fits : FitsFrames (without_mirror n) t.0 = record { few = few; steps = t.1.fits } in
    let came : CameOf (frames_sent (without_mirror n) t.0) (frame_of top.event.came) =
    subst (λ (x : Option (List ℕ)). CameOf (frames_sent (without_mirror n) t.0) x) (sym (ap (λ (m : Mark). m.taken) noted.mark_is))
    (taken_was_sent laws n t.0 frames (count_sent lines) t.1.legal fits t.1.frames_are l.taken sent.1) in
    let told = more n p order (take (count_sent lines) frames) top.event.sent lists top.past t.0 t.1
    (goes n p.node (frames_sent (without_mirror n) t.0) top.past (lists p.node) top.event (few_below n p.node few below) came top.stands top.ends) in
    subst (λ fs. Told n fs lists (p ∷ order)) (ap (λ (m : Mark). take (count_sent lines) frames ++ m.sent) noted.mark_is
    ∙ sym (take-add (count_sent lines) l.sent frames)) told
  where
    others : (node : Node) → is_same_node p.node node ≡ false → marks_in frames node (l ∷ lines) ≡ marks_in frames node lines
    others node e =
        ap (λ b. if b then mark_of_line frames (count_sent lines) l ∷ marks_in frames node lines else marks_in frames node lines)
        (ap (λ (m : Node). is_same_node m node) noted.same ∙ e)

    left : AreMarked frames lines (with_history p.node top.older ran)
    left node = by_test (is_same_node p.node node) refl
      where
        by_test : (b : Bool) → is_same_node p.node node ≡ b → marks_of (with_history p.node top.older ran node) ≡ marks_in frames node lines
        by_test true e =
            own_marks p top.older ran node e ∙ subst (λ (m : Node). marks_of top.older ≡ marks_in frames m lines) (same_node p.node node e) noted.older_are
        by_test false e = other_marks p top.older ran node e ∙ (marked node ∙ others node e)

noted : Laws → (n : ℕ) → n ≤ 8 → (frames : List (List ℕ)) (p : Place) (order : List Place) (journal : List Line) (ran : Node → List HistoryEntry)
    (lists : (node : Node) → List (EntryOf node)) →
    IsBelow n p.node → AreSentBefore journal → AreMarked frames journal ran → IsWithin (map place_of journal) (p ∷ order) →
    (top : Newest n p.node (ran p.node) (lists p.node) p.at (places_of p.node order)) →
    (record { at = length top.older; taken = frame_of top.event.came; sent = top.event.sent }) ∷ marks_of top.older ≡ marks_in frames p.node journal →
    Before n frames p order ran lists → Told n (take (count_sent journal) frames) lists (p ∷ order)
noted laws n few frames p order journal ran lists below sent marked (inl within) top marks before =
    let mark : Mark = record { at = length top.older; taken = frame_of top.event.came; sent = top.event.sent } in
    absurd (place_left top.older order p.node (length top.older) refl top.rest_is
    (has_within (map place_of journal) order p.node (length top.older) (marked_line frames p.node journal mark (marks_of top.older) (sym marks)) within))
noted laws n few frames p order [] ran lists below sent marked (inr within) top marks before = absurd (never within.1)
  where
    never : [] ≡ p ∷ within.0 → ⊥
    never h = cc
noted laws n few frames p order (l ∷ lines) ran lists below sent marked (inr within) top marks before =
    with_line laws n few frames p order l lines ran lists below sent marked (subst (λ (qs : List Place). IsWithin qs order) (sym (rests within.1)) within.2) top
    (noted_first frames p l lines (record { at = length top.older; taken = frame_of top.event.came; sent = top.event.sent }) top.older (firsts within.1) marks)
    before
  where
    firsts : place_of l ∷ map place_of lines ≡ p ∷ within.0 → place_of l ≡ p
    firsts h = cc

    rests : place_of l ∷ map place_of lines ≡ p ∷ within.0 → map place_of lines ≡ within.0
    rests h = cc

-- ---- each event

event : Laws → (n : ℕ) → n ≤ 8 → (frames : List (List ℕ)) (p : Place) (order : List Place) (journal : List Line) (ran : Node → List HistoryEntry)
    (lists : (node : Node) → List (EntryOf node)) →
    IsBelow n p.node → AreSentBefore journal → AreMarked frames journal ran → IsWithin (map place_of journal) (p ∷ order) →
    (top : Newest n p.node (ran p.node) (lists p.node) p.at (places_of p.node order)) → Before n frames p order ran lists
    → Told n (take (count_sent journal) frames) lists (p ∷ order)
event laws n few frames p order journal ran lists below sent marked within top before =
    by_mark (none_or_one (length top.older) (frame_of top.event.came) top.event.sent)
  where
    marks : List Mark
    marks = marks_if (length top.older) (frame_of top.event.came) top.event.sent

    marks_are : marks_of (ran p.node) ≡ marks_if (length top.older) (frame_of top.event.came) top.event.sent ++ marks_of top.older
    marks_are = top.marks_are ∙ ap (λ b. (if b then [] else marks_if (length top.older) (frame_of top.event.came) top.event.sent) ++ marks_of top.older)
        top.stands

    by_mark : HasNone (frame_of top.event.came) top.event.sent marks
        ⊎ (marks ≡ (record { at = length top.older; taken = frame_of top.event.came; sent = top.event.sent }) ∷ [])
        → Told n (take (count_sent journal) frames) lists (p ∷ order)
    by_mark (inl none) = quietly laws n few frames p order journal ran lists below sent marked within top none marks_are before
    by_mark (inr one) =
        noted laws n few frames p order journal ran lists below sent marked within top
        (sym (marks_are ∙ ap (λ ms. ms ++ marks_of top.older) one) ∙ marked p.node) before

tell : Laws → (n : ℕ) → n ≤ 8 → (frames : List (List ℕ)) (order : List Place) (journal : List Line) (ran : Node → List HistoryEntry)
    (lists : (node : Node) → List (EntryOf node)) →
    AreMade n ran lists → EndAt n ran → AreSentBefore journal → AreMarked frames journal ran →
    ((node : Node) → places_of node order ≡ standing_places (ran node)) → IsWithin (map place_of journal) order →
    Told n (take (count_sent journal) frames) lists order
tell laws n few frames [] [] ran lists made ends sent marked places within = (
  [],
  record {
    legal = tt;
    fits = tt;
    lists_are = λ node. opens n node ∙ ap (map (coming_to node)) (sym (opened_still n node (ran node) (lists node) (made node) (sym (places node))));
    frames_are = none_sent n;
    nodes_are = refl;
  },
)
tell laws n few frames [] (l ∷ lines) ran lists made ends sent marked places within = absurd (never within)
  where
    never : place_of l ∷ map place_of lines ≡ [] → ⊥
    never h = cc
tell laws n few frames (p ∷ order) journal ran lists made ends sent marked places within =
    let at_top : standing_places (ran p.node) ≡ p.at ∷ places_of p.node order =
    sym (places p.node) ∙ own_places p.node p.node (p.at ∷ []) order (is_same_as_itself p.node) in
    let top = newest_of n p.node (ran p.node) (lists p.node) p.at (places_of p.node order) (made p.node) at_top in
    let below = node_below n ran p.node p.at (places_of p.node order) ends at_top in
    event laws n few frames p order journal ran lists below sent marked within top
    (λ lines older past s m rest marks w.
    tell laws n few frames order lines (with_history p.node older ran) (with_list p.node past lists) (made_with n p.node older past m ran lists made)
    (ends_with n p.node older ran below ends) s marks (places_left p order ran older places rest) w)

-- ---- the laws

list_of : (n : ℕ) (ran : Node → List HistoryEntry) → Lists n ran → (node : Node) → List (EntryOf node)
list_of n ran lists (Server s) = lists.servers s
list_of n ran lists Client = lists.client
list_of n ran lists Mirror = []

made_of : (n : ℕ) (ran : Node → List HistoryEntry) (lists : Lists n ran) → EndAt n ran → AreMade n ran (list_of n ran lists)
unfolding list_of
made_of n ran lists ends (Server s) = lists.servers_made s
made_of n ran lists ends Client = lists.client_made
made_of n ran lists ends Mirror = subst (λ (h : List HistoryEntry). Makes (rules_of n Mirror) h []) (sym ends.mirror) refl

pub merges_name_a_trace : Laws → MergesNameATrace
unfolding list_of
merges_name_a_trace laws n net ran order agree merge lists =
    let told = tell laws n agree.few net.frames order net.journal ran (list_of n ran lists)
    (made_of n ran lists agree.ends) agree.ends agree.legal.sent_before agree.marked merge.each_stands merge.as_noted in
    let all : take (count_sent net.journal) net.frames ≡ net.frames = take_all (count_sent net.journal) net.frames (omega (arith, agree.legal.all_sent)) in (
      told.0,
      record {
        legal = told.1.legal;
        fits = record { few = agree.few; steps = told.1.fits };
        servers_are = λ s. told.1.lists_are (Server s);
        client_is = told.1.lists_are Client;
        frames_are = told.1.frames_are ∙ all;
      },
      record { nodes_are = told.1.nodes_are; places_are = merge.each_stands },
    )

pub agreeing_nodes_are_a_trace : MergesNameATrace → MergedOrdersAreMerges → AgreeingNodesAreATrace
agreeing_nodes_are_a_trace names merges n net ran agree = names n net ran _ agree (merges n net ran agree)
