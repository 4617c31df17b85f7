-- An order that merges histories which agree with a legal journal names a trace.
use Rattle.std.proofs.Common.{◌≡◌, refl, sym, ◌∙◌, ap, subst, ℕ, Bool, true, false, List, [], ◌∷◌, ◌++◌, length}
use Rattle.std.specs.Prelude.{map, if◌then◌else◌}
use Rattle.std.specs.List.{AllByRecursion}
use Rattle.std.proofs.lemmas.List.{map-append}
use Rattle.messages.specs.declared.node.Node.{Node}
use Rattle.messages.specs.FrameBytes.{frame_spelling}
use Rattle.messages.specs.Waiting.{is_same_node}
use Rattle.cells.specs.declared.entry.HistoryEntry.{HistoryEntry}
use Rattle.cells.specs.AtHub.{is_left_out}
use Rattle.cells.specs.Replay.{Ends, Makes}
use Rattle.net_world.specs.Setup.{without_mirror}
use Rattle.net_world.specs.Frames.{FrameStep, frames_of_step, frames_sent, IsFrameTrace}
use Rattle.net_world.specs.InRange.{FrameStepFits}
use Rattle.assembly.specs.declared.place.Place.{Place}
use Rattle.assembly.specs.Marks.{frame_of, mark_of, marks_if, marks_of}
use Rattle.assembly.specs.Orders.{standing_places}
use Rattle.assembly.specs.Names.{node_of}
use Rattle.messages.proofs.NodeLemmas.{same_node}
use Rattle.assembly.proofs.NodeLemmas.{EntryOf, Goes, coming_to, frames_at, happened_to, node_at, other_list}
use Rattle.assembly.proofs.NodeLemmas.{other_step, own_list, own_step, rules_of, stays, step_at, with_list}

-- ---- a history's newest event that stands

-- It stands at this place, behind events that stand at these.
pub record Newest (n : ℕ) (node : Node) (h : List HistoryEntry) (list : List (EntryOf node)) (at : ℕ) (rest : List ℕ) : Type 0 where
  pub event : HistoryEntry
  pub older : List HistoryEntry
  pub stands : is_left_out event.answer ≡ false
  pub at_is : length older ≡ at
  pub rest_is : standing_places older ≡ rest
  pub marks_are : marks_of h ≡ mark_of (length older) event ++ marks_of older
  pub past : List (EntryOf node)
  pub made : Makes (rules_of n node) older past
  pub ends : Ends (rules_of n node) past ((rules_of n node).asked event.came) event.answer event.sent list

-- An event that is left out is as if it hadn't come.
left_out : (n : ℕ) (node : Node) (l : HistoryEntry) (ls : List HistoryEntry) (list past : List (EntryOf node)) (at : ℕ) (rest : List ℕ) → is_left_out l.answer ≡ true
    → list ≡ past → Newest n node ls past at rest → Newest n node (l ∷ ls) list at rest
left_out n node l ls list past at rest out same newest = record {
  event = newest.event;
  older = newest.older;
  stands = newest.stands;
  at_is = newest.at_is;
  rest_is = newest.rest_is;
  marks_are = ap (λ b. (if b then [] else marks_if (length ls) (frame_of l.came) l.sent) ++ marks_of ls) out ∙ newest.marks_are;
  past = newest.past;
  made = newest.made;
  ends = subst (λ (now : List (EntryOf node)). Ends (rules_of n node) newest.past
      ((rules_of n node).asked newest.event.came) newest.event.answer newest.event.sent now) (sym same) newest.ends;
}

pub head_is : (x y : ℕ) (xs ys : List ℕ) → x ∷ xs ≡ y ∷ ys → x ≡ y
head_is x y xs ys h = cc

pub tail_is : {X : Type 0} (x y : X) (xs ys : List X) → x ∷ xs ≡ y ∷ ys → xs ≡ ys
tail_is x y xs ys h = cc

pub newest_of : (n : ℕ) (node : Node) (h : List HistoryEntry) (list : List (EntryOf node)) (at : ℕ) (rest : List ℕ) → Makes (rules_of n node) h list
    → standing_places h ≡ at ∷ rest → Newest n node h list at rest
newest_of n node [] list at rest made is = absurd (never is)
  where
    never : [] ≡ at ∷ rest → ⊥
    never h = cc
newest_of n node (l ∷ ls) list at rest made is = by_test (λ h. newest_of n node ls made.0 at rest made.1 h) (is_left_out l.answer) refl is
  where
    by_test : (standing_places ls ≡ at ∷ rest → Newest n node ls made.0 at rest) → (b : Bool) → is_left_out l.answer ≡ b
        → (if b then standing_places ls else length ls ∷ standing_places ls) ≡ at ∷ rest → Newest n node (l ∷ ls) list at rest
    by_test later true out is = left_out n node l ls list made.0 at rest out (stays n node made.0 list l out made.2) (later is)
    by_test later false out is = record {
      event = l;
      older = ls;
      stands = out;
      at_is = head_is (length ls) at (standing_places ls) rest is;
      rest_is = tail_is (length ls) at (standing_places ls) rest is;
      marks_are = refl;
      past = made.0;
      made = made.1;
      ends = made.2;
    }

-- Where none stands, the list is the one with which the node opened.
pub opened_still : (n : ℕ) (node : Node) (h : List HistoryEntry) (list : List (EntryOf node)) → Makes (rules_of n node) h list → standing_places h ≡ []
    → list ≡ (rules_of n node).opened
opened_still n node [] list made is = made
opened_still n node (l ∷ ls) list made is = by_test (λ h. opened_still n node ls made.0 made.1 h) (is_left_out l.answer) refl is
  where
    by_test : (standing_places ls ≡ [] → made.0 ≡ (rules_of n node).opened) → (b : Bool) → is_left_out l.answer ≡ b
        → (if b then standing_places ls else length ls ∷ standing_places ls) ≡ [] → list ≡ (rules_of n node).opened
    by_test later true out is = stays n node made.0 list l out made.2 ∙ later is
    by_test later false out is = absurd (never is)
      where
        never : length ls ∷ standing_places ls ≡ [] → ⊥
        never h = cc

-- ---- a trace of so much of an order

-- A trace of these lists, with these frames, at the nodes of this order.
pub record IsTold (n : ℕ) (frames : List (List ℕ)) (lists : (node : Node) → List (EntryOf node)) (order : List Place) (t : List FrameStep) : Type 0 where
  pub legal : IsFrameTrace (without_mirror n) t
  pub fits : AllByRecursion FrameStepFits t
  pub lists_are : (node : Node) → happened_to n node t ≡ map (coming_to node) (lists node)
  pub frames_are : map frame_spelling (frames_sent (without_mirror n) t) ≡ frames
  pub nodes_are : map (λ (p : Place). p.node) order ≡ map node_of t

abbrev pub Told : ℕ → List (List ℕ) → ((node : Node) → List (EntryOf node)) → List Place → Type 0
Told n frames lists order = (t : List FrameStep) × IsTold n frames lists order t

sent_more : (n : ℕ) (step : FrameStep) (past : List FrameStep)
    → frames_sent (without_mirror n) (step ∷ past) ≡ frames_sent (without_mirror n) past ++ frames_of_step (without_mirror n) past step
unfolding frames_sent
sent_more n step past = refl

pub none_sent : (n : ℕ) → map frame_spelling (frames_sent (without_mirror n) []) ≡ []
unfolding frames_sent
none_sent n = refl

-- One event more.
pub more : (n : ℕ) (p : Place) (order : List Place) (frames sent : List (List ℕ)) (lists : (node : Node) → List (EntryOf node)) (before : List (EntryOf p.node))
    (t : List FrameStep) → IsTold n frames (with_list p.node before lists) order t
    → Goes n p.node (frames_sent (without_mirror n) t) before (lists p.node) sent → Told n (frames ++ sent) lists (p ∷ order)
more n p order frames sent lists before t told g = (
  step ∷ t,
  record {
    legal = (told.legal, g.may, g.allowed t);
    fits = (g.fits, told.fits);
    lists_are = λ node. list_at node (is_same_node p.node node) refl;
    frames_are =
        ap (map frame_spelling) (sent_more n step t)
        ∙ (map-append frame_spelling (frames_sent (without_mirror n) t) (frames_of_step (without_mirror n) t step)
        ∙ (ap (λ fs. fs ++ map frame_spelling (frames_of_step (without_mirror n) t step)) told.frames_are
        ∙ ap (λ fs. frames ++ fs) (ap (map frame_spelling) (frames_at n p.node t before g.entry own) ∙ sym g.sent_are)));
    nodes_are = ap (λ ns. p.node ∷ ns) told.nodes_are ∙ ap (λ m. m ∷ map node_of t) (sym (node_at p.node (coming_to p.node g.entry)));
  },
)
  where
    step : FrameStep
    step = step_at p.node (coming_to p.node g.entry)

    own : happened_to n p.node t ≡ map (coming_to p.node) before
    own = told.lists_are p.node ∙ ap (map (coming_to p.node)) (own_list p.node before lists)

    here : happened_to n p.node (step ∷ t) ≡ map (coming_to p.node) (lists p.node)
    here =
        own_step n p.node (coming_to p.node g.entry) t
        ∙ (ap (λ list. coming_to p.node g.entry ∷ list) own ∙ ap (map (coming_to p.node)) (sym g.after_is))

    list_at : (node : Node) (b : Bool) → is_same_node p.node node ≡ b → happened_to n node (step ∷ t) ≡ map (coming_to node) (lists node)
    list_at node true e = subst (λ (m : Node). happened_to n m (step ∷ t) ≡ map (coming_to m) (lists m)) (same_node p.node node e) here
    list_at node false e =
        other_step n p.node node (coming_to p.node g.entry) t e ∙ (told.lists_are node ∙ ap (map (coming_to node)) (other_list p.node node before lists e))
