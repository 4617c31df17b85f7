-- How a hub keeps its network.
use Rattle.std.proofs.Common.{◌≡◌, refl, sym, ◌∙◌, ap, subst, ℕ, ◌<◌, ◌≢◌, arith, Bool, true, false, not}
use Rattle.std.proofs.Common.{◌&&◌, ◌==◌, List, [], ◌∷◌, ◌++◌, length, filter, replicate, Option, Some, None}
use Rattle.std.specs.Prelude.{if◌then◌else◌, All, slice_set}
use Rattle.std.specs.Option.{ForSome}
use Rattle.std.proofs.lemmas.Bool.{and_right}
use Rattle.std.proofs.lemmas.List.{length_push, length-set, get_or-set_same, get_or-set_other, get_or-replicate}
use Rattle.std.proofs.lemmas.List.Elements.{All-nil, All-cons, All-push, All-weaker}
use Rattle.messages.specs.declared.limits.TheConstants.{MAX_NODES}
use Rattle.messages.specs.declared.node.Node.{Node}
use Rattle.messages.specs.Nodes.{node_number, is_node}
use Rattle.messages.specs.declared.line.Line.{Line}
use Rattle.messages.specs.Network.{empty, IsSpelled}
use Rattle.messages.specs.KeptNetwork.{list_of, with_list, without_frame, IsTakenBelow, IsKept}
use Rattle.messages.specs.Waiting.{is_same_node, is_for, waiting_frames, node_of}
use Rattle.messages.proofs.NodeLemmas.{number_below, same_node, is_same_as_itself, other_number}
use Rattle.messages.proofs.WaitingLemmas.{waiting_none, untouched, touched, one_more, none_more}

-- ---- lists by node

pub long_with : (lists : List (List ℕ)) (node : Node) (list : List ℕ) → length (with_list lists node list) ≡ length lists
long_with lists node list = elim (is_node node) as (λ b. length (if b then slice_set lists (node_number node) list else lists) ≡ length lists) [
  | true ↦ length-set lists (node_number node) list
  | false ↦ refl
]

-- The list that was put there.
list_same : (lists : List (List ℕ)) (node : Node) (list : List ℕ) → length lists ≡ MAX_NODES → is_node node ≡ true
    → list_of (with_list lists node list) node ≡ list
list_same lists node list long e =
    let below : node_number node < length lists = omega (arith, long, number_below node e) in
    rw e (get_or-set_same lists (node_number node) list [] below)

by_range : (lists : List (List ℕ)) (node other : Node) (list : List ℕ) (a b : Bool) → is_node node ≡ a → is_node other ≡ b → is_same_node node other ≡ false
    → list_of (with_list lists node list) other ≡ list_of lists other
by_range lists node other list a false ea eb differ = rw eb refl
by_range lists node other list false true ea eb differ = rw (ea, eb) refl
by_range lists node other list true true ea eb differ =
    let ne : node_number other ≢ node_number node = let n = other_number node other ea eb differ in omega (arith, n) in
    rw (ea, eb) (get_or-set_other lists (node_number node) (node_number other) list [] ne)

list_other : (lists : List (List ℕ)) (node other : Node) (list : List ℕ) → is_same_node node other ≡ false
    → list_of (with_list lists node list) other ≡ list_of lists other
list_other lists node other list differ = by_range lists node other list (is_node node) (is_node other) refl refl differ

-- ---- what is kept

spelled_more : (frames : List (List ℕ)) (f : List ℕ) → All IsSpelled frames → IsSpelled f → All IsSpelled (frames ++ f ∷ [])
spelled_more frames f all one = All-push IsSpelled frames f all one

taken_more : (frames : List (List ℕ)) (f : List ℕ) (journal : List Line) → All (IsTakenBelow (length frames)) journal
    → All (IsTakenBelow (length (frames ++ f ∷ []))) journal
taken_more frames f journal below =
    All-weaker (IsTakenBelow (length frames)) (IsTakenBelow (length (frames ++ f ∷ []))) (λ l h i e. omega (arith, h i e, length_push frames f)) journal below

for_is : (f : List ℕ) (to node : Node) → node_of f ≡ Some to → is_for node f ≡ is_same_node to node
for_is f to node e = rw e refl

queue_by : (frames : List (List ℕ)) (f : List ℕ) (journal : List Line) (lists : List (List ℕ)) (to node : Node) (b : Bool) → is_same_node to node ≡ b
    → IsKept (record { frames = frames; journal = journal }) lists → node_of f ≡ Some to → is_node to ≡ true
    → list_of (with_list lists to (list_of lists to ++ length frames ∷ [])) node ≡ waiting_frames (record { frames = frames ++ f ∷ []; journal = journal }) node
queue_by frames f journal lists to node true e kept is valid =
    let same : to ≡ node = same_node to node e in
    subst (λ (n : Node). list_of (with_list lists to (list_of lists to ++ length frames ∷ [])) n
    ≡ waiting_frames (record { frames = frames ++ f ∷ []; journal = journal }) n) same
    (list_same lists to (list_of lists to ++ length frames ∷ []) kept.long valid
    ∙ ap (λ (ns : List ℕ). ns ++ length frames ∷ []) (kept.waiting to)
    ∙ sym (one_more frames f journal to kept.taken (for_is f to to is ∙ is_same_as_itself to)))
queue_by frames f journal lists to node false e kept is valid =
    list_other lists to node (list_of lists to ++ length frames ∷ []) e ∙ kept.waiting node
    ∙ sym (none_more frames f journal node kept.taken (for_is f to node is ∙ e))

-- A frame more, whose number is behind those that wait for its node.
pub kept_frame : (frames : List (List ℕ)) (f : List ℕ) (journal : List Line) (lists : List (List ℕ)) (to : Node)
    → IsKept (record { frames = frames; journal = journal }) lists
    → node_of f ≡ Some to → is_node to ≡ true → IsSpelled f
    → IsKept (record { frames = frames ++ f ∷ []; journal = journal }) (with_list lists to (list_of lists to ++ length frames ∷ []))
kept_frame frames f journal lists to kept is valid spelled = record {
  spelled = spelled_more frames f kept.spelled spelled;
  taken = taken_more frames f journal kept.taken;
  long = long_with lists to (list_of lists to ++ length frames ∷ []) ∙ kept.long;
  waiting = λ node. queue_by frames f journal lists to node (is_same_node to node) refl kept is valid;
}

none_taken : (b : Bool) → (b && false) ≡ false
none_taken b = and_right b false refl

-- An entry that took no frame.
kept_sender : (frames : List (List ℕ)) (journal : List Line) (lists : List (List ℕ)) (node : Node) (at sent : ℕ)
    → IsKept (record { frames = frames; journal = journal }) lists
    → IsKept (record { frames = frames; journal = record { node = node; at = at; taken = None; sent = sent } ∷ journal }) lists
kept_sender frames journal lists node at sent kept = record {
  spelled = kept.spelled;
  taken = All-cons (IsTakenBelow (length frames)) (record { node = node; at = at; taken = None; sent = sent }) journal (λ i e. absurd (cc)) kept.taken;
  long = kept.long;
  waiting = λ other. kept.waiting other ∙ sym (untouched frames (record { node = node; at = at; taken = None; sent = sent }) journal other
      (λ i. none_taken (is_same_node node other)));
}

list_took : (lists : List (List ℕ)) (node : Node) (n : ℕ) → length lists ≡ MAX_NODES → (valid : Bool) → is_node node ≡ valid
    → list_of (without_frame lists node (Some n)) node ≡ filter (λ k. not (n == k)) (list_of lists node)
list_took lists node n long true e = list_same lists node (filter (λ k. not (n == k)) (list_of lists node)) long e
list_took lists node n long false e = rw e refl

taker_by : (frames : List (List ℕ)) (journal : List Line) (lists : List (List ℕ)) (node : Node) (at n sent : ℕ) (other : Node) (b valid : Bool)
    → is_same_node node other ≡ b → is_node node ≡ valid
    → IsKept (record { frames = frames; journal = journal }) lists
    → list_of (without_frame lists node (Some n)) other ≡ waiting_frames
    (record { frames = frames; journal = record { node = node; at = at; taken = Some n; sent = sent } ∷ journal }) other
taker_by frames journal lists node at n sent other true valid e is kept =
    let same : node ≡ other = same_node node other e in
    let line : Line = record { node = node; at = at; taken = Some n; sent = sent } in
    subst (λ (o : Node). list_of (without_frame lists node (Some n)) o ≡ waiting_frames (record { frames = frames; journal = line ∷ journal }) o) same
    (list_took lists node n kept.long valid is
    ∙ ap (filter (λ k. not (n == k))) (kept.waiting node)
    ∙ sym (touched frames line journal node n (λ i. rw (is_same_as_itself node) refl)))
taker_by frames journal lists node at n sent other false valid e is kept =
    list_other lists node other (filter (λ k. not (n == k)) (list_of lists node)) e ∙ kept.waiting other
    ∙ sym (untouched frames (record { node = node; at = at; taken = Some n; sent = sent }) journal other (λ i. rw e refl))

-- An entry that took a frame, whose number isn't among those that wait for the node any more.
kept_taker : (frames : List (List ℕ)) (journal : List Line) (lists : List (List ℕ)) (node : Node) (at n sent : ℕ) → n < length frames
    → IsKept (record { frames = frames; journal = journal }) lists
    → IsKept (record { frames = frames; journal = record { node = node; at = at; taken = Some n; sent = sent } ∷ journal }) (without_frame lists node (Some n))
kept_taker frames journal lists node at n sent below kept = record {
  spelled = kept.spelled;
  taken = All-cons (IsTakenBelow (length frames)) (record { node = node; at = at; taken = Some n; sent = sent }) journal
      (λ i e. let same : n ≡ i = cc in omega (arith, below, same)) kept.taken;
  long = long_with lists node (filter (λ k. not (n == k)) (list_of lists node)) ∙ kept.long;
  waiting = λ other. taker_by frames journal lists node at n sent other (is_same_node node other) (is_node node) refl refl kept;
}

none_at : (node : Node) (b : Bool) → is_node node ≡ b → list_of (replicate MAX_NODES []) node ≡ []
none_at node true e = rw e (get_or-replicate MAX_NODES (node_number node) [] [] (number_below node e))
none_at node false e = rw e refl

-- Nothing was sent yet.
pub kept_none : (lists : List (List ℕ)) → lists ≡ replicate MAX_NODES [] → IsKept empty lists
kept_none lists e = record {
  spelled = All-nil IsSpelled;
  taken = All-nil (IsTakenBelow 0);
  long = rw e refl;
  waiting = λ node. rw e (none_at node (is_node node) refl) ∙ sym (waiting_none node);
}

-- The entry of an event that took or sent frames.
pub kept_entry : (frames : List (List ℕ)) (journal : List Line) (lists : List (List ℕ)) (node : Node) (at sent : ℕ) (taken : Option ℕ)
    → ForSome taken (λ i. i < length frames)
    → IsKept (record { frames = frames; journal = journal }) lists
    → IsKept (record { frames = frames; journal = record { node = node; at = at; taken = taken; sent = sent } ∷ journal }) (without_frame lists node taken)
kept_entry frames journal lists node at sent None below kept = kept_sender frames journal lists node at sent kept
kept_entry frames journal lists node at sent (Some n) below kept = kept_taker frames journal lists node at n sent (below n refl) kept
