-- The order that a legal journal gives merges the histories that agree with it.
use Rattle.std.proofs.Common.{◌≡◌, refl, sym, ◌∙◌, ap, subst, ◌⊎◌, inl, inr, ℕ, zero, suc, ◌<◌}
use Rattle.std.proofs.Common.{◌≤◌, arith, Bool, true, false, ◌==◌, List, [], ◌∷◌, ◌++◌, length}
use Rattle.std.specs.Prelude.{map, if◌then◌else◌}
use Rattle.std.proofs.lemmas.List.{append_assoc}
use Rattle.std.proofs.lemmas.Bool.{eqb-true}
use Rattle.std.proofs.lemmas.Bool.Decides.{nat_tests}
use Rattle.messages.specs.declared.node.Node.{Node}
use Rattle.messages.specs.declared.node.Node.TheVariants.{Server, Client, Mirror}
use Rattle.messages.specs.declared.line.Line.{Line}
use Rattle.messages.specs.Network.{Network}
use Rattle.messages.specs.Waiting.{is_same_node}
use Rattle.cells.specs.declared.entry.HistoryEntry.{HistoryEntry}
use Rattle.cells.specs.AtHub.{is_left_out}
use Rattle.assembly.specs.declared.place.Place.{Place}
use Rattle.assembly.specs.Marks.{Mark, mark_of_line, marks_in, marks_if, marks_of, frame_of}
use Rattle.messages.specs.Journal.{count_sent}
use Rattle.assembly.specs.Orders.{standing_places, places_of, IsWithin, place_of, next_place, up_to_last, left_of, left_below, merged_order}
use Rattle.assembly.specs.Laws.{Agree, MergedOrdersAreMerges}
use Rattle.assembly.proofs.MarkLemmas.{HasNone, none_or_one}
use Rattle.assembly.proofs.PlaceLemmas.{within_more, Falls, falls_wider, span, below, all_below, spans_meet, own_places}
use Rattle.assembly.proofs.PlaceLemmas.{other_places, noted_at, next_le, AreNoted, standing_falls, up_to, in_order}

-- ---- the marks of a history fall, and stand in its list

abbrev pub marked_at : List Mark → List ℕ
marked_at marks = map (λ mark. mark.at) marks

pub marks_fall : (h : List HistoryEntry) → Falls (length h) (marked_at (marks_of h))
marks_fall [] = tt
marks_fall (l ∷ ls) = by_test (marks_fall ls) (is_left_out l.answer)
  where
    wider : Falls (length ls) (marked_at (marks_of ls)) → Falls (suc (length ls)) (marked_at (marks_of ls))
    wider later = falls_wider (length ls) (suc (length ls)) (marked_at (marks_of ls)) (omega arith) later

    by_mark : Falls (length ls) (marked_at (marks_of ls)) → (marks : List Mark)
        → HasNone (frame_of l.came) l.sent marks ⊎ (marks ≡ (record { at = length ls; taken = frame_of l.came; sent = l.sent }) ∷ [])
        → Falls (suc (length ls)) (marked_at (marks ++ marks_of ls))
    by_mark later marks (inl none) = subst (λ (ms : List Mark). Falls (suc (length ls)) (marked_at (ms ++ marks_of ls))) (sym none.no_mark) (wider later)
    by_mark later marks (inr one) = subst (λ (ms : List Mark). Falls (suc (length ls)) (marked_at (ms ++ marks_of ls))) (sym one) (omega arith, later)

    by_test : Falls (length ls) (marked_at (marks_of ls)) → (b : Bool)
        → Falls (suc (length ls)) (marked_at ((if b then [] else marks_if (length ls) (frame_of l.came) l.sent) ++ marks_of ls))
    by_test later true = wider later
    by_test later false = by_mark later (marks_if (length ls) (frame_of l.came) l.sent) (none_or_one (length ls) (frame_of l.came) l.sent)

pub marks_stand : (h : List HistoryEntry) → IsWithin (marked_at (marks_of h)) (standing_places h)
marks_stand [] = refl
marks_stand (l ∷ ls) = by_test (marks_stand ls) (is_left_out l.answer)
  where
    by_mark : IsWithin (marked_at (marks_of ls)) (standing_places ls) → (marks : List Mark)
        → HasNone (frame_of l.came) l.sent marks ⊎ (marks ≡ (record { at = length ls; taken = frame_of l.came; sent = l.sent }) ∷ [])
        → IsWithin (marked_at (marks ++ marks_of ls)) (length ls ∷ standing_places ls)
    by_mark later marks (inl none) =
        subst (λ (ms : List Mark). IsWithin (marked_at (ms ++ marks_of ls)) (length ls ∷ standing_places ls)) (sym none.no_mark) (inl later)
    by_mark later marks (inr one) = subst (λ (ms : List Mark). IsWithin (marked_at (ms ++ marks_of ls)) (length ls ∷ standing_places ls)) (sym one)
        (inr (marked_at (marks_of ls), refl, later))

    by_test : IsWithin (marked_at (marks_of ls)) (standing_places ls) → (b : Bool)
        → IsWithin (marked_at ((if b then [] else marks_if (length ls) (frame_of l.came) l.sent) ++ marks_of ls))
        (if b then standing_places ls else length ls ∷ standing_places ls)
    by_test later true = later
    by_test later false = by_mark later (marks_if (length ls) (frame_of l.came) l.sent) (none_or_one (length ls) (frame_of l.came) l.sent)

-- The marks in a journal are at its entries' places.
pub marked_noted : (frames : List (List ℕ)) (node : Node) (journal : List Line) → marked_at (marks_in frames node journal) ≡ noted_at node journal
marked_noted frames node [] = refl
marked_noted frames node (l ∷ older) = by_test (marked_noted frames node older) (is_same_node l.node node)
  where
    by_test : marked_at (marks_in frames node older) ≡ noted_at node older → (b : Bool)
        → marked_at (if b then mark_of_line frames (count_sent older) l ∷ marks_in frames node older else marks_in frames node older)
        ≡ (if b then l.at ∷ noted_at node older else noted_at node older)
    by_test later true = ap (λ ys. l.at ∷ ys) later
    by_test later false = later

noted_are : (n : ℕ) (net : Network) (ran : Node → List HistoryEntry) → Agree n net ran → (node : Node) → marked_at (marks_of (ran node)) ≡ noted_at node net.journal
noted_are n net ran agree node = ap (λ (ms : List Mark). marked_at ms) (agree.marked node) ∙ marked_noted net.frames node net.journal

noted_fall : (n : ℕ) (net : Network) (ran : Node → List HistoryEntry) → Agree n net ran → (node : Node) → Falls (length (ran node)) (noted_at node net.journal)
noted_fall n net ran agree node = subst (Falls (length (ran node))) (noted_are n net ran agree node) (marks_fall (ran node))

are_noted : (n : ℕ) (net : Network) (ran : Node → List HistoryEntry) → Agree n net ran → AreNoted ran net.journal
are_noted n net ran agree = record {
  falls = λ node. (length (ran node), noted_fall n net ran agree node);
  within = λ node. subst (λ (xs : List ℕ). IsWithin xs (standing_places (ran node))) (noted_are n net ran agree node) (marks_stand (ran node));
}

-- ---- what is left behind the last entry

-- All that is left of a node before what came up to its last entry.
all_of : (ran : Node → List HistoryEntry) (journal : List Line) (node : Node) → Falls (length (ran node)) (noted_at node journal)
    → span (next_place node journal) (length (ran node)) (standing_places (ran node)) ++ below (next_place node journal) (standing_places (ran node))
    ≡ standing_places (ran node)
all_of ran journal node h =
    spans_meet (length (ran node)) (next_place node journal) (length (ran node)) (standing_places (ran node)) (next_le node journal (length (ran node)) h)
    (standing_falls (ran node))
    ∙ all_below (length (ran node)) (length (ran node)) (standing_places (ran node)) (omega arith) (standing_falls (ran node))

-- What is left of a server from k on isn't among that of those below.
none_left : (ran : Node → List HistoryEntry) (journal : List Line) (s k : ℕ) (order : List Place) → k ≤ s
    → places_of (Server s) (left_below ran journal k ++ order) ≡ places_of (Server s) order
none_left ran journal s zero order h = refl
none_left ran journal s (suc k) order h =
    let apart : (k == s) ≡ false = grind (arith, nat_tests, h) in
    ap (places_of (Server s)) (append_assoc (left_of ran journal (Server k)) (left_below ran journal k) order)
    ∙ (other_places (Server k) (Server s) (span (next_place (Server k) journal) (length (ran (Server k))) (standing_places (ran (Server k))))
    (left_below ran journal k ++ order) apart
    ∙ none_left ran journal s k order (omega (arith, h)))

-- That of one below is there once.
once_left : (ran : Node → List HistoryEntry) (journal : List Line) (s k : ℕ) (order : List Place) → s < k →
    places_of (Server s) (left_below ran journal k ++ order)
    ≡ span (next_place (Server s) journal) (length (ran (Server s))) (standing_places (ran (Server s))) ++ places_of (Server s) order
once_left ran journal s zero order h = absurd (omega (arith, h))
once_left ran journal s (suc k) order h =
    ap (places_of (Server s)) (append_assoc (left_of ran journal (Server k)) (left_below ran journal k) order)
    ∙ by_test (λ less. once_left ran journal s k order less) (k == s) refl
  where
    rest : ℕ → List ℕ
    rest r = span (next_place (Server r) journal) (length (ran (Server r))) (standing_places (ran (Server r)))

    by_test : (s < k → places_of (Server s) (left_below ran journal k ++ order)
        ≡ span (next_place (Server s) journal) (length (ran (Server s))) (standing_places (ran (Server s))) ++ places_of (Server s) order)
        → (b : Bool) → (k == s) ≡ b → places_of (Server s) (left_of ran journal (Server k) ++ (left_below ran journal k ++ order))
        ≡ span (next_place (Server s) journal) (length (ran (Server s))) (standing_places (ran (Server s))) ++ places_of (Server s) order
    by_test later true e =
        let same = eqb-true k s e in
        own_places (Server k) (Server s) (rest k) (left_below ran journal k ++ order) e
        ∙ (ap (λ ys. rest k ++ ys) (none_left ran journal s k order (omega (arith, same)))
        ∙ ap (λ r. rest r ++ places_of (Server s) order) same)
    by_test later false e =
        let less : s < k = grind (arith, nat_tests, h, e) in
        other_places (Server k) (Server s) (rest k) (left_below ran journal k ++ order) e ∙ later less

-- What is left of servers is of no other node.
others_left : (ran : Node → List HistoryEntry) (journal : List Line) (node : Node) → ((s : ℕ) → is_same_node (Server s) node ≡ false) → (k : ℕ) (order : List Place)
    → places_of node (left_below ran journal k ++ order) ≡ places_of node order
others_left ran journal node other zero order = refl
others_left ran journal node other (suc k) order =
    ap (places_of node) (append_assoc (left_of ran journal (Server k)) (left_below ran journal k) order)
    ∙ (other_places (Server k) node (span (next_place (Server k) journal) (length (ran (Server k))) (standing_places (ran (Server k))))
    (left_below ran journal k ++ order) (other k)
    ∙ others_left ran journal node other k order)

-- ---- the whole

pub below_or_not : (r n : ℕ) → (r < n) ⊎ (n ≤ r)
below_or_not r zero = inr (omega arith)
below_or_not zero (suc n) = inl (omega arith)
below_or_not (suc r) (suc n) = further (below_or_not r n)
  where
    further : (r < n) ⊎ (n ≤ r) → (suc r < suc n) ⊎ (suc n ≤ suc r)
    further (inl h) = inl (omega (arith, h))
    further (inr h) = inr (omega (arith, h))

each_stands : (n : ℕ) (net : Network) (ran : Node → List HistoryEntry) → Agree n net ran → (node : Node)
    → places_of node (merged_order n ran net.journal) ≡ standing_places (ran node)
each_stands n net ran agree Client =
    let order = up_to_last ran net.journal in
    own_places Client Client (span (next_place Client net.journal) (length (ran Client)) (standing_places (ran Client)))
    (left_below ran net.journal n ++ order) refl
    ∙ (ap (λ ys. span (next_place Client net.journal) (length (ran Client)) (standing_places (ran Client)) ++ ys)
    (others_left ran net.journal Client (λ s. refl) n order ∙ up_to ran net.journal (are_noted n net ran agree) Client)
    ∙ all_of ran net.journal Client (noted_fall n net ran agree Client))
each_stands n net ran agree Mirror =
    let order = up_to_last ran net.journal in
    other_places Client Mirror (span (next_place Client net.journal) (length (ran Client)) (standing_places (ran Client)))
    (left_below ran net.journal n ++ order) refl
    ∙ (others_left ran net.journal Mirror (λ s. refl) n order
    ∙ (up_to ran net.journal (are_noted n net ran agree) Mirror
    ∙ subst (λ (list : List HistoryEntry). below (next_place Mirror net.journal) (standing_places list) ≡ standing_places list) (sym agree.ends.mirror) refl))
each_stands n net ran agree (Server s) =
    other_places Client (Server s) (span (next_place Client net.journal) (length (ran Client)) (standing_places (ran Client)))
    (left_below ran net.journal n ++ up_to_last ran net.journal) refl
    ∙ by_number (below_or_not s n)
  where
    up : places_of (Server s) (up_to_last ran net.journal) ≡ below (next_place (Server s) net.journal) (standing_places (ran (Server s)))
    up = up_to ran net.journal (are_noted n net ran agree) (Server s)

    by_number : (s < n) ⊎ (n ≤ s) → places_of (Server s) (left_below ran net.journal n ++ up_to_last ran net.journal) ≡ standing_places (ran (Server s))
    by_number (inl h) =
        once_left ran net.journal s n (up_to_last ran net.journal) h
        ∙ (ap (λ ys. span (next_place (Server s) net.journal) (length (ran (Server s))) (standing_places (ran (Server s))) ++ ys) up
        ∙ all_of ran net.journal (Server s) (noted_fall n net ran agree (Server s)))
    by_number (inr h) =
        none_left ran net.journal s n (up_to_last ran net.journal) h
        ∙ (up ∙ subst (λ (list : List HistoryEntry). below (next_place (Server s) net.journal) (standing_places list) ≡ standing_places list)
        (sym (agree.ends.servers s h)) refl)

pub merged_orders_are_merges : MergedOrdersAreMerges
merged_orders_are_merges n net ran agree = record {
  each_stands = each_stands n net ran agree;
  as_noted = within_more (map place_of net.journal) (left_of ran net.journal Client) (left_below ran net.journal n ++ up_to_last ran net.journal)
      (within_more (map place_of net.journal) (left_below ran net.journal n) (up_to_last ran net.journal)
      (in_order ran net.journal (are_noted n net ran agree)));
}
