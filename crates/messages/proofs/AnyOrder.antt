-- The pieces of a body, in any order and with repeats.
use Rattle.std.proofs.Common.{◌≡◌, refl, sym, ◌∙◌, ap, subst, inl, inr, ℕ, zero, suc, ◌-◌, ◌≤◌, arith, Bool}
use Rattle.std.proofs.Common.{true, false, ◌&&◌, ◌==◌, List, [], ◌∷◌, ◌++◌, length, drop, Option, Some, None}
use Rattle.std.specs.Prelude.{if◌then◌else◌, Contains}
use Rattle.std.proofs.lemmas.Bool.{eqb-true, cases_Bool}
use Rattle.std.proofs.lemmas.List.{length-append}
use Rattle.std.proofs.lemmas.List.Elements.{Contains-append_left, Contains-append_right}
use Rattle.messages.specs.declared.limits.TheConstants.{MAX_TAGS}
use Rattle.messages.specs.declared.packet.PacketParts.{PacketParts}
use Rattle.messages.specs.Bodies.{length_of, spelled_body}
use Rattle.verify_state.specs.Laws.{ReadsBack}
use Rattle.messages.proofs.BodyLemmas.{length-spelled_body}
use Rattle.messages.specs.declared.piece.Tag.{Tag}
use Rattle.messages.specs.declared.piece.PieceParts.{PieceParts}
use Rattle.messages.specs.declared.places.PlaceSet.{PlaceSet}
use Rattle.messages.specs.Assemblies.{Row}
use Rattle.messages.specs.Tags.{is_tag}
use Rattle.messages.specs.Pieces.{tag_of, places, bytes_at, pieces_of}
use Rattle.messages.specs.Assemblies.{filled_at, unless_filled, fill, after_these, joined_bytes, filled_of, with_piece, completed_body, Look}
use Rattle.messages.specs.Assemblies.{Waits, Gives, look_by_body, has_tag, with_row_replaced, with_row, rows_after_body, rows_after_piece}
use Rattle.messages.specs.PieceLaws.{IsPartOf, has_place, has_places, all_taken, PiecesGiveTheBytes, PiecesGiveThePacket}
use Rattle.messages.proofs.Cutting.{slices, slices_all}
use Rattle.messages.proofs.TagLemmas.{is_tag_self}
use Rattle.messages.proofs.Joining.{or_else, filled_last}
use Rattle.messages.proofs.Assembled.{at_its_place, in_range, gives_body}

-- What is put for a tag is found for it.

found_again : (tag : Tag) (fs : List PlaceSet) (row : Row) (rows more : List Row) (t : Bool) → is_tag row.tag tag ≡ t → (t ≡ false → filled_of tag more ≡ fs)
    → filled_of tag (if t then record { tag = row.tag; filled = fs } ∷ rows else row ∷ more) ≡ fs
found_again tag fs row rows more true e f = rw e refl
found_again tag fs row rows more false e f = rw e (f refl)

in_rest : (t u : Bool) → t ≡ false → (if t then true else u) ≡ true → u ≡ true
in_rest true u e h = absurd cc
in_rest false u e h = h

replaced_found : (tag : Tag) (fs : List PlaceSet) (rows : List Row) → has_tag tag rows ≡ true → filled_of tag (with_row_replaced tag fs rows) ≡ fs
replaced_found tag fs [] h = absurd cc
replaced_found tag fs (row ∷ rows) h = found_again tag fs row rows (with_row_replaced tag fs rows) (is_tag row.tag tag) refl
    (λ e. replaced_found tag fs rows (in_rest (is_tag row.tag tag) (has_tag tag rows) e h))

not_here : (t u : Bool) → (if t then true else u) ≡ false → (t ≡ false) × (u ≡ false)
not_here true u h = absurd cc
not_here false u h = (refl, h)

drop_absent : (tag : Tag) (n : ℕ) (rows : List Row) → has_tag tag rows ≡ false → has_tag tag (drop n rows) ≡ false
drop_absent tag zero rows h = h
drop_absent tag (suc n) [] h = h
drop_absent tag (suc n) (row ∷ rows) h = drop_absent tag n rows (not_here (is_tag row.tag tag) (has_tag tag rows) h).1

drop_before_last : (n : ℕ) (rows : List Row) (row : Row) → n ≤ length rows → drop n (rows ++ row ∷ []) ≡ drop n rows ++ row ∷ []
drop_before_last zero rows row h = refl
drop_before_last (suc n) [] row h = absurd (omega (arith, h))
drop_before_last (suc n) (r ∷ rows) row h = drop_before_last n rows row (omega (arith, h))

last_found : (tag : Tag) (fs : List PlaceSet) (rows : List Row) → has_tag tag rows ≡ false → filled_of tag (rows ++ record { tag = tag; filled = fs } ∷ []) ≡ fs
last_found tag fs [] h = rw (is_tag_self tag) refl
last_found tag fs (row ∷ rows) h = let p = not_here (is_tag row.tag tag) (has_tag tag rows) h in rw p.0 (last_found tag fs rows p.1)

put_found : (tag : Tag) (fs : List PlaceSet) (rows : List Row) (t : Bool) → has_tag tag rows ≡ t → filled_of tag (with_row t tag fs rows) ≡ fs
put_found tag fs rows true h = replaced_found tag fs rows h
put_found tag fs rows false h =
    let row : Row = record { tag = tag; filled = fs } in
    let n : ℕ = length (rows ++ row ∷ []) - MAX_TAGS in
    let small : n ≤ length rows = omega (arith, length-append rows (row ∷ [])) in
    ap (filled_of tag) (drop_before_last n rows row small) ∙ last_found tag fs (drop n rows) (drop_absent tag n rows h)

absent_empty : (tag : Tag) (rows : List Row) → has_tag tag rows ≡ false → filled_of tag rows ≡ []
absent_empty tag [] h = refl
absent_empty tag (row ∷ rows) h = let p = not_here (is_tag row.tag tag) (has_tag tag rows) h in rw p.0 (absent_empty tag rows p.1)

-- Which places are filled.

abbrev pub expected : List ℕ → Bool → ℕ → Option (List ℕ)
expected b t at = if t then Some (bytes_at b at) else None

abbrev pub AreThese : List ℕ → List PieceParts → List PlaceSet → Type 0
AreThese b qs fs = (at : ℕ) → filled_at fs at ≡ expected b (has_place qs at) at

-- The place of the new piece, and another one.
newly : (b : List ℕ) (place at : ℕ) (here t : Bool) → (here ≡ true → place ≡ at)
    → or_else (expected b t at) (if here then Some (bytes_at b place) else None) ≡ expected b (if here then true else t) at
newly b place at true true is = refl
newly b place at true false is = ap (λ n. Some (bytes_at b n)) (is refl)
newly b place at false true is = refl
newly b place at false false is = refl

-- A place that is filled already.
already : (b : List ℕ) (place at : ℕ) (x : List ℕ) (here t u : Bool) → (here ≡ true → place ≡ at) → (place ≡ at → u ≡ t) → expected b u place ≡ Some x
    → expected b t at ≡ expected b (if here then true else t) at
already b place at x true t true is same h = rw (sym (same (is refl))) refl
already b place at x true t false is same h = absurd cc
already b place at x false t u is same h = refl

fill_case : (b : List ℕ) (q : PieceParts) → q.bytes ≡ bytes_at b q.at → (qs : List PieceParts) (fs : List PlaceSet) → AreThese b qs fs → (o : Option (List ℕ))
    → filled_at fs q.at ≡ o → AreThese b (q ∷ qs) (unless_filled o q fs)
fill_case b q is qs fs are None e at =
    filled_last fs (record { at = q.at; bytes = q.bytes }) at
    ∙ ap (λ r. or_else r (if q.at == at then Some q.bytes else None)) (are at)
    ∙ ap (λ (x : List ℕ). or_else (expected b (has_place qs at) at) (if q.at == at then Some x else None)) is
    ∙ newly b q.at at (q.at == at) (has_place qs at) (eqb-true q.at at)
fill_case b q is qs fs are (Some x) e at =
    are at ∙ already b q.at at x (q.at == at) (has_place qs at) (has_place qs q.at) (eqb-true q.at at) (ap (has_place qs)) (sym (are q.at) ∙ e)

filled_by : (b : List ℕ) (q : PieceParts) → q.bytes ≡ bytes_at b q.at → (qs : List PieceParts) (fs : List PlaceSet) → AreThese b qs fs
    → AreThese b (q ∷ qs) (fill q fs)
filled_by b q is qs fs are = fill_case b q is qs fs are (filled_at fs q.at) refl

both_parts : (t u : Bool) (x y : List ℕ) → after_these (if t then Some x else None) (if u then Some y else None) ≡ (if t && u then Some (x ++ y) else None)
both_parts true true x y = refl
both_parts true false x y = refl
both_parts false u x y = refl

joined_these : (b : List ℕ) (qs : List PieceParts) (fs : List PlaceSet) → AreThese b qs fs → (ats : List ℕ)
    → joined_bytes fs ats ≡ (if has_places qs ats then Some (slices b ats) else None)
joined_these b qs fs are [] = refl
joined_these b qs fs are (at ∷ ats) =
    ap (λ r. after_these r (joined_bytes fs ats)) (are at)
    ∙ ap (λ r. after_these (expected b (has_place qs at) at) r) (joined_these b qs fs are ats)
    ∙ both_parts (has_place qs at) (has_places qs ats) (bytes_at b at) (slices b ats)

-- Fewer pieces have fewer places.

grows : (c t : Bool) → t ≡ true → (if c then true else t) ≡ true
grows true t h = refl
grows false t h = h

two : (t u : Bool) → (t && u) ≡ true → (t ≡ true) × (u ≡ true)
two true true h = (refl, refl)
two true false h = absurd cc
two false u h = absurd cc

one_piece_more : (q : PieceParts) (qs : List PieceParts) (ats : List ℕ) → has_places qs ats ≡ true → has_places (q ∷ qs) ats ≡ true
one_piece_more q qs [] h = refl
one_piece_more q qs (at ∷ ats) h =
    let p = two (has_place qs at) (has_places qs ats) h in rw (grows (q.at == at) (has_place qs at) p.0, one_piece_more q qs ats p.1) refl

one_piece_less : (q : PieceParts) (qs : List PieceParts) (ats : List ℕ) → has_places (q ∷ qs) ats ≡ false → has_places qs ats ≡ false
one_piece_less q qs ats h = elim (cases_Bool (has_places qs ats)) [ inl t ↦ let more = one_piece_more q qs ats t in absurd cc | inr f ↦ f ]

-- What has come together after the pieces.

filled_for : (tag : Tag) (b : List ℕ) (q : PieceParts) → IsPartOf tag b q → (qs : List PieceParts) (rows : List Row) → AreThese b qs (filled_of tag rows)
    → AreThese b (q ∷ qs) (with_piece rows q)
filled_for tag b q part qs rows are =
    filled_by b q part.bytes_are qs (filled_of q.tag rows) (subst (λ (t : Tag). AreThese b qs (filled_of t rows)) (sym part.tag_is) are)

now_completed : (tag : Tag) (b : List ℕ) (q : PieceParts) → IsPartOf tag b q → (qs : List PieceParts) (rows : List Row) → AreThese b qs (filled_of tag rows)
    → completed_body rows q ≡ (if has_places (q ∷ qs) (places tag.length) then Some (slices b (places tag.length)) else None)
now_completed tag b q part qs rows are =
    ap (λ (t : Tag). joined_bytes (with_piece rows q) (places t.length)) part.tag_is
    ∙ joined_these b (q ∷ qs) (with_piece rows q) (filled_for tag b q part qs rows are) (places tag.length)

none_of : (t : Bool) (x : List ℕ) → t ≡ false → ◌≡◌ {A = Option (List ℕ)} (if t then Some x else None) None
none_of true x h = absurd cc
none_of false x h = refl

taken_found : (tag : Tag) (b : List ℕ) (q : PieceParts) → IsPartOf tag b q → (qs : List PieceParts) (rows : List Row) → AreThese b qs (filled_of tag rows)
    → has_places (q ∷ qs) (places tag.length) ≡ false → AreThese b (q ∷ qs) (filled_of tag (rows_after_piece rows q))
taken_found tag b q part qs rows are lacks =
    let none = now_completed tag b q part qs rows are ∙ none_of (has_places (q ∷ qs) (places tag.length)) (slices b (places tag.length)) lacks in
    let left : rows_after_piece rows q ≡ with_row (has_tag q.tag rows) q.tag (with_piece rows q) rows =
    ap (λ o. rows_after_body o q (with_piece rows q) rows) none in
    let here : filled_of q.tag (rows_after_piece rows q) ≡ with_piece rows q =
    ap (filled_of q.tag) left ∙ put_found q.tag (with_piece rows q) rows (has_tag q.tag rows) refl in
    let found : filled_of tag (rows_after_piece rows q) ≡ with_piece rows q =
    ap (λ (t : Tag). filled_of t (rows_after_piece rows q)) (sym part.tag_is) ∙ here in
    subst (AreThese b (q ∷ qs)) (sym found) (filled_for tag b q part qs rows are)

first_in : (q : PieceParts) (qs : List PieceParts) → Contains (q ∷ qs) q
first_in q qs = Contains-append_left (q ∷ []) qs q (zero, omega arith, refl)

come_together : (tag : Tag) (b : List ℕ) (rows : List Row) → has_tag tag rows ≡ false → (qs : List PieceParts)
    → ((x : PieceParts) → Contains qs x → IsPartOf tag b x)
    → has_places qs (places tag.length) ≡ false → AreThese b qs (filled_of tag (all_taken rows qs))
come_together tag b rows absent [] all lacks = λ at. ap (λ fs. filled_at fs at) (absent_empty tag rows absent)
come_together tag b rows absent (q ∷ qs) all lacks =
    let before = come_together tag b rows absent qs (λ x h. all x (Contains-append_right (q ∷ []) qs x h)) (one_piece_less q qs (places tag.length) lacks) in
    taken_found tag b q (all q (first_in q qs)) qs (all_taken rows qs) before lacks

given_or_waits : (q : PieceParts) (b : List ℕ) (t : Bool) → look_by_body q (if t then Some b else None) ≡ (if t then look_by_body q (Some b) else Waits)
given_or_waits q b true = refl
given_or_waits q b false = refl

the_bytes : (b : List ℕ) (len : ℕ) → length b ≡ len → slices b (places len) ≡ b
the_bytes b len e = ap (λ (n : ℕ). slices b (places n)) (sym e) ∙ slices_all b

pub pieces_give_the_bytes : PiecesGiveTheBytes
pieces_give_the_bytes tag b len rows absent qs all lacks q part =
    let before = come_together tag b rows absent qs all lacks in
    ap (look_by_body q) (now_completed tag b q part qs (all_taken rows qs) before)
    ∙ ap (λ (x : List ℕ). look_by_body q (if has_places (q ∷ qs) (places tag.length) then Some x else None)) (the_bytes b tag.length len)
    ∙ given_or_waits q b (has_places (q ∷ qs) (places tag.length))

part_of : (p : PacketParts) (q : PieceParts) → Contains (pieces_of p) q → IsPartOf (tag_of p.body) (spelled_body p.body) q
part_of p q h =
    let at = at_its_place p q h in
    record { tag_is = sym (ap (λ (x : PieceParts). x.tag) at); bytes_are = sym (ap (λ (x : PieceParts). x.bytes) at) }

pub pieces_give_the_packet : ReadsBack → PiecesGiveThePacket
pieces_give_the_packet law p packet cut rows absent qs all lacks q is =
    let given : look_by_body q (Some (spelled_body p.body)) ≡ Gives p =
    subst (λ (x : PieceParts). look_by_body x (Some (spelled_body p.body)) ≡ Gives p) (at_its_place p q is) (gives_body law p (in_range p packet) q.at) in
    pieces_give_the_bytes (tag_of p.body) (spelled_body p.body) (length-spelled_body p.body) rows absent qs (λ x h. part_of p x (all x h)) lacks q
    (part_of p q is)
    ∙ ap (λ (x : Look). if has_places (q ∷ qs) (places (length_of p.body)) then x else Waits) given
