-- What comes together of pieces of sent packets.
use Rattle.std.proofs.Common.{◌≡◌, refl, sym, ◌∙◌, ap, subst, ◌⊎◌, inl, inr, ℕ, zero, suc, ◌-◌, Bool}
use Rattle.std.proofs.Common.{true, false, ◌&&◌, ◌==◌, List, [], ◌∷◌, ◌++◌, length, drop, Option, Some, None}
use Rattle.std.specs.Prelude.{if◌then◌else◌, Contains}
use Rattle.std.proofs.lemmas.Bool.{eqb-true, and_parts}
use Rattle.messages.specs.declared.limits.TheConstants.{MAX_TAGS}
use Rattle.messages.specs.declared.body.Body.{Body}
use Rattle.messages.specs.declared.packet.PacketParts.{PacketParts}
use Rattle.messages.specs.Ranges.{is_body, KeepsState}
use Rattle.messages.specs.Nodes.{is_node}
use Rattle.messages.specs.Bodies.{length_of, spelled_body, body_at}
use Rattle.messages.specs.Laws.{IsPacket}
use Rattle.verify_state.specs.Laws.{ReadsBack}
use Rattle.fc_base.proofs.ListLemmas.{of_map}
use Rattle.messages.proofs.FitLemmas.{body_at-spelled}
use Rattle.messages.proofs.BodyLemmas.{length-spelled_body}
use Rattle.messages.specs.declared.piece.Tag.{Tag}
use Rattle.messages.specs.declared.piece.PieceParts.{PieceParts}
use Rattle.messages.specs.Pieces.{is_cut, tag_in, tag_of, places, bytes_at, piece_at, pieces_of}
use Rattle.messages.specs.declared.places.PlaceSet.{PlaceSet}
use Rattle.messages.specs.Assemblies.{Row}
use Rattle.messages.specs.Tags.{is_tag}
use Rattle.messages.specs.Assemblies.{filled_at, unless_filled, joined_bytes, filled_of, with_piece, completed_body, Look, Waits, Gives, NoPacket, packet_of}
use Rattle.messages.specs.Assemblies.{of_tag, look_by_body, look_at_piece, without_tag, has_tag, with_row_replaced, with_row, rows_after_body, rows_after_piece}
use Rattle.messages.specs.PieceLaws.{OneBodyOfEachTag, ArePackets, WasCut, AreCut, WasSent, OnlySentComesTogether, GivesThis, OnlyWholeBodiesAreGiven}
use Rattle.messages.proofs.Cutting.{slices, slices_all, AreOf, joined_slices}
use Rattle.messages.proofs.TagLemmas.{is_tag_self, same_tag}

-- The piece is the packet's at its place.
pub at_its_place : (p : PacketParts) (q : PieceParts) → Contains (pieces_of p) q → piece_at p q.at ≡ q
at_its_place p q h = let s = of_map (piece_at p) (places (length_of p.body)) q h in let e : piece_at p s.0 ≡ q =
    s.2 in let at : s.0 ≡ q.at = ap (λ (x : PieceParts). x.at) e in subst (λ n. piece_at p n ≡ q) at e

-- What is filled is of sent packets.

found : (sent : List PacketParts) (tag : Tag) (at : ℕ) (x : List ℕ) (f : PlaceSet) (t : Bool) (rest : Option (List ℕ)) → (t ≡ true → f.at ≡ at)
    → WasCut sent tag f.at f.bytes → (rest ≡ Some x → WasCut sent tag at x) → (if t then Some f.bytes else rest) ≡ Some x → WasCut sent tag at x
found sent tag at x f true rest is w more h = let e : f.bytes ≡ x = cc in subst (λ n. WasCut sent tag n x) (is refl) (subst (λ b. WasCut sent tag f.at b) e w)
found sent tag at x f false rest is w more h = more h

pub filled_was_cut : (sent : List PacketParts) (tag : Tag) (fs : List PlaceSet) → AreCut sent tag fs → (at : ℕ) (x : List ℕ) → filled_at fs at ≡ Some x
    → WasCut sent tag at x
filled_was_cut sent tag [] a at x h = absurd cc
filled_was_cut sent tag (f ∷ fs) a at x h = found sent tag at x f (f.at == at) (filled_at fs at) (eqb-true f.at at) a.0 (filled_was_cut sent tag fs a.1 at x) h

one_more : (sent : List PacketParts) (tag : Tag) (fs : List PlaceSet) (f : PlaceSet) → AreCut sent tag fs → WasCut sent tag f.at f.bytes
    → AreCut sent tag (fs ++ f ∷ [])
one_more sent tag [] f a w = (w, tt)
one_more sent tag (g ∷ fs) f a w = (a.0, one_more sent tag fs f a.1 w)

filled_more : (sent : List PacketParts) (tag : Tag) (q : PieceParts) (o : Option (List ℕ)) (fs : List PlaceSet) → AreCut sent tag fs
    → WasCut sent tag q.at q.bytes → AreCut sent tag (unless_filled o q fs)
filled_more sent tag q None fs a w = one_more sent tag fs (record { at = q.at; bytes = q.bytes }) a w
filled_more sent tag q (Some b) fs a w = a

row_or_rest : (sent : List PacketParts) (tag : Tag) (row : Row) (t : Bool) (rest : List PlaceSet) → (t ≡ true → row.tag ≡ tag) → AreCut sent row.tag row.filled
    → AreCut sent tag rest → AreCut sent tag (if t then row.filled else rest)
row_or_rest sent tag row true rest is a b = subst (λ x. AreCut sent x row.filled) (is refl) a
row_or_rest sent tag row false rest is a b = b

pub filled_of_cut : (sent : List PacketParts) (tag : Tag) (rows : List Row) → WasSent sent rows → AreCut sent tag (filled_of tag rows)
filled_of_cut sent tag [] w = tt
filled_of_cut sent tag (row ∷ rows) w =
    row_or_rest sent tag row (is_tag row.tag tag) (filled_of tag rows) (same_tag row.tag tag) w.0 (filled_of_cut sent tag rows w.1)

-- Each change of the rows leaves them so.

sent_or : (sent : List PacketParts) (t : Bool) (xs ys : List Row) → WasSent sent xs → WasSent sent ys → WasSent sent (if t then xs else ys)
sent_or sent true xs ys v w = v
sent_or sent false xs ys v w = w

without_sent : (sent : List PacketParts) (tag : Tag) (rows : List Row) → WasSent sent rows → WasSent sent (without_tag tag rows)
without_sent sent tag [] w = tt
without_sent sent tag (row ∷ rows) w = sent_or sent (is_tag row.tag tag) rows (row ∷ without_tag tag rows) w.1 (w.0, without_sent sent tag rows w.1)

replaced_here : (sent : List PacketParts) (tag : Tag) (fs : List PlaceSet) (row : Row) (rows more : List Row) (t : Bool) → (t ≡ true → row.tag ≡ tag)
    → AreCut sent tag fs → AreCut sent row.tag row.filled → WasSent sent rows → WasSent sent more
    → WasSent sent (if t then record { tag = row.tag; filled = fs } ∷ rows else row ∷ more)
replaced_here sent tag fs row rows more true is a b w v = (subst (λ x. AreCut sent x fs) (sym (is refl)) a, w)
replaced_here sent tag fs row rows more false is a b w v = (b, v)

replaced_sent : (sent : List PacketParts) (tag : Tag) (fs : List PlaceSet) (rows : List Row) → AreCut sent tag fs → WasSent sent rows
    → WasSent sent (with_row_replaced tag fs rows)
replaced_sent sent tag fs [] a w = tt
replaced_sent sent tag fs (row ∷ rows) a w = replaced_here sent tag fs row rows (with_row_replaced tag fs rows) (is_tag row.tag tag)
    (same_tag row.tag tag) a w.0 w.1 (replaced_sent sent tag fs rows a w.1)

row_more : (sent : List PacketParts) (row : Row) (rows : List Row) → AreCut sent row.tag row.filled → WasSent sent rows → WasSent sent (rows ++ row ∷ [])
row_more sent row [] a w = (a, tt)
row_more sent row (r ∷ rows) a w = (w.0, row_more sent row rows a w.1)

dropped_sent : (sent : List PacketParts) (n : ℕ) (rows : List Row) → WasSent sent rows → WasSent sent (drop n rows)
dropped_sent sent zero rows w = w
dropped_sent sent (suc n) [] w = tt
dropped_sent sent (suc n) (row ∷ rows) w = dropped_sent sent n rows w.1

put_sent : (sent : List PacketParts) (t : Bool) (tag : Tag) (fs : List PlaceSet) (rows : List Row) → AreCut sent tag fs → WasSent sent rows
    → WasSent sent (with_row t tag fs rows)
put_sent sent true tag fs rows a w = replaced_sent sent tag fs rows a w
put_sent sent false tag fs rows a w =
    let row : Row = record { tag = tag; filled = fs } in
    dropped_sent sent (length (rows ++ row ∷ []) - MAX_TAGS) (rows ++ row ∷ []) (row_more sent row rows a w)

taken_at_sent : (sent : List PacketParts) (o : Option (List ℕ)) (q : PieceParts) (fs : List PlaceSet) (rows : List Row) → AreCut sent q.tag fs → WasSent sent rows
    → WasSent sent (rows_after_body o q fs rows)
taken_at_sent sent None q fs rows a w = put_sent sent (has_tag q.tag rows) q.tag fs rows a w
taken_at_sent sent (Some b) q fs rows a w = without_sent sent q.tag rows w

with_piece_cut : (sent : List PacketParts) (rows : List Row) (q : PieceParts) → WasSent sent rows → WasCut sent q.tag q.at q.bytes
    → AreCut sent q.tag (with_piece rows q)
with_piece_cut sent rows q w c = filled_more sent q.tag q (filled_at (filled_of q.tag rows) q.at) (filled_of q.tag rows) (filled_of_cut sent q.tag rows w) c

pub taken_sent : (sent : List PacketParts) (rows : List Row) (q : PieceParts) → WasSent sent rows → WasCut sent q.tag q.at q.bytes
    → WasSent sent (rows_after_piece rows q)
taken_sent sent rows q w c = taken_at_sent sent (completed_body rows q) q (with_piece rows q) rows (with_piece_cut sent rows q w c) w

-- A completed body is that of the one packet of its tag.

pub record InRange (p : PacketParts) : Type 0 where
  pub body : is_body p.body ≡ true
  pub keeps : KeepsState p.body

pub in_range : (p : PacketParts) → IsPacket p → InRange p
in_range p h = record { body = (and_parts (is_node p.from && is_node p.to) (is_body p.body) h.in_range).1; keeps = h.state }

are_of : (sent : List PacketParts) → OneBodyOfEachTag sent → (p : PacketParts) → Contains sent p → is_cut p.body ≡ true → (fs : List PlaceSet)
    → AreCut sent (tag_of p.body) fs → AreOf (spelled_body p.body) fs
are_of sent one p s cut fs a at x h =
    let w = filled_was_cut sent (tag_of p.body) fs a at x h in
    let same : w.packet.body ≡ p.body = one w.packet p w.was_sent s w.cut cut w.tag_is in
    ap (λ (b : Body). bytes_at (spelled_body b) at) (sym same) ∙ w.bytes_are

pub whole_body : (b : Body) (fs : List PlaceSet) (x : List ℕ) → AreOf (spelled_body b) fs → joined_bytes fs (places (length_of b)) ≡ Some x → spelled_body b ≡ x
whole_body b fs x are h =
    let len : length (spelled_body b) ≡ length_of b = length-spelled_body b in
    sym (slices_all (spelled_body b)) ∙ ap (λ (n : ℕ). slices (spelled_body b) (places n)) len
    ∙ joined_slices (spelled_body b) fs are (places (length_of b)) x h

gives_tagged : (q : PieceParts) (b : Body) (t : Bool) (p : Look) → t ≡ true → (if t then p else NoPacket) ≡ p
gives_tagged q b true p h = refl
gives_tagged q b false p h = absurd cc

pub gives_body : ReadsBack → (p : PacketParts) → InRange p → (at : ℕ) → look_by_body (piece_at p at) (Some (spelled_body p.body)) ≡ Gives p
gives_body law p h at =
    ap (of_tag (piece_at p at)) (body_at-spelled law p.body h.body h.keeps)
    ∙ gives_tagged (piece_at p at) p.body (is_tag (tag_of p.body) (tag_of p.body)) (Gives p) (is_tag_self (tag_of p.body))

told : ReadsBack → (p : PacketParts) → InRange p → (at : ℕ) (fs : List PlaceSet) → AreOf (spelled_body p.body) fs → (o : Option (List ℕ))
    → joined_bytes fs (places (length_of p.body)) ≡ o
    → (look_by_body (piece_at p at) o ≡ Waits) ⊎ (look_by_body (piece_at p at) o ≡ Gives p)
told law p h at fs are None e = inl refl
told law p h at fs are (Some x) e =
    inr (ap (λ (b : List ℕ). look_by_body (piece_at p at) (Some b)) (sym (whole_body p.body fs x are e)) ∙ gives_body law p h at)

of_place : ReadsBack → (sent : List PacketParts) → ArePackets sent → OneBodyOfEachTag sent → (rows : List Row) → WasSent sent rows
    → (p : PacketParts) → Contains sent p → is_cut p.body ≡ true → (at : ℕ)
    → ((look_at_piece rows (piece_at p at) ≡ Waits) ⊎ (look_at_piece rows (piece_at p at) ≡ Gives p)) × WasSent sent (rows_after_piece rows (piece_at p at))
of_place law sent packets one rows w p s cut at =
    let c : WasCut sent (tag_of p.body) at (bytes_at (spelled_body p.body) at) =
    record { packet = p; was_sent = s; cut = cut; tag_is = refl; bytes_are = refl } in
    let fs = with_piece rows (piece_at p at) in
    let are = are_of sent one p s cut fs (with_piece_cut sent rows (piece_at p at) w c) in
    (told law p (in_range p (packets p s)) at fs are (completed_body rows (piece_at p at)) refl, taken_sent sent rows (piece_at p at) w c)

pub only_sent_comes_together : ReadsBack → OnlySentComesTogether
only_sent_comes_together law sent packets one rows w p s q is =
    subst (λ (x : PieceParts). ((look_at_piece rows x ≡ Waits) ⊎ (look_at_piece rows x ≡ Gives p)) × WasSent sent (rows_after_piece rows x))
    (at_its_place p q is.1) (of_place law sent packets one rows w p s is.0 q.at)

-- What is given, and when.

is_tag_of : (a b : Tag) (t : Bool) → is_tag a b ≡ t → a ≡ b → t ≡ true
is_tag_of a b t e same = sym e ∙ ap (λ (x : Tag). is_tag a x) (sym same) ∙ is_tag_self a

record IsGiven (q : PieceParts) (o : Option Body) (p : PacketParts) : Type 0 where
  pub body : o ≡ Some p.body
  pub tag_is : tag_in p.body q.tag.length ≡ q.tag
  pub packet : p ≡ packet_of q p.body

gives_same : (x y : PacketParts) → Gives x ≡ Gives y → x ≡ y
gives_same x y e = cc

given_by : (q : PieceParts) (b : Body) (p : PacketParts) (t : Bool) → is_tag (tag_in b q.tag.length) q.tag ≡ t
    → (if t then Gives (packet_of q b) else NoPacket) ≡ Gives p → IsGiven q (Some b) p
given_by q b p true e h =
    subst (λ (x : PacketParts). IsGiven q (Some b) x) (gives_same (packet_of q b) p h)
    (record { body = refl; tag_is = same_tag (tag_in b q.tag.length) q.tag e; packet = refl })
given_by q b p false e h = absurd cc

given_of : (q : PieceParts) (o : Option Body) (p : PacketParts) → of_tag q o ≡ Gives p → IsGiven q o p
given_of q None p h = absurd cc
given_of q (Some b) p h = given_by q b p (is_tag (tag_in b q.tag.length) q.tag) refl h

given_at : (rows : List Row) (q : PieceParts) (p : PacketParts) (o : Option (List ℕ)) → completed_body rows q ≡ o → look_by_body q o ≡ Gives p
    → GivesThis rows q p
given_at rows q p None e h = absurd cc
given_at rows q p (Some bytes) e h =
    let g = given_of q (body_at q.tag.whole bytes) p h in
    record { bytes = bytes; whole = e; body = g.body; tag_is = g.tag_is; packet = g.packet }

gives_by : (q : PieceParts) (p : PacketParts) (t : Bool) → t ≡ true → p ≡ packet_of q p.body → (if t then Gives (packet_of q p.body) else NoPacket) ≡ Gives p
gives_by q p true e same = ap (λ (x : PacketParts). Gives x) (sym same)
gives_by q p false e same = absurd cc

gives_it : (rows : List Row) (q : PieceParts) (p : PacketParts) → GivesThis rows q p → look_at_piece rows q ≡ Gives p
gives_it rows q p g =
    ap (look_by_body q) g.whole ∙ ap (of_tag q) g.body
    ∙ gives_by q p (is_tag (tag_in p.body q.tag.length) q.tag)
    (is_tag_of (tag_in p.body q.tag.length) q.tag (is_tag (tag_in p.body q.tag.length) q.tag) refl g.tag_is) g.packet

pub only_whole_bodies : OnlyWholeBodiesAreGiven
only_whole_bodies rows q p = (given_at rows q p (completed_body rows q) refl, gives_it rows q p)
