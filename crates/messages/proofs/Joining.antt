-- Putting the filled places of a body together.
use Rattle.std.proofs.Common.{◌≡◌, refl, sym, ◌∙◌, ap, inl, inr, ℕ, zero, suc, ◌+◌, ◌<◌, ◌≤◌, arith, Bool}
use Rattle.std.proofs.Common.{true, false, ◌==◌, Option, Some, None, List, [], ◌∷◌, ◌++◌, length, append_assoc}
use Rattle.std.specs.Prelude.{if◌then◌else◌, is_some, nat_le, ◌&&◌, Err}
use Rattle.fc_base.specs.declared.fault.Fault.TheVariants.{NoMemory}
use Rattle.std.proofs.lemmas.Bool.{eqb-true, cases_Bool, and_parts, leb-true}
use Rattle.messages.specs.declared.limits.TheConstants.{CHUNK_LIMIT, MAX_BODY}
use Rattle.messages.specs.declared.piece.PieceParts.{PieceParts}
use Rattle.messages.specs.declared.places.PlaceSet.{PlaceSet}
use Rattle.messages.specs.Pieces.{tag_in, places_from, places}
use Rattle.messages.specs.Assemblies.{filled_at, unless_filled, fill, after_these, joined_bytes, Gives, NoPacket, packet_of, of_tag, look_by_body, LookAnswers}
use Rattle.messages.specs.declared.body.Body.{Body}
use Rattle.messages.specs.Nodes.{is_node}
use Rattle.messages.specs.Ranges.{is_run}
use Rattle.messages.specs.Bodies.{body_at}
use Rattle.messages.specs.PieceRanges.{is_long_kind, is_number, is_owner, is_cut_length, is_tag_in_range, is_place, is_piece}
use Rattle.messages.specs.Tags.{is_tag}
use Rattle.messages.proofs.FramesOfLemmas.{one_place}

-- Once the piece is there too.

abbrev pub or_else : Option (List ℕ) → Option (List ℕ) → Option (List ℕ)
or_else (Some x) y = Some x
or_else None y = y

one_of : (t : Bool) (x : List ℕ) (rest last : Option (List ℕ)) → (if t then Some x else or_else rest last) ≡ or_else (if t then Some x else rest) last
one_of true x rest last = refl
one_of false x rest last = refl

pub filled_last : (fs : List PlaceSet) (f : PlaceSet) (at : ℕ) → filled_at (fs ++ f ∷ []) at ≡ or_else (filled_at fs at) (if f.at == at then Some f.bytes else None)
filled_last [] f at = refl
filled_last (g ∷ fs) f at = ap (λ r. if g.at == at then Some g.bytes else r) (filled_last fs f at)
    ∙ one_of (g.at == at) g.bytes (filled_at fs at) (if f.at == at then Some f.bytes else None)

some_stays : (b : List ℕ) (o last : Option (List ℕ)) → o ≡ Some b → or_else o last ≡ Some b
some_stays b o last e = rw e refl

none_goes : (o last : Option (List ℕ)) → o ≡ None → or_else o last ≡ last
none_goes o last e = rw e refl

with_it : (q : PieceParts) (fs : List PlaceSet) (at : ℕ) (o : Option (List ℕ)) → filled_at fs q.at ≡ o → (q.at ≡ at → filled_at fs at ≡ o)
    → filled_at (unless_filled o q fs) at ≡ or_else (filled_at fs at) (if q.at == at then Some q.bytes else None)
with_it q fs at None e same = filled_last fs (record { at = q.at; bytes = q.bytes }) at
with_it q fs at (Some b) e same = by_place (q.at == at) refl
  where
    found : (x : Option (List ℕ)) (last : Option (List ℕ)) → x ≡ Some b → x ≡ or_else x last
    found x last h = rw h refl

    not_it : (x : Option (List ℕ)) → x ≡ or_else x None
    not_it None = refl
    not_it (Some y) = refl

    by_place : (t : Bool) → (q.at == at) ≡ t → filled_at fs at ≡ or_else (filled_at fs at) (if t then Some q.bytes else None)
    by_place true h = found (filled_at fs at) (Some q.bytes) (same (eqb-true q.at at h))
    by_place false h = not_it (filled_at fs at)

pub with_the_piece : (q : PieceParts) (fs : List PlaceSet) (at : ℕ)
    → filled_at (fill q fs) at ≡ or_else (filled_at fs at) (if q.at == at then Some q.bytes else None)
with_the_piece q fs at = with_it q fs at (filled_at fs q.at) refl (λ e. ap (filled_at fs) (sym e))

-- Whether all are filled: the places that are still to be looked at decide.
pub record IsLooking (fs : List PlaceSet) (len at : ℕ) : Type 0 where
  pub left : ℕ
  pub enough : len ≤ at + left
  pub same : is_some (joined_bytes fs (places_from left at len)) ≡ is_some (joined_bytes fs (places len))

pub look_none : (fs : List PlaceSet) (len : ℕ) → IsLooking fs len 0
look_none fs len = record { left = len; enough = omega arith; same = refl }

behind_one : (x : List ℕ) (o : Option (List ℕ)) → is_some (after_these (Some x) o) ≡ is_some o
behind_one x None = refl
behind_one x (Some y) = refl

look_step : (fs : List PlaceSet) (len at left : ℕ) (x : List ℕ) → at < len → len ≤ at + left
    → is_some (joined_bytes fs (places_from left at len)) ≡ is_some (joined_bytes fs (places len))
    → filled_at fs at ≡ Some x → IsLooking fs len (at + CHUNK_LIMIT)
look_step fs len at zero x lt enough same e = absurd (omega (arith, lt, enough))
look_step fs len at (suc left) x lt enough same e = record {
  left = left;
  enough = omega (arith, enough);
  same =
      sym (behind_one x (joined_bytes fs (places_from left (at + CHUNK_LIMIT) len)))
      ∙ ap (λ (o : Option (List ℕ)). is_some (after_these o (joined_bytes fs (places_from left (at + CHUNK_LIMIT) len)))) (sym e)
      ∙ ap (λ (ats : List ℕ). is_some (joined_bytes fs ats)) (sym (one_place left at len lt))
      ∙ same;
}

pub look_one : (fs : List PlaceSet) (len at : ℕ) (x : List ℕ) → IsLooking fs len at → at < len → filled_at fs at ≡ Some x → IsLooking fs len (at + CHUNK_LIMIT)
look_one fs len at x so_far lt e = look_step fs len at so_far.left x lt so_far.enough so_far.same e

lacks_here : (fs : List PlaceSet) (len at left : ℕ) → at < len → len ≤ at + left → filled_at fs at ≡ None → joined_bytes fs (places_from left at len) ≡ None
lacks_here fs len at zero lt enough e = absurd (omega (arith, lt, enough))
lacks_here fs len at (suc left) lt enough e =
    ap (joined_bytes fs) (one_place left at len lt) ∙ ap (λ (o : Option (List ℕ)). after_these o (joined_bytes fs (places_from left (at + CHUNK_LIMIT) len))) e

-- The bytes so far, and those that are still to come.
pub record IsJoining (fs : List PlaceSet) (len at : ℕ) (out : List ℕ) : Type 0 where
  pub left : ℕ
  pub enough : len ≤ at + left
  pub same : after_these (Some out) (joined_bytes fs (places_from left at len)) ≡ joined_bytes fs (places len)

after_both : (out x : List ℕ) (o : Option (List ℕ)) → after_these (Some (out ++ x)) o ≡ after_these (Some out) (after_these (Some x) o)
after_both out x None = refl
after_both out x (Some y) = ap (λ (z : List ℕ). Some z) (append_assoc out x y)

join_step : (fs : List PlaceSet) (len at left : ℕ) (out x : List ℕ) → at < len → len ≤ at + left
    → after_these (Some out) (joined_bytes fs (places_from left at len)) ≡ joined_bytes fs (places len)
    → filled_at fs at ≡ Some x → IsJoining fs len (at + CHUNK_LIMIT) (out ++ x)
join_step fs len at zero out x lt enough same e = absurd (omega (arith, lt, enough))
join_step fs len at (suc left) out x lt enough same e = record {
  left = left;
  enough = omega (arith, enough);
  same =
      after_both out x (joined_bytes fs (places_from left (at + CHUNK_LIMIT) len))
      ∙ ap (λ (o : Option (List ℕ)). after_these (Some out) (after_these o (joined_bytes fs (places_from left (at + CHUNK_LIMIT) len)))) (sym e)
      ∙ ap (λ (ats : List ℕ). after_these (Some out) (joined_bytes fs ats)) (sym (one_place left at len lt))
      ∙ same;
}

pub join_one : (fs : List PlaceSet) (len at : ℕ) (out x new : List ℕ) → IsJoining fs len at out → at < len → filled_at fs at ≡ Some x → new ≡ out ++ x
    → IsJoining fs len (at + CHUNK_LIMIT) new
join_one fs len at out x new so_far lt e is = rw is (join_step fs len at so_far.left out x lt so_far.enough so_far.same e)

-- What a piece keeps.

pub piece_length : (q : PieceParts) → is_piece q ≡ true → q.tag.length ≤ MAX_BODY
piece_length q h =
    let place = and_parts (is_node q.from && is_node q.to && is_tag_in_range q.tag) (is_place q.tag.length q.at (length q.bytes)) h in
    let tag = and_parts (is_node q.from && is_node q.to) (is_tag_in_range q.tag) place.0 in
    let len = and_parts (is_long_kind q.tag.whole && is_run q.tag.run && is_number q.tag.whole q.tag.number && is_owner q.tag.whole q.tag.server q.tag.job)
    (is_cut_length q.tag.length) tag.1 in
    leb-true q.tag.length MAX_BODY (and_parts (nat_le (CHUNK_LIMIT + 1) q.tag.length) (nat_le q.tag.length MAX_BODY) len.1).1

pub piece_ends : (q : PieceParts) → is_piece q ≡ true → (is_node q.from ≡ true) × (is_node q.to ≡ true)
piece_ends q h =
    let place = and_parts (is_node q.from && is_node q.to && is_tag_in_range q.tag) (is_place q.tag.length q.at (length q.bytes)) h in
    and_parts (is_node q.from) (is_node q.to) (and_parts (is_node q.from && is_node q.to) (is_tag_in_range q.tag) place.0).0

-- What looking answers.

no_memory_by : (q : PieceParts) (b : Body) (t : Bool) → LookAnswers (Err NoMemory) (if t then Gives (packet_of q b) else NoPacket)
no_memory_by q b true = refl
no_memory_by q b false = inr refl

no_memory_of : (q : PieceParts) (o : Option Body) → LookAnswers (Err NoMemory) (of_tag q o)
no_memory_of q None = inr refl
no_memory_of q (Some b) = no_memory_by q b (is_tag (tag_in b q.tag.length) q.tag)

pub no_memory : (q : PieceParts) (o : Option (List ℕ)) → is_some o ≡ true → LookAnswers (Err NoMemory) (look_by_body q o)
no_memory q None e = absurd cc
no_memory q (Some bytes) e = no_memory_of q (body_at q.tag.whole bytes)

-- The bytes at a place, as they are looked up.

pub here_some : (q : PieceParts) (fs : List PlaceSet) (at : ℕ) (b : List ℕ) → filled_at fs at ≡ Some b → filled_at (fill q fs) at ≡ Some b
here_some q fs at b e = with_the_piece q fs at ∙ some_stays b (filled_at fs at) (if q.at == at then Some q.bytes else None) e

pub here_this : (q : PieceParts) (fs : List PlaceSet) (at : ℕ) (b : List ℕ) → filled_at fs at ≡ None → q.at ≡ at → b ≡ q.bytes → filled_at (fill q fs) at ≡ Some b
here_this q fs at b none is bytes =
    let t : (q.at == at) ≡ true = grind (arith, is) in
    with_the_piece q fs at ∙ none_goes (filled_at fs at) (if q.at == at then Some q.bytes else None) none
    ∙ ap (λ (u : Bool). if u then Some q.bytes else None) t ∙ ap (λ (x : List ℕ). Some x) (sym bytes)

pub here_none : (q : PieceParts) (fs : List PlaceSet) (at place : ℕ) → filled_at fs at ≡ None → place ≡ q.at → (place ≡ at → ⊥) → filled_at (fill q fs) at ≡ None
here_none q fs at place none is other =
    let t : (q.at == at) ≡ false = elim (cases_Bool (q.at == at)) [ inl h ↦ absurd (other (is ∙ eqb-true q.at at h)) | inr f ↦ f ] in
    with_the_piece q fs at ∙ none_goes (filled_at fs at) (if q.at == at then Some q.bytes else None) none
    ∙ ap (λ (u : Bool). if u then Some q.bytes else None) t
