-- What looking at a whole body gives.
use Rattle.std.proofs.Common.{◌≡◌, refl, sym, ◌∙◌, ap, subst, Bool, true, false, Some, Ok, List, ℕ}
use Rattle.std.specs.Prelude.{if◌then◌else◌, not}
use Rattle.messages.specs.contracts.piece.TagPartialEq.TheImpl.{eq-value}
use Rattle.messages.specs.declared.body.Body.{Body}
use Rattle.messages.specs.declared.packet.PacketParts.{PacketParts}
use Rattle.messages.specs.declared.piece.Tag.{Tag}
use Rattle.messages.specs.declared.piece.PieceParts.{PieceParts}
use Rattle.messages.specs.Bodies.{body_at}
use Rattle.messages.specs.Tags.{is_tag}
use Rattle.messages.specs.Pieces.{tag_in}
use Rattle.messages.specs.Assemblies.{Look, Gives, NoPacket, packet_of, of_tag, LookAnswers}
use Rattle.messages.proofs.RowLemmas.{eq_is}

-- A body that was read for a tag, and whether it has that tag.
pub record IsReadFor (q : PieceParts) (bytes : List ℕ) (b : Body) (has_it : Bool) : Type 0 where
  pub tag : Tag
  pub tag_is : tag ≡ q.tag
  pub read : body_at tag.whole bytes ≡ Some b
  pub own : Tag
  pub own_is : own ≡ tag_in b tag.length
  pub same : (eq-value).it own tag ≡ has_it

shown : (q : PieceParts) (bytes : List ℕ) (b : Body) (has_it : Bool) → IsReadFor q bytes b has_it
    → of_tag q (body_at q.tag.whole bytes) ≡ (if has_it then Gives (packet_of q b) else NoPacket)
shown q bytes b has_it r =
    let body : body_at q.tag.whole bytes ≡ Some b = ap (λ (t : Tag). body_at t.whole bytes) (sym r.tag_is) ∙ r.read in
    let same : is_tag (tag_in b q.tag.length) q.tag ≡ has_it =
    ap (λ (t : Tag). is_tag (tag_in b t.length) t) (sym r.tag_is) ∙ ap (λ (t : Tag). is_tag t r.tag) (sym r.own_is) ∙ sym (eq_is r.own r.tag) ∙ r.same in
    ap (of_tag q) body ∙ ap (λ (t : Bool). if t then Gives (packet_of q b) else NoPacket) same

pub gives_packet : (q : PieceParts) (bytes : List ℕ) (b : Body) (p : PacketParts) → IsReadFor q bytes b true → p ≡ packet_of q b
    → LookAnswers (Ok (Some p)) (of_tag q (body_at q.tag.whole bytes))
gives_packet q bytes b p r is =
    subst (λ (l : Look). LookAnswers (Ok (Some p)) l) (sym (shown q bytes b true r)) (ap (λ (x : PacketParts). Some x) is)

pub is_same : (other same : Bool) → other ≡ not same → other ≡ false → same ≡ true
is_same other true e f = refl
is_same other false e f = absurd cc
