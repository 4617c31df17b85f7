-- The frames of packets to one server after the other.
use Rattle.std.proofs.Common.{◌≡◌, refl, sym, ◌∙◌, ap, subst, ℕ, suc, List, [], ◌∷◌, ◌++◌}
use Rattle.std.specs.Prelude.{if◌then◌else◌}
use Rattle.std.specs.List.{flat_map}
use Rattle.std.proofs.lemmas.List.{append_assoc, append-nil, map-append}
use Rattle.std.proofs.lemmas.List.Concat.{flat_map-append}
use Rattle.fc_base.specs.Counted.{numbers_below}
use Rattle.messages.specs.declared.packet.PacketParts.{PacketParts}
use Rattle.messages.specs.declared.body.Body.{Body}
use Rattle.messages.specs.FramesOf.{spelled_frames}
use Rattle.client_core.specs.Framed.{frame_bytes}
use Rattle.client_core.specs.Packets.{to_server, to_all, packets_again}
use Rattle.client_core.specs.Requests.{Request, is_open}
use Rattle.client_core.specs.Requests as requests

-- The frames of some packets, and then of others.
pub framed_more : (xs ys : List PacketParts) → frame_bytes (xs ++ ys) ≡ frame_bytes xs ++ frame_bytes ys
framed_more xs ys = flat_map-append spelled_frames xs ys

-- One server more.
pub framed_all : (n m : ℕ) → m ≡ suc n → (body : Body) (frames more : List (List ℕ)) → frames ≡ frame_bytes (to_all n body)
    → more ≡ frames ++ frame_bytes (to_server body n ∷ []) → more ≡ frame_bytes (to_all m body)
framed_all n m is body frames more e f =
    subst (λ k. more ≡ frame_bytes (to_all k body)) (sym is)
    (f ∙ ap (λ xs. xs ++ frame_bytes (to_server body n ∷ [])) e
    ∙ sym (ap frame_bytes (map-append (to_server body) (numbers_below n) (n ∷ [])) ∙ framed_more (to_all n body) (to_server body n ∷ [])))

pub framed_each : (at : ℕ → List PacketParts) (n m : ℕ) → m ≡ suc n → (old frames more : List (List ℕ))
    → frames ≡ old ++ frame_bytes (flat_map at (numbers_below n)) → more ≡ frames ++ frame_bytes (at n)
    → more ≡ old ++ frame_bytes (flat_map at (numbers_below m))
framed_each at n m is old frames more e f =
    subst (λ k. more ≡ old ++ frame_bytes (flat_map at (numbers_below k))) (sym is)
    (f ∙ ap (λ xs. xs ++ frame_bytes (at n)) e ∙ append_assoc old (frame_bytes (flat_map at (numbers_below n))) (frame_bytes (at n))
    ∙ ap (λ xs. old ++ xs) (sym (ap frame_bytes (flat_map-append at (numbers_below n) (n ∷ [])
    ∙ ap (λ xs. flat_map at (numbers_below n) ++ xs) (append-nil (at n))) ∙ framed_more (flat_map at (numbers_below n)) (at n))))

pub none_yet : (old : List (List ℕ)) → old ≡ old ++ []
none_yet old = sym (append-nil old)

pub again_if : (body : Body) (s : ℕ) (q : Request) → packets_again body s q ≡ (if is_open q then to_server body s ∷ [] else [])
again_if body s (requests.Open ts) = refl
again_if body s requests.Unasked = refl
again_if body s requests.Served = refl
again_if body s (requests.Denied reason) = refl

-- Three lists of frames, one behind the other.
pub three : (old one two more : List (List ℕ)) (a b c : List PacketParts) → one ≡ old ++ frame_bytes a → two ≡ one ++ frame_bytes b
    → more ≡ two ++ frame_bytes c → more ≡ old ++ frame_bytes (a ++ (b ++ c))
three old one two more a b c e f g =
    g ∙ ap (λ xs. xs ++ frame_bytes c) (f ∙ ap (λ xs. xs ++ frame_bytes b) e ∙ append_assoc old (frame_bytes a) (frame_bytes b))
    ∙ append_assoc old (frame_bytes a ++ frame_bytes b) (frame_bytes c)
    ∙ ap (λ xs. old ++ xs) (append_assoc (frame_bytes a) (frame_bytes b) (frame_bytes c)
    ∙ sym (framed_more a (b ++ c) ∙ ap (λ xs. frame_bytes a ++ xs) (framed_more b c)))

-- One entry more.
pub one_more : {A : Type 0} (send : A → List PacketParts) (old frames next : List (List ℕ)) (first : A) (rest all : List A)
    → frames ++ frame_bytes (flat_map send (first ∷ rest)) ≡ old ++ frame_bytes (flat_map send all) → next ≡ frames ++ frame_bytes (send first)
    → next ++ frame_bytes (flat_map send rest) ≡ old ++ frame_bytes (flat_map send all)
one_more send old frames next first rest all e f =
    ap (λ xs. xs ++ frame_bytes (flat_map send rest)) f ∙ (append_assoc frames (frame_bytes (send first)) (frame_bytes (flat_map send rest))
    ∙ ap (λ xs. frames ++ xs) (sym (framed_more (send first) (flat_map send rest)))) ∙ e

pub all_sent : (frames : List (List ℕ)) → frames ++ [] ≡ frames
all_sent frames = append-nil frames

pub none_again : (body : Body) (at : ℕ → Request) (ns : List ℕ) → ((s : ℕ) → at s ≡ requests.Unasked) → flat_map (λ s. packets_again body s (at s)) ns ≡ []
none_again body at [] h = refl
none_again body at (n ∷ ns) h = ap (λ q. packets_again body n q ++ flat_map (λ s. packets_again body s (at s)) ns) (h n) ∙ none_again body at ns h
