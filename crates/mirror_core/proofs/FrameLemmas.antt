-- The frames of a grant and of the copies behind it.
use Rattle.std.proofs.Common.{◌≡◌, refl, ◌∙◌, ap, ℕ, List, [], ◌∷◌, ◌++◌}
use Rattle.std.specs.Prelude.{map}
use Rattle.std.specs.List.{flat_map}
use Rattle.std.proofs.lemmas.List.{append-nil}
use Rattle.verify_state.specs.State.{State}
use Rattle.messages.specs.declared.body.Body.TheVariants.{Granted}
use Rattle.messages.specs.FramesOf.{spelled_frames}
use Rattle.mirror_core.specs.Packets.{to_client, copy_of, frame_bytes}

one_each : (states : List State) → flat_map (λ s. frame_bytes (copy_of s ∷ [])) states ≡ frame_bytes (map copy_of states)
one_each [] = refl
one_each (s ∷ states) =
    ap (λ l. l ++ flat_map (λ s. frame_bytes (copy_of s ∷ [])) states) (append-nil (spelled_frames (copy_of s)))
    ∙ ap (λ l. spelled_frames (copy_of s) ++ l) (one_each states)

pub all_granted : (generation : ℕ) (states : List State) (first all : List (List ℕ)) → first ≡ [] ++ frame_bytes (to_client (Granted generation) ∷ [])
    → all ≡ first ++ flat_map (λ s. frame_bytes (copy_of s ∷ [])) states
    → all ≡ frame_bytes (to_client (Granted generation) ∷ map copy_of states)
all_granted generation states first all e f =
    let grant = spelled_frames (to_client (Granted generation)) in
    f ∙ ap (λ l. l ++ flat_map (λ s. frame_bytes (copy_of s ∷ [])) states) (e ∙ append-nil grant) ∙ ap (λ l. grant ++ l) (one_each states)
