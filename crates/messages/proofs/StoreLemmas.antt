-- Frames that lie one behind the other.
use Rattle.std.proofs.Common.{◌≡◌, refl, ◌∙◌, ap, ℕ, ◌-◌, ◌≤◌, arith, List, [], ◌∷◌, ◌++◌, length, drop}
use Rattle.std.specs.Prelude.{slice_range}
use Rattle.std.proofs.lemmas.List.{drop_at, length-append, length-drop, take_all, take-append-le, drop-append-le}
use Rattle.messages.specs.FramesOf.{parts_between, RiseTo}
use Rattle.messages.proofs.FramesOfLemmas.{rise_le}

-- A frame behind those that are there.
rise_more : (start : ℕ) (ends : List ℕ) (mid last : ℕ) → RiseTo start ends mid → mid ≤ last → RiseTo start (ends ++ last ∷ []) last
rise_more start [] mid last h le = (omega (arith, h, le), refl)
rise_more start (end ∷ ends) mid last h le = (h.0, rise_more end ends mid last h.1 le)

last_part : (b f : List ℕ) → slice_range (b ++ f) (length b) (length (b ++ f)) ≡ f
last_part b f = rw (drop_at b f (length b) refl) (take_all (length (b ++ f) - length b) f (omega (arith, length-append b f)))

parted_more : (start : ℕ) (ends b f : List ℕ) → RiseTo start ends (length b)
    → parts_between start (ends ++ length (b ++ f) ∷ []) (b ++ f) ≡ parts_between start ends b ++ f ∷ []
parted_more start [] b f h = ap (λ (n : ℕ). slice_range (b ++ f) n (length (b ++ f)) ∷ []) h ∙ ap (λ (x : List ℕ). x ∷ []) (last_part b f)
parted_more start (end ∷ ends) b f h =
    let to : end ≤ length b = rise_le end ends (length b) h.1 in
    let from : start ≤ length b = omega (arith, h.0, to) in
    let part : end - start ≤ length (drop start b) = omega (arith, to, length-drop start b) in
    rw (drop-append-le start b f from, take-append-le (end - start) (drop start b) f part)
    (ap (λ (xs : List (List ℕ)). slice_range b start end ∷ xs) (parted_more end ends b f h.1))

pub pushed_rise : (ends b f new_ends new_bytes : List ℕ) (end : ℕ) → RiseTo 0 ends (length b) → new_bytes ≡ b ++ f → end ≡ length new_bytes
    → new_ends ≡ ends ++ end ∷ [] → RiseTo 0 new_ends (length new_bytes)
pushed_rise ends b f new_ends new_bytes end rise bytes_are end_is ends_are =
    rw (ends_are, end_is) (rise_more 0 ends (length b) (length new_bytes) rise (omega (arith, ap length bytes_are, length-append b f)))

pub pushed_frames : (ends b f new_ends new_bytes : List ℕ) (end : ℕ) (old : List (List ℕ)) → RiseTo 0 ends (length b) → parts_between 0 ends b ≡ old
    → new_bytes ≡ b ++ f → end ≡ length new_bytes → new_ends ≡ ends ++ end ∷ [] → parts_between 0 new_ends new_bytes ≡ old ++ f ∷ []
pushed_frames ends b f new_ends new_bytes end old rise old_is bytes_are end_is ends_are =
    rw (ends_are, end_is, bytes_are, ← old_is) (parted_more 0 ends b f rise)
