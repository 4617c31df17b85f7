-- After the loss of its note a client goes on as one that opens with a blank note.
use Rattle.std.proofs.Common.{◌≡◌, refl, ap, Bool, true, false, List, [], ◌∷◌, ◌++◌}
use Rattle.std.specs.Prelude.{if◌then◌else◌}
use Rattle.client_core.specs.Note.{blank}
use Rattle.client_core.specs.History.{Opening, Entry, Met, Cut, Restart, Renew, Lose}
use Rattle.client_core.specs.Words.{is_on, has_mirror, granted_generations, words_noted, is_answered}
use Rattle.client_core.specs.Life.{Deed, deeds_of, life, deeds_done}
use Rattle.client_core.specs.Laws.{LossBeginsAnew}

on_alike : (newer past : List Entry) → is_on (newer ++ Lose ∷ past) ≡ is_on newer
on_alike [] past = refl
on_alike (Met c left ∷ newer) past = rw (on_alike newer past) refl
on_alike (Cut ∷ newer) past = refl
on_alike (Restart mirror ∷ newer) past = refl
on_alike (Renew g left ∷ newer) past = refl
on_alike (Lose ∷ newer) past = refl

mirror_alike : (newer past : List Entry) → has_mirror (newer ++ Lose ∷ past) ≡ has_mirror newer
mirror_alike [] past = refl
mirror_alike (Met c left ∷ newer) past = mirror_alike newer past
mirror_alike (Cut ∷ newer) past = refl
mirror_alike (Restart mirror ∷ newer) past = refl
mirror_alike (Renew g left ∷ newer) past = refl
mirror_alike (Lose ∷ newer) past = refl

granted_alike : (newer past : List Entry) → granted_generations (newer ++ Lose ∷ past) ≡ granted_generations newer
granted_alike [] past = refl
granted_alike (Met c left ∷ newer) past = rw (on_alike newer past, mirror_alike newer past, granted_alike newer past) refl
granted_alike (Cut ∷ newer) past = refl
granted_alike (Restart mirror ∷ newer) past = refl
granted_alike (Renew g left ∷ newer) past = refl
granted_alike (Lose ∷ newer) past = refl

noted_alike : (o : Opening) (newer past : List Entry) → words_noted o (newer ++ Lose ∷ past) ≡ words_noted (record o { noted = blank }) newer
noted_alike o [] past = refl
noted_alike o (Met c left ∷ newer) past = rw (noted_alike o newer past, on_alike newer past, mirror_alike newer past, granted_alike newer past) refl
noted_alike o (Cut ∷ newer) past = noted_alike o newer past
noted_alike o (Restart mirror ∷ newer) past = noted_alike o newer past
noted_alike o (Renew g left ∷ newer) past = rw (noted_alike o newer past) refl
noted_alike o (Lose ∷ newer) past = refl

life_alike : (o : Opening) (newer past : List Entry) → life o (newer ++ Lose ∷ past) ≡ life (record o { noted = blank }) newer
life_alike o [] past = refl
life_alike o (Met c left ∷ newer) past =
    rw (noted_alike o newer past, on_alike newer past, mirror_alike newer past, granted_alike newer past, life_alike o newer past) refl
life_alike o (Cut ∷ newer) past = refl
life_alike o (Restart mirror ∷ newer) past = refl
life_alike o (Renew g left ∷ newer) past = refl
life_alike o (Lose ∷ newer) past = refl

further : (xs ys zs : List Deed) → xs ++ (ys ++ zs) ≡ (xs ++ ys) ++ zs
further [] ys zs = refl
further (x ∷ xs) ys zs = ap (λ l. x ∷ l) (further xs ys zs)

where_answered : (b : Bool) (xs ys zs : List Deed) → (if b then xs ++ (ys ++ zs) else ys ++ zs) ≡ (if b then xs ++ ys else ys) ++ zs
where_answered true xs ys zs = further xs ys zs
where_answered false xs ys zs = refl

done_alike : (o : Opening) (newer past : List Entry) → deeds_done o (newer ++ Lose ∷ past) ≡ deeds_done (record o { noted = blank }) newer ++ deeds_done o past
done_alike o [] past = refl
done_alike o (Met c left ∷ newer) past =
    let b = record o { noted = blank } in
    rw (noted_alike o newer past, on_alike newer past, mirror_alike newer past, granted_alike newer past, done_alike o newer past)
    (where_answered (is_answered b newer c left) (deeds_of (words_noted b newer) c) (deeds_done b newer) (deeds_done o past))
done_alike o (Cut ∷ newer) past = done_alike o newer past
done_alike o (Restart mirror ∷ newer) past = done_alike o newer past
done_alike o (Renew g left ∷ newer) past = done_alike o newer past
done_alike o (Lose ∷ newer) past = done_alike o newer past

pub loss_begins_anew : LossBeginsAnew
loss_begins_anew o newer past = record { noted_is = noted_alike o newer past; life_is = life_alike o newer past; done_is = done_alike o newer past }
