-- Lists of events with a cut put in.
use Rattle.std.proofs.Common.{◌≡◌, refl, sym, ◌∙◌, ap, ℕ, suc, ◌+◌, ◌<◌, arith, Bool, List, [], ◌∷◌, ◌++◌, length, get_or, take, drop, Option, Some}
use Rattle.std.specs.Prelude.{map, slice_get}
use Rattle.std.specs.Option.{option_map, option_and_then}
use Rattle.std.proofs.Math.Seq.{take-suc}
use Rattle.std.proofs.lemmas.Option.{slice_get-map, slice_get_read}
use Rattle.std.proofs.lemmas.List.{append_assoc, drop-map, map-append, take-map}
use Rattle.net_world.specs.declared.event.WorldEvent.{WorldEvent}
use Rattle.messages.specs.declared.node.Node.{Node}
use Rattle.net_world.specs.Happenings.{Happening}
use Rattle.net_world.specs.Events.{happening}
use Rattle.net_world.specs.PutIn.{stop_in, stopped_before, with_stop}

-- One more is copied.
pub one_more : (all es : List WorldEvent) (before : List Happening) (i : ℕ) (e copy : WorldEvent) → i < length es → e ≡ get_or es i e
    → happening copy ≡ happening e
    → map happening all ≡ before ++ map happening (take i es) → map happening (all ++ copy ∷ []) ≡ before ++ map happening (take (i + 1) es)
one_more all es before i e copy lt is same h =
    let more : i + 1 ≡ suc i = omega arith in
    let one : take (i + 1) es ≡ take i es ++ e ∷ [] = ap (λ k. take k es) more ∙ (take-suc es i e lt ∙ ap (λ x. take i es ++ x ∷ []) (sym is)) in
    map-append happening all (copy ∷ [])
    ∙ ap (λ l. l ++ happening copy ∷ []) h
    ∙ append_assoc before (map happening (take i es)) (happening copy ∷ [])
    ∙ ap (λ x. before ++ (map happening (take i es) ++ x ∷ [])) same
    ∙ ap (λ l. before ++ l) (sym (map-append happening (take i es) (e ∷ [])))
    ∙ ap (λ l. before ++ map happening l) (sym one)

-- Two are put between the copies of what stands before a place and of what stands behind it.
pub two_put_in : (es front : List WorldEvent) (at : ℕ) (one two : WorldEvent) → map happening front ≡ map happening (take at es)
    → map happening ((front ++ one ∷ []) ++ two ∷ []) ++ map happening (drop at es)
    ≡ take at (map happening es) ++ happening one ∷ happening two ∷ drop at (map happening es)
two_put_in es front at one two h =
    ap (λ l. l ++ map happening (drop at es)) (map-append happening (front ++ one ∷ []) (two ∷ [])
    ∙ ap (λ l. l ++ happening two ∷ []) (map-append happening front (one ∷ [])))
    ∙ append_assoc (map happening front ++ happening one ∷ []) (happening two ∷ []) (map happening (drop at es))
    ∙ append_assoc (map happening front) (happening one ∷ []) (happening two ∷ map happening (drop at es))
    ∙ ap (λ l. l ++ happening one ∷ happening two ∷ map happening (drop at es)) (h ∙ sym (take-map happening at es))
    ∙ ap (λ l. take at (map happening es) ++ happening one ∷ happening two ∷ l) (sym (drop-map happening at es))

-- What stands at a place is stopped so.
pub stopped_by : (es : List WorldEvent) (landed : Bool) (node : Node) (at : ℕ) (e : WorldEvent) (stop : Option Happening) → at < length es → e ≡ get_or es at e
    → stop ≡ stop_in landed (happening e)
    → with_stop at landed node (map happening es) ≡ option_map (stopped_before at node (map happening es)) stop
stopped_by es landed node at e stop lt is how =
    let there : slice_get (map happening es) at ≡ Some (happening e) =
    slice_get-map happening es at ∙ ap (option_map happening) (slice_get_read es (length es) at e refl lt is) in
    ap (λ x. option_map (stopped_before at node (map happening es)) (option_and_then (stop_in landed) x)) there
    ∙ ap (option_map (stopped_before at node (map happening es))) (sym how)
