-- Lines as they are written, part by part.
use Rattle.std.proofs.Common.{◌≡◌, inl, inr, ℕ, ◌+◌, ◌<◌, List, [], ◌∷◌, ◌++◌, length, take, drop, Option, Some}
use Rattle.std.proofs.Common.{slice_get, get_or, append-nil, sym, ◌∙◌, ap, subst, Contains, arith}
use Rattle.std.specs.List.{flat_map}
use Rattle.std.proofs.lemmas.Grind.{flat_map-append}
use Rattle.std.proofs.lemmas.List.{get_or-drop, get_or-take, get_or-map, take_more, length-take-le}
use Rattle.std.proofs.lemmas.List.Elements.{Contains-get_or}
use Rattle.std.proofs.lemmas.Option.{slice_get_cases, get_or_from_slice_get}
use Rattle.messages.specs.declared.frame.Frame.{Frame}
use Rattle.messages.specs.declared.reading.look.FrameLook.{FrameLook}
use Rattle.messages.specs.FrameBytes.{frame_spelling}
use Rattle.messages.specs.Looks.{look_of, LooksAtFrames}
use Rattle.program_io.specs.Words.{with_line_feed}
use Rattle.net_script.specs.Printed.{frame_line, sent_line, sent_lines}
use Rattle.net_script.specs.Told.{AreBytesOf}

-- One more line.
line_more : (first : ℕ) (sent : List Frame) (f : Frame) → sent_lines first (sent ++ f ∷ []) ≡ sent_lines first sent ++ sent_line (first + length sent) f ∷ []
line_more first [] f = ap (λ n. sent_line n f ∷ []) (omega arith)
line_more first (g ∷ sent) f =
    ap (λ l. sent_line first g ∷ l) (line_more (first + 1) sent f ∙ ap (λ n. sent_lines (first + 1) sent ++ sent_line n f ∷ []) (omega arith))

-- The line of one more frame.
pub sent_more : (sent : List Frame) (first count k : ℕ) (kept : List (List ℕ)) → AreBytesOf sent first count kept → k < count
    → (bytes : List ℕ) → slice_get kept (first + k) ≡ Some bytes → (number len : ℕ) (look : FrameLook) → number ≡ first + k → len ≡ length bytes
    → LooksAtFrames bytes (Some look)
    → flat_map with_line_feed (sent_lines first (take k sent)) ++ with_line_feed (frame_line number look len)
    ≡ flat_map with_line_feed (sent_lines first (take (k + 1) sent))
sent_more sent first count k kept are within bytes is number len look number_is len_is looks =
    elim ((slice_get_cases sent k).1) [
      | inl found ↦ with_frame found.0 found.1 found.3
      | inr past ↦ absurd (omega (arith, within, are.number, past.0))
    ]
  where
    with_frame : (f : Frame) → k < length sent → get_or sent k f ≡ f
        → flat_map with_line_feed (sent_lines first (take k sent)) ++ with_line_feed (frame_line number look len)
        ≡ flat_map with_line_feed (sent_lines first (take (k + 1) sent))
    with_frame f inside at =
        let spelled : frame_spelling f ≡ bytes =
        ap frame_spelling (sym at) ∙ sym (get_or-map frame_spelling sent k f bytes inside) ∙ ap (λ l. get_or l k bytes) (sym are.bytes)
        ∙ get_or-take count (drop first kept) k bytes within ∙ get_or-drop first kept k bytes ∙ get_or_from_slice_get kept (first + k) bytes bytes is in
        let framed = are.each f (subst (Contains sent) at (Contains-get_or sent k f inside)) in
        let same : look ≡ look_of f = let s : ◌≡◌ {A = Option FrameLook} (Some look) (Some (look_of f)) = looks f framed spelled in cc in
        let line : frame_line number look len ≡ sent_line (first + k) f =
        ap (λ n. frame_line n look len) number_is ∙ ap (λ l. frame_line (first + k) l len) same
        ∙ ap (frame_line (first + k) (look_of f)) (len_is ∙ ap length (sym spelled)) in
        let more : take (k + 1) sent ≡ take k sent ++ f ∷ [] = take_more sent k f inside ∙ ap (λ g. take k sent ++ g ∷ []) at in
        let counted : length (take k sent) ≡ k = length-take-le k sent (omega (arith, inside)) in
        ap (λ l. flat_map with_line_feed (sent_lines first (take k sent)) ++ with_line_feed l) line
        ∙ ap (λ l. flat_map with_line_feed (sent_lines first (take k sent)) ++ l) (sym (append-nil (with_line_feed (sent_line (first + k) f))))
        ∙ sym (flat_map-append with_line_feed (sent_lines first (take k sent)) (sent_line (first + k) f ∷ []))
        ∙ ap (flat_map with_line_feed) (ap (λ n. sent_lines first (take k sent) ++ sent_line n f ∷ []) (ap (λ n. first + n) (sym counted))
        ∙ sym (line_more first (take k sent) f) ∙ ap (sent_lines first) (sym more))
