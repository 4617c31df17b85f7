-- What frames of sent packets give.
use Rattle.std.proofs.Common.{◌≡◌, refl, sym, subst, ◌⊎◌, inl, inr, Bool, true, false, List, [], ◌∷◌}
use Rattle.std.specs.Prelude.{if◌then◌else◌, Contains, map, zero}
use Rattle.std.proofs.Common.{arith}
use Rattle.std.proofs.lemmas.List.Elements.{Contains-append_left, Contains-append_right}
use Rattle.messages.specs.declared.packet.PacketParts.{PacketParts}
use Rattle.messages.specs.declared.piece.PieceParts.{PieceParts}
use Rattle.messages.specs.declared.frame.Frame.{Frame}
use Rattle.messages.specs.declared.frame.Frame.TheVariants.{Whole, Piece}
use Rattle.messages.specs.Assemblies.{Row}
use Rattle.messages.specs.Pieces.{is_cut, pieces_of, frames_of}
use Rattle.messages.specs.Assemblies.{Waits, Gives, look_at_piece, look_at_frame}
use Rattle.messages.specs.PieceLaws.{OneBodyOfEachTag, ArePackets, WasSent, IsPieceOf, left_by, rows_of_frames, AreFramesOf, GivesOneOf, OnlySentIsGiven}
use Rattle.verify_state.specs.Laws.{ReadsBack}
use Rattle.fc_base.proofs.ListLemmas.{of_map, only_in}
use Rattle.messages.proofs.Assembled.{only_sent_comes_together}

-- A frame of a packet is the packet, or a piece of it.
record IsPiece (p : PacketParts) (f : Frame) : Type 0 where
  pub piece : PieceParts
  pub is : Piece piece ≡ f
  pub is_of : IsPieceOf p piece

of_either : (p : PacketParts) (f : Frame) (t : Bool) → is_cut p.body ≡ t → Contains (if t then map Piece (pieces_of p) else Whole p ∷ []) f
    → (Whole p ≡ f) ⊎ IsPiece p f
of_either p f true cut h = let q = of_map Piece (pieces_of p) f h in inr (record { piece = q.0; is = q.2; is_of = (cut, q.1) })
of_either p f false cut h = inl (only_in (Whole p) f h)

whole_or_piece : (p : PacketParts) (f : Frame) → Contains (frames_of p) f → (Whole p ≡ f) ⊎ IsPiece p f
whole_or_piece p f h = of_either p f (is_cut p.body) refl h

-- What a frame of a sent packet gives and leaves.

record Steps (sent : List PacketParts) (rows : List Row) (f : Frame) : Type 0 where
  pub gives : (look_at_frame rows f ≡ Waits) ⊎ GivesOneOf sent rows f
  pub leaves : WasSent sent (left_by rows f)

by_piece : (sent : List PacketParts) (rows : List Row) (p : PacketParts) → Contains sent p → (q : PieceParts) → Contains (frames_of p) (Piece q)
    → (look_at_piece rows q ≡ Waits) ⊎ (look_at_piece rows q ≡ Gives p) → (look_at_piece rows q ≡ Waits) ⊎ GivesOneOf sent rows (Piece q)
by_piece sent rows p s q is (inl waits) = inl waits
by_piece sent rows p s q is (inr gives) = inr (record { packet = p; was_sent = s; is_frame = is; gives = gives })

by_either : ReadsBack → (sent : List PacketParts) → ArePackets sent → OneBodyOfEachTag sent → (rows : List Row) → WasSent sent rows
    → (p : PacketParts) → Contains sent p → (f : Frame) → Contains (frames_of p) f → (Whole p ≡ f) ⊎ IsPiece p f → Steps sent rows f
by_either law sent packets one rows w p s f is (inl whole) =
    subst (Steps sent rows) whole (record {
      gives = inr (record
          { packet = p; was_sent = s; is_frame = subst (Contains (frames_of p)) (sym whole) is; gives = refl });
      leaves = w;
    })
by_either law sent packets one rows w p s f is (inr piece) =
    let next = only_sent_comes_together law sent packets one rows w p s piece.piece piece.is_of in
    subst (Steps sent rows) piece.is (record {
      gives = by_piece sent rows p s piece.piece (subst (Contains (frames_of p)) (sym piece.is) is) next.0;
      leaves = next.1;
    })

step : ReadsBack → (sent : List PacketParts) → ArePackets sent → OneBodyOfEachTag sent → (rows : List Row) → WasSent sent rows
    → (f : Frame) → (p : PacketParts) × Contains sent p × Contains (frames_of p) f → Steps sent rows f
step law sent packets one rows w f is = by_either law sent packets one rows w is.0 is.1 f is.2 (whole_or_piece is.0 f is.2)

first : (f : Frame) (fs : List Frame) → Contains (f ∷ fs) f
first f fs = Contains-append_left (f ∷ []) fs f (zero, omega arith, refl)

others : (sent : List PacketParts) (f : Frame) (fs : List Frame) → AreFramesOf sent (f ∷ fs) → AreFramesOf sent fs
others sent f fs are g h = are g (Contains-append_right (f ∷ []) fs g h)

together_sent : ReadsBack → (sent : List PacketParts) → ArePackets sent → OneBodyOfEachTag sent → (fs : List Frame) → AreFramesOf sent fs
    → WasSent sent (rows_of_frames fs)
together_sent law sent packets one [] are = tt
together_sent law sent packets one (f ∷ fs) are =
    (step law sent packets one (rows_of_frames fs) (together_sent law sent packets one fs (others sent f fs are)) f (are f (first f fs))).leaves

pub only_sent_is_given : ReadsBack → OnlySentIsGiven
only_sent_is_given law sent packets one f fs are =
    (step law sent packets one (rows_of_frames fs) (together_sent law sent packets one fs (others sent f fs are)) f (are f (first f fs))).gives
