use Rattle.std.proofs.Common.{◌≡◌, ◌≤◌, refl, true, Some, ◌∙◌, sym, ap, List, ℕ, length, subst, arith, Option}
use Rattle.std.specs.Option.{option_map}
use Rattle.messages.specs.declared.piece.PieceParts.{PieceParts}
use Rattle.messages.specs.declared.frame.Frame.TheVariants.{Piece}
use Rattle.messages.specs.PieceRanges.{is_piece}
use Rattle.messages.proofs.FrameReading.{made, made_in_range, piece_is_ranged, in_ranges-piece, in_ranges-no_place}
use Rattle.messages.proofs.reading.frames.piece.Goals as goal

pub new-requires : goal.new-requires
new-requires c =
    let f = c.piece_fields.result.0 in
    let rest = c.piece_fields.result.1.now in
    let ranged = made_in_range c.args.ends f c.in-Some.tag rest c.requires (sym c.in-Some.ensures) (sym c.if-not-is_place.ensures) in
    subst (λ (bs : List ℕ). is_piece (made c.args.ends c.in-Some.tag f.at bs) ≡ true) (sym c.in-Ok.ensures) ranged

pub returns-in-Ok : goal.returns-in-Ok
returns-in-Ok c =
    let f = c.piece_fields.result.0 in
    let rest = c.piece_fields.result.1.now in
    let long : 33 ≤ length c.args.bytes.now = omega (arith, c.if-bytes-lt-NUMBERS.false) in
    let ranged = made_in_range c.args.ends f c.in-Some.tag rest c.requires (sym c.in-Some.ensures) (sym c.if-not-is_place.ensures) in
    let said = piece_is_ranged c.args.ends f c.in-Some.tag c.args.bytes.now rest long c.piece_fields.ensures.numbers c.piece_fields.ensures.rest
    (sym c.in-Some.ensures) in
    ap (λ (o : Option PieceParts). option_map Piece o) (said ∙ in_ranges-piece (made c.args.ends c.in-Some.tag f.at rest) ranged)
    ∙ ap (λ (bs : List ℕ). Some (Piece (made c.args.ends c.in-Some.tag f.at bs))) (sym c.in-Ok.ensures)
    ∙ ap (λ (q : PieceParts). Some (Piece q)) (sym c.new.ensures)

pub returns-in-Err : goal.returns-in-Err
returns-in-Err c =
    let f = c.piece_fields.result.0 in
    let rest = c.piece_fields.result.1.now in
    let long : 33 ≤ length c.args.bytes.now = omega (arith, c.if-bytes-lt-NUMBERS.false) in
    let ranged = made_in_range c.args.ends f c.in-Some.tag rest c.requires (sym c.in-Some.ensures) (sym c.if-not-is_place.ensures) in
    let said = piece_is_ranged c.args.ends f c.in-Some.tag c.args.bytes.now rest long c.piece_fields.ensures.numbers c.piece_fields.ensures.rest
    (sym c.in-Some.ensures) in
    rw (said ∙ in_ranges-piece (made c.args.ends c.in-Some.tag f.at rest) ranged) refl

pub returns-then-not-is_place : goal.returns-then-not-is_place
returns-then-not-is_place c =
    let f = c.piece_fields.result.0 in
    let rest = c.piece_fields.result.1.now in
    let long : 33 ≤ length c.args.bytes.now = omega (arith, c.if-bytes-lt-NUMBERS.false) in
    let said = piece_is_ranged c.args.ends f c.in-Some.tag c.args.bytes.now rest long c.piece_fields.ensures.numbers c.piece_fields.ensures.rest
    (sym c.in-Some.ensures) in
    rw (said ∙ in_ranges-no_place (made c.args.ends c.in-Some.tag f.at rest) (sym c.if-not-is_place.ensures)) refl
