-- No piece records a run: a Start is never cut.
use Rattle.std.proofs.Common.{◌≡◌, refl, ap, ℕ, Bool, true, false, ◌&&◌, ◌==◌, List, Option, None, Some}
use Rattle.std.specs.Prelude.{if◌then◌else◌, is_some}
use Rattle.std.proofs.lemmas.Bool.{and_parts}
use Rattle.messages.specs.declared.body.Body.{Body}
use Rattle.messages.specs.declared.body.Body.TheVariants as bodies
use Rattle.messages.specs.declared.kind.PacketKind.{PacketKind}
use Rattle.messages.specs.declared.kind.PacketKind.TheVariants as kinds
use Rattle.messages.specs.declared.piece.PieceParts.{PieceParts}
use Rattle.messages.specs.declared.piece.Tag.{Tag}
use Rattle.messages.specs.declared.frame.Frame.TheVariants.{Piece}
use Rattle.messages.specs.Kinds.{number_of}
use Rattle.messages.specs.Nodes.{is_node, is_client, is_server}
use Rattle.messages.specs.Bodies.{kind_of, body_at}
use Rattle.messages.specs.Tags.{is_tag}
use Rattle.messages.specs.Pieces.{tag_in}
use Rattle.messages.specs.PieceRanges.{is_long_kind, is_tag_in_range, is_piece}
use Rattle.messages.specs.Assemblies.{Row, Gives, NoPacket, packet_of, of_tag, look_by_body, look_at_piece, completed_body}
use Rattle.messages.specs.Hearing.{Strays, said_by}
use Rattle.messages.specs.Senses.{sense_of, heard_or}
use Rattle.server_core.specs.declared.input.Input.TheVariants as inputs
use Rattle.server_core.specs.History as history
use Rattle.server_core.specs.History.{Opening}
use Rattle.server_core.specs.Request.{request_in, ToNobody}
use Rattle.server_core.specs.Run.{Work}
use Rattle.server_core.specs.Words.{Staged, is_on, last_run, staged_run, work, due, due_by}
use Rattle.server_core.specs.Hearing.{FrameEntry, is_piece_for, packets_heard, assembly}
use Rattle.server_core.specs.FrameAnswers.{would_save}

start_is_short : (kind : PacketKind) → is_long_kind kind ≡ true → (3 == number_of kind) ≡ false
start_is_short kinds.Start l = cc
start_is_short _ l = refl

not_both : (b : Bool) → b ≡ false → b ≡ true → ⊥
not_both true f t = cc
not_both false f t = cc

first_of : (a b : Bool) → (a && b) ≡ true → a ≡ true
first_of a b h = (and_parts a b h).0

kinds_are : (a b : Tag) → is_tag a b ≡ true → (number_of a.whole == number_of b.whole) ≡ true
kinds_are a b h = first_of _ _ (first_of _ _ (first_of _ _ (first_of _ _ (first_of _ _ h))))

-- What a long packet asks is not due.
undue_body : (on : Bool) (last : ℕ) (s : Option Staged) (w : Option Work) (b : Body) (kind : PacketKind) → is_long_kind kind ≡ true
    → (number_of (kind_of b) == number_of kind) ≡ true → due_by on last s w (request_in b) ≡ None
undue_body on last s w (bodies.Start run) kind l e = absurd (not_both (3 == number_of kind) (start_is_short kind l) e)
undue_body on last s w _ kind l e = refl

undue_packet : (on : Bool) (last : ℕ) (s : Option Staged) (w : Option Work) (b : Body) (mine : Bool) → due_by on last s w (request_in b) ≡ None
    → due_by on last s w (if mine then request_in b else ToNobody) ≡ None
undue_packet on last s w b true h = h
undue_packet on last s w b false h = refl

undue_tag : (o : Opening) (past : List history.Entry) (q : PieceParts) (b : Body) (same : Bool)
    → (same ≡ true → due_by (is_on past) (last_run o past) (staged_run o past) (work o past) (request_in b) ≡ None)
    → heard_or None (due o past) (sense_of inputs.Deliver (said_by (if same then Gives (packet_of q b) else NoPacket))) ≡ None
undue_tag o past q b true h = undue_packet (is_on past) (last_run o past) (staged_run o past) (work o past) b (is_client q.from && is_server o.me q.to) (h refl)
undue_tag o past q b false h = refl

undue_read : (o : Opening) (past : List history.Entry) (q : PieceParts) (b : Option Body) → is_long_kind q.tag.whole ≡ true
    → heard_or None (due o past) (sense_of inputs.Deliver (said_by (of_tag q b))) ≡ None
undue_read o past q None l = refl
undue_read o past q (Some b) l =
    let t = tag_in b q.tag.length in
    undue_tag o past q b (is_tag t q.tag) (λ same. undue_body (is_on past) (last_run o past) (staged_run o past) (work o past) b q.tag.whole l
    (kinds_are t q.tag same))

undue_look : (o : Opening) (past : List history.Entry) (q : PieceParts) (bytes : Option (List ℕ)) → is_long_kind q.tag.whole ≡ true
    → heard_or None (due o past) (sense_of inputs.Deliver (said_by (look_by_body q bytes))) ≡ None
undue_look o past q None l = refl
undue_look o past q (Some bytes) l = undue_read o past q (body_at q.tag.whole bytes) l

undue_meaning : (o : Opening) (past : List history.Entry) (q : PieceParts) (rows : List Row) (takes : Bool) → is_long_kind q.tag.whole ≡ true
    → heard_or None (due o past) (sense_of inputs.Deliver (if takes then said_by (look_at_piece rows q) else Strays)) ≡ None
undue_meaning o past q rows true l = undue_look o past q (completed_body rows q) l
undue_meaning o past q rows false l = refl

long : (q : PieceParts) → is_piece q ≡ true → is_long_kind q.tag.whole ≡ true
long q r =
    let tag = (and_parts (is_node q.from && is_node q.to) (is_tag_in_range q.tag) (first_of _ _ r)).1 in
    first_of _ _ (first_of _ _ (first_of _ _ (first_of _ _ tag)))

pub no_piece_saves : (o : Opening) (past : List FrameEntry) (q : PieceParts) → is_piece q ≡ true → would_save o past (Piece q) ≡ false
no_piece_saves o past q r =
    ap is_some (undue_meaning o (packets_heard o past) q (assembly o past) (is_on (packets_heard o past) && is_piece_for o.me q) (long q r))
