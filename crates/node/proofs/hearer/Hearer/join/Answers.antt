-- A piece is accepted by what it says.
use Rattle.std.proofs.Common.{sym, ap, subst, ◌∙◌, Ok, Err}
use Rattle.fc_base.specs.declared.fault.Fault.TheVariants.{FrameBadField}
use Rattle.messages.specs.declared.frame.Frame.TheVariants.{Piece}
use Rattle.messages.specs.Assemblies.{without_tag, rows_after_piece}
use Rattle.messages.specs.Senses.{Framed}
use Rattle.node.specs.Hearers.{entries, IsSensed, Accepts}
use Rattle.node.proofs.HearerLemmas.{given_accepts, refused_accepts, kept_accepts, dropped_accepts, down_accepts, stray_accepts}
use Rattle.node.proofs.hearer.Hearer.join.Goals as goal

pub returns-then-is_ok : goal.returns-then-is_ok
returns-then-is_ok g c o past s =
    let k = g.C.PacketCore.kind o in
    let old = c.args.self.now in
    let q = c.args.piece.now in
    let is = subst (IsSensed k past q) (c.in-Ok-Some.is ∙ ap Ok c.in-Ok-Some.field-0-is) (c.look.ensures o past s) in
    subst (λ rows. Accepts k past (Framed (Piece q)) old (record { core = c.accept-outs.new.self; pieces = rows }) c.accept-outs.result)
    (sym (c.drop.ensures ∙ ap (λ t. without_tag t old.pieces) c.tag.ensures))
    (given_accepts k (g.met.C.PacketCore.keeps_laws o) past q c.in-Ok-Some.packet old c.accept-outs.new.self c.accept-outs.result c.keeps_its_ranges.ensures s is
    (c.accept-outs.ensures o (entries k past) s.core) (sym c.is_ok.ensures.value ∙ c.if-is_ok.true))

pub returns-else-is_ok : goal.returns-else-is_ok
returns-else-is_ok g c o past s =
    let k = g.C.PacketCore.kind o in
    let q = c.args.piece.now in
    let is = subst (IsSensed k past q) (c.in-Ok-Some.is ∙ ap Ok c.in-Ok-Some.field-0-is) (c.look.ensures o past s) in
    refused_accepts k (g.met.C.PacketCore.keeps_laws o) past q c.in-Ok-Some.packet c.args.self.now c.accept-outs.new.self c.accept-outs.result
    c.keeps_its_ranges.ensures s is (c.accept-outs.ensures o (entries k past) s.core) (sym c.is_ok.ensures.value ∙ c.if-is_ok.false)

pub returns-in-Ok : goal.returns-in-Ok
returns-in-Ok g c o past s =
    let k = g.C.PacketCore.kind o in
    let old = c.args.self.now in
    let q = c.args.piece.now in
    let is = subst (IsSensed k past q) (c.in-Ok-None.is ∙ ap Ok c.in-Ok-None.field-0-is) (c.look.ensures o past s) in
    subst (λ rows. Accepts k past (Framed (Piece q)) old (record old { pieces = rows }) (Ok c.nothing.result)) (sym c.in-Ok.ensures.taken)
    (subst (λ outs. Accepts k past (Framed (Piece q)) old (record old { pieces = rows_after_piece old.pieces q }) (Ok outs)) (sym (c.nothing.ensures o))
    (kept_accepts k (g.met.C.PacketCore.keeps_laws o) past q old is s))

pub returns-in-Err-FrameBadField : goal.returns-in-Err-FrameBadField
returns-in-Err-FrameBadField g c o past s =
    let k = g.C.PacketCore.kind o in
    let old = c.args.self.now in
    let q = c.args.piece.now in
    let is = subst (IsSensed k past q) (c.in-Err-FrameBadField.is ∙ ap Err c.in-Err-FrameBadField.field-0-is) (c.look.ensures o past s) in
    subst (λ rows. Accepts k past (Framed (Piece q)) old (record old { pieces = rows }) (Err FrameBadField))
    (sym (c.drop-in-Err-FrameBadField.ensures ∙ ap (λ t. without_tag t old.pieces) c.tag-in-Err-FrameBadField.ensures))
    (dropped_accepts k (g.met.C.PacketCore.keeps_laws o) past q old is s)

pub returns-in-Err-Down : goal.returns-in-Err-Down
returns-in-Err-Down g c o past s =
    let k = g.C.PacketCore.kind o in
    let misses = subst (IsSensed k past c.args.piece.now) (c.in-Err-Down.is ∙ ap Err c.in-Err-Down.field-0-is) (c.look.ensures o past s) in
    down_accepts k (g.met.C.PacketCore.keeps_laws o) past c.args.piece.now c.args.self.now misses s

pub returns-in-Err-Misdirected : goal.returns-in-Err-Misdirected
returns-in-Err-Misdirected g c o past s =
    let k = g.C.PacketCore.kind o in
    let misses = subst (IsSensed k past c.args.piece.now) (c.in-Err-Misdirected.is ∙ ap Err c.in-Err-Misdirected.field-0-is) (c.look.ensures o past s) in
    stray_accepts k (g.met.C.PacketCore.keeps_laws o) past c.args.piece.now c.args.self.now misses s
