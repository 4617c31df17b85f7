use Rattle.std.proofs.Common.{refl, sym, ◌∙◌, ap, ◌<◌, arith, length, List, ℕ}
use Rattle.std.proofs.lemmas.Result.{err_from_is_err_and}
use Rattle.std.proofs.lemmas.Bool.{ltb-true, ltb-false}
use Rattle.server_core.specs.declared.input.Input.TheVariants as inputs
use Rattle.server_core.specs.Hearing as hearing
use Rattle.net_world.specs.Trace.{opening_of}
use Rattle.net_world.specs.Happenings.{Deliver, CutIn}
use Rattle.node.specs.Kinds.{lost_by}
use Rattle.net_world.specs.Serving.{entries}
use Rattle.net_world.proofs.MetLemmas.{in_place, none_added}
use Rattle.net_world.proofs.ServeLemmas.{node_at, settled, none_there, is_there}
use Rattle.net_world.proofs.EndsLemmas.{refuses, stops}
use Rattle.net_world.proofs.PlainLemmas.{plain_ends}
use Rattle.net_world.proofs.CutEndsLemmas.{cut_bar, frame_cut_plain, frame_cut_ends}
use Rattle.net_world.proofs.world.World.cut_in_at_server.Goals as goal

pub returns-then-not-has_server : goal.returns-then-not-has_server
returns-then-not-has_server c w past number stands is goes =
    let l = ltb-false c.args.server (length c.args.self.now.servers.items) (sym c.has_server.ensures ∙ c.if-not-has_server.true) in
    let e = CutIn c.args.landed (Deliver number) in
    refuses w past e _ c.args.self.now refl
    (stops w past e _ (cut_bar w past number c.args.landed c.args.frame c.args.server (record { is_sent = is; goes_to = goes })
    ∙ none_there w past c.args.server (omega (arith, stands.number, l)))) stands

pub returns-in_default : goal.returns-in_default
returns-in_default c w past number stands is goes = (refl, settled w past c.args.self.now _ stands c.settle.ensures.same refl refl refl refl)

pub returns : goal.returns
returns c w past number stands is goes =
    let s = c.args.server in
    let l = ltb-true s (length c.args.self.now.servers.items) (sym c.has_server.ensures ∙ c.if-not-has_server.false) in
    let below : s < w.servers = omega (arith, stands.number, l) in
    let at = node_at c.args.self.now.servers.items s c.server.inside.0 c.index_mut.result.now c.server.view_is l c.index_mut.ensures.value in
    let h = c.in_ok-cut_in_delivery.ensures (opening_of s) (entries past s) (stands.servers_are s c.index_mut.result.now at) in
    plain_ends w past s (CutIn c.args.landed (Deliver number))
    (hearing.Met (inputs.Deliver c.args.frame) (lost_by c.args.landed)) c.cut_in_delivery.new.node c.in-Ok.first c.plain.result c.args.self.now _ stands
    (in_place l c.server.view_is refl (none_added c.settle.ensures.same) refl refl refl)
    h.2
    (frame_cut_plain w past number c.args.landed c.args.frame s (record { is_sent = is; goes_to = goes }) (is_there w past s below h.0) h.1)
    (c.in-Ok.ensures.first ∙ ap (λ (fs : List (List ℕ)). length fs) c.settle.ensures.same)
    c.plain.ensures

pub returns-in_err-cut_in_delivery : goal.returns-in_err-cut_in_delivery
returns-in_err-cut_in_delivery c w past number stands is goes =
    let s = c.args.server in
    let l = ltb-true s (length c.args.self.now.servers.items) (sym c.has_server.ensures ∙ c.if-not-has_server.false) in
    let at = node_at c.args.self.now.servers.items s c.server.inside.0 c.index_mut.result.now c.server.view_is l c.index_mut.ensures.value in
    let p = err_from_is_err_and c.from_residual.result c.from_residual.ensures.1 in
    rw (p.1, p.2)
    (frame_cut_ends w past number c.args.landed c.args.frame s c.cut_in_delivery.new.node c.in_err-cut_in_delivery.field-0.0 c.args.self.now _ stands
    (in_place l c.server.view_is refl (none_added c.settle.ensures.same) refl refl refl)
    (omega (arith, stands.number, l)) (record { is_sent = is; goes_to = goes })
    (c.in_err-cut_in_delivery.ensures (opening_of s) (entries past s) (stands.servers_are s c.index_mut.result.now at)))
