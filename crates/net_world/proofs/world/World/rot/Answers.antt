use Rattle.std.proofs.Common.{refl, sym, ◌∙◌, ap, ◌<◌, arith, length, List, ℕ}
use Rattle.std.proofs.lemmas.Bool.{ltb-true, ltb-false}
use Rattle.disk_model.specs.File.{with_sector, put}
use Rattle.net_world.specs.Happenings.{Rot}
use Rattle.net_world.specs.Changes.{Rotted}
use Rattle.net_world.specs.Contents.{content}
use Rattle.net_world.proofs.ServeLemmas.{settled}
use Rattle.net_world.proofs.EndsLemmas.{refuses, stops, goes}
use Rattle.net_world.proofs.FileStepLemmas.{quiet_ends, file_kept, rots, no_slot, rot_none, rot_past, rot_free}
use Rattle.net_world.proofs.FilePlaceLemmas.{is_read, written}
use Rattle.net_world.proofs.world.World.rot.Goals as goal

pub returns-then-not-has_server : goal.returns-then-not-has_server
returns-then-not-has_server c w past stands =
    let s = c.args.server in
    let l = ltb-false s (length c.args.self.now.servers.items) (sym c.has_server.ensures ∙ c.if-not-has_server.true) in
    let e = Rot s c.args.job c.args.sector c.args.bytes.now in
    refuses w past e _ c.args.self.now refl (stops w past e _ (rot_none w s c.args.job (omega (arith, stands.number, l)))) stands

pub returns-then-not-has_file : goal.returns-then-not-has_file
returns-then-not-has_file c w past stands =
    let s = c.args.server in
    let l = ltb-true s (length c.args.self.now.servers.items) (sym c.has_server.ensures ∙ c.if-not-has_server.false) in
    let below : s < w.servers = omega (arith, stands.number, l) in
    let e = Rot s c.args.job c.args.sector c.args.bytes.now in
    let far = no_slot w s c.args.job (length c.args.self.now.files.items) (sym c.has_file.ensures ∙ c.if-not-has_file.true) stands.files below in
    refuses w past e _ c.args.self.now refl (stops w past e _ (rot_past w s c.args.job below far)) stands

pub returns-in_default : goal.returns-in_default
returns-in_default c w past stands = (refl, settled w past c.args.self.now _ stands c.settle.ensures.same refl refl refl refl)

pub returns-in-Ok-rot : goal.returns-in-Ok-rot
returns-in-Ok-rot c w past stands =
    let s = c.args.server in
    let j = c.args.job in
    let l = ltb-true s (length c.args.self.now.servers.items) (sym c.has_server.ensures ∙ c.if-not-has_server.false) in
    let below : s < w.servers = omega (arith, stands.number, l) in
    let read = is_read w past s j c.place_of.result c.index_mut.result.now c.args.self.now stands
    (sym c.has_file.ensures ∙ c.if-not-has_file.false) c.place_of.ensures c.index_mut.ensures.value in
    let e = Rot s j c.args.sector c.args.bytes.now in
    quiet_ends w past s j e (Rotted s j c.args.sector c.args.bytes.now)
    (put c.args.sector c.args.bytes.now (content w past s j)) c.rot.new.self c.in-Ok.first c.plain.result c.args.self.now _ stands
    (written w past s j _ _ _ _ _ read refl c.settle.ensures.same refl refl refl)
    (rots w past s j c.args.sector c.args.bytes.now)
    (c.in-Ok-rot.ensures.ok ∙ ap (with_sector c.args.sector c.args.bytes.now) read.held)
    (goes w past e (rot_free w s j below read.slot))
    refl
    (c.in-Ok.ensures.first ∙ ap (λ (fs : List (List ℕ)). length fs) c.settle.ensures.same)
    c.plain.ensures

pub returns-in-Err : goal.returns-in-Err
returns-in-Err c w past stands =
    let s = c.args.server in
    let j = c.args.job in
    let read = is_read w past s j c.place_of.result c.index_mut.result.now c.args.self.now stands
    (sym c.has_file.ensures ∙ c.if-not-has_file.false) c.place_of.ensures c.index_mut.ensures.value in (
      refl,
      file_kept w past s j c.rot.new.self c.args.self.now _ stands (written w past s j _ _ _ _ _ read refl c.settle.ensures.same refl refl
          refl) (c.in-Err.ensures.err ∙ read.held),
    )
