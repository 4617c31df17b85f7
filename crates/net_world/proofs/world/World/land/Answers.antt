use Rattle.std.proofs.Common.{refl, sym, ◌∙◌, ap, subst, arith, length, List, ℕ}
use Rattle.std.specs.Prelude.{IsTrue}
use Rattle.std.proofs.lemmas.Result.{err_from_is_err_and}
use Rattle.fc_base.specs.JobParts.{is_within_limits}
use Rattle.fc_base.specs.declared.record.JobParts.{JobParts}
use Rattle.disk_model.specs.MemDisk.{file_of}
use Rattle.net_world.specs.Happenings.{Land}
use Rattle.net_world.specs.Changes.{Landed, trace}
use Rattle.net_world.specs.Contents.{content, with_write}
use Rattle.net_world.specs.Writes.{open_at}
use Rattle.net_world.proofs.ServeLemmas.{on_below}
use Rattle.net_world.proofs.EndsLemmas.{refuses, stops, goes}
use Rattle.net_world.proofs.FileStepLemmas.{quiet_ends, file_kept, lands, no_slot}
use Rattle.net_world.proofs.FilePlaceLemmas.{is_read, written, is_block, block_below, landed_is}
use Rattle.net_world.proofs.world.World.land.Goals as goal

pub land-requires : goal.land-requires
land-requires c =
    let rec = c.in_ok-found.found.1 in
    let limits = subst (λ (r : JobParts). IsTrue (is_within_limits r)) c.parts-within_limits.ensures.value c.parts-within_limits.ensures.limits in
    is_block rec limits c.in_ok-found.found.0.block (length c.deref.result.now) (omega (arith, c.if-ticket-ge-MAX_BLOCKS.false))
    (ap (λ (bs : List ℕ). length bs) (c.deref.ensures.value ∙ c.in-Ok-fill.ensures)
    ∙ c.writes_fill_their_blocks.ensures c.in_ok-found.found.0.key rec limits c.args.write c.in_ok-found.found.0.block)

pub returns-in_err-found : goal.returns-in_err-found
returns-in_err-found c w past stands =
    let h = c.in_err-found.ensures w past stands in
    let e = Land c.args.server c.args.job c.args.write c.args.mask in
    let p = err_from_is_err_and c.from_residual.result c.from_residual.ensures.1 in
    rw (p.1, p.2)
    (refuses w past e c.in_err-found.field-0.0 c.args.self.now h.1 (stops w past e c.in_err-found.field-0.0 h.0) stands)

pub returns-then-not-has_file : goal.returns-then-not-has_file
returns-then-not-has_file c w past stands =
    let h = c.in_ok-found.ensures w past stands in
    let far = no_slot w c.args.server c.args.job (length c.args.self.now.files.items) (sym c.has_file.ensures ∙ c.if-not-has_file.true) stands.files
    (on_below w past c.args.server h.on) in
    let below = h.below in
    absurd (omega arith)

pub returns-then-ticket-ge-MAX_BLOCKS : goal.returns-then-ticket-ge-MAX_BLOCKS
returns-then-ticket-ge-MAX_BLOCKS c w past stands =
    let limits = subst (λ (r : JobParts). IsTrue (is_within_limits r)) c.parts-within_limits.ensures.value c.parts-within_limits.ensures.limits in
    let below = block_below c.writes_stay_in_the_region.ensures w past c.args.server c.args.job c.args.write c.in_ok-found.found.0 c.in_ok-found.found.1 limits
    (c.in_ok-found.ensures w past stands) in
    absurd (omega (arith, c.if-ticket-ge-MAX_BLOCKS.true, below))

pub returns-in-Ok-land : goal.returns-in-Ok-land
returns-in-Ok-land c w past stands =
    let s = c.args.server in
    let j = c.args.job in
    let k = c.args.write in
    let h = c.in_ok-found.ensures w past stands in
    let read = is_read w past s j c.place_of.result c.index_mut.result.now c.args.self.now stands
    (sym c.has_file.ensures ∙ c.if-not-has_file.false) c.place_of.ensures c.index_mut.ensures.value in
    let e = Land s j k c.args.mask in
    quiet_ends w past s j e (Landed s j k c.args.mask) (with_write k c.args.mask (open_at (trace w past) s j k) (content w past s j)) c.land.new.self
    c.in-Ok.first c.plain.result c.args.self.now _ stands
    (written w past s j _ _ _ _ _ read refl c.settle.ensures.same refl refl refl)
    (lands w past s j k c.args.mask)
    (landed_is w past s j k c.args.mask c.in_ok-found.found.0 c.in_ok-found.found.1 c.deref.result.now (file_of c.index_mut.result.now)
    (file_of c.land.new.self) h read.held (c.deref.ensures.value ∙ c.in-Ok-fill.ensures) c.in-Ok-land.ensures.ok)
    (goes w past e h.there)
    refl
    (c.in-Ok.ensures.first ∙ ap (λ (fs : List (List ℕ)). length fs) c.settle.ensures.same)
    c.plain.ensures

pub returns-in-Err : goal.returns-in-Err
returns-in-Err c w past stands =
    let s = c.args.server in
    let j = c.args.job in
    let read = is_read w past s j c.place_of.result c.index_mut.result.now c.args.self.now stands
    (sym c.has_file.ensures ∙ c.if-not-has_file.false) c.place_of.ensures c.index_mut.ensures.value in (
      refl,
      file_kept w past s j c.land.new.self c.args.self.now _ stands (written w past s j _ _ _ _ _ read refl c.settle.ensures.same refl refl
          refl) (c.in-Err.ensures.err ∙ read.held),
    )
