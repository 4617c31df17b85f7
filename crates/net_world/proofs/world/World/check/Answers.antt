use Rattle.std.proofs.Common.{refl, sym, ◌∙◌, ap, arith, length}
use Rattle.std.specs.Option.{option_copied}
use Rattle.std.proofs.lemmas.Result.{err_from_is_err_and}
use Rattle.disk_model.specs.MemDisk.{file_of}
use Rattle.net_world.specs.declared.told.WorldAnswer.TheVariants.{Checked}
use Rattle.net_world.proofs.ServeLemmas.{on_below}
use Rattle.net_world.proofs.FileStepLemmas.{file_kept, no_slot}
use Rattle.net_world.proofs.FilePlaceLemmas.{is_read, written}
use Rattle.net_world.proofs.CheckLemmas.{checked_file, unchecked, check_ends, check_fails, unready_ends}
use Rattle.net_world.proofs.world.World.check.Goals as goal

pub returns-in_err-ready : goal.returns-in_err-ready
returns-in_err-ready c w past stands =
    let p = err_from_is_err_and c.from_residual.result c.from_residual.ensures.1 in
    rw (p.1, p.2)
    (unready_ends w past c.args.server c.args.job c.in_err-ready.field-0.0 c.args.self.now stands (c.in_err-ready.ensures w past stands))

pub returns-then-not-has_file : goal.returns-then-not-has_file
returns-then-not-has_file c w past stands =
    let h = c.in_ok-ready.ensures w past stands in
    let far = no_slot w c.args.server c.args.job (length c.args.self.now.files.items) (sym c.has_file.ensures ∙ c.if-not-has_file.true) stands.files
    (on_below w past c.args.server h.on) in
    let below = h.below in
    absurd (omega arith)

pub returns-in_default : goal.returns-in_default
returns-in_default c w past stands =
    let s = c.args.server in
    let j = c.args.job in
    let read = is_read w past s j c.place_of.result c.index_mut.result.now c.args.self.now stands
    (sym c.has_file.ensures ∙ c.if-not-has_file.false) c.place_of.ensures c.index_mut.ensures.value in (
      refl,
      file_kept w past s j c.check_disk.new.disk c.args.self.now _ stands (written w past s j _ _ _ _ _ read refl refl refl refl refl)
          (unchecked c.in_ok-ready.ready.key c.in_ok-ready.ready.rec (option_copied c.as_ref.result) c.in_ok-ready.ready.fatal c.in_default.field-0
          (file_of c.index_mut.result.now) (file_of c.check_disk.new.disk) c.in_default.ensures ∙ read.held),
    )

pub returns-in_default-new : goal.returns-in_default-new
returns-in_default-new c w past stands =
    let s = c.args.server in
    let j = c.args.job in
    let read = is_read w past s j c.place_of.result c.index_mut.result.now c.args.self.now stands
    (sym c.has_file.ensures ∙ c.if-not-has_file.false) c.place_of.ensures c.index_mut.ensures.value in (
      refl,
      (checked_file w past s j c.place_of.result c.in_ok-ready.ready
          (c.in_ok-ready.ensures w past stands) c.in-Ok.report _ c.index_mut.result.now c.check_disk.new.disk c.args.self.now _ stands read
          c.as_ref.ensures.value
          c.in-Ok.ensures
          (written w past s j _ _ _ _ _ read refl refl refl refl refl)).1,
    )

pub returns-in-Ok-serve : goal.returns-in-Ok-serve
returns-in-Ok-serve c w past stands =
    let s = c.args.server in
    let j = c.args.job in
    let h = c.in_ok-ready.ensures w past stands in
    let read = is_read w past s j c.place_of.result c.index_mut.result.now c.args.self.now stands
    (sym c.has_file.ensures ∙ c.if-not-has_file.false) c.place_of.ensures c.index_mut.ensures.value in
    let made = checked_file w past s j c.place_of.result c.in_ok-ready.ready h c.in-Ok.report _ c.index_mut.result.now c.check_disk.new.disk c.args.self.now _
    stands read c.as_ref.ensures.value c.in-Ok.ensures
    (written w past s j _ _ _ _ _ read refl refl refl refl refl) in
    check_ends w past s j c.in_ok-ready.ready h c.in-Ok.report c.in-Ok-serve.told c.with_answer.result c.serve.new.self made.0 (c.in-Ok-serve.ensures w past made.1)
    (c.with_answer.ensures ∙ ap (λ x. record c.in-Ok-serve.told { answer = Checked x }) c.in-Ok-new.ensures)

pub returns-in-Err : goal.returns-in-Err
returns-in-Err c w past stands =
    let s = c.args.server in
    let j = c.args.job in
    let h = c.in_ok-ready.ensures w past stands in
    let read = is_read w past s j c.place_of.result c.index_mut.result.now c.args.self.now stands
    (sym c.has_file.ensures ∙ c.if-not-has_file.false) c.place_of.ensures c.index_mut.ensures.value in
    let made = checked_file w past s j c.place_of.result c.in_ok-ready.ready h c.in-Ok.report _ c.index_mut.result.now c.check_disk.new.disk c.args.self.now _
    stands read c.as_ref.ensures.value c.in-Ok.ensures
    (written w past s j _ _ _ _ _ read refl refl refl refl refl) in
    check_fails w past s j c.in_ok-ready.ready h c.in-Ok.report c.in-Err.fault c.serve.new.self made.0 (c.in-Err.ensures w past made.1)
