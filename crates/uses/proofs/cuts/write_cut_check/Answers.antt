use Rattle.std.proofs.Common.{◌∙◌, ap, filter, length, Some}
use Rattle.std.specs.List.{range_with_len}
use Rattle.disk_model.specs.File.{File}
use Rattle.disk_model.specs.MemDisk.{file_of}
use Rattle.recheck.specs.Disk.{held_by}
use Rattle.recheck.specs.Expected.{expected_by}
use Rattle.recheck.specs.Faults.{is_fault}
use Rattle.uses.proofs.KeptLemmas.{are_blocks, is_none, none_counted}
use Rattle.uses.proofs.cuts.write_cut_check.Goals as goal

pub returns : goal.returns
returns c =
    let key = c.args.key in
    let job = c.args.rec.now in
    let blocks = are_blocks c.writes_fill_their_blocks.ensures c.writes_stay_in_the_region.ensures key
    c.parts-limits.result job c.parts-limits.ensures.value c.parts-limits.ensures.limits in
    let state = c.in_ok-state.ensures in
    let now = file_of c.power_on-2.new.self in
    let none = none_counted c.block_law.ensures.reads_back c.block_law.ensures.keeps_other_blocks c.faults_are_losses.ensures.losses key job blocks
    (file_of c.power_on.new.self) now c.in_ok-state.state
    state.issued state.counts
    (ap (λ (f : File). f.content) c.power_on-2.ensures ∙ ap (λ (f : File). f.content) c.cut.ensures ∙ ap (λ (f : File). f.content) state.file) in
    is_none c.count_losses.result _ c.count_losses.ensures.faults
    (ap (λ k. length (filter (is_fault (expected_by k job (Some c.in_ok-state.state)) (held_by now job)) (range_with_len 0 job.blocks)))
    (c.key.ensures.value ∙ state.key) ∙ none)
