use Rattle.std.proofs.Common.{sym, ◌∙◌}
use Rattle.recheck.proofs.DiskLemmas.{skipped}
use Rattle.recheck.proofs.whole_disk.check_block.Goals as goal

pub returns-then-not-wants : goal.returns-then-not-wants
returns-then-not-wants g c =
    skipped c.args.check.now c.args.block (g.D.Disk.file c.args.disk.now) c.requires.unended (sym c.wants.ensures.value ∙ c.if-not-wants.true) c.requires.next
