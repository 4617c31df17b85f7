use Rattle.std.proofs.Common.{decimal}
use Rattle.std.proofs.lemmas.Result.{on_ok_weaker}
use Rattle.targets.specs.MapLines.{kind_word}
use Rattle.targets.proofs.MapLineLemmas.{line_written}
use Rattle.targets.proofs.map_lines.write_line.Goals as goal

pub returns : goal.returns
returns g c =
    on_ok_weaker c.writeln.result
    (λ wrote. line_written _ _ _ _ _ (decimal c.args.block) c.kind_word.result.now (kind_word c.args.told.now) _ _ c.kind_word.ensures
    c.in_ok-write.ensures.bytes c.in_ok-write_wanted.ensures c.in_ok-write_held.ensures wrote) c.writeln.ensures.bytes
