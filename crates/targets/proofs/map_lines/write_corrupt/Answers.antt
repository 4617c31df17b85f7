use Rattle.std.proofs.Common.{◌++◌, append_assoc, codes, decimal, subst}
use Rattle.std.specs.Io.KnownBytes.{Appends}
use Rattle.std.proofs.KnownBytes.{Appends-trans}
use Rattle.std.proofs.lemmas.Result.{on_ok_weaker}
use Rattle.targets.specs.MapDifferences.{differs_words}
use Rattle.targets.specs.MapSectors.{sectors_words}
use Rattle.targets.proofs.map_lines.write_corrupt.Goals as goal

pub returns : goal.returns
returns g c =
    on_ok_weaker c.write_torn.result
    (λ wrote. subst (Appends (g.W.Write.contents c.args.writer.now) (g.W.Write.contents c.write_torn.new.writer))
    (append_assoc (codes ", unknown sectors ") (decimal c.args.sectors)
    (differs_words c.args.expected.now c.args.block c.args.bytes.now ++ sectors_words c.args.expected.now c.args.bytes.now))
    (Appends-trans _ _ _ _ _ c.in_ok-write.ensures.bytes wrote)) c.write_torn.ensures
