use Rattle.std.proofs.Common.{refl, rules}
use Rattle.std.specs.Io.Buffered.{reader_remaining}
use Rattle.filters.proofs.OpenLemmas.{all_written, some_written}
use Rattle.filters.proofs.running.run.Goals as goal

pub returns : goal.returns
returns g c =
    let input = reader_remaining g.R.Read.remaining c.args.reader.now in
    let f = g.N.RecordsNode.filter c.args.begin in
    let same = c.serve-status.ensures.0 in
    record {
      ok = let so = all_written f input _ _ _ c.ended.result refl c.serve-status.ensures.1 c.ended.ensures.ok in search rules;
      err = let so = some_written f input _ _ _ c.ended.result refl c.serve-status.ensures.1 c.ended.ensures.err in search rules;
    }
