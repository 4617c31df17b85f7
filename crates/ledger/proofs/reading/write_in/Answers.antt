use Rattle.std.proofs.Common.{arith}
use Rattle.ledger.proofs.TableLemmas.{row_read, index_there}
use Rattle.ledger.proofs.reading.write_in.Goals as goal

pub returns-then-index-rows : goal.returns-then-index-rows
returns-then-index-rows c table w rows readable index seq =
    let there = index_there c.args.rows.now table w c.args.index rows readable index in
    absurd (omega (arith, there, c.if-index-rows.true))

pub returns : goal.returns
returns c table w rows readable index seq =
    c.run_write.ensures w readable.ranged (row_read c.args.rows.now c.row_of.result.now table w c.args.index rows readable index c.row_of.ensures.row) seq
