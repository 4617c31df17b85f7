use Rattle.std.proofs.Common.{◌++◌, length, arith}
use Rattle.std.specs.List.{flat_map}
use Rattle.ledger.specs.Spelling.{write_numbers}
use Rattle.ledger.proofs.ReadingLemmas.{head_of, entry_there}
use Rattle.ledger.proofs.reading.entry_in.Goals as goal

pub returns-then-head-behind-clause-read : goal.returns-then-head-behind-clause-read
returns-then-head-behind-clause-read c table entry more rows good is =
    let head = head_of c.args.words.now c.split_at.result.0.now c.split_at.result.1.now (flat_map (write_numbers table) entry ++ more) (length entry)
    c.split_at.ensures.front c.split_at.ensures.back is in
    absurd (omega (arith, c.if-head-behind.true, head.0, c.split_at.ensures.back_len, entry_there table entry c.args.words.now more is))
