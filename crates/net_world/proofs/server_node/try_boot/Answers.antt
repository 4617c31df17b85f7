use Rattle.net_world.proofs.CutLemmas.{boots_yes, boots_no}
use Rattle.net_world.proofs.server_node.try_boot.Goals as goal

pub returns-then-noted-lt18446744073709551615 : goal.returns-then-noted-lt18446744073709551615
returns-then-noted-lt18446744073709551615 c n says =
    boots_yes c.one_note.ensures c.args.bytes.now c.in-Some.noted n c.in-Some.ensures says c.if-noted-lt18446744073709551615.true

pub returns-else-noted-lt18446744073709551615 : goal.returns-else-noted-lt18446744073709551615
returns-else-noted-lt18446744073709551615 c n says =
    boots_no c.one_note.ensures c.args.bytes.now c.in-Some.noted n c.in-Some.ensures says c.if-noted-lt18446744073709551615.false

pub returns-in-None : goal.returns-in-None
returns-in-None c n says = absurd (c.in-None.ensures n says)
