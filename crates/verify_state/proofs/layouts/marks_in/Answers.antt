use Rattle.std.proofs.Common.{◌∙◌, sym}
use Rattle.verify_state.proofs.LayoutLemmas.{listed_gives, marked_gives}
use Rattle.verify_state.proofs.layouts.marks_in.Goals as goal

pub returns-then-is_layout_1 : goal.returns-then-is_layout_1
returns-then-is_layout_1 c =
    listed_gives c.args.bytes.now c.listed.result (sym c.is_layout_1.ensures ∙ c.if-is_layout_1.true) c.requires.ranges c.listed.ensures

pub returns : goal.returns
returns c = marked_gives c.args.bytes.now c.marked.result (sym c.is_layout_1.ensures ∙ c.if-is_layout_1.false) c.marked.ensures
