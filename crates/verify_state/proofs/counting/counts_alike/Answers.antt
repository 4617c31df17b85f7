use Rattle.std.proofs.Common.{◌∙◌, ap, sym}
use Rattle.std.specs.Cmp.Lexicographic.{bytes_decides}
use Rattle.std.proofs.lemmas.Bool.Decides.{same_from_decides}
use Rattle.fc_base.specs.Counted.{has}
use Rattle.fc_base.specs.Marks.{floor_of, marks_of, counted_by}
use Rattle.fc_base.specs.CountLaws.{marks_again}
use Rattle.verify_state.proofs.counting.counts_alike.Goals as goal

pub returns : goal.returns
returns c =
    let window = c.args.window in
    let issued = c.args.issued in
    let one = c.words.ensures in
    let other = c.words-2.ensures in
    let same = bytes_decides c.words.result c.words-2.result in
    let back = marks_again window issued c.words.result one.four one.range (rw one.value c.requires.one) in
    let back_other = marks_again window issued c.words-2.result other.four other.range (rw other.value c.requires.other) in
    same_from_decides _ _ (
      λ e. ap (counted_by window issued) (sym one.value ∙ same.0 (sym c.eq.ensures ∙ e) ∙ other.value),
      λ e. c.eq.ensures ∙ same.1 (
          sym back
          ∙ ap (λ marks. marks_of (has (counted_by window issued marks)) (floor_of window issued)) one.value
          ∙ ap (λ counted. marks_of (has counted) (floor_of window issued)) e
          ∙ ap (λ marks. marks_of (has (counted_by window issued marks)) (floor_of window issued)) (sym other.value)
          ∙ back_other
          ),
    ) (bytes_decides (counted_by window issued c.args.one.now) (counted_by window issued c.args.other.now))
