use Rattle.std.proofs.Common.{◌≡◌, ◌↔◌, true, ◌∙◌, subst, get_or}
use Rattle.fc_base.proofs.MarkLemmas.{WordEnds, ends_as_tested}
use Rattle.fc_base.proofs.marks.Marks.ends_by.Goals as goal

pub returns : goal.returns
returns c =
    let words = c.self.inside.words in
    let end = c.args.end in
    let b = subst (λ n. (c.word_ends_by-2.result ≡ true) ↔ WordEnds (get_or words 1 0) n) c.saturating_sub.ensures c.word_ends_by-2.ensures in
    let d = subst (λ n. (c.word_ends_by-3.result ≡ true) ↔ WordEnds (get_or words 2 0) n) c.saturating_sub-2.ensures c.word_ends_by-3.ensures in
    let e = subst (λ n. (c.word_ends_by-4.result ≡ true) ↔ WordEnds (get_or words 3 0) n) c.saturating_sub-3.ensures c.word_ends_by-4.ensures in
    rw (← c.self.view_is) (c.all_four.ensures ∙ ends_as_tested end words _ _ _ _ c.word_ends_by.ensures b d e)
