use Rattle.std.proofs.Common.{◌≡◌, ◌+◌, ◌<◌, inl, inr, refl, sym, ap, subst, ◌∙◌}
use Rattle.write_order.specs.declared.order.Chooser.TheVariants.{InTurn, WithoutMap}
use Rattle.write_order.specs.Ahead.{words_after}
use Rattle.write_order.specs.Progress.{Progress}
use Rattle.write_order.specs.Places.{words_used}
use Rattle.write_order.specs.UnderWay.{chooser_before}
use Rattle.write_order.proofs.OrderSteps.{in_turn_is, without_map_is, goes_on, random_words_go_on, all_used, pass_goes_on}
use Rattle.write_order.proofs.order.Order.advance.Goals as goal
use Rattle.write_order.proofs.order.Order.advance.Goals.{in-InTurn, in-WithMap, in-WithoutMap}

pub invariant_of-self : goal.invariant_of-self
invariant_of-self c =
    let o = c.self.inside in
    let known = c.self.invariant in
    let next = c.match-self.self-inside in
    let More : Progress → Type 0 = λ at. at.issued < at.job.total in
    let more = subst More (sym c.self.view_is) c.requires in
    elim c.match-self.branch [
      | in-InTurn w ↦
          let kind = in_turn_is o.rec.kind _ (sym w.in-InTurn.is ∙ known.chooser) in
          let used : words_used o.rec.kind o.issued ≡ words_used o.rec.kind (o.issued + 1) = rw kind refl in
          let before : InTurn ≡ chooser_before o.rec (o.issued + 1) = rw kind refl in
          goes_on o next _ _ w.self-inside-is more (known.words ∙ ap (words_after o.rec.seed) used) (w.in-InTurn.is ∙ before)
      | in-WithMap w ↦
          let pass = pass_goes_on o.rec o.issued _ o.words o.chooser _ _ w.in-WithMap.is known.chooser known.words w.first.ensures w.advance.ensures in
          let words = random_words_go_on o.rec o.issued o.words _ (λ n. all_used o.rec.kind n (inl pass.0)) known.words w.advance-in-WithMap.ensures in
          goes_on o next _ _ w.self-inside-is more words pass.1
      | in-WithoutMap w ↦
          let kind = without_map_is o.rec.kind _ (sym w.in-WithoutMap.is ∙ known.chooser) in
          let words = random_words_go_on o.rec o.issued o.words _ (λ n. all_used o.rec.kind n (inr kind)) known.words w.advance-in-WithoutMap.ensures in
          let before : WithoutMap ≡ chooser_before o.rec (o.issued + 1) = rw kind refl in
          goes_on o next _ _ w.self-inside-is more words (w.in-WithoutMap.is ∙ before)
    ]
