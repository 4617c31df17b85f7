use Rattle.std.proofs.Common.{◌≡◌, ◌+◌, suc, ◌∙◌, ap, sym, subst, arith, ◌++◌, map}
use Rattle.std.specs.Prelude.{filter_map}
use Rattle.std.specs.Option.{option_to_list}
use Rattle.fc_base.specs.Counted.{numbers_below}
use Rattle.client_core.specs.Words.{shown_entries}
use Rattle.client_core.specs.Hearing.{packets_heard}
use Rattle.attempt_ends.specs.declared.place.TheConstants.{PLACES}
use Rattle.attempt_ends.specs.Attempts.{attempt_of}
use Rattle.attempt_ends.specs.PlaceEnds.{at_place, end_at, ends}
use Rattle.attempt_ends.specs.Places.{place_numbered, all_places}
use Rattle.attempt_ends.proofs.AttemptLemmas.{shown_attempts}
use Rattle.attempt_ends.proofs.ListLemmas.{one_place, one_more_at_most}
use Rattle.attempt_ends.proofs.ends.ends_of.Goals as goal

pub loop-number-preserved : goal.loop-number-preserved
loop-number-preserved g c =
    let n = c.loop-number.number in
    let next : n + 1 ≡ suc n = omega arith in
    let made = attempt_of c.args.run c.args.attempt c.args.attempts.now.made in
    record {
      few = one_more_at_most c.loop-number.told.items c.push_if_any.new.list.items c.at_place.result n (n + 1) c.loop-number.invariant.few c.in_ok-push_if_any.ensures next;
      told = λ o p h.
          let shown = shown_entries (packets_heard o p) in
          one_place (λ place. at_place place (end_at made o shown c.args.run c.args.attempt place)) n (n + 1) next c.loop-number.told.items c.push_if_any.new.list.items
          (c.loop-number.invariant.told o p h)
          (c.in_ok-push_if_any.ensures ∙ ap (λ e. c.loop-number.told.items ++ option_to_list e) (c.at_place.ensures
          ∙ ap (at_place c.numbered-place.result) (c.end_at-end.ensures o p h)
          ∙ ap (λ place. at_place place (end_at made o shown c.args.run c.args.attempt place)) c.numbered-place.ensures));
    }

pub returns-clause-ends : goal.returns-clause-ends
unfolding all_places
returns-clause-ends g c = λ o p h is.
    let shown = shown_entries (packets_heard o p) in
    let all : c.loop-number.number ≡ PLACES = omega (arith, c.loop-number-test.false, c.loop-number.auto.number-end) in
    subst (λ ms. c.loop-number.told.items ≡ ends (attempt_of c.args.run c.args.attempt ms) o shown c.args.run c.args.attempt)
    (is ∙ sym (shown_attempts o (packets_heard o p)))
    (subst (λ k. c.loop-number.told.items
    ≡ filter_map (λ place. at_place place (end_at (attempt_of c.args.run c.args.attempt c.args.attempts.now.made) o shown c.args.run c.args.attempt place))
    (map place_numbered (numbers_below k))) all
    (c.loop-number.invariant.told o p h))
