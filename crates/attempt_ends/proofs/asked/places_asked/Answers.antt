use Rattle.std.proofs.Common.{◌≡◌, ◌+◌, suc, ◌∙◌, ap, sym, subst, arith, ◌++◌, map}
use Rattle.std.specs.Prelude.{filter_map}
use Rattle.std.specs.Option.{option_to_list}
use Rattle.fc_base.specs.Counted.{numbers_below}
use Rattle.client_core.specs.Words.{words_noted, shown_entries}
use Rattle.client_core.specs.Hearing.{packets_heard}
use Rattle.attempt_ends.specs.declared.place.TheConstants.{PLACES}
use Rattle.attempt_ends.specs.Asked.{place_asked, jobs_read}
use Rattle.attempt_ends.specs.Places.{place_numbered, all_places}
use Rattle.attempt_ends.proofs.ListLemmas.{one_place}
use Rattle.attempt_ends.proofs.asked.places_asked.Goals as goal

pub loop-number-preserved : goal.loop-number-preserved
loop-number-preserved g c = λ o p h.
    let next : c.loop-number.number + 1 ≡ suc c.loop-number.number = omega arith in
    let kept = (words_noted o (shown_entries (packets_heard o p))).kept in
    one_place (place_asked c.args.servers c.args.run c.in_ok-jobs.jobs kept) c.loop-number.number (c.loop-number.number + 1) next
    c.loop-number.places.items c.push_if_any.new.list.items (c.loop-number.invariant o p h)
    (c.in_ok-push_if_any.ensures ∙ ap (λ a. c.loop-number.places.items ++ option_to_list a) (c.place_asked-asked.ensures o p h
    ∙ ap (λ js. place_asked c.args.servers c.args.run js kept c.numbered.result) c.as_slice.ensures
    ∙ ap (place_asked c.args.servers c.args.run c.in_ok-jobs.jobs kept) c.numbered.ensures))

pub returns : goal.returns
unfolding all_places
returns g c = λ o p h.
    let kept = (words_noted o (shown_entries (packets_heard o p))).kept in
    let all : c.loop-number.number ≡ PLACES = omega (arith, c.loop-number-test.false, c.loop-number.auto.number-end) in
    subst (λ js. c.loop-number.places.items ≡ filter_map (place_asked c.args.servers c.args.run js kept) all_places) c.in_ok-jobs.ensures
    (subst (λ k. c.loop-number.places.items ≡ filter_map (place_asked c.args.servers c.args.run c.in_ok-jobs.jobs kept) (map place_numbered (numbers_below k))) all
    (c.loop-number.invariant o p h))
