use Rattle.std.proofs.Common.{◌≡◌, ◌∙◌, ◌+◌, List, refl, sym, ap, subst, arith, length, ℕ, Some}
use Rattle.std.proofs.lemmas.Option.{slice_get_within}
use Rattle.cells.specs.Histories.{lent_entry}
use Rattle.assembly.specs.Marks.{mark_of_line}
use Rattle.assembly.specs.Order.{next_of, with_next, IsPassed}
use Rattle.assembly.proofs.PassLemmas.{gone_by, untold_before, no_event, other_event, told_so, read_there, long_as}
use Rattle.assembly.proofs.order.Order.tell.Goals as goal

pub returns-then-at-next_of-clause-untold : goal.returns-then-at-next_of-clause-untold
returns-then-at-next_of-clause-untold c = λ h e.
    rw c.unlike.ensures (
      refl,
      gone_by c.histories_rise.ensures c.args.line.now.node h (next_of c.args.self.now.next c.args.line.now.node) c.args.line.now.at
          (mark_of_line c.args.hub.now.net.frames c.args.before c.args.line.now)
          (omega (arith, c.requires.within, long_as c.args.history.now.items h e)) refl (omega (arith, c.if-at-next_of.true, c.next_of.ensures)),
    )

pub returns-in-Err-clause-untold : goal.returns-in-Err-clause-untold
returns-in-Err-clause-untold c = λ h e.
    untold_before c.args.line.now.node h (next_of c.args.self.now.next c.args.line.now.node) c.min-end.result
    (mark_of_line c.args.hub.now.net.frames c.args.before c.args.line.now) c.in-Err.fault
    (omega (arith, c.min-end.ensures)) (c.in-Err.ensures.stopped h e)

pub returns-in_default-get-clause-untold : goal.returns-in_default-get-clause-untold
returns-in_default-get-clause-untold c = λ h e.
    let end : c.min-end.result ≡ length h = omega (arith, c.min-end.ensures, c.in_default-get.ensures, long_as c.args.history.now.items h e) in
    rw c.unlike-in_default-get.ensures (
      refl,
      no_event c.histories_rise.ensures c.args.line.now.node h (next_of c.args.self.now.next c.args.line.now.node) c.args.line.now.at
          (mark_of_line c.args.hub.now.net.frames c.args.before c.args.line.now) c.args.self.now.places c.pass.new.self.places refl
          (subst (λ (to : ℕ). IsPassed c.args.line.now.node h
          (next_of c.args.self.now.next c.args.line.now.node) to c.args.self.now.places c.pass.new.self.places) end (c.in_default.ensures.passed h e)),
    )

pub returns-then-not-is_told_by-clause-untold : goal.returns-then-not-is_told_by-clause-untold
returns-then-not-is_told_by-clause-untold c = λ h e.
    let end : c.min-end.result ≡ c.args.line.now.at =
    omega (arith, c.min-end.ensures, slice_get_within c.args.history.now.items c.args.line.now.at (lent_entry c.in-Some.lent) c.in-Some.ensures) in
    rw c.unlike-then-not-is_told_by.ensures (
      refl,
      other_event c.histories_rise.ensures c.args.line.now.node h (next_of c.args.self.now.next c.args.line.now.node) c.args.line.now.at c.as_entry.result.now
          (mark_of_line c.args.hub.now.net.frames c.args.before c.args.line.now) c.args.self.now.places c.pass.new.self.places
          (omega (
            arith,
            slice_get_within c.args.history.now.items c.args.line.now.at (lent_entry c.in-Some.lent) c.in-Some.ensures,
            long_as c.args.history.now.items h e,
          ))
          (read_there c.args.history.now.items h c.args.line.now.at c.as_entry.result.now e (c.in-Some.ensures ∙ ap Some (sym c.as_entry.ensures)))
          refl (λ told. let yes = c.is_told_by.ensures.1 told in cc)
          (subst (λ (to : ℕ). IsPassed c.args.line.now.node h
          (next_of c.args.self.now.next c.args.line.now.node) to c.args.self.now.places c.pass.new.self.places) end (c.in_default.ensures.passed h e)),
    )

pub returns-clause-told : goal.returns-clause-told
returns-clause-told c = λ h e.
    let end : c.min-end.result ≡ c.args.line.now.at =
    omega (arith, c.min-end.ensures, slice_get_within c.args.history.now.items c.args.line.now.at (lent_entry c.in-Some.lent) c.in-Some.ensures) in
    told_so c.histories_rise.ensures c.args.line.now.node h c.args.line.now.at c.as_entry.result.now
    (mark_of_line c.args.hub.now.net.frames c.args.before c.args.line.now)
    c.args.self.now c.pass.new.self.places c.set_next.new.self
    (omega (
      arith,
      slice_get_within c.args.history.now.items c.args.line.now.at (lent_entry c.in-Some.lent) c.in-Some.ensures,
      long_as c.args.history.now.items h e,
    ))
    (read_there c.args.history.now.items h c.args.line.now.at c.as_entry.result.now e (c.in-Some.ensures ∙ ap Some (sym c.as_entry.ensures)))
    (omega (arith, c.if-at-next_of.false, c.next_of.ensures)) refl (c.is_told_by.ensures.0 c.if-not-is_told_by.false)
    (subst (λ (to : ℕ). IsPassed c.args.line.now.node h (next_of c.args.self.now.next c.args.line.now.node) to c.args.self.now.places c.pass.new.self.places)
    end (c.in_default.ensures.passed h e))
    (c.set_next.ensures.places ∙ c.in_ok-add.ensures.places)
    (c.set_next.ensures.next ∙ ap (λ (next : List ℕ). with_next next c.args.line.now.node (c.args.line.now.at + 1)) (c.add.ensures.next ∙ c.pass.ensures.next))
