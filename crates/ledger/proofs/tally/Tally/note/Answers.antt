use Rattle.std.proofs.Common.{◌≤◌, ◌+◌, sym, ap, subst, arith}
use Rattle.ledger.proofs.TallyLemmas.{Listed, below_higher, listed_more}
use Rattle.ledger.proofs.tally.Tally.note.Goals as goal

pub invariant_of-self : goal.invariant_of-self
invariant_of-self c = let from : c.self.inside.next ≤ c.args.block = omega (arith, c.requires.next, ap (λ n. n.next) c.self.view_is) in record {
  next = omega arith;
  checked = omega arith;
  faults = c.self.invariant.faults;
  listed = c.self.invariant.listed;
  ascending = c.self.invariant.ascending;
  below = below_higher _ c.self.inside.next (c.args.block + 1) (omega arith) c.self.invariant.below;
}

pub invariant_of-self-in-Good : goal.invariant_of-self-in-Good
invariant_of-self-in-Good c = let from : c.self.inside.next ≤ c.args.block = omega (arith, c.requires.next, ap (λ n. n.next) c.self.view_is) in record {
  next = omega arith;
  checked = omega arith;
  faults = omega arith;
  listed = c.self.invariant.listed;
  ascending = c.self.invariant.ascending;
  below = below_higher _ c.self.inside.next (c.args.block + 1) (omega arith) c.self.invariant.below;
}

pub invariant_of-self-in-Fault : goal.invariant_of-self-in-Fault
invariant_of-self-in-Fault c =
    let from : c.self.inside.next ≤ c.args.block = omega (arith, c.requires.next, ap (λ n. n.next) c.self.view_is) in
    let kept : Listed c.self.inside.faults c.self.inside.next c.self.inside.first =
    record { listed = c.self.invariant.listed; ascending = c.self.invariant.ascending; below = c.self.invariant.below } in
    let more : Listed (c.self.inside.faults + 1) (c.args.block + 1) c.list.new.first =
    subst (Listed (c.self.inside.faults + 1) (c.args.block + 1)) (sym c.list.ensures)
    (listed_more c.self.inside.faults c.self.inside.next c.args.block c.self.inside.first (omega arith) kept) in
    record {
      next = omega arith;
      checked = omega arith;
      faults = omega arith;
      listed = more.listed;
      ascending = more.ascending;
      below = more.below;
    }
