use Rattle.std.proofs.Common.{List, ℕ, length, ap, arith}
use Rattle.messages.specs.KeptNetwork.{Stored}
use Rattle.messages.proofs.FramesOfLemmas.{length-parted, get_in, get_is}
use Rattle.messages.proofs.store.Store.get.Goals as goal

pub returns-then-index-ends : goal.returns-then-index-ends
returns-then-index-ends c =
    omega (
      arith,
      c.if-index-ends.true,
      length-parted 0 c.self.inside.ends.items c.self.inside.bytes.items,
      ap (λ (xs : List ℕ). length xs) c.as_slice-ends.ensures.value,
      ap (λ (s : Stored). length s.frames) c.self.view_is,
    )

pub slice_bounds-result-count : goal.slice_bounds-result-count
slice_bounds-result-count c =
    (get_in c.self.inside.ends.items c.as_slice-ends.result.now
    (length c.self.inside.bytes.items) c.args.index c.start_of.result c.self.invariant c.as_slice-ends.ensures.value c.if-index-ends.false
    c.start_of.ensures).0

pub slice_bounds-result-start : goal.slice_bounds-result-start
slice_bounds-result-start c = slice_bounds-result-count c

pub slice_bounds-result-end : goal.slice_bounds-result-end
slice_bounds-result-end c =
    let part = get_in c.self.inside.ends.items c.as_slice-ends.result.now
    (length c.self.inside.bytes.items) c.args.index c.start_of.result c.self.invariant c.as_slice-ends.ensures.value c.if-index-ends.false
    c.start_of.ensures in
    omega arith

pub returns : goal.returns
returns c =
    rw (← ap (λ (s : Stored). s.frames) c.self.view_is) (get_is c.self.inside.ends.items c.self.inside.bytes.items c.as_slice-ends.result.now c.deref.result.now
    c.args.index c.start_of.result c.as_slice-ends.ensures.value c.deref.ensures.value c.if-index-ends.false c.start_of.ensures)
