use Rattle.std.proofs.Common.{◌≡◌, ◌+◌, ◌<◌, List, ℕ, ap, ◌∙◌, ◌++◌, length, map, arith}
use Rattle.messages.proofs.FramesOfLemmas.{rise_fits, rise_both, more_ends, appended}
use Rattle.messages.proofs.frames.Frames.append.Goals as goal

-- Where the frames end, and the bytes, once all is appended.
ends : (c : goal.After-push_ends) → c.push_ends.new.ends.items
    ≡ c.self.inside.ends.items ++ map (λ end. length c.self.inside.bytes.items + end) c.other.inside.ends.items
ends c =
    more_ends c.self.inside.ends.items c.other.inside.ends.items c.reserve.new.self.items c.deref-2.result.now c.push_ends.new.ends.items
    c.self.inside.bytes.items c.as_slice-start.result.now
    c.push_ends.ensures c.reserve.ensures.items c.deref-2.ensures.value c.as_slice-start.ensures.value

bytes : (c : goal.After-push_ends) → c.extend_from_slice.new.self.items ≡ c.self.inside.bytes.items ++ c.other.inside.bytes.items
bytes c = c.in_ok-extend_from_slice.ensures.items ∙ ap (λ (xs : List ℕ). c.self.inside.bytes.items ++ xs) c.deref.ensures.value

pub push_ends-requires-clause-fits : goal.push_ends-requires-clause-fits
push_ends-requires-clause-fits c =
    let fits : length c.as_slice-start.result.now + length c.other.inside.bytes.items < 18446744073709551616 = omega arith in
    rw c.deref-2.ensures.value (rise_fits 0 c.other.inside.ends.items (length c.other.inside.bytes.items)
    (length c.as_slice-start.result.now) 18446744073709551616 c.other.invariant fits)

pub invariant_of-self-2 : goal.invariant_of-self-2
invariant_of-self-2 c =
    rw (ends c, bytes c) (rise_both c.self.inside.ends.items c.other.inside.ends.items c.self.inside.bytes.items c.other.inside.bytes.items c.self.invariant
    c.other.invariant)

pub returns-clause-appended : goal.returns-clause-appended
returns-clause-appended c =
    appended c.self.inside.ends.items c.other.inside.ends.items c.self.inside.bytes.items c.other.inside.bytes.items c.push_ends.new.ends.items
    c.extend_from_slice.new.self.items c.args.self.now c.args.other.now
    (ends c) (bytes c) c.self.invariant c.self.view_is c.other.view_is
