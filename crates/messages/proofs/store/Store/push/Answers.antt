use Rattle.std.proofs.Common.{◌≡◌, ◌++◌, List, ℕ, length, ap}
use Rattle.messages.specs.KeptNetwork.{Stored}
use Rattle.messages.proofs.StoreLemmas.{pushed_rise, pushed_frames}
use Rattle.messages.proofs.store.Store.push.Goals as goal

-- The bytes with those of the frame, where it ends, and the ends with that one.
bytes : (c : goal.After-push_reserved) → c.extend_from_slice.new.self.items ≡ c.self.inside.bytes.items ++ c.args.frame.now
bytes c = rw c.unwrap.ensures at c.extend_from_slice.ensures.items

end : (c : goal.After-push_reserved) → length c.as_slice.result.now ≡ length c.extend_from_slice.new.self.items
end c = ap (λ (xs : List ℕ). length xs) c.as_slice.ensures.value

pub invariant_of-self : goal.invariant_of-self
invariant_of-self c =
    pushed_rise c.self.inside.ends.items c.self.inside.bytes.items c.args.frame.now c.push_reserved.new.self.items c.extend_from_slice.new.self.items
    (length c.as_slice.result.now)
    c.self.invariant (bytes c) (end c) c.push_reserved.ensures.items

pub returns-clause-frames : goal.returns-clause-frames
returns-clause-frames c =
    pushed_frames c.self.inside.ends.items c.self.inside.bytes.items c.args.frame.now c.push_reserved.new.self.items c.extend_from_slice.new.self.items
    (length c.as_slice.result.now) c.args.self.now.frames
    c.self.invariant (ap (λ (s : Stored). s.frames) c.self.view_is) (bytes c) (end c) c.push_reserved.ensures.items
