use Rattle.std.proofs.Common.{List, ℕ, length, ap, ◌∙◌, sym}
use Rattle.messages.proofs.FramesOfLemmas.{length-parted}
use Rattle.messages.proofs.frames.Frames.len.Goals as goal

pub returns : goal.returns
returns c = rw (← c.self.view_is) (ap (λ (xs : List ℕ). length xs) c.as_slice.ensures.value
    ∙ sym (length-parted 0 c.self.inside.ends.items c.self.inside.bytes.items))
