use Rattle.std.proofs.Common.{List, ℕ, length, ap, ◌∙◌, sym}
use Rattle.messages.specs.KeptNetwork.{Stored}
use Rattle.messages.proofs.FramesOfLemmas.{length-parted}
use Rattle.messages.proofs.store.Store.len.Goals as goal

pub returns : goal.returns
returns c = ap (λ (xs : List ℕ). length xs) c.as_slice.ensures.value ∙ sym (length-parted 0 c.self.inside.ends.items c.self.inside.bytes.items)
    ∙ ap (λ (s : Stored). length s.frames) c.self.view_is
