-- When the journal of a network is legal. Journals are newest first.
use Rattle.std.specs.Prelude.{◌≡◌, ℕ, ◌+◌, ◌<◌, List, [], ◌∷◌, length}
use Rattle.std.specs.Option.{ForSome}
use Rattle.messages.specs.declared.line.Line.{Line}
use Rattle.messages.specs.Network.{Network}

-- How many frames the entries of a journal sent.
abbrev pub count_sent : List Line → ℕ
count_sent [] = 0
count_sent (l ∷ older) = count_sent older + l.sent

-- Each frame that was taken was sent by an older entry: it is one of the first, which the older
-- ones sent.
abbrev pub AreSentBefore : List Line → Type 0
AreSentBefore [] = Unit {0}
AreSentBefore (l ∷ older) = AreSentBefore older × ForSome l.taken (λ i. i < count_sent older)

-- A journal is legal: its entries sent all frames, and each that was taken was sent before. That it
-- went to the node which took it is no part of this: each node refuses all others.
pub record IsLegal (net : Network) : Type 0 where
  pub all_sent : count_sent net.journal ≡ length net.frames
  pub sent_before : AreSentBefore net.journal
