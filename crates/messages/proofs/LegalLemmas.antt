-- Journals that stay legal.
use Rattle.std.proofs.Common.{sym, subst, ℕ, ◌<◌, arith, List, ◌∷◌, ◌++◌, length, Option}
use Rattle.std.specs.Option.{ForSome}
use Rattle.std.proofs.lemmas.List.{length-append}
use Rattle.messages.specs.declared.node.Node.{Node}
use Rattle.messages.specs.declared.line.Line.{Line}
use Rattle.messages.specs.Journal.{IsLegal}

-- With the entry of an event more, and the frames that it sent.
pub legal_more : (frames sent : List (List ℕ)) (journal : List Line) (node : Node) (at : ℕ) (taken : Option ℕ) → ForSome taken (λ i. i < length frames)
    → IsLegal (record { frames = frames; journal = journal })
    → IsLegal (record { frames = frames ++ sent; journal = record { node = node; at = at; taken = taken; sent = length sent } ∷ journal })
legal_more frames sent journal node at taken below legal = record {
  all_sent = omega (arith, legal.all_sent, length-append frames sent);
  sent_before = (legal.sent_before, subst (λ (n : ℕ). ForSome taken (λ i. i < n)) (sym legal.all_sent) below);
}
