use Rattle.std.proofs.Common.{◌≡◌, ap, sym, ◌∙◌, arith, subst, ℕ, ◌+◌, [], ◌∷◌, ◌++◌}
use Rattle.std.proofs.Math.Logic.{∥∥₁_map}
use Rattle.std.proofs.lemmas.Bool.{leb-false, or_parts}
use Rattle.std.proofs.lemmas.List.{map-append, length_push}
use Rattle.fc_base.specs.declared.record.JobParts.{JobParts}
use Rattle.write_order.specs.Blocks.{block_of}
use Rattle.write_order.specs.Progress.{Progress}
use Rattle.engine.specs.History.{issue}
use Rattle.engine.specs.Kept as window
use Rattle.engine.specs.Kept.{Kept}
use Rattle.engine.specs.declared.issue.Ticket.{Ticket}
use Rattle.engine.specs.Answers.{answer_of}
use Rattle.engine.specs.Inside.{running_in}
use Rattle.engine.proofs.AnswerLemmas.{next_of_write}
use Rattle.engine.proofs.RunningLemmas.{issue_step}
use Rattle.engine.proofs.engine.Engine.issue.Goals as goal

abbrev later : JobParts → ℕ → Progress
later job n = record { job = job; issued = n }

pub invariant_of-self : goal.invariant_of-self
invariant_of-self c =
    let i = c.self.invariant in
    let a = c.self.inside in
    let n = next_of_write (running_in a) c.in-Write.ticket (c.in-Write.ensures ∙ ap answer_of (sym c.self.view_is)) in
    let left = c.issue-seq.ensures.left in
    let opened : c.issue-seq.new.self.open_writes ≡ a.window.open_writes ++ a.window.issued ∷ [] = ap (λ (x : Kept). x.open_writes) left in
    let flying : c.issue-seq.new.self.in_flight ≡ a.window.in_flight ++ a.window.issued ∷ [] = ap (λ (x : Kept). x.in_flight) left in
    let next : c.issue-seq.new.self.issued ≡ a.window.issued + 1 = ap (λ (x : Kept). x.issued) left in
    let block_is : c.in-Write.ticket.block ≡ block_of a.rec a.window.issued = ap (λ (t : Ticket). t.block) n.ticket_is in
    let unfailed = (or_parts a.stopped a.failed n.runs).1 in
    let seq_is : c.issue-seq.result ≡ c.in-Write.ticket.seq = c.issue-seq.ensures.number ∙ sym (ap (λ (t : Ticket). t.seq) n.ticket_is) in
    let adds = subst (λ k. window.Adds a.window c.issue-seq.new.self (issue k)) seq_is c.issue-seq.ensures.added in
    record {
      limits = i.limits;
      key = i.key;
      depth = ap (λ (x : Kept). x.depth) left ∙ i.depth;
      window = ap (λ (x : Kept). x.window) left ∙ i.window;
      order = c.advance.ensures ∙ ap (λ (o : Progress). later o.job (o.issued + 1)) i.order ∙ ap (later a.rec) (sym next);
      open_writes = rw (c.push_reserved.ensures.items, i.open_writes, opened, map-append, c.issue-seq.ensures.number, block_is);
      few = let fewer = leb-false _ _ n.free in rw (opened, length_push, ← i.none_failed unfailed) (omega (arith, fewer));
      room = rw c.push_reserved.ensures.capacity i.room;
      none_failed = λ e. flying ∙ ap (λ l. l ++ a.window.issued ∷ []) (i.none_failed e) ∙ sym opened;
      history = ∥∥₁_map i.history (λ p. (issue c.in-Write.ticket.seq ∷ p.0, issue_step (running_in a) _ c.in-Write.ticket n adds p.0 p.1));
    }

pub returns-in-Write-clause-added : goal.returns-in-Write-clause-added
returns-in-Write-clause-added c =
    let a = c.self.inside in
    let n = next_of_write (running_in a) c.in-Write.ticket (c.in-Write.ensures ∙ ap answer_of (sym c.self.view_is)) in
    let seq_is : c.issue-seq.result ≡ c.in-Write.ticket.seq = c.issue-seq.ensures.number ∙ sym (ap (λ (t : Ticket). t.seq) n.ticket_is) in
    let adds = subst (λ k. window.Adds a.window c.issue-seq.new.self (issue k)) seq_is c.issue-seq.ensures.added in
    rw (← c.self.view_is) (issue_step (running_in a) c.issue-seq.new.self c.in-Write.ticket n adds)
