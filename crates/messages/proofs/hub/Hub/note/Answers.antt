use Rattle.std.proofs.Common.{◌∷◌, [], reverse, ap, length}
use Rattle.std.proofs.lemmas.List.{reverse-append}
use Rattle.messages.specs.declared.line.Line.{Line}
use Rattle.messages.specs.Network.{Held}
use Rattle.messages.proofs.WaitingLemmas.{waiting_increase}
use Rattle.messages.proofs.KeptLemmas.{kept_entry}
use Rattle.messages.proofs.LegalLemmas.{legal_more}
use Rattle.messages.proofs.hub.Hub.note.Goals as goal

pub take-requires : goal.take-requires
take-requires c =
    rw (c.self.invariant.kept.waiting c.args.node) (waiting_increase
    (record { frames = c.self.inside.store.frames; journal = reverse c.self.inside.journal.items }) c.args.node)

pub invariant_of-self : goal.invariant_of-self
invariant_of-self c =
    let line : Line = record { node = c.args.node; at = c.args.at; taken = c.args.taken; sent = length c.args.sent.now } in
    let below = (rw (← ap (λ (h : Held). h.net.frames) c.self.view_is) at c.requires.taken) in
    rw (c.push_reserved.ensures.items, c.len-2.ensures, reverse-append c.self.inside.journal.items (line ∷ [])) (record {
      kept = c.add_all.ensures.kept (line ∷ reverse c.self.inside.journal.items)
          (rw c.take.ensures.lists (kept_entry c.self.inside.store.frames (reverse c.self.inside.journal.items) c.self.inside.queues.lists c.args.node c.args.at
          (length c.args.sent.now) c.args.taken below c.self.invariant.kept));
      legal = rw c.add_all.ensures.frames (legal_more c.self.inside.store.frames c.args.sent.now
          (reverse c.self.inside.journal.items) c.args.node c.args.at c.args.taken below c.self.invariant.legal);
    })
