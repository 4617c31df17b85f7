use Rattle.std.proofs.Common.{◌≡◌, length}
use Rattle.fleet_threads.proofs.nodes.open.Given as goal

abbrev pub invariant-loop-number : goal.invariant-loop-number
invariant-loop-number l =
    (length l.opened.nodes.servers.items ≡ l.number) × (length l.opened.nodes.files.items ≡ l.number) × (length l.opened.posts.items ≡ l.number)
