use Rattle.std.proofs.Common.{◌≡◌, ◌+◌, ◌≤◌, ◌++◌, length, map, take, vec_len, vec_capacity}
use Rattle.messages.proofs.frames.push_ends.Given as goal

abbrev pub invariant-loop-end : goal.invariant-loop-end
invariant-loop-end l = record {
  items : l.ends.items ≡ l.fn.ends.items ++ map (λ end. l.start + end) (take l.end-index l.others);
  len : vec_len l.ends ≡ vec_len l.fn.ends + l.end-index;
  room : vec_len l.fn.ends + length l.others ≤ vec_capacity l.ends;
}
