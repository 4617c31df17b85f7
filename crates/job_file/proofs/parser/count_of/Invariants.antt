use Rattle.std.proofs.Common.{◌≡◌, ◌-◌, ◌^◌, min, take}
use Rattle.job_file.specs.Draft.{count_of}
use Rattle.job_file.proofs.parser.count_of.Given as goal

abbrev pub invariant-loop-draft : goal.invariant-loop-draft
invariant-loop-draft l = l.count ≡ min (count_of (take l.draft-index l.drafts)) (2 ^ 64 - 1)
