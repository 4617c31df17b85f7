use Rattle.std.proofs.Common.{ap, ◌∙◌, map, set}
use Rattle.std.proofs.lemmas.List.{map-set}
use Rattle.server_core.specs.KeptCheck.{CheckKept, progress_of}
use Rattle.server_core.proofs.open_check.OpenCheck.set.Goals as goal

pub returns : goal.returns
returns c =
    let put : CheckKept → CheckKept = λ k. record k { progress = set k.progress c.args.job (progress_of c.args.progress) } in
    rw (← c.self.view_is)
    (ap (λ ps. record { run = c.self.inside.run; attempt = c.self.inside.attempt; jobs = c.self.inside.jobs; progress = ps })
    (map-set progress_of c.self.inside.progress.items c.index_of.result c.args.progress
    ∙ ap (λ i. set (map progress_of c.self.inside.progress.items) i (progress_of c.args.progress)) c.index_of.ensures))
