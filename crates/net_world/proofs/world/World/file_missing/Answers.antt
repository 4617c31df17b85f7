use Rattle.std.proofs.Common.{sym, ◌∙◌, arith, length}
use Rattle.std.proofs.lemmas.Bool.{ltb-true, ltb-false}
use Rattle.net_world.proofs.FileStepLemmas.{rot_none, rot_past, rot_free}
use Rattle.net_world.proofs.world.World.file_missing.Goals as goal

pub returns-then-not-has_server-clause-why : goal.returns-then-not-has_server-clause-why
returns-then-not-has_server-clause-why c w past stands =
    let l = ltb-false c.args.server (length c.args.self.now.servers.items) (sym c.has_server.ensures ∙ c.if-not-has_server.true) in
    sym (rot_none w c.args.server c.args.job (omega (arith, stands.number, l)))

pub returns-then-job-ge-MAX_JOBS-clause-why : goal.returns-then-job-ge-MAX_JOBS-clause-why
returns-then-job-ge-MAX_JOBS-clause-why c w past stands =
    let l = ltb-true c.args.server (length c.args.self.now.servers.items) (sym c.has_server.ensures ∙ c.if-not-has_server.false) in
    sym (rot_past w c.args.server c.args.job (omega (arith, stands.number, l)) (omega (arith, c.job.view_is, c.if-job-ge-MAX_JOBS.true)))

pub returns-else-job-ge-MAX_JOBS-clause-why : goal.returns-else-job-ge-MAX_JOBS-clause-why
returns-else-job-ge-MAX_JOBS-clause-why c w past stands =
    let l = ltb-true c.args.server (length c.args.self.now.servers.items) (sym c.has_server.ensures ∙ c.if-not-has_server.false) in
    sym (rot_free w c.args.server c.args.job (omega (arith, stands.number, l)) (omega (arith, c.job.view_is, c.if-job-ge-MAX_JOBS.false)))
