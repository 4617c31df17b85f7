use Rattle.std.specs.Option.{option_copied}
use Rattle.std.proofs.lemmas.Result.{err_from_is_err_and}
use Rattle.recheck.proofs.FitLemmas.{issued_fits, starts_not}
use Rattle.recheck.proofs.recheck.Recheck.new.Goals as goal

pub returns-in_err-fits : goal.returns-in_err-fits
returns-in_err-fits c =
    let told = err_from_is_err_and c.from_residual.result c.from_residual.ensures.1 in
    rw (told.1, told.2) (starts_not (option_copied c.args.state) c.args.key c.args.rec.now c.args.fatal c.in_err-fits.field-0.0 c.in_err-fits.ensures)

pub new-requires : goal.new-requires
new-requires c = issued_fits (option_copied c.args.state) c.args.key c.args.rec.now c.in_ok-fits.ensures
