use Rattle.std.proofs.Common.{length, refl}
use Rattle.std.proofs.lemmas.Option.{slice_get_read}
use Rattle.assembly.specs.Ran.{ran_of}
use Rattle.assembly.proofs.OpenedLemmas.{fit_none, fit_more, all_fit, not_fit}
use Rattle.assembly.proofs.opened.wrongly_seated.Goals as goal

pub loop-seat-init : goal.loop-seat-init
loop-seat-init g c = fit_none (ran_of c.args.client.now c.args.servers.now) c.args.seats.now

pub returns-then-not-fits-clause-some : goal.returns-then-not-fits-clause-some
returns-then-not-fits-clause-some g c =
    let is = slice_get_read c.args.seats.now (length c.args.seats.now) c.loop-seat.seat-index c.seat-item.result refl c.loop-seat-test.true c.seat-item.is in
    rw c.server.ensures (not_fit (ran_of c.args.client.now c.args.servers.now) c.args.seats.now c.loop-seat.seat-index c.seat-item.result is
    (λ fit. let yes = c.fits.ensures.1 fit in cc))

pub loop-seat-preserved : goal.loop-seat-preserved
loop-seat-preserved g c =
    let is = slice_get_read c.args.seats.now (length c.args.seats.now) c.loop-seat.seat-index c.seat-item.result refl c.loop-seat-test.true c.seat-item.is in
    fit_more (ran_of c.args.client.now c.args.servers.now) c.args.seats.now c.loop-seat.seat-index c.seat-item.result c.loop-seat.invariant is
    (c.fits.ensures.0 c.if-not-fits.false)

pub returns-clause-none : goal.returns-clause-none
returns-clause-none g c =
    all_fit (ran_of c.args.client.now c.args.servers.now) c.args.seats.now c.loop-seat.seat-index c.loop-seat.invariant c.loop-seat-test.false
