use Rattle.std.proofs.Common.{arith, subst}
use Rattle.std.specs.Io.Buffered.{reader_remaining}
use Rattle.targets.specs.Touring.{Stands, Steps}
use Rattle.targets.proofs.TourSteps.{goes_on, ends_so, of_job, spent, next_few}
use Rattle.targets.proofs.tour.tour_blocks.Goals as goal

pub step-requires : goal.step-requires
step-requires g c =
    omega (
      arith,
      next_few c.args.number c.args.rec.now c.loop.tour c.loop.counter _ _ _ _ c.loop.invariant,
      c.loop-test.true,
    )

pub returns-in-Some : goal.returns-in-Some
returns-in-Some g c =
    let so_far = c.loop.invariant in
    let input = reader_remaining g.R.Read.remaining c.loop.reader in
    let new_input = reader_remaining g.R.Read.remaining c.step.new.reader in
    let text = g.W.Write.contents c.loop.writer in
    let new_text = g.W.Write.contents c.step.new.writer in
    let step : Steps c.args.number c.args.rec.now so_far.words so_far.pieces c.step.new.tour input new_input text new_text c.in_ok-end.field-0 =
    of_job c.args.number c.args.rec.now c.loop.tour
    (λ n j. Stands n j c.loop.tour so_far.words so_far.pieces
    → Steps n j so_far.words so_far.pieces c.step.new.tour input new_input text new_text c.in_ok-end.field-0)
    so_far.stands.number_is so_far.stands.job_is (c.in_ok-end.ensures so_far.words so_far.pieces) so_far.stands in
    ends_so c.args.number c.args.rec.now c.loop.tour c.step.new.tour c.loop.counter (reader_remaining g.R.Read.remaining c.args.reader.now) input new_input
    (g.W.Write.contents c.args.writer.now) text new_text c.in-Some.end so_far
    (subst (Steps c.args.number c.args.rec.now so_far.words so_far.pieces c.step.new.tour input new_input text new_text) c.in-Some.is step)

pub loop-preserved : goal.loop-preserved
loop-preserved g c =
    let so_far = c.loop.invariant in
    let input = reader_remaining g.R.Read.remaining c.loop.reader in
    let new_input = reader_remaining g.R.Read.remaining c.step.new.reader in
    let text = g.W.Write.contents c.loop.writer in
    let new_text = g.W.Write.contents c.step.new.writer in
    let step : Steps c.args.number c.args.rec.now so_far.words so_far.pieces c.step.new.tour input new_input text new_text c.in_ok-end.field-0 =
    of_job c.args.number c.args.rec.now c.loop.tour
    (λ n j. Stands n j c.loop.tour so_far.words so_far.pieces
    → Steps n j so_far.words so_far.pieces c.step.new.tour input new_input text new_text c.in_ok-end.field-0)
    so_far.stands.number_is so_far.stands.job_is (c.in_ok-end.ensures so_far.words so_far.pieces) so_far.stands in
    goes_on c.args.number c.args.rec.now c.loop.tour c.step.new.tour c.loop.counter (reader_remaining g.R.Read.remaining c.args.reader.now) input new_input
    (g.W.Write.contents c.args.writer.now) text new_text so_far
    (subst (Steps c.args.number c.args.rec.now so_far.words so_far.pieces c.step.new.tour input new_input text new_text) c.in_default-2.is step)

pub returns : goal.returns
returns g c =
    spent c.args.number c.args.rec.now c.loop.tour c.loop.counter (reader_remaining g.R.Read.remaining c.args.reader.now)
    (reader_remaining g.R.Read.remaining c.loop.reader) (g.W.Write.contents c.args.writer.now) (g.W.Write.contents c.loop.writer) c.loop.invariant
    (omega (arith, c.loop-test.false, c.loop.auto.counter-end))
