use Rattle.std.proofs.Common.{Option, Ok, inl, inr, refl, subst, sym}
use Rattle.std.specs.Io.Buffered.{reader_remaining}
use Rattle.std.specs.Io.KnownBytes.{Keeps}
use Rattle.std.proofs.KnownBytes.{Keeps-refl}
use Rattle.std.proofs.lemmas.Result.{IfOk-weaker}
use Rattle.targets.specs.declared.tour_word.TourWord.{TourWord}
use Rattle.targets.specs.Touring.{Does, EndsUnread, ReadsWord, Steps}
use Rattle.targets.proofs.TellLemmas.{does_behind}
use Rattle.targets.proofs.TourSteps.{ends_by}
use Rattle.targets.proofs.tour.step.Goals as goal
use Rattle.targets.proofs.tour.step.Goals.{then-buffer-lt-WORD+in_ok-flush, else-buffer-lt-WORD}

pub returns-in-Ok-Some : goal.returns-in-Ok-Some
returns-in-Ok-Some g c words pieces stands =
    let tour = c.args.tour.now in
    let first = g.W.Write.contents c.args.writer.now in
    let mid = g.W.Write.contents c.if-buffer-lt-WORD.writer in
    let text = g.W.Write.contents c.follow.new.writer in
    let word = c.in-Ok-Some.word in
    let told = subst (λ (o : Option TourWord). ReadsWord (reader_remaining g.R.Read.remaining c.args.reader.now)
    (reader_remaining g.R.Read.remaining c.next_word.new.reader) (Ok o)) c.in-Ok-Some.field-0-is c.in-Ok-Some.ensures in
    let kept : Keeps first mid = elim c.if-buffer-lt-WORD.branch [
      | then-buffer-lt-WORD+in_ok-flush w ↦ rw (w.writer-is) w.in_ok-flush.ensures.bytes
      | else-buffer-lt-WORD w ↦ rw (w.writer-is) (Keeps-refl first)
    ] in
    IfOk-weaker c.follow.result (Does tour.number tour.rec word words pieces c.follow.new.self mid text)
    (Steps tour.number tour.rec words pieces c.follow.new.self (reader_remaining g.R.Read.remaining c.args.reader.now)
    (reader_remaining g.R.Read.remaining c.next_word.new.reader) first text)
    (λ end does. inl (word, told.0, told.1, does_behind tour.number tour.rec word words pieces c.follow.new.self first mid text end kept does))
    (c.follow.ensures words pieces told.1 stands)

pub returns-in-Ok-None : goal.returns-in-Ok-None
returns-in-Ok-None g c words pieces stands =
    let first = g.W.Write.contents c.args.writer.now in
    let mid = g.W.Write.contents c.if-buffer-lt-WORD.writer in
    let kept : Keeps first mid = elim c.if-buffer-lt-WORD.branch [
      | then-buffer-lt-WORD+in_ok-flush w ↦ rw (w.writer-is) w.in_ok-flush.ensures.bytes
      | else-buffer-lt-WORD w ↦ rw (w.writer-is) (Keeps-refl first)
    ] in
    let old = reader_remaining g.R.Read.remaining c.args.reader.now in
    let new = reader_remaining g.R.Read.remaining c.next_word.new.reader in
    let told = subst (λ (o : Option TourWord). ReadsWord old new (Ok o)) c.in-Ok-None.field-0-is c.in-Ok-None.ensures in
    inr (
      c.end_of.result,
      refl,
      kept,
      subst (EndsUnread old new words) (sym c.end_of.ensures) (ends_by c.args.tour.now.tiles.items words old new stands.numbers told.0 told.1),
    )
