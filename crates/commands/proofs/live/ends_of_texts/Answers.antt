use Rattle.std.proofs.Common.{arith, inr}
use Rattle.std.proofs.lemmas.Bool.Decides.{nat_tests}
use Rattle.commands.proofs.live.ends_of_texts.Goals as goal

pub returns-in-Ok-clause-runs : goal.returns-in-Ok-clause-runs
returns-in-Ok-clause-runs g c = record {
  sound = record {
    short = grind (arith, nat_tests);
    writing = c.texts_of-texts.result.writing.now;
    reading = c.texts_of-texts.result.reading.now;
    texts = c.texts_of-texts.ensures;
    writes = c.in_ok-check_texts.ensures.sound.0;
    reads = c.in_ok-check_texts.ensures.sound.1;
  };
  are_ends = c.in-Ok.ensures;
}

pub returns-in-Err-clause-refused : goal.returns-in-Err-clause-refused
returns-in-Err-clause-refused g c =
    let refused = inr (c.in_ok-check_texts.ensures.sound.0, inr (c.in_ok-check_texts.ensures.sound.1, (c.in-Err.fault, c.refusal_of_fleet.ensures))) in
    inr (inr (grind (arith, nat_tests), (c.texts_of-texts.result.writing.now, c.texts_of-texts.result.reading.now, c.texts_of-texts.ensures, refused)))
