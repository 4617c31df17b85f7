use Rattle.std.proofs.Common.{[], ◌∷◌, subst}
use Rattle.std.specs.Io.KnownBytes.{Appends}
use Rattle.ledger.specs.Places.{is_checked}
use Rattle.targets.specs.Wanted.{byte_of}
use Rattle.targets.proofs.WantedLemmas.{bytes_more}
use Rattle.targets.proofs.wanted.write_wanted.Goals as goal

pub loop-number-preserved : goal.loop-number-preserved
loop-number-preserved g c =
    let text = g.W.Write.contents c.loop-number.writer in
    let new = g.W.Write.contents c.write_all.new.self in
    bytes_more (byte_of (is_checked c.args.ledger.now)) c.loop-number.number (g.W.Write.contents c.args.writer.now) text new c.loop-number.invariant
    (subst (λ byte. Appends text new (byte ∷ [])) c.byte_of.ensures c.in_ok-write_all.ensures.bytes)
