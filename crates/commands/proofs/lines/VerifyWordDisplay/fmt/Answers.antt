use Rattle.std.proofs.Common.{◌≡◌, ◌<◌, [], ◌++◌, rules, false, ap, codes}
use Rattle.std.specs.Fmt.{digits, padded_integral, format_spec}
use Rattle.std.proofs.lemmas.Fmt.{hex_byte}
use Rattle.commands.specs.Lines.{verify_word}
use Rattle.fc_base.specs.declared.record.Verify.TheVariants.{Pattern}
use Rattle.commands.proofs.lines.VerifyWordDisplay.fmt.Goals as goal

pub returns-in-Pattern-clause-writes : goal.returns-in-Pattern-clause-writes
returns-in-Pattern-clause-writes g c =
    let fits : c.pattern.result < 256 = search rules in
    let word : codes "0x" ++ padded_integral (format_spec 32 0 4 2 18446744073709551615) false [] (digits 16 false c.pattern.result)
    ≡ verify_word Pattern c.pattern.result
    = ap (λ ds. codes "0x" ++ ds) (hex_byte false c.pattern.result fits) in
    rw (← c.pattern.ensures, ← c.in-Pattern.ensures, ← word) (search rules)
