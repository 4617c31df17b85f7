use Rattle.std.proofs.Common.{ap, ◌∙◌, replicate, sym}
use Rattle.diagnosis.proofs.content.content_of.Goals as goal

pub returns-in-Some : goal.returns-in-Some
returns-in-Some c = c.in-Some.ensures ∙ ap (λ n. replicate n c.in-Some.byte) c.requires

pub returns-in-None : goal.returns-in-None
returns-in-None c = (
  record {
    no_byte = λ byte e. c.in_default.ensures byte (e ∙ ap (λ n. replicate n byte) (sym c.requires));
    no_write = λ write h. c.in-None.ensures write h;
  },
  sym c.unknown_sectors.ensures,
)
