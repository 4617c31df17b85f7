use Rattle.std.proofs.Common.{sym}
use Rattle.std.proofs.lemmas.Bool.{and_parts}
use Rattle.job_file.proofs.Texts.{section_bytes_are_text}
use Rattle.job_file.proofs.line.section_named.Goals as goal

pub new-requires : goal.new-requires
new-requires c =
    section_bytes_are_text c.args.name.now (and_parts _ _ (sym c.if-not-is_section_name.ensures)).1
