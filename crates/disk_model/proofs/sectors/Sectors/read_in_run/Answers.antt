use Rattle.std.proofs.Common.{◌/◌, ◌%◌, nat_cmp, length, refl, sym, ◌∙◌, arith}
use Rattle.std.specs.BTreeMap.{get}
use Rattle.disk_model.specs.File.{sector_of}
use Rattle.disk_model.specs.Sectors.{content_of}
use Rattle.disk_model.specs.Singles.{single_of}
use Rattle.disk_model.proofs.SectorLemmas.{sectors-same, sectors-read}
use Rattle.disk_model.proofs.ContentLemmas.{content_by-in_run}
use Rattle.disk_model.proofs.sectors.Sectors.read_in_run.Goals as goal

pub returns-in-Some : goal.returns-in-Some
returns-in-Some c =
    let n = length c.args.bytes.now / 512 in
    let had = c.in-Some.ensures.value in
    let old = c.args.self.now in
    c.read.ensures
    ∙ sym (sectors-same (content_of old) (sector_of c.in-Some.run'.now) c.args.first (c.args.first % 128) n
    (λ i lt. content_by-in_run (get nat_cmp old.runs) (single_of old.singles) c.args.first i (omega arith) ∙ rw (← had) refl))

pub returns-in-None : goal.returns-in-None
returns-in-None c =
    let n = length c.args.bytes.now / 512 in
    let had = c.in-None.ensures.value in
    let old = c.args.self.now in
    sectors-read (content_of old) c.read-in-None.new.bytes c.args.first n (omega (arith, c.read-in-None.auto.bytes))
    (λ i lt. c.read-in-None.ensures i lt ∙ sym (content_by-in_run (get nat_cmp old.runs) (single_of old.singles) c.args.first i (omega arith)
    ∙ rw (← had) refl))
