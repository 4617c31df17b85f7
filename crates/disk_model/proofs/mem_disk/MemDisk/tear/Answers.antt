use Rattle.std.proofs.Common.{◌==◌, ◌∙◌, ap, ℕ, Bool, length}
use Rattle.disk_model.specs.File.{File, landed, first_sector}
use Rattle.disk_model.specs.Sectors.{content_of}
use Rattle.disk_model.proofs.ContentLemmas.{landed-outside, has_bit-one}
use Rattle.disk_model.proofs.LawLemmas.{landed-whole}
use Rattle.disk_model.proofs.mem_disk.MemDisk.tear.Goals as goal

pub returns : goal.returns
returns c =
    let old = c.args.self.now in
    let bytes = c.args.bytes.now in
    let first = first_sector c.args.block (length bytes) in
    let content = content_of old.sectors in
    let left = c.in_ok-land.ensures.ok ∙ ap (λ (picks : ℕ → Bool). let f : File =
    record { content = landed picks first bytes content; power = old.power; failures = 0 } in f) has_bit-one in
    record {
      ok = left;
      outside = λ s out. ap (λ (f : File). f.content s) left ∙ landed-outside (λ i. i == 0) first bytes content s out;
      whole = λ whole s. ap (λ (f : File). length (f.content s)) left ∙ landed-whole (λ i. i == 0) first bytes content c.requires.whole whole s;
      err = tt;
    }
