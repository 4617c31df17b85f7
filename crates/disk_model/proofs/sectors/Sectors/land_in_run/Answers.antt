use Rattle.std.proofs.Common.{◌/◌, sym}
use Rattle.std.specs.Ordering.{nat_cmp}
use Rattle.std.specs.BTreeMap.{get}
use Rattle.disk_model.specs.Picks.{is_picked}
use Rattle.disk_model.specs.Singles.{single_of}
use Rattle.disk_model.proofs.ContentLemmas.{content_by-landed, other_key}
use Rattle.disk_model.proofs.sectors.Sectors.land_in_run.Goals as goal

pub returns-in-Some-clause-content : goal.returns-in-Some-clause-content
returns-in-Some-clause-content c s =
    let old = c.args.self.now in
    let new = c.get_mut.follows.lender c.land.new.self in
    let updates = (c.get_mut.follows.holds c.land.new.self).3 c.requires.run in
    content_by-landed (get nat_cmp old.runs) (get nat_cmp new) (single_of old.singles) (is_picked c.args.picks)
    c.in-Some.run'.now c.land.new.self c.args.bytes.now c.args.first s
    (sym c.in-Some.ensures.value) updates.1 (λ r apart. updates.2 r (other_key (c.args.first / 128) r apart))
    c.requires.within c.land.ensures
