use Rattle.std.proofs.Common.{◌≡◌, refl, sym, ◌∙◌, subst, Some, None, List}
use Rattle.std.specs.Vec.{with_items}
use Rattle.std.proofs.lemmas.List.{with_items_is}
use Rattle.std.proofs.lemmas.Result.{IfOk-weaker}
use Rattle.targets.specs.declared.tile.Tile.{Tile}
use Rattle.targets.specs.declared.tour_word.TourWord.TheVariants.{Told}
use Rattle.targets.specs.Touring.{Does, HearsAt}
use Rattle.targets.proofs.TellLemmas.{tells, but_this, ends, does_behind}
use Rattle.targets.proofs.tile.Tour.tell_at.Goals as goal

pub returns-in-None : goal.returns-in-None
returns-in-None g c words pieces stands at =
    let tour = c.args.self.now in
    let old = g.W.Write.contents c.args.writer.now in
    let text = g.W.Write.contents c.hear_at.new.writer in
    let items_are : (with_items tour.tiles c.hear_at.new.tiles).items ≡ c.hear_at.new.tiles =
    with_items_is tour.tiles c.hear_at.new.tiles (c.hear_at.auto.tiles ∙ c.deref_mut.ensures.len) in
    let hears : HearsAt c.args.place c.args.notice tour.tiles.items c.hear_at.new.tiles old text None =
    subst (HearsAt c.args.place c.args.notice tour.tiles.items c.hear_at.new.tiles old text) c.in-None.is
    (subst (λ (l : List Tile). HearsAt c.args.place c.args.notice l c.hear_at.new.tiles old text c.in_ok-hear_at.field-0) c.deref_mut.ensures.value
    c.in_ok-hear_at.ensures) in
    tells tour.number tour.rec tour
    (record {
      alloc = tour.alloc;
      number = tour.number;
      rec = tour.rec;
      tiles = with_items tour.tiles c.hear_at.new.tiles;
      next = tour.next;
      bytes = tour.bytes;
      is_job = _;
      room = _;
    })
    words pieces c.args.tile c.args.notice c.args.place old text stands c.requires at
    (subst (λ (l : List Tile). HearsAt c.args.place c.args.notice tour.tiles.items l old text None) (sym items_are) hears) refl refl refl

pub returns-in-Some : goal.returns-in-Some
returns-in-Some g c words pieces stands at =
    let tour = c.args.self.now in
    let old = g.W.Write.contents c.args.writer.now in
    let mid = g.W.Write.contents c.hear_at.new.writer in
    let text = g.W.Write.contents c.end_tile.new.writer in
    let items_are : (with_items tour.tiles c.hear_at.new.tiles).items ≡ c.hear_at.new.tiles =
    with_items_is tour.tiles c.hear_at.new.tiles (c.hear_at.auto.tiles ∙ c.deref_mut.ensures.len) in
    let hears : HearsAt c.args.place c.args.notice tour.tiles.items c.hear_at.new.tiles old mid (Some c.in-Some.end) =
    subst (HearsAt c.args.place c.args.notice tour.tiles.items c.hear_at.new.tiles old mid) c.in-Some.is
    (subst (λ (l : List Tile). HearsAt c.args.place c.args.notice l c.hear_at.new.tiles old mid c.in_ok-hear_at.field-0) c.deref_mut.ensures.value
    c.in_ok-hear_at.ensures) in
    let ended = ends tour.number tour.rec tour c.hear_at.new.tiles words pieces c.args.tile c.args.notice c.args.place old mid c.in-Some.end stands c.requires
    at hears in
    IfOk-weaker c.end_tile.result (Does tour.number tour.rec (Told c.args.tile c.args.notice) words pieces c.end_tile.new.self mid text) _
    (λ end does. does_behind tour.number tour.rec (Told c.args.tile c.args.notice) words pieces c.end_tile.new.self old mid text end ended.0 does)
    (c.end_tile.ensures c.args.notice words pieces
    (but_this tour.number tour.rec tour
    (record {
      alloc = tour.alloc;
      number = tour.number;
      rec = tour.rec;
      tiles = with_items tour.tiles c.hear_at.new.tiles;
      next = tour.next;
      bytes = tour.bytes;
      is_job = _;
      room = _;
    })
    words pieces c.args.tile c.args.notice c.args.place old mid (Some c.in-Some.end) stands c.requires at
    (subst (λ (l : List Tile). HearsAt c.args.place c.args.notice tour.tiles.items l old mid (Some c.in-Some.end)) (sym items_are) hears) refl refl refl)
    ended.1)
