use Rattle.std.proofs.Common.{◌≡◌, [], refl, ap, arith, ◌∙◌, subst}
use Rattle.std.specs.Int.{w64}
use Rattle.fc_base.specs.Layouts.{bytes_of}
use Rattle.fc_base.specs.declared.numbers.Key.{Key}
use Rattle.engine.specs.Running.{Origin}
use Rattle.targets.specs.Tours.{origin_of}
use Rattle.targets.specs.Writing.{OrdersAll}
use Rattle.targets.proofs.TourLemmas.{begins}
use Rattle.targets.proofs.tile.Tour.begin.Goals as goal

pub returns : goal.returns
unfolding bytes_of
returns g c words pieces fits stands =
    let origin : Key → Origin = λ key. record { boot = 0; key = key; job = c.args.self.now.rec } in
    let made : c.in-Ok.writes.engine.origin ≡ origin_of c.args.self.now.number c.args.self.now.rec c.args.run =
    c.in-Ok.ensures.origin ∙ ap origin c.key_of-key.ensures in
    let old = g.W.Write.contents c.args.writer.now in
    let text = g.W.Write.contents c.order_all.new.writer in
    let all : OrdersAll (bytes_of w64 c.args.tile) (origin_of c.args.self.now.number c.args.self.now.rec c.args.run) [] c.order_all.new.self.engine old text =
    subst (λ o. OrdersAll (bytes_of w64 c.args.tile) o [] c.order_all.new.self.engine old text) made
    (subst (λ b. OrdersAll b c.in-Ok.writes.engine.origin [] c.order_all.new.self.engine old text) c.to_be_bytes.ensures
    (c.in_ok-order_all.ensures.orders [] c.in-Ok.ensures.history)) in
    begins c.args.self.now.number c.args.self.now.rec c.args.self.now _ words pieces c.args.tile c.args.run
    (record { number = c.args.tile; writes = c.order_all.new.self }) old text stands (omega (arith, c.if-tile-self.false))
    (omega (arith, c.if-run-eq0.false)) fits (omega (arith, c.len.ensures, c.if-len-ge-MAX_OPEN.false)) refl
    (c.in_ok-order_all.ensures.origin ∙ made) all refl refl c.push_reserved.ensures.items refl
