use Rattle.std.proofs.Common.{◌≡◌, refl, ap, subst, ◌∙◌, ◌++◌}
use Rattle.std.specs.Int.{w64}
use Rattle.std.specs.Io.KnownBytes.{Appends}
use Rattle.std.proofs.KnownBytes.{Appends-trans}
use Rattle.fc_base.specs.Layouts.{bytes_of}
use Rattle.verify_state.specs.Spelling.{spelling}
use Rattle.targets.proofs.TakeLemmas.{takes, told_ok}
use Rattle.targets.proofs.tile.Tour.close.Goals as goal

pub returns : goal.returns
unfolding bytes_of
returns g c words pieces stands has_state =
    let tour = c.args.self.now in
    let old = g.W.Write.contents c.args.writer.now in
    let mid = g.W.Write.contents c.write_all.new.self in
    let text = g.W.Write.contents c.write_all-2.new.self in
    let bytes_are : c.push_to.new.bytes.items ≡ spelling c.args.state.now =
    told_ok c.push_to.result (c.push_to.new.bytes.items ≡ c.clear.new.self.items ++ spelling c.args.state.now) c.is_err.result c.is_err.ensures.value
    c.if-is_err.false c.push_to.ensures ∙ ap (λ l. l ++ spelling c.args.state.now) c.clear.ensures.items in
    let first : Appends old mid (spelling c.args.state.now) = subst (Appends old mid) (c.deref.ensures.value ∙ bytes_are) c.in_ok-write_all.ensures.bytes in
    let second : Appends mid text (bytes_of w64 c.args.tile) = subst (Appends mid text) c.to_be_bytes.ensures c.in_ok-write_all-2.ensures.bytes in
    takes tour.number tour.rec tour _ words pieces c.args.tile c.args.state.now old text stands has_state
    (Appends-trans old mid text (spelling c.args.state.now) (bytes_of w64 c.args.tile) first second) c.let_go.ensures.items refl refl refl
