use Rattle.std.proofs.Common.{◌∷◌, ◌++◌, ◌∙◌, sym, ap, subst}
use Rattle.std.specs.List.{flat_map}
use Rattle.std.specs.Io.KnownBytes.{Appends}
use Rattle.fc_base.specs.Fault.{sort_of}
use Rattle.net_world.specs.World.{world}
use Rattle.net_script.specs.Commands.{happens}
use Rattle.program_io.specs.Words.{with_line_feed}
use Rattle.net_script.specs.Printed.{answer_line, sent_lines, act_lines}
use Rattle.net_script.specs.Running.{HasCome, refused_by}
use Rattle.net_script.proofs.ScriptLemmas.{if_ok_is}
use Rattle.net_script.proofs.ToldLemmas.{told_prints, refused_comes}
use Rattle.net_script.proofs.running.commands.run_command.Goals as goal

pub returns-in_ok-write_told-in-Ok : goal.returns-in_ok-write_told-in-Ok
returns-in_ok-write_told-in-Ok g c setup before stands =
    let e = happens c.args.command.now c.args.text.now in
    let t = c.in-Ok.told in
    let ends = c.in-Ok.ensures setup before stands in
    let p = told_prints c.sent_are_frames.ensures setup before e t _ stands.few ends.0 (c.frames.ensures setup (world setup (e ∷ before)) ends.1) in (
      subst (Appends (g.W.Write.contents c.args.writer.now) (g.W.Write.contents c.write_told.new.writer))
          (ap (λ a. flat_map with_line_feed ((answer_line t.answer ∷ sent_lines t.first p.sent) ++ act_lines a t.act))
          (c.addressee_of-addressee.ensures setup before stands)
          ∙ ap (flat_map with_line_feed) (sym p.lines))
          (c.in_ok-write_told-in-Ok.ensures p.sent p.bytes),
      ends.1,
      c.has_faults.ensures ∙ p.faults,
    )

pub returns-in-Err : goal.returns-in-Err
returns-in-Err g c setup before stands =
    let e = happens c.args.command.now c.args.text.now in
    let fault = c.in-Err.fault in
    if_ok_is (HasCome setup before e c.apply.new.world (g.W.Write.contents c.args.writer.now) (g.W.Write.contents c.refuse.new.writer)) c.refuse.result
    (refused_by (sort_of fault))
    (λ wrote. refused_comes setup before e (sort_of fault) fault c.apply.new.world _ _ (c.in-Err.ensures setup before stands) wrote)
    c.refuse.ensures.text c.refuse.ensures.ran
