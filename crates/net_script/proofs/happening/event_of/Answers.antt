use Rattle.std.proofs.Common.{rules, ap, sym, ◌∙◌}
use Rattle.net_world.specs.Events.{plain_happening}
use Rattle.net_world.specs.Happenings.{Rot}
use Rattle.net_script.specs.Commands.{happens}
use Rattle.net_script.proofs.happening.event_of.Goals.{in-Saves+in_ok-event-in-Saves, in-Trigger, in-Stop, in-Tick, in-Issue, in-Land}
use Rattle.net_script.proofs.happening.event_of.Goals.{in-Done, in-Fail, in-Rot+in_ok-rotten-in-Rot, in-Check, in-Cut, in-LoseNote}
use Rattle.net_script.proofs.happening.event_of.Goals as goal

pub returns : goal.returns
returns c = elim c.match-command.branch [
  | in-Saves+in_ok-event-in-Saves w ↦ search rules
  | in-Trigger w ↦ search rules
  | in-Stop w ↦ search rules
  | in-Tick w ↦ search rules
  | in-Issue w ↦ search rules
  | in-Land w ↦ search rules
  | in-Done w ↦ search rules
  | in-Fail w ↦ search rules
  | in-Rot+in_ok-rotten-in-Rot w ↦
      ap plain_happening w.event-is ∙ (ap (λ bytes. Rot w.in-Rot.server w.in-Rot.job w.in-Rot.sector bytes) w.in_ok-rotten-in-Rot.ensures
      ∙ sym (ap (λ o. happens o c.args.text.now) w.in-Rot.is))
  | in-Check w ↦ search rules
  | in-Cut w ↦ search rules
  | in-LoseNote w ↦ search rules
]
