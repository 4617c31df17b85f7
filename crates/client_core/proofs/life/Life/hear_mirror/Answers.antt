use Rattle.std.proofs.Common.{refl, sym, subst, ◌∷◌}
use Rattle.messages.specs.declared.limits.TheConstants.{MIRROR_NUMBER}
use Rattle.messages.specs.declared.body.Body.{Body}
use Rattle.client_core.specs.Life.{Hears}
use Rattle.client_core.specs.Lives.{LifeIs}
use Rattle.client_core.proofs.MirrorLifeLemmas.{mirror_said, copied_more, ok_life, mirror_said_nothing, says_none}
use Rattle.client_core.proofs.life.Life.hear_mirror.Goals as goal

pub returns-in-CopyOk-clause-left : goal.returns-in-CopyOk-clause-left
returns-in-CopyOk-clause-left c =
    ok_life c.add_copied.result _ _ (λ u deeds h. subst (λ (b : Body). LifeIs c.add_copied.new.self (Hears MIRROR_NUMBER b ∷ deeds)) (sym c.in-CopyOk.is)
    (mirror_said c.args.self.now c.add_copied.new.self MIRROR_NUMBER _ deeds refl c.add_copied.ensures.runs c.add_copied.ensures.attempts
    c.add_copied.ensures.reports
    (copied_more c.args.self.now c.add_copied.new.self _ _ _ deeds u h) h)) c.add_copied.ensures.copied

pub returns-in_default : goal.returns-in_default
returns-in_default c = record {
  left = λ deeds h. mirror_said_nothing c.args.self.now MIRROR_NUMBER c.args.body.now deeds c.requires
      (says_none c.args.body.now c.requires c.in_default.not-CopyOk) h;
  same = tt;
}
