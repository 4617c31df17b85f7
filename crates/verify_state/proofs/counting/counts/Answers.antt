use Rattle.std.proofs.Common.{◌≡◌, ◌<◌, ◌≤◌, ◌∙◌, ltb, false, true, refl, sym, subst}
use Rattle.std.proofs.lemmas.Bool.{lt-ltb, le-ltb}
use Rattle.fc_base.specs.Marks.{floor_of}
use Rattle.fc_base.specs.CountLaws.{has_counted_by}
use Rattle.verify_state.proofs.counting.counts.Goals as goal

pub returns-then-number-issued : goal.returns-then-number-issued
returns-then-number-issued c =
    let past : ltb c.args.seq c.args.issued ≡ false = le-ltb _ _ (subst (λ n. c.args.issued ≤ n) c.seq.view_is c.if-number-issued.true) in
    sym (has_counted_by c.args.window c.args.issued c.args.marks.now c.args.seq ∙ rw past refl)

pub returns-then-number-floor : goal.returns-then-number-floor
returns-then-number-floor c =
    let issued : ltb c.args.seq c.args.issued ≡ true = lt-ltb _ _ (subst (λ n. n < c.args.issued) c.seq.view_is c.if-number-issued.false) in
    let under : ltb c.args.seq (floor_of c.args.window c.args.issued) ≡ true =
    lt-ltb _ _ (subst (λ n. n < floor_of c.args.window c.args.issued) c.seq.view_is
    (subst (λ f. c.seq.inside.0 < f) c.floor_of-floor.ensures.value c.if-number-floor.true)) in
    sym (has_counted_by c.args.window c.args.issued c.args.marks.now c.args.seq ∙ rw (issued, under) refl)

pub returns : goal.returns
returns c =
    let issued : ltb c.args.seq c.args.issued ≡ true = lt-ltb _ _ (subst (λ n. n < c.args.issued) c.seq.view_is c.if-number-issued.false) in
    let from : ltb c.args.seq (floor_of c.args.window c.args.issued) ≡ false =
    le-ltb _ _ (subst (λ n. floor_of c.args.window c.args.issued ≤ n) c.seq.view_is
    (subst (λ f. f ≤ c.seq.inside.0) c.floor_of-floor.ensures.value c.if-number-floor.false)) in
    let bit = rw (c.seq.view_is, c.floor_of-floor.ensures.value) at c.has.ensures in
    bit ∙ sym (has_counted_by c.args.window c.args.issued c.args.marks.now c.args.seq ∙ rw (issued, from) refl)
