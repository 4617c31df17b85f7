-- The words behind one more input are read from the words before it.
use Rattle.std.proofs.Common.{◌≡◌, refl, ap, subst, ◌∙◌, ℕ, ◌≤◌, ◌<◌, arith, Bool, true, false, List, [], ◌∷◌, Option, None, Some}
use Rattle.std.specs.Prelude.{if◌then◌else◌, nat_lt}
use Rattle.std.proofs.lemmas.Bool.Decides.{nat_tests}
use Rattle.disk_model.specs.declared.save_outcome.SaveOutcome.TheVariants.{NoSave, Saved}
use Rattle.server_core.specs.Inputs.{PacketInput}
use Rattle.server_core.specs.History.{Opening, Entry, Met}
use Rattle.server_core.specs.Request.{Request, request_of}
use Rattle.server_core.specs.Run.{Work}
use Rattle.server_core.specs.Words.{Staged, is_on, boot, last_run, stagings, staged_run, work, due, stages}
use Rattle.server_core.specs.Words.{staged_after, greater, greatest, due_by, last_run_after, work_after}
use Rattle.server_core.specs.Check.{Check, check, opens, check_after, check_goes_on, or_opened}
use Rattle.server_core.specs.Replies.{Now}
use Rattle.server_core.specs.Answers.{now}
use Rattle.server_core.specs.WordsAfter.{words_after, begun_by, with_staged}
use Rattle.server_core.proofs.Due.{rests, due_is_start}

abbrev now_by : ℕ → ℕ → ℕ → Option Staged → Option Work → Option Check → Now
now_by me b l s w c = record { server = me; boot = b; last = l; staged = s; run = w; check = c }

same_now : (me b l m : ℕ) (s t : Option Staged) (w v : Option Work) (c d : Option Check) → l ≡ m → s ≡ t → w ≡ v → c ≡ d
    → now_by me b l s w c ≡ now_by me b m t v d
same_now me b l m s t w v c d e f g h = cc

more_staged : (last : ℕ) (new : Option Staged) (older : List Staged)
    → greatest last (staged_after NoSave new older) ≡ with_staged last new (greatest last older)
more_staged last None older = refl
more_staged last (Some s) older = refl

-- Behind an input that records no run.
pub follows : (o : Opening) (past : List Entry) (e : PacketInput) → is_on past ≡ true → due o past e ≡ None
    → now o (Met e NoSave ∷ past) ≡ words_after (now o past) (request_of o.me e)
follows o past e on none =
    let x = request_of o.me e in
    let last : last_run o (Met e NoSave ∷ past) ≡ last_run o past = ap (λ d. last_run_after NoSave d (last_run o past)) none in
    same_now o.me (boot o past) _ _ _ _ _ _ _ _ last
    (ap (λ l. greatest l (staged_after NoSave (stages (is_on past) (last_run o past) (work o past) x) (stagings o past))) last
    ∙ ap (λ b. greatest (last_run o past) (staged_after NoSave (stages b (last_run o past) (work o past) x) (stagings o past))) on
    ∙ more_staged (last_run o past) (stages true (last_run o past) (work o past) x) (stagings o past))
    (ap (λ d. work_after NoSave d o.me (boot o past) x (work o past)) none)
    (ap (λ d. check_after NoSave d (opens (is_on past) o.me (boot o past) (last_run o past) (work o past) (check o past) x) x (check o past)) none
    ∙ ap (λ b. or_opened (opens b o.me (boot o past) (last_run o past) (work o past) (check o past) x) (check_goes_on x (check o past))) on)

-- ---- behind a Start that records a run

none_higher : (m last : ℕ) (ss : List Staged) → last ≤ m → greatest last ss ≡ None → greatest m ss ≡ None
none_higher m last [] le e = refl
none_higher m last (s ∷ older) le e = by_older (none_higher m last older le) (greatest last older) refl e
  where
    no_one : (t : Staged) → greater last s (Some t) ≡ None → greatest m (s ∷ older) ≡ None
    no_one t e = impossible (nat_lt t.run s.run) e
      where
        impossible : (b : Bool) → (if b then Some s else Some t) ≡ None → greatest m (s ∷ older) ≡ None
        impossible true e = cc
        impossible false e = cc

    by_older : (greatest last older ≡ None → greatest m older ≡ None) → (g : Option Staged) → greatest last older ≡ g → greater last s g ≡ None
        → greatest m (s ∷ older) ≡ None
    by_older higher (Some t) is e = no_one t e
    by_older higher None is e = ap (greater m s) (higher is) ∙ not_above (nat_lt last s.run) refl e
      where
        not_above : (b : Bool) → nat_lt last s.run ≡ b → (if b then Some s else None) ≡ None → greater m s None ≡ None
        not_above true t e = cc
        not_above false t e = let u : nat_lt m s.run ≡ false = grind (arith, nat_tests) in rw u refl

-- Nothing that could be staged is above the greatest of it.
none_above : (last : ℕ) (ss : List Staged) (s : Staged) → greatest last ss ≡ Some s → (greatest s.run ss ≡ None) × (last < s.run)
none_above last [] s e = cc
none_above last (new ∷ older) s e = by_older (none_above last older) (greatest last older) refl e
  where
    by_older : ((t : Staged) → greatest last older ≡ Some t → (greatest t.run older ≡ None) × (last < t.run)) → (g : Option Staged) → greatest last older ≡ g
        → greater last new g ≡ Some s → (greatest s.run (new ∷ older) ≡ None) × (last < s.run)
    by_older above None is e = first (nat_lt last new.run) refl e
      where
        first : (b : Bool) → nat_lt last new.run ≡ b → (if b then Some new else None) ≡ Some s → (greatest s.run (new ∷ older) ≡ None) × (last < s.run)
        first false t e = cc
        first true t e =
            let same : new ≡ s = cc in
            let lt : last < new.run = grind (arith, nat_tests) in
            let at : nat_lt new.run new.run ≡ false = grind (arith, nat_tests) in
            subst (λ x. (greatest x.run (new ∷ older) ≡ None) × (last < x.run)) same
            (ap (greater new.run new) (none_higher new.run last older (omega (arith, lt)) is) ∙ ap (λ b. if b then Some new else None) at, lt)
    by_older above (Some t) is e = second (nat_lt t.run new.run) refl e
      where
        second : (b : Bool) → nat_lt t.run new.run ≡ b → (if b then Some new else Some t) ≡ Some s → (greatest s.run (new ∷ older) ≡ None) × (last < s.run)
        second true u e =
            let same : new ≡ s = cc in
            let below = above t is in
            let lt : t.run < new.run = grind (arith, nat_tests) in
            let at : nat_lt new.run new.run ≡ false = grind (arith, nat_tests) in
            subst (λ x. (greatest x.run (new ∷ older) ≡ None) × (last < x.run)) same (
              ap (greater new.run new) (none_higher new.run t.run older (omega (arith, lt)) below.0) ∙ ap (λ b. if b then Some new else None) at,
              omega (arith, lt, below.1),
            )
        second false u e =
            let same : t ≡ s = cc in
            let below = above t is in
            subst (λ x. (greatest x.run (new ∷ older) ≡ None) × (last < x.run)) same
            (ap (greater t.run new) below.0 ∙ ap (λ b. if b then Some new else None) u, below.1)

-- A request that is due to record a run stages none.
due_stages_none : (on : Bool) (last : ℕ) (found : Option Staged) (w : Option Work) (x : Request) (s : Staged) (b : Bool) (l : ℕ) (v : Option Work)
    → due_by on last found w x ≡ Some s → stages b l v x ≡ None
due_stages_none on last found w x s b l v e = ap (stages b l v) (rests on last found w x s e).start

pub starts_follow : (o : Opening) (past : List Entry) (e : PacketInput) (s : Staged) → due o past e ≡ Some s → now o (Met e Saved ∷ past) ≡ begun_by (now o past) s
starts_follow o past e s is =
    let x = request_of o.me e in
    let found : staged_run o past ≡ Some s = (due_is_start o past e s is).staged_is in
    let last : last_run o (Met e Saved ∷ past) ≡ s.run = ap (λ d. last_run_after Saved d (last_run o past)) is in
    same_now o.me (boot o past) _ _ _ _ _ _ _ _ last
    (ap (λ l. greatest l (staged_after Saved (stages (is_on past) (last_run o past) (work o past) x) (stagings o past))) last
    ∙ ap (λ new. greatest s.run (staged_after Saved new (stagings o past)))
    (due_stages_none (is_on past) (last_run o past) (staged_run o past) (work o past) x s (is_on past) (last_run o past) (work o past) is)
    ∙ (none_above (last_run o past) (stagings o past) s found).0)
    (ap (λ d. work_after Saved d o.me (boot o past) x (work o past)) is)
    (ap (λ d. check_after Saved d (opens (is_on past) o.me (boot o past) (last_run o past) (work o past) (check o past) x) x (check o past)) is)
