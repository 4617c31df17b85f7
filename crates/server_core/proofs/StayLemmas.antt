-- Once a run has come to its end, no state of it is taken any more.
use Rattle.std.proofs.Common.{◌≡◌, refl, ◌∙◌, ap, ℕ, ◌≤◌, arith, Bool, true, false, ◌&&◌, ◌==◌, List, [], ◌∷◌, ◌++◌, Option, None, Some}
use Rattle.std.specs.Prelude.{is_some}
use Rattle.std.specs.Option.{option_or}
use Rattle.std.proofs.lemmas.Bool.{eqb-true}
use Rattle.disk_model.specs.declared.save_outcome.SaveOutcome.{SaveOutcome}
use Rattle.disk_model.specs.declared.save_outcome.SaveOutcome.TheVariants.{NoSave, Saved, LostNew, LostOld}
use Rattle.server_core.specs.History.{Opening, Entry, Met, Cut, Restart}
use Rattle.server_core.specs.Request.{Request, request_of}
use Rattle.server_core.specs.Run.{Work, Halt, halt_by, halt_of, goes_on}
use Rattle.server_core.specs.Words.{Staged, is_on, boot, last_run, work, staged_run, due, work_after}
use Rattle.server_core.specs.Taken.{triggers, takes_now, takes, and_those, takings}
use Rattle.server_core.specs.Laws.{IsOver}
use Rattle.server_core.proofs.StartLemmas.{grows_on}
use Rattle.server_core.proofs.Due.{IsStart, due_start}

-- A run that has come to its end stays so.
pub still : (a b : Option Halt) → is_some a ≡ true → is_some (option_or a b) ≡ true
still None b h = cc
still (Some halt) b h = refl

over_on : (r : ℕ) (x : Request) (w : Option Work) → IsOver r w → IsOver r (goes_on x w)
over_on r x None h = tt
over_on r x (Some w) h = λ e. still (halt_of w.run w.since) (halt_by w.run x w.since) (h e)

over_after : (r last : ℕ) (left : SaveOutcome) (d : Option Staged) (me b : ℕ) (x : Request) (w : Option Work) → r ≤ last
    → ((s : Staged) → d ≡ Some s → IsStart last x s) → IsOver r w → IsOver r (work_after left d me b x w)
over_after r last NoSave d me b x w l f h = over_on r x w h
over_after r last Saved None me b x w l f h = over_on r x w h
over_after r last Saved (Some s) me b x w l f h = λ e. let above = (f s refl).above in absurd (omega arith)
over_after r last LostNew d me b x w l f h = tt
over_after r last LostOld d me b x w l f h = tt

over_met : (o : Opening) (r : ℕ) (e : Entry) (past : List Entry) → r ≤ last_run o past → IsOver r (work o past) → IsOver r (work o (e ∷ past))
over_met o r (Met e left) past l h =
    over_after r (last_run o past) left (due o past e) o.me (boot o past) (request_of o.me e) (work o past) l
    (due_start (is_on past) (last_run o past) (staged_run o past) (work o past) (request_of o.me e)) h
over_met o r Cut past l h = tt
over_met o r (Restart left) past l h = tt

no_more_at : (u t : Bool) (w : Work) (j : ℕ) (b : Option Halt) → (t ≡ true → is_some b ≡ true) → takes_now (u && t) w j b ≡ None
no_more_at u t w j (Some halt) f = refl
no_more_at u true w j None f = let some = f refl in cc
no_more_at true false w j None f = refl
no_more_at false false w j None f = refl

no_more : (r j : ℕ) (x : Request) (w : Option Work) → IsOver r w → takes r j x w ≡ None
no_more r j x None h = refl
no_more r j x (Some w) h = no_more_at (triggers r x) (w.run == r) w j (halt_of w.run w.since) (λ t. h (eqb-true w.run r t))

over_all : (o : Opening) (r : ℕ) (newer list : List Entry) → r ≤ last_run o list → IsOver r (work o list) → IsOver r (work o (newer ++ list))
over_all o r [] list l h = h
over_all o r (e ∷ newer) list l h = let g = grows_on o newer list in over_met o r e (newer ++ list) (omega arith) (over_all o r newer list l h)

pub takings_stay : (o : Opening) (r j : ℕ) (newer list : List Entry) → r ≤ last_run o list → IsOver r (work o list)
    → takings o r j (newer ++ list) ≡ takings o r j list
takings_stay o r j [] list l h = refl
takings_stay o r j (Met e left ∷ newer) list l h =
    ap (λ x. and_those x (takings o r j (newer ++ list))) (no_more r j (request_of o.me e) (work o (newer ++ list)) (over_all o r newer list l h))
    ∙ takings_stay o r j newer list l h
takings_stay o r j (Cut ∷ newer) list l h = takings_stay o r j newer list l h
takings_stay o r j (Restart left ∷ newer) list l h = takings_stay o r j newer list l h
