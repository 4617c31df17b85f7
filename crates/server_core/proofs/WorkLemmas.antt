-- The present run is the last run, of this server and boot.
use Rattle.server_core.specs.Laws.{IsPresent}
use Rattle.std.proofs.Common.{◌≡◌, refl, sym, subst, ℕ, List, [], ◌∷◌, Option, None, Some}
use Rattle.disk_model.specs.declared.save_outcome.SaveOutcome.{SaveOutcome}
use Rattle.disk_model.specs.declared.save_outcome.SaveOutcome.TheVariants.{NoSave, Saved, LostNew, LostOld}
use Rattle.server_core.specs.History.{Opening, Entry, Met, Cut, Restart}
use Rattle.server_core.specs.Request.{Request, request_of}
use Rattle.server_core.specs.Run.{Work, goes_on}
use Rattle.server_core.specs.Words.{Staged, boot, last_run_after, work_after, last_run, work, due}

abbrev pub Of : ℕ → ℕ → ℕ → Option Work → Type 0
Of me now_boot last None = Unit {0}
Of me now_boot last (Some w) = IsPresent me now_boot last w

goes_on_of : (me now_boot last : ℕ) (x : Request) (w : Option Work) → Of me now_boot last w → Of me now_boot last (goes_on x w)
goes_on_of me now_boot last x None h = h
goes_on_of me now_boot last x (Some w) h = record { server = h.server; boot_is = h.boot_is; run = h.run }

pub unsaved : (d : Option Staged) (last : ℕ) → last_run_after NoSave d last ≡ last
unsaved None last = refl
unsaved (Some s) last = refl

after_of : (me now_boot last : ℕ) (left : SaveOutcome) (d : Option Staged) (x : Request) (w : Option Work) → Of me now_boot last w
    → Of me now_boot (last_run_after left d last) (work_after left d me now_boot x w)
after_of me now_boot last NoSave d x w h = subst (λ l. Of me now_boot l (goes_on x w)) (sym (unsaved d last)) (goes_on_of me now_boot last x w h)
after_of me now_boot last Saved None x w h = goes_on_of me now_boot last x w h
after_of me now_boot last Saved (Some s) x w h = record { server = refl; boot_is = refl; run = refl }
after_of me now_boot last LostNew d x w h = tt
after_of me now_boot last LostOld d x w h = tt

pub work_of : (o : Opening) (past : List Entry) → Of o.me (boot o past) (last_run o past) (work o past)
work_of o [] = tt
work_of o (Met e left ∷ past) = after_of o.me (boot o past) (last_run o past) left (due o past e) (request_of o.me e) (work o past) (work_of o past)
work_of o (Cut ∷ past) = tt
work_of o (Restart left ∷ past) = tt

pub is_of : (o : Opening) (past : List Entry) (w : Work) → work o past ≡ Some w → IsPresent o.me (boot o past) (last_run o past) w
is_of o past w h = subst (λ v. Of o.me (boot o past) (last_run o past) v) h (work_of o past)
