-- Each run is started once, and the present run is the last.
use Rattle.std.proofs.Common.{◌≡◌, ap, ℕ, ◌<◌, ◌≤◌, arith, true, List, [], ◌∷◌, ◌++◌, Option, None, Some}
use Rattle.server_core.specs.Inputs.{PacketInput}
use Rattle.disk_model.specs.declared.save_outcome.SaveOutcome.{SaveOutcome}
use Rattle.disk_model.specs.SaveOutcome.{has_new}
use Rattle.server_core.specs.History.{Opening, Entry, Met}
use Rattle.server_core.specs.Request.{request_of}
use Rattle.server_core.specs.Words.{Staged, is_on, last_run_after, last_run, work, staged_run, due}
use Rattle.server_core.proofs.Due.{due_start, last_grows}

recorded_new : (left : SaveOutcome) (d : Option Staged) (s : Staged) (last : ℕ) → has_new left ≡ true → d ≡ Some s → last_run_after left d last ≡ s.run
recorded_new left None s last n h = cc
recorded_new left (Some t) s last n h = let same : t ≡ s = cc in rw n (ap (λ (v : Staged). v.run) same)

pub grows_on : (o : Opening) (between list : List Entry) → last_run o list ≤ last_run o (between ++ list)
grows_on o [] list = omega arith
grows_on o (e ∷ between) list = let g = last_grows o e (between ++ list) in let i = grows_on o between list in omega arith

pub starts_grow : (o : Opening) (older between : List Entry) (e f : PacketInput) (left : SaveOutcome) (s t : Staged) → has_new left ≡ true → due o older e ≡ Some s
    → due o (between ++ Met e left ∷ older) f ≡ Some t → s.run < t.run
starts_grow o older between e f left s t n d h =
    let list = Met e left ∷ older in
    let here : last_run o list ≡ s.run = recorded_new left (due o older e) s (last_run o older) n d in
    let g = grows_on o between list in
    let above = (due_start (is_on (between ++ list)) (last_run o (between ++ list)) (staged_run o (between ++ list)) (work o (between ++ list))
    (request_of o.me f) t h).above in
    omega arith
