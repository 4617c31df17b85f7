-- With what a job of a check is checked: what was asked for it.
use Rattle.std.proofs.Common.{◌≡◌, refl, ◌∙◌, ap, subst, ◌⊎◌, inl, inr, ℕ, Bool, true, false, ◌&&◌, ◌==◌, List, [], ◌∷◌, Option, Some, None}
use Rattle.std.specs.Prelude.{if◌then◌else◌, Contains}
use Rattle.std.proofs.lemmas.Bool.{and_parts, eqb-true}
use Rattle.fc_base.specs.declared.fault.Fault.{Fault}
use Rattle.fc_base.specs.declared.report.ReportParts.{ReportParts}
use Rattle.fc_base.proofs.ListLemmas.{first_of, behind_one}
use Rattle.job_file.specs.declared.job.Job.{Job}
use Rattle.verify_state.specs.State.{State}
use Rattle.verify_state.specs.Misfit.{misfit}
use Rattle.server_core.specs.Request.{Request, ToStage, ToStart, ToTrigger, ToMark, ToStop, ToVerify, ToHold, ToPassFully, ToIssue, ToEnd, ToReport, ToNobody}
use Rattle.server_core.specs.Check.{Check, Progress, Wanting, Full, With, Refused, Done, progress_with_state, progress_without_state, progress_with_report}
use Rattle.server_core.specs.Check.{progress_by, progress_at_first, progress_after}

with_state : (fault : Option Fault) (s : State) (p : Progress) (state : State) → progress_with_state fault s p ≡ With state → (s ≡ state) ⊎ (p ≡ With state)
with_state None s Wanting state h = inl cc
with_state (Some fault) s Wanting state h = absurd cc
with_state fault s Full state h = absurd cc
with_state fault s (With t) state h = inr h
with_state fault s (Refused value) state h = absurd cc
with_state fault s (Done report) state h = absurd cc

without_state : (p : Progress) (state : State) → progress_without_state p ≡ With state → p ≡ With state
without_state Wanting state h = absurd cc
without_state Full state h = absurd cc
without_state (With s) state h = h
without_state (Refused value) state h = absurd cc
without_state (Done report) state h = absurd cc

with_report : (r : ReportParts) (p : Progress) (state : State) → progress_with_report r p ≡ With state → p ≡ With state
with_report r Wanting state h = absurd cc
with_report r Full state h = absurd cc
with_report r (With s) state h = absurd cc
with_report r (Refused value) state h = absurd cc
with_report r (Done report) state h = absurd cc

held_if : (t : Bool) (fault : Option Fault) (s : State) (p : Progress) (state : State) → (if t then progress_with_state fault s p else p) ≡ With state
    → ((t ≡ true) × (s ≡ state)) ⊎ (p ≡ With state)
held_if true fault s p state h = elim (with_state fault s p state h) [ inl e ↦ inl (refl, e) | inr k ↦ inr k ]
held_if false fault s p state h = inr h

full_if : (t : Bool) (p : Progress) (state : State) → (if t then progress_without_state p else p) ≡ With state → p ≡ With state
full_if true p state h = without_state p state h
full_if false p state h = h

report_if : (t : Bool) (r : ReportParts) (p : Progress) (state : State) → (if t then progress_with_report r p else p) ≡ With state → p ≡ With state
report_if true r p state h = with_report r p state h
report_if false r p state h = h

by_request : (c : Check) (j : ℕ) (job : Job) (x : Request) (p : Progress) (state : State) → progress_by c j job x p ≡ With state
    → (x ≡ ToHold c.attempt state) ⊎ (p ≡ With state)
by_request c j job (ToHold a s) p state h =
    elim (held_if ((a == c.attempt) && (s.key.job == j)) (misfit s (record { run = c.run; server = c.server; job = j }) job.rec) s p state h) [
      | inl k ↦ let parts = and_parts (a == c.attempt) (s.key.job == j) k.0 in
          inl (ap (λ n. ToHold n s) (eqb-true a c.attempt parts.0) ∙ ap (ToHold c.attempt) k.1)
      | inr k ↦ inr k
    ]
by_request c j job (ToPassFully a i) p state h = inr (full_if ((a == c.attempt) && (i == j)) p state h)
by_request c j job (ToReport b a i report) p state h = inr (report_if ((b == c.boot) && ((a == c.attempt) && (i == j))) report p state h)
by_request c j job (ToStage r text) p state h = inr h
by_request c j job (ToStart r) p state h = inr h
by_request c j job (ToTrigger r act) p state h = inr h
by_request c j job (ToMark r i) p state h = inr h
by_request c j job (ToStop r) p state h = inr h
by_request c j job (ToVerify r a text) p state h = inr h
by_request c j job (ToIssue i) p state h = inr h
by_request c j job (ToEnd ticket end) p state h = inr h
by_request c j job ToNobody p state h = inr h

at_first : (b : Bool) (state : State) → progress_at_first b ≡ With state → ⊥
at_first true state h = cc
at_first false state h = cc

-- A state that a job is checked with was asked to be held.
pub with_was_asked : (c : Check) (j : ℕ) (job : Job) (since : List Request) (state : State) → progress_after c j job since ≡ With state
    → Contains since (ToHold c.attempt state)
with_was_asked c j job [] state h = absurd (at_first job.load state h)
with_was_asked c j job (x ∷ since) state h =
    elim (by_request c j job x (progress_after c j job since) state h) [
      | inl now ↦ subst (Contains (x ∷ since)) now (first_of x since)
      | inr before ↦ behind_one x since (ToHold c.attempt state) (with_was_asked c j job since state before)
    ]

-- ---- a full pass

full_state : (fault : Option Fault) (s : State) (p : Progress) → progress_with_state fault s p ≡ Full → p ≡ Full
full_state None s Wanting h = absurd cc
full_state (Some fault) s Wanting h = absurd cc
full_state fault s Full h = h
full_state fault s (With t) h = absurd cc
full_state fault s (Refused value) h = absurd cc
full_state fault s (Done report) h = absurd cc

full_report : (r : ReportParts) (p : Progress) → progress_with_report r p ≡ Full → p ≡ Full
full_report r Wanting h = absurd cc
full_report r Full h = absurd cc
full_report r (With s) h = absurd cc
full_report r (Refused value) h = absurd cc
full_report r (Done report) h = absurd cc

full_held : (t : Bool) (fault : Option Fault) (s : State) (p : Progress) → (if t then progress_with_state fault s p else p) ≡ Full → p ≡ Full
full_held true fault s p h = full_state fault s p h
full_held false fault s p h = h

full_reported : (t : Bool) (r : ReportParts) (p : Progress) → (if t then progress_with_report r p else p) ≡ Full → p ≡ Full
full_reported true r p h = full_report r p h
full_reported false r p h = h

full_asked : (t : Bool) (p : Progress) → (if t then progress_without_state p else p) ≡ Full → (t ≡ true) ⊎ (p ≡ Full)
full_asked true p h = inl refl
full_asked false p h = inr h

full_by : (c : Check) (j : ℕ) (job : Job) (x : Request) (p : Progress) → progress_by c j job x p ≡ Full → (x ≡ ToPassFully c.attempt j) ⊎ (p ≡ Full)
full_by c j job (ToHold a s) p h =
    inr (full_held ((a == c.attempt) && (s.key.job == j)) (misfit s (record { run = c.run; server = c.server; job = j }) job.rec) s p h)
full_by c j job (ToPassFully a i) p h =
    elim (full_asked ((a == c.attempt) && (i == j)) p h) [
      | inl k ↦ let parts = and_parts (a == c.attempt) (i == j) k in
          inl (ap (λ n. ToPassFully n i) (eqb-true a c.attempt parts.0) ∙ ap (ToPassFully c.attempt) (eqb-true i j parts.1))
      | inr k ↦ inr k
    ]
full_by c j job (ToReport b a i report) p h = inr (full_reported ((b == c.boot) && ((a == c.attempt) && (i == j))) report p h)
full_by c j job (ToStage r text) p h = inr h
full_by c j job (ToStart r) p h = inr h
full_by c j job (ToTrigger r act) p h = inr h
full_by c j job (ToMark r i) p h = inr h
full_by c j job (ToStop r) p h = inr h
full_by c j job (ToVerify r a text) p h = inr h
full_by c j job (ToIssue i) p h = inr h
full_by c j job (ToEnd ticket end) p h = inr h
full_by c j job ToNobody p h = inr h

unloaded : (b : Bool) → progress_at_first b ≡ Full → b ≡ false
unloaded true h = absurd cc
unloaded false h = refl

-- A full pass is of a job that loads no state, or was asked for.
pub full_was_asked : (c : Check) (j : ℕ) (job : Job) (since : List Request) → progress_after c j job since ≡ Full
    → (job.load ≡ false) ⊎ Contains since (ToPassFully c.attempt j)
full_was_asked c j job [] h = inl (unloaded job.load h)
full_was_asked c j job (x ∷ since) h =
    elim (full_by c j job x (progress_after c j job since) h) [
      | inl now ↦ inr (subst (Contains (x ∷ since)) now (first_of x since))
      | inr before ↦ elim (full_was_asked c j job since before) [
        | inl k ↦ inl k
        | inr k ↦ inr (behind_one x since (ToPassFully c.attempt j) k)
      ]
    ]
