-- What a client keeps of what it has done in this life.
use Rattle.std.specs.Prelude.{◌≡◌, ℕ, List, [], Option, Some, None, slice_get, unwrap_or, IsTrue}
use Rattle.std.specs.Ordering.{nat_cmp}
use Rattle.std.specs.BTreeMap.{get}
use Rattle.std.specs.HashSet.{contains}
use Rattle.fc_base.specs.declared.numbers.Key.{Key}
use Rattle.fc_base.specs.Keys.{is_same_key}
use Rattle.messages.specs.declared.refusal.Act.TheVariants as acts
use Rattle.messages.specs.Ranges.{is_attempt, is_run}
use Rattle.client_core.specs.declared.beginning.Beginning.TheVariants.{Unbegun}
use Rattle.client_core.specs.declared.attempt_asked.AttemptAsked.{AttemptAsked}
use Rattle.client_core.specs.declared.life.Life.{Life}
use Rattle.client_core.specs.declared.run_asked.RunAsked.{RunAsked}
use Rattle.client_core.specs.Life.{Deed, text_of, act_of, run_of, check_of}
use Rattle.client_core.specs.Begins.{begin_at}
use Rattle.client_core.specs.Requests.{Unasked, trigger_at, stop_at, verify_at}
use Rattle.client_core.specs.Reports.{reports}
use Rattle.client_core.specs.RequestStatus.{IsRequestKept}
use Rattle.client_core.specs.Packets.{is_copied}

-- P holds of each, beside its place.
abbrev pub Each : {A : Type 0} → List A → (ℕ → A → Type 0) → Type 0
Each {A} xs P = (i : ℕ) (x : A) → slice_get xs i ≡ Some x → P i x

-- Nothing was asked for the run.
pub record Unnamed (run : ℕ) (deeds : List Deed) : Type 0 where
  pub text : text_of run deeds ≡ []
  pub act : act_of run deeds ≡ acts.None
  pub begins : (server : ℕ) → begin_at run server deeds ≡ Unbegun
  pub triggers : (server : ℕ) → trigger_at run server deeds ≡ Unasked
  pub stops : (server : ℕ) → stop_at run server deeds ≡ Unasked

-- All that was asked for a run is kept, and how it stands at each server.
pub record RunIs (run : ℕ) (deeds : List Deed) (asked : RunAsked) : Type 0 where
  pub range : IsTrue (is_run run)
  pub text : unwrap_or asked.text [] ≡ text_of run deeds
  pub act : asked.act ≡ act_of run deeds
  pub begins : Each asked.begins (λ server b. b ≡ begin_at run server deeds)
  pub triggers : Each asked.triggers (λ server s. IsRequestKept s (trigger_at run server deeds))
  pub stops : Each asked.stops (λ server s. IsRequestKept s (stop_at run server deeds))

-- The attempt wasn't made.
pub record Unmade (attempt : ℕ) (deeds : List Deed) : Type 0 where
  pub run : run_of attempt deeds ≡ 0
  pub text : check_of attempt deeds ≡ []
  pub verifies : (server : ℕ) → verify_at attempt server deeds ≡ Unasked

-- All of an attempt is kept, and how it stands at each server.
pub record AttemptIs (attempt : ℕ) (deeds : List Deed) (asked : AttemptAsked) : Type 0 where
  pub number : IsTrue (is_attempt attempt)
  pub range : IsTrue (is_run asked.run)
  pub run : asked.run ≡ run_of attempt deeds
  pub text : asked.text ≡ check_of attempt deeds
  pub verifies : Each asked.verifies (λ server s. IsRequestKept s (verify_at attempt server deeds))

-- All that was asked for a run is kept, if anything was.
abbrev pub RunFor : ℕ → List Deed → Option RunAsked → Type 0
RunFor run deeds None = Unnamed run deeds
RunFor run deeds (Some asked) = RunIs run deeds asked

-- All of an attempt is kept, if it was made; there may be room for one that wasn't.
abbrev pub AttemptFor : ℕ → List Deed → Option (Option AttemptAsked) → Type 0
AttemptFor attempt deeds None = Unmade attempt deeds
AttemptFor attempt deeds (Some None) = Unmade attempt deeds
AttemptFor attempt deeds (Some (Some asked)) = AttemptIs attempt deeds asked

-- What was asked for each run is kept.
abbrev pub RunsAre : Life → List Deed → Type 0
RunsAre kept deeds = (run : ℕ) → RunFor run deeds (get nat_cmp kept.runs run)

-- Each attempt is kept.
abbrev pub AttemptsAre : Life → List Deed → Type 0
AttemptsAre kept deeds =
    (attempt : ℕ) → AttemptFor attempt deeds (get nat_cmp kept.attempts attempt)

-- What is kept of this life says of each key whether the mirror has said that it keeps the state.
abbrev pub CopiedAre : Life → List Deed → Type 0
CopiedAre kept deeds =
    (key : Key) → contains is_same_key kept.copied key ≡ is_copied key deeds

-- All is kept that was asked in this life, the reports that came, and what the mirror said.
pub record LifeIs (kept : Life) (deeds : List Deed) : Type 0 where
  pub runs : RunsAre kept deeds
  pub attempts : AttemptsAre kept deeds
  pub reports_are : kept.reports ≡ reports deeds
  pub copied : CopiedAre kept deeds

-- P holds of each list of deeds of which this is kept.
abbrev pub EachLife : Life → (List Deed → Type 0) → Type 0
EachLife kept P = (deeds : List Deed) → LifeIs kept deeds → P deeds
