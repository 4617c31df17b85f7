-- How attempts end, in rows that can be followed by hand.
use Rattle.std.specs.Prelude.{◌≡◌, ℕ, true, false, List, [], ◌∷◌, ◌++◌, map, codes, is_some, if◌then◌else◌, Some, None}
use Rattle.fc_base.specs.declared.report.ReportEnd.{ReportEnd}
use Rattle.fc_base.specs.declared.report.ReportEnd.TheVariants.{Whole, AtFault, ReadFault}
use Rattle.disk_model.specs.declared.save_outcome.SaveOutcome.TheVariants.{NoSave, Saved}
use Rattle.verify_state.specs.State.{State}
use Rattle.messages.specs.declared.body.Body.TheVariants.{Report}
use Rattle.messages.specs.declared.refusal.Reason.TheVariants.{Overwritten, Misfit}
use Rattle.verify_state.specs.Examples.{state}
use Rattle.client_core.specs.declared.outcome.Outcome.TheVariants as outcomes
use Rattle.client_core.specs.declared.received.Received.{Received}
use Rattle.client_core.specs.Inputs.{PacketInput, Verify, Deliver}
use Rattle.client_core.specs.History.{Opening, Entry, Met, Restart}
use Rattle.client_core.specs.Laws.{from_server}
use Rattle.client_core.specs.Words.{due}
use Rattle.attempt_ends.specs.declared.conclusion.AttemptEnd.{AttemptEnd}
use Rattle.attempt_ends.specs.declared.conclusion.AttemptEnd.TheVariants as words
use Rattle.attempt_ends.specs.declared.place.Place.{Place}
use Rattle.attempt_ends.specs.declared.place_end.Counts.{Counts}
use Rattle.attempt_ends.specs.declared.place_end.PlaceEnd.{PlaceEnd}
use Rattle.attempt_ends.specs.declared.place_end.PlaceEnd.TheVariants.{Refused, Unasked, Unanswered, InFull, Unread, Nothing, Faults, Sound}
use Rattle.attempt_ends.specs.PlaceEnds.{asked_end, made_end, end_by}
use Rattle.attempt_ends.specs.AttemptEnds.{attempt_end, ends_told}

-- The counts of a check: how many blocks it checked, and how many of these are at fault.
abbrev pub counts : ℕ → ℕ → Counts
counts checked faults = record { checked = checked; faults = faults }

-- What the check of job 0 of server 0 found.
abbrev pub report_with : ℕ → ℕ → ReportEnd → Received
report_with checked faults end = record {
  run = 1;
  attempt = 1;
  server = 0;
  job = 0;
  report = record { checked = checked; faults = faults; first = []; end = end };
}

-- The first place of an attempt: job 0 of server 0.
abbrev pub first_place : Place
first_place = record { server = 0; job = 0 }

-- What a report says goes before a refusal of its server; a full pass says nothing, whatever it
-- counts.
pub record EndsAtPlaces : Type 0 where
  pub sound : asked_end true outcomes.Good (Some (report_with 4 0 Whole)) ≡ Sound 4
  pub at_fault : asked_end true outcomes.Open (Some (report_with 3 1 AtFault)) ≡ Faults (counts 3 1)
  pub nothing : asked_end true outcomes.Good (Some (report_with 0 0 Whole)) ≡ Nothing
  pub unread :
      asked_end true outcomes.Good (Some (report_with 2 1 (ReadFault 5))) ≡ Unread (counts 2 1) 5
  pub in_full : asked_end false outcomes.Good (Some (report_with 4 3 Whole)) ≡ InFull (counts 4 3)
  pub hides_none :
      asked_end true (outcomes.Refused Misfit) (Some (report_with 4 2 Whole)) ≡ Faults (counts 4 2)
  pub refused : asked_end true (outcomes.Refused Overwritten) None ≡ Refused Overwritten
  pub unanswered : asked_end true outcomes.Open None ≡ Unanswered
  pub unasked : made_end None true outcomes.Good None ≡ Some Unasked
  pub none_there : made_end None false outcomes.Good None ≡ None
  pub not_made : end_by None first_place true outcomes.None None ≡ Some Unanswered

-- Two servers, over a note by which run 1 was begun, and which keeps these states.
abbrev pub two : List State → Opening
two states = record {
  servers = 2;
  noted = record { generation = 0; runs = 1; attempts = 0; kept = states };
}

-- The state of a job of run 1 at a server.
abbrev pub state_at : ℕ → ℕ → State
state_at server job =
    record (state job 2) { key = record { run = 1; server = server; job = job } }

-- A text whose jobs are checked by their states.
abbrev pub loading : List ℕ
loading = codes "[global]\nbs=512\nsize=1k\nrw=read\nverify_state_load=1\n"

-- Of one job, and of two.
abbrev pub one_job : List ℕ
one_job = loading ++ codes "[a]\n"

abbrev pub two_jobs : List ℕ
two_jobs = loading ++ codes "[a]\n[b]\n"

-- A report of attempt 1 of a job of so many, from a server.
abbrev pub report_from : ℕ → ℕ → ℕ → ℕ → ℕ → PacketInput
report_from server job jobs checked faults =
    Deliver (from_server (Report 1 1 job jobs (record {
      checked = checked;
      faults = faults;
      first = [];
      end = Whole;
    }))
    server)

-- The list of these calls, the newest first, each answered, behind a restart.
abbrev pub life_of : Opening → List PacketInput → List Entry
life_of opening [] = Restart false ∷ []
life_of opening (c ∷ calls) =
    Met c (if is_some (due opening (life_of opening calls) c) then Saved else NoSave)
    ∷ life_of opening calls

-- Attempt 1 of run 1 ends so at its places, and in this word.
pub record EndsSo (states : List State) (calls : List PacketInput) (at : List PlaceEnd)
    (word : AttemptEnd) : Type 0 where
  pub places :
      map (λ e. e.end) (ends_told (two states) (life_of (two states) calls) 1 1) ≡ at
  pub words : attempt_end (ends_told (two states) (life_of (two states) calls) 1 1) ≡ word

-- Two servers with a job each: both are sound; one is away; one has faults, and the other is away;
-- one had nothing; of one no state is kept, as where a mirror gave all back but that: its check is
-- a full pass, whose faults say nothing.
pub record Servers : Type 0 where
  pub both : EndsSo (state_at 0 0 ∷ state_at 1 0 ∷ [])
      (report_from 1 0 1 2 0 ∷ report_from 0 0 1 2 0 ∷ Verify 1 one_job ∷ [])
      (Sound 2 ∷ Sound 2 ∷ []) words.Sound
  pub one_away : EndsSo (state_at 0 0 ∷ state_at 1 0 ∷ [])
      (report_from 0 0 1 2 0 ∷ Verify 1 one_job ∷ [])
      (Sound 2 ∷ Unanswered ∷ []) words.NotWhole
  pub faults_first : EndsSo (state_at 0 0 ∷ state_at 1 0 ∷ [])
      (report_from 0 0 1 2 1 ∷ Verify 1 one_job ∷ [])
      (Faults (counts 2 1) ∷ Unanswered ∷ []) words.Faults
  pub nothing : EndsSo (state_at 0 0 ∷ state_at 1 0 ∷ [])
      (report_from 1 0 1 0 0 ∷ report_from 0 0 1 2 0 ∷ Verify 1 one_job ∷ [])
      (Sound 2 ∷ Nothing ∷ []) words.NoVerdict
  pub full_pass : EndsSo (state_at 0 0 ∷ [])
      (report_from 1 0 1 2 2 ∷ report_from 0 0 1 2 0 ∷ Verify 1 one_job ∷ [])
      (Sound 2 ∷ InFull (counts 2 2) ∷ []) words.NoVerdict

-- A text with one job less than there are states; one with a job more, which was never begun; an
-- attempt that a later one has overtaken.
pub record Texts : Type 0 where
  pub one_less : EndsSo (state_at 0 0 ∷ state_at 0 1 ∷ state_at 1 0 ∷ [])
      (report_from 1 0 1 2 0 ∷ report_from 0 0 1 2 0 ∷ Verify 1 one_job ∷ [])
      (Sound 2 ∷ Unasked ∷ Sound 2 ∷ []) words.NotWhole
  pub one_more : EndsSo (state_at 0 0 ∷ state_at 1 0 ∷ [])
      (report_from 1 1 2 2 2 ∷ report_from 1 0 2 2 0 ∷ report_from 0 1 2 2 2
      ∷ report_from 0 0 2 2 0 ∷ Verify 1 two_jobs ∷ [])
      (Sound 2 ∷ InFull (counts 2 2) ∷ Sound 2 ∷ InFull (counts 2 2) ∷ []) words.NoVerdict
  pub overtaken : EndsSo (state_at 0 0 ∷ state_at 1 0 ∷ [])
      (Verify 1 one_job ∷ report_from 0 0 1 2 0 ∷ Verify 1 one_job ∷ [])
      (Sound 2 ∷ Unanswered ∷ []) words.NotWhole
