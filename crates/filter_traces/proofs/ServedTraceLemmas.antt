-- The trace in which the servers of a fleet have served another.
use Rattle.std.proofs.Common.{◌≡◌, refl, sym, ◌∙◌, ap, subst, ℕ, zero, suc, ◌+◌, ◌<◌, ◌≤◌, ◌^◌, arith, Bool, true, false, List, [], ◌∷◌, ◌++◌}
use Rattle.std.specs.Prelude.{Contains, ◌==◌, if◌then◌else◌}
use Rattle.std.proofs.lemmas.Bool.Decides.{nat_tests}
use Rattle.std.proofs.lemmas.Bool.{eqb-true}
use Rattle.std.proofs.lemmas.List.Elements.{Contains-append_left, Contains-append_right}
use Rattle.fc_base.proofs.ListLemmas.{first_of}
use Rattle.job_file.specs.declared.job.Job.{Job}
use Rattle.disk_model.specs.declared.save_outcome.SaveOutcome.TheVariants.{NoSave, Saved}
use Rattle.messages.specs.declared.frame.Frame.{Frame}
use Rattle.messages.specs.declared.frame.Frame.TheVariants.{Whole}
use Rattle.server_core.specs.declared.input.Input.TheVariants.{Deliver}
use Rattle.server_core.specs.declared.note.ServerNote.{ServerNote}
use Rattle.server_core.specs.Hearing.{FrameEntry as ServerEntry, Met as ServerMet, Restart as ServerRestart}
use Rattle.server_core.specs.FrameAnswers.{frames as server_frames}
use Rattle.client_core.specs.Inputs as inputs
use Rattle.client_core.specs.Hearing.{FrameEntry as ClientEntry, Met as ClientMet, packets_heard}
use Rattle.client_core.specs.FrameAnswers.{frames as client_frames}
use Rattle.mirror_core.specs.History as mirror
use Rattle.net_world.specs.Setup.{without_mirror}
use Rattle.net_world.specs.Trace.{opening_of}
use Rattle.net_world.specs.FrameLaws.{NodesHearTheirOwn}
use Rattle.filters.specs.ServerAt.{noted as server_noted}
use Rattle.filter_traces.specs.Again.{IsOlder}
use Rattle.filter_traces.proofs.ServedLemmas.{IsText, opening, HasBegun, jobs_frame, ok_packet, start_frame, fresh_client, staged, started, started_noted, sends_ok, restarts, restarts_noted, none_begun, begins_more, jobs_sent, starts, goes_on}
use Rattle.filter_traces.proofs.TellLemmas.{Told, retold, none_told, client_adds, server_adds, with_list, own_list}

-- ---- a server that has just begun

pub record Serves (s : ℕ) (said : ServerNote) (list : List ServerEntry) : Type 0 where
  pub older : List ServerEntry
  pub list_is : list ≡ ServerRestart Saved ∷ older
  pub says : server_noted (opening_of s) older ≡ said

-- It was restarted so often, behind a list with its first restart.
booted : (s b r : ℕ) (past : List ServerEntry) → server_noted (opening_of s) past ≡ record { boot = 1; last_run = r }
    → Serves s (record { boot = suc b; last_run = r }) (restarts (suc b) past)
booted s b r past is = record {
  older = restarts b past;
  list_is = refl;
  says = restarts_noted s b past ∙ (ap (λ (m : ServerNote). record { boot = m.boot + b; last_run = m.last_run }) is ∙ ap (λ x. record { boot = x; last_run = r }) more);
}
  where
    more : 1 + b ≡ suc b
    more = omega arith

restarted : (s : ℕ) (said : ServerNote) (past : List ServerEntry) → (said.boot ≡ 0 → past ≡ ServerRestart Saved ∷ [])
    → (said.boot ≡ 0 → said.last_run ≡ 0) → server_noted (opening_of s) past ≡ record { boot = 1; last_run = said.last_run }
    → Serves s said (restarts said.boot past)
restarted s said past first none is = by said.boot refl
  where
    by : (b : ℕ) → said.boot ≡ b → Serves s said (restarts b past)
    by zero e = record {
      older = [];
      list_is = first e;
      says = ap (λ x. record { boot = 0; last_run = x }) (sym (none e)) ∙ ap (λ x. record { boot = x; last_run = said.last_run }) (sym e);
    }
    by (suc b) e = subst (λ x. Serves s (record { boot = x; last_run = said.last_run }) (restarts (suc b) past)) (sym e) (booted s b said.last_run past is)

-- ---- the trace in which they have served

-- So many servers have served, and those behind them have begun for the first time.
pub record Served (text : List ℕ) (n runs : ℕ) (said : ℕ → ServerNote) (i : ℕ) : Type 0 where
  pub servers : ℕ → List ServerEntry
  pub client : List ClientEntry
  pub sent : List Frame
  pub told : Told (without_mirror n) servers client (mirror.Restart ∷ []) sent
  pub begun : HasBegun n runs i (packets_heard (opening n) client)
  pub jobs : (k s : ℕ) → suc k ≤ runs → s < n → Contains sent (jobs_frame text (suc k) s)
  pub new : (s : ℕ) → i ≤ s → servers s ≡ ServerRestart Saved ∷ []
  pub old : (s : ℕ) → s < i → Serves s (said s) (servers s)

-- What a server's list is told to be, with what was sent besides.
record WithList (n i : ℕ) (servers : ℕ → List ServerEntry) (client : List ClientEntry) (sent : List Frame) (list : List ServerEntry) : Type 0 where
  all : List Frame
  told : Told (without_mirror n) (with_list i list servers) client (mirror.Restart ∷ []) all
  still : (f : Frame) → Contains sent f → Contains all f

more_restarts : (n i b : ℕ) (servers : ℕ → List ServerEntry) (client : List ClientEntry) (past : List ServerEntry) (sent : List Frame) → i < 8
    → Told (without_mirror n) (with_list i past servers) client (mirror.Restart ∷ []) sent → WithList n i servers client sent (restarts b past)
more_restarts n i zero servers client past sent few told = record { all = sent; told = told; still = λ f has. has }
more_restarts n i (suc b) servers client past sent few told =
    let before = more_restarts n i b servers client past sent few told in
    let more : List Frame = server_frames (opening_of i) (restarts b past) (ServerRestart Saved) in
    record {
      all = before.all ++ more;
      told = server_adds (without_mirror n) i servers client (mirror.Restart ∷ []) (restarts b past) before.all (ServerRestart Saved) few tt before.told;
      still = λ f has. Contains-append_left before.all more f (before.still f has);
    }

less : (k r : ℕ) → suc k ≤ suc r → (suc k == suc r) ≡ false → suc k ≤ r
less k r few e = grind (arith, nat_tests, few, e)

module _ (own : NodesHearTheirOwn) (text : List ℕ) (jobs : List Job) (is : IsText text jobs) (n runs : ℕ) (said : ℕ → ServerNote) where
  -- Every run is begun at first.
  all_begun : (r : ℕ) → r < 2 ^ 64 → Served text n r said 0
  all_begun zero fits = record {
    servers = λ s. ServerRestart Saved ∷ [];
    client = fresh_client;
    sent = [];
    told = ([], none_told (without_mirror n));
    begun = none_begun n;
    jobs = λ k s l. absurd (omega (arith, l));
    new = λ s l. refl;
    old = λ s l. absurd (omega (arith, l));
  }
  all_begun (suc r) fits =
      let before = all_begun r (omega (arith, fits)) in
      let c = ClientMet (inputs.Begin text) Saved in
      let more : List Frame = client_frames (opening n) before.client c in
      record {
        servers = before.servers;
        client = c ∷ before.client;
        sent = before.sent ++ more;
        told = client_adds own (without_mirror n) before.servers before.client (mirror.Restart ∷ []) before.sent c tt before.told;
        begun = begins_more text jobs is n r before.client (omega (arith, fits)) before.begun;
        jobs = λ k s few l. sent_so before k s l (suc k == suc r) refl few;
        new = before.new;
        old = before.old;
      }
    where
      sent_so : (before : Served text n r said 0) (k s : ℕ) → s < n → (b : Bool) → (suc k == suc r) ≡ b → suc k ≤ suc r
          → Contains (before.sent ++ client_frames (opening n) before.client (ClientMet (inputs.Begin text) Saved)) (jobs_frame text (suc k) s)
      sent_so before k s l true e few =
          let same : r + 1 ≡ suc k = omega (arith, eqb-true (suc k) (suc r) e) in
          Contains-append_right before.sent _ (jobs_frame text (suc k) s)
          (subst (λ m. Contains (client_frames (opening n) before.client (ClientMet (inputs.Begin text) Saved)) (jobs_frame text m s)) same
          (jobs_sent text jobs is n r before.client s l (omega (arith, fits)) before.begun))
      sent_so before k s l false e few = Contains-append_left before.sent _ (jobs_frame text (suc k) s) (before.jobs k s (less k r few e) l)

  -- One server more has served: a run, if it had one, and then its restarts.
  module _ (i : ℕ) (l : i < n) (few : i < 8) (older : IsOlder runs (said i)) (at : Served text n runs said i) where
    first_list : Told (without_mirror n) (with_list i (ServerRestart Saved ∷ []) at.servers) at.client (mirror.Restart ∷ []) at.sent
    first_list =
        retold (without_mirror n) at.servers (with_list i (ServerRestart Saved ∷ []) at.servers) at.client at.client (mirror.Restart ∷ []) (mirror.Restart ∷ []) at.sent at.sent
        (λ r. ap (λ list. with_list i list at.servers r) (sym (at.new i (omega arith))) ∙ own_list i r at.servers) refl refl refl at.told

    -- The lists by then, with this one for the server.
    next : (client : List ClientEntry) (sent : List Frame) (list : List ServerEntry)
        → HasBegun n runs (suc i) (packets_heard (opening n) client) → ((f : Frame) → Contains at.sent f → Contains sent f)
        → Serves i (said i) list → Told (without_mirror n) (with_list i list at.servers) client (mirror.Restart ∷ []) sent → Served text n runs said (suc i)
    next client sent list begun still serves told = record {
      servers = with_list i list at.servers;
      client = client;
      sent = sent;
      told = told;
      begun = begun;
      jobs = λ k s fit below. still (jobs_frame text (suc k) s) (at.jobs k s fit below);
      new = λ s from. ap (λ b. if b then list else at.servers s) (apart s from) ∙ at.new s (omega (arith, from));
      old = λ s below. by_test s below (i == s) refl;
    }
      where
        apart : (s : ℕ) → suc i ≤ s → (i == s) ≡ false
        apart s from = grind (arith, nat_tests, from)

        below_it : (s : ℕ) → s < suc i → (i == s) ≡ false → s < i
        below_it s below e = grind (arith, nat_tests, below, e)

        by_test : (s : ℕ) → s < suc i → (b : Bool) → (i == s) ≡ b → Serves s (said s) (if i == s then list else at.servers s)
        by_test s below true e = rw e (subst (λ r. Serves r (said r) list) (eqb-true i s e) serves)
        by_test s below false e = rw e (at.old s (below_it s below e))

    still_open : HasBegun n runs (suc i) (packets_heard (opening n) at.client)
    still_open = record {
      on = at.begun.on;
      alone = at.begun.alone;
      says = at.begun.says;
      staging = λ k s fit from. at.begun.staging k s fit (omega (arith, from));
    }

    served_none : (said i).last_run ≡ 0 → Served text n runs said (suc i)
    served_none none =
        let boots = more_restarts n i (said i).boot at.servers at.client (ServerRestart Saved ∷ []) at.sent few first_list in
        next at.client boots.all (restarts (said i).boot (ServerRestart Saved ∷ [])) still_open boots.still
        (restarted i (said i) (ServerRestart Saved ∷ []) (λ e. refl) older.booted (ap (λ x. record { boot = 1; last_run = x }) (sym none))) boots.told

    served_run : (k : ℕ) → (said i).last_run ≡ suc k → Served text n runs said (suc i)
    served_run k run =
        let fit : suc k ≤ runs = omega (arith, run, older.last) in
        let jobs_come = ServerMet (Deliver (jobs_frame text (suc k) i)) NoSave in
        let ok_comes = ClientMet (inputs.Deliver (Whole (ok_packet jobs (suc k) i))) NoSave in
        let start_comes = ServerMet (Deliver (start_frame (suc k) i)) Saved in
        let first : List ServerEntry = ServerRestart Saved ∷ [] in
        let ok_sent : List Frame = server_frames (opening_of i) first jobs_come in
        let start_sent : List Frame = client_frames (opening n) at.client ok_comes in
        let one : List Frame = at.sent ++ ok_sent in
        let two : List Frame = one ++ start_sent in
        let has_ok : Contains one (Whole (ok_packet jobs (suc k) i)) =
        Contains-append_right at.sent ok_sent (Whole (ok_packet jobs (suc k) i))
        (subst (λ fs. Contains fs (Whole (ok_packet jobs (suc k) i))) (sym (sends_ok text jobs is k i)) (first_of (Whole (ok_packet jobs (suc k) i)) [])) in
        let has_start : Contains two (start_frame (suc k) i) =
        Contains-append_right one start_sent (start_frame (suc k) i)
        (subst (λ fs. Contains fs (start_frame (suc k) i)) (sym (starts text jobs is n runs i k at.client l fit at.begun)) (first_of (start_frame (suc k) i) [])) in
        let staged_told = server_adds (without_mirror n) i at.servers at.client (mirror.Restart ∷ []) first at.sent jobs_come few (at.jobs k i fit l, refl) first_list in
        let asked_told = client_adds own (without_mirror n) (with_list i (staged text jobs is k i) at.servers) at.client (mirror.Restart ∷ []) one ok_comes (has_ok, refl) staged_told in
        let started_told = server_adds (without_mirror n) i at.servers (ok_comes ∷ at.client) (mirror.Restart ∷ []) (staged text jobs is k i) two start_comes few
        (has_start, refl) asked_told in
        let three : List Frame = two ++ server_frames (opening_of i) (staged text jobs is k i) start_comes in
        let boots = more_restarts n i (said i).boot at.servers (ok_comes ∷ at.client) (started text jobs is k i) three few started_told in
        next (ok_comes ∷ at.client) boots.all (restarts (said i).boot (started text jobs is k i)) (goes_on text jobs is n runs i k at.client l at.begun)
        (λ f has. boots.still f (Contains-append_left two _ f (Contains-append_left one start_sent f (Contains-append_left at.sent ok_sent f has))))
        (restarted i (said i) (started text jobs is k i) (λ e. absurd (never (sym run ∙ older.booted e))) older.booted
        (started_noted text jobs is k i ∙ ap (λ x. record { boot = 1; last_run = x }) (sym run))) boots.told
      where
        never : suc k ≡ 0 → ⊥
        never h = omega (arith, h)

    one_more : Served text n runs said (suc i)
    one_more = by (said i).last_run refl
      where
        by : (r : ℕ) → (said i).last_run ≡ r → Served text n runs said (suc i)
        by zero e = served_none e
        by (suc k) e = served_run k e

  pub all_served : runs < 2 ^ 64 → n ≤ 8 → ((s : ℕ) → s < n → IsOlder runs (said s)) → (i : ℕ) → i ≤ n → Served text n runs said i
  all_served fits few older zero l = all_begun runs fits
  all_served fits few older (suc i) l = one_more i (omega (arith, l)) (omega (arith, l, few)) (older i (omega (arith, l))) (all_served fits few older i (omega (arith, l)))
