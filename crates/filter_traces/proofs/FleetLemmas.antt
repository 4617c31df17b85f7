-- Whatever happened to a fleet is told by one trace.
use Rattle.std.proofs.Common.{◌≡◌, refl, sym, ◌∙◌, ap, subst, ℕ, ◌≤◌, arith, Bool, true, false, ◌==◌, List, [], ◌∷◌, ◌++◌}
use Rattle.std.specs.Prelude.{if◌then◌else◌}
use Rattle.std.specs.List.{AllByRecursion}
use Rattle.std.proofs.lemmas.Bool.{eqb-true}
use Rattle.std.proofs.lemmas.List.{append_cancel_right}
use Rattle.disk_model.specs.declared.save_outcome.SaveOutcome.{SaveOutcome}
use Rattle.messages.specs.declared.node.Node.TheVariants.{Server, Client, Mirror}
use Rattle.messages.specs.Hearing.{Coming, heard}
use Rattle.server_core.specs.History as server
use Rattle.server_core.specs.Hearing.{FrameEntry as ServerEntry}
use Rattle.client_core.specs.History as client
use Rattle.net_world.specs.Setup.{Setup}
use Rattle.net_world.specs.Frames.{FrameStep, at_server, at_client, trace_heard}
use Rattle.net_world.specs.Claims.{OfEachList, OfEachTrace}
use Rattle.net_world.specs.Headline.{OneTaking, HeldIsTheTaken, CountsTheCompleted, QuietUntilTheCheck, HeldReportsWereMade, KeptWhereServed, KeptWhereCut, StatePacketsAreEqual, RunsAreGivenOnce, AttemptsAreGivenOnce, StartsAreAcceptedOnce, OneTextOfEachRun, OneTextOfEachAttempt}
use Rattle.filters.specs.ClientLives.{ClientAt}
use Rattle.filters.specs.ServerAt.{ServerAt}
use Rattle.filters.specs.MirrorLives.{MirrorAt}
use Rattle.filter_traces.specs.Members.{Happening}
use Rattle.filter_traces.specs.Fleets.{FleetAt, FleetStep, AtClient, AtServer, AtMirror, ClientGoes, ServerGoes, MirrorGoes, Steps, Ran, FleetBegins}
use Rattle.filter_traces.specs.Laws.{FleetsAreTraces, IsTraceOf, HoldsOneState}
use Rattle.filter_traces.proofs.ReadableLemmas.{Laws}
use Rattle.filter_traces.proofs.MayLemmas.{AllMay, ServerMay, MirrorMay}
use Rattle.filter_traces.proofs.TellLemmas.{Told, IsTold, retold, reads_frame, client_adds_all, server_adds_all, mirror_adds_all, with_list, itself, own_list}
use Rattle.filter_traces.proofs.ClientMayLemmas.{client_added}
use Rattle.filter_traces.proofs.ServerMayLemmas.{server_added}
use Rattle.filter_traces.proofs.MirrorMayLemmas.{mirror_added}

-- A fleet is told by one trace.
abbrev IsToldOf : Setup → FleetAt → Type 0
IsToldOf w at = Told w (λ s. (at.servers s).list) at.client.list at.mirror.list at.sent

-- ---- the first moment

first_told : (w : Setup) (first : FleetAt) → FleetBegins w first → IsToldOf w first
first_told w first begins = (
  begins.past,
  record {
    legal = begins.legal;
    fits = begins.fits.steps;
    servers_are = λ s. sym (begins.servers s).list_is;
    client_is = sym begins.client.list_is;
    mirror_is = sym begins.mirror.list_is;
    sent_is = sym begins.sent;
  },
)

-- ---- a step

client_told : Laws → (w : Setup) (h : Happening) (at now : FleetAt) → w.servers ≤ 8 → ClientGoes w h at now → IsToldOf w at → IsToldOf w now
client_told laws w h at now few g told =
    let reads = reads_frame laws w few (λ s. (at.servers s).list) at.client.list at.mirror.list at.sent told Client h g.goes.reads in
    let a = client_added w at.sent h at.client now.client reads g.goes.becomes in
    let same : a.more ≡ g.goes.more = append_cancel_right a.more g.goes.more at.client.list (sym a.list_is ∙ g.goes.list_is) in
    retold w (λ s. (at.servers s).list) (λ s. (now.servers s).list) (g.goes.more ++ at.client.list) now.client.list at.mirror.list now.mirror.list _ now.sent
    (λ s. ap (λ (it : ServerAt). it.list) (g.servers_are s)) g.goes.list_is (ap (λ (it : MirrorAt). it.list) g.mirror_is) g.goes.sent_is
    (client_adds_all laws.own w (λ s. (at.servers s).list) at.client.list at.mirror.list at.sent g.goes.more
    (subst (AllMay w at.sent at.client.list) same a.may) told)

mirror_told : Laws → (w : Setup) (h : Happening) (at now : FleetAt) → w.servers ≤ 8 → MirrorGoes w h at now → IsToldOf w at → IsToldOf w now
mirror_told laws w h at now few g told =
    let reads = reads_frame laws w few (λ s. (at.servers s).list) at.client.list at.mirror.list at.sent told Mirror h g.goes.reads in
    let a = mirror_added at.sent h at.mirror now.mirror reads g.goes.becomes in
    let same : a.more ≡ g.goes.more = append_cancel_right a.more g.goes.more at.mirror.list (sym a.list_is ∙ g.goes.list_is) in
    retold w (λ s. (at.servers s).list) (λ s. (now.servers s).list) at.client.list now.client.list (g.goes.more ++ at.mirror.list) now.mirror.list _ now.sent
    (λ s. ap (λ (it : ServerAt). it.list) (g.servers_are s)) (ap (λ (it : ClientAt). it.list) g.client_is) g.goes.list_is g.goes.sent_is
    (mirror_adds_all w (λ s. (at.servers s).list) at.client.list at.mirror.list at.sent g.goes.more g.there
    (subst (AllByRecursion (MirrorMay at.sent)) same a.may) told)

never : false ≡ true → ⊥
never h = cc

server_told : Laws → (w : Setup) (s : ℕ) (h : Happening) (at now : FleetAt) → w.servers ≤ 8 → ServerGoes w s h at now → IsToldOf w at → IsToldOf w now
server_told laws w s h at now few g told =
    let reads = reads_frame laws w few lists at.client.list at.mirror.list at.sent told (Server s) h g.goes.reads in
    let a = server_added s at.sent h (at.servers s) (now.servers s) reads g.goes.becomes in
    let same : a.more ≡ g.goes.more = append_cancel_right a.more g.goes.more (at.servers s).list (sym a.list_is ∙ g.goes.list_is) in
    retold w (with_list s (g.goes.more ++ (at.servers s).list) lists) (λ r. (now.servers r).list) at.client.list now.client.list
    at.mirror.list now.mirror.list _ now.sent
    (λ r. by_test r (s == r) refl) (ap (λ (it : ClientAt). it.list) g.client_is) (ap (λ (it : MirrorAt). it.list) g.mirror_is) g.goes.sent_is
    (server_adds_all w s lists at.client.list at.mirror.list (at.servers s).list at.sent g.goes.more (omega (arith, g.one_of, few))
    (subst (AllByRecursion (ServerMay s at.sent)) same a.may)
    (retold w lists (with_list s (at.servers s).list lists) at.client.list at.client.list at.mirror.list at.mirror.list at.sent at.sent
    (λ r. own_list s r lists) refl refl refl told))
  where
    lists : ℕ → List ServerEntry
    lists r = (at.servers r).list

    by_test : (r : ℕ) (b : Bool) → (s == r) ≡ b → (now.servers r).list ≡ (if s == r then g.goes.more ++ (at.servers s).list else lists r)
    by_test r true e =
        ap (λ (k : ℕ). (now.servers k).list) (sym (eqb-true s r e))
        ∙ (g.goes.list_is ∙ sym (ap (λ b. if b then g.goes.more ++ (at.servers s).list else lists r) e))
    by_test r false e =
        ap (λ (it : ServerAt). it.list) (g.others r (λ is. never (sym e ∙ (ap (λ (k : ℕ). s == k) is ∙ itself s))))
        ∙ sym (ap (λ b. if b then g.goes.more ++ (at.servers s).list else lists r) e)

step_told : Laws → (w : Setup) (step : FleetStep) (at now : FleetAt) → w.servers ≤ 8 → Steps w at step now → IsToldOf w at → IsToldOf w now
step_told laws w (AtClient h) at now few goes told = client_told laws w h at now few goes told
step_told laws w (AtServer s h) at now few goes told = server_told laws w s h at now few goes told
step_told laws w (AtMirror h) at now few goes told = mirror_told laws w h at now few goes told

-- ---- all steps

told_of : Laws → (w : Setup) (first : FleetAt) → FleetBegins w first → (steps : List FleetStep) (now : FleetAt) → Ran w first steps now → IsToldOf w now
told_of laws w first begins [] now is = subst (IsToldOf w) (sym is) (first_told w first begins)
told_of laws w first begins (step ∷ steps) now (at, ran, goes) =
    step_told laws w step at now begins.fits.few goes (told_of laws w first begins steps at ran)

-- The claims of all traces.
pub record Claims : Type 0 where
  pub once : OfEachList OneTaking
  pub held : OfEachTrace HeldIsTheTaken
  pub counted : OfEachTrace CountsTheCompleted
  pub quiet : OfEachTrace QuietUntilTheCheck
  pub reports : OfEachTrace HeldReportsWereMade
  pub served : OfEachTrace KeptWhereServed
  pub cut : OfEachTrace KeptWhereCut
  pub equal : OfEachList StatePacketsAreEqual
  pub runs : OfEachTrace RunsAreGivenOnce
  pub attempts : OfEachTrace AttemptsAreGivenOnce
  pub starts : OfEachList StartsAreAcceptedOnce
  pub run_texts : OfEachTrace OneTextOfEachRun
  pub attempt_texts : OfEachTrace OneTextOfEachAttempt

is_trace : (w : Setup) (at : FleetAt) (t : List FrameStep) → w.servers ≤ 8 → IsTold w (λ s. (at.servers s).list) at.client.list at.mirror.list at.sent t
    → IsTraceOf w at t
is_trace w at t few told = record {
  legal = told.legal;
  fits = record { few = few; steps = told.fits };
  servers_are = told.servers_are;
  client_is = told.client_is;
  mirror_is = told.mirror_is;
  sent_are = told.sent_is;
}

holds : Laws → Claims → (w : Setup) (at : FleetAt) (t : List FrameStep) → IsTraceOf w at t → HoldsOneState w at t
holds laws claims w at t is =
    let heard_legal = laws.only_sent w t is.legal is.fits in
    record {
      servers_are =
          λ s. (laws.own w t).servers s ∙ ap (λ (past : List (Coming server.Entry SaveOutcome)). (heard (at_server s) past).entries) (is.servers_are s);
      client_is = (laws.own w t).client ∙ ap (λ (past : List (Coming client.Entry SaveOutcome)). (heard (at_client w) past).entries) is.client_is;
      mirror_is = (laws.own w t).mirror ∙ is.mirror_is;
      once = claims.once w (trace_heard w t);
      held = claims.held w (trace_heard w t) heard_legal;
      counted = claims.counted w (trace_heard w t) heard_legal;
      quiet = claims.quiet w (trace_heard w t) heard_legal;
      reports = claims.reports w (trace_heard w t) heard_legal;
      served = claims.served w (trace_heard w t) heard_legal;
      cut = claims.cut w (trace_heard w t) heard_legal;
      equal = claims.equal w (trace_heard w t);
      runs = claims.runs w (trace_heard w t) heard_legal;
      attempts = claims.attempts w (trace_heard w t) heard_legal;
      starts = claims.starts w (trace_heard w t);
      run_texts = claims.run_texts w (trace_heard w t) heard_legal;
      attempt_texts = claims.attempt_texts w (trace_heard w t) heard_legal;
    }

pub fleets_are_traces : Laws → Claims → FleetsAreTraces
fleets_are_traces laws claims w first now steps begins ran =
    let t = told_of laws w first begins steps now ran in
    let is = is_trace w now t.0 begins.fits.few t.1 in
    record { trace = t.0; is = is; holds = holds laws claims w now t.0 is }
