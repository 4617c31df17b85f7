-- A trace of what came to the nodes of a fleet, with one thing more.
use Rattle.std.proofs.Common.{◌≡◌, refl, sym, ◌∙◌, ap, subst, ℕ, ◌<◌, ◌≤◌, arith, Bool, true, false, ◌==◌, List, [], ◌∷◌, ◌++◌, Option, Some, None, append_assoc, append-nil}
use Rattle.std.specs.Prelude.{All, IfSome, map, if◌then◌else◌}
use Rattle.std.specs.List.{AllByRecursion, flat_map}
use Rattle.std.proofs.lemmas.Bool.{eqb-true}
use Rattle.std.proofs.lemmas.Bool.Decides.{nat_tests}
use Rattle.std.proofs.lemmas.List.Elements.{All-contains}
use Rattle.disk_model.specs.declared.save_outcome.SaveOutcome.{SaveOutcome}
use Rattle.disk_model.specs.declared.save_outcome.SaveOutcome.TheVariants.{Saved}
use Rattle.messages.specs.declared.frame.Frame.{Frame}
use Rattle.messages.specs.Hearing.{Coming, entry_of, frames_by, heard}
use Rattle.server_core.specs.History as server
use Rattle.server_core.specs.Answers.{packets as server_packets}
use Rattle.server_core.specs.Hearing.{FrameEntry as ServerEntry, Restart as ServerRestart, coming_of as server_coming}
use Rattle.server_core.specs.FrameAnswers.{frames as server_frames}
use Rattle.client_core.specs.History as client
use Rattle.client_core.specs.Packets.{packets as client_packets}
use Rattle.client_core.specs.Hearing.{FrameEntry as ClientEntry, Restart, Renew, coming_of as client_coming, packets_heard}
use Rattle.mirror_core.specs.History as mirror
use Rattle.mirror_core.specs.Packets.{packets as mirror_packets}
use Rattle.messages.specs.Pieces.{frames_of}
use Rattle.client_core.specs.FrameAnswers.{frames as client_frames}
use Rattle.net_world.specs.Setup.{Setup}
use Rattle.net_world.specs.Trace.{opening_of, client_opening, mirror_opening}
use Rattle.net_world.specs.Trace as packets
use Rattle.net_world.specs.Frames.{FrameStep, OfServer, OfClient, OfMirror, of_server, of_client, of_mirror, trace_heard, at_server, at_client, frames_of_step, frames_sent, MayHappen, IsFrameTrace}
use Rattle.net_world.specs.FrameLaws.{NodesHearTheirOwn}
use Rattle.net_world.specs.InRange.{FrameStepFits}
use Rattle.messages.specs.declared.node.Node.{Node}
use Rattle.messages.specs.FrameBytes.{frame_at}
use Rattle.messages.specs.FrameLaws.{IsReadable}
use Rattle.filter_traces.proofs.ReadableLemmas.{Laws, trace_readable}
use Rattle.filters.specs.declared.kinds.InRecordKind.{InRecordKind as Kind}
use Rattle.filters.specs.declared.kinds.InRecordKind.TheVariants as kinds
use Rattle.filters.specs.Kinds.{told_numbered}
use Rattle.filter_traces.specs.Members.{Happening, Answers, Ends, EndsWithin, WasSentTo, frame_bytes_if, frame_bytes_read, sent_since}
use Rattle.filter_traces.proofs.MayLemmas.{GoesTo, ClientMay, AllMay, ServerMay, MirrorMay, frame_if, frame_read, client_happens, client_allowed, server_happens, server_fits, mirror_happens, client_may_still, server_may_still, mirror_may_still}

-- ---- a trace of these lists

-- What comes first to the client of a world.
abbrev pub first_of : Setup → ClientEntry
first_of w = if w.mirror then Renew 1 Saved else Restart false

-- A trace in which this came to each node, and these frames were sent.
pub record IsTold (w : Setup) (servers : ℕ → List ServerEntry) (client : List ClientEntry) (mirrored : List mirror.Entry) (sent : List Frame)
    (t : List FrameStep) : Type 0 where
  pub legal : IsFrameTrace w t
  pub fits : AllByRecursion FrameStepFits t
  pub servers_are : (s : ℕ) → of_server s t ≡ map server_coming (servers s)
  pub client_is : of_client w t ≡ map client_coming client
  pub mirror_is : of_mirror t ≡ mirrored
  pub sent_is : frames_sent w t ≡ sent

abbrev pub Told : Setup → (ℕ → List ServerEntry) → List ClientEntry → List mirror.Entry → List Frame → Type 0
Told w servers client mirrored sent = (t : List FrameStep) × IsTold w servers client mirrored sent t

-- The same lists and frames are told by the same trace.
pub retold : (w : Setup) (servers others : ℕ → List ServerEntry) (client other : List ClientEntry) (mirrored copied : List mirror.Entry)
    (sent all : List Frame) → ((s : ℕ) → others s ≡ servers s) → other ≡ client → copied ≡ mirrored → all ≡ sent
    → Told w servers client mirrored sent → Told w others other copied all
retold w servers others client other mirrored copied sent all servers_same client_same mirror_same sent_same (t, told) = (
  t,
  record {
    legal = told.legal;
    fits = told.fits;
    servers_are = λ s. told.servers_are s ∙ ap (map server_coming) (sym (servers_same s));
    client_is = told.client_is ∙ ap (map client_coming) (sym client_same);
    mirror_is = told.mirror_is ∙ sym mirror_same;
    sent_is = told.sent_is ∙ sym sent_same;
  },
)

sent_more : (w : Setup) (step : FrameStep) (past : List FrameStep) → frames_sent w (step ∷ past) ≡ frames_sent w past ++ frames_of_step w past step
unfolding frames_sent
sent_more w step past = refl

pub first_is : (w : Setup) → of_client w [] ≡ map client_coming (first_of w ∷ [])
first_is w = by w.mirror refl
  where
    by : (b : Bool) → w.mirror ≡ b → of_client w [] ≡ map client_coming (first_of w ∷ [])
    by true e = rw e refl
    by false e = rw e refl

pub none_told : (w : Setup) → IsTold w (λ s. ServerRestart Saved ∷ []) (first_of w ∷ []) (mirror.Restart ∷ []) [] []
unfolding frames_sent
none_told w = record { legal = tt; fits = tt; servers_are = λ s. refl; client_is = first_is w; mirror_is = refl; sent_is = refl }

-- ---- something more comes to the client

pub client_adds : NodesHearTheirOwn → (w : Setup) (servers : ℕ → List ServerEntry) (past : List ClientEntry) (mirrored : List mirror.Entry) (sent : List Frame) (c : ClientEntry)
    → ClientMay w sent past c → Told w servers past mirrored sent
    → Told w servers (c ∷ past) mirrored (sent ++ client_frames (client_opening w) past c)
client_adds own w servers past mirrored sent c may (t, told) = (
  OfClient (client_coming c) ∷ t,
  record {
    legal = (
      told.legal,
      subst (λ (fs : List Frame). MayHappen fs (OfClient (client_coming c))) (sym told.sent_is) (client_happens w sent past c may),
      client_allowed w t sent past c hears may,
    );
    fits = (tt, told.fits);
    servers_are = told.servers_are;
    client_is = ap (λ (list : List (Coming client.Entry SaveOutcome)). client_coming c ∷ list) told.client_is;
    mirror_is = told.mirror_is;
    sent_is =
        sent_more w (OfClient (client_coming c)) t
        ∙ (ap (λ fs. fs ++ frames_of_step w t (OfClient (client_coming c))) told.sent_is
        ∙ ap (λ fs. sent ++ fs) frames_are);
  },
)
  where
    hears : packets.of_client w (trace_heard w t) ≡ packets_heard (client_opening w) past
    hears = (own w t).client ∙ ap (λ (list : List (Coming client.Entry SaveOutcome)). (heard (at_client w) list).entries) told.client_is

    frames_are : frames_of_step w t (OfClient (client_coming c)) ≡ client_frames (client_opening w) past c
    frames_are =
        ap (λ (list : List (Coming client.Entry SaveOutcome)). frames_by (client_packets (client_opening w)) (heard (at_client w) list).entries
        (entry_of (at_client w) (heard (at_client w) list) (client_coming c))) told.client_is

pub client_adds_all : NodesHearTheirOwn → (w : Setup) (servers : ℕ → List ServerEntry) (past : List ClientEntry) (mirrored : List mirror.Entry) (sent : List Frame)
    (more : List ClientEntry) → AllMay w sent past more → Told w servers past mirrored sent
    → Told w servers (more ++ past) mirrored (sent ++ sent_since (client_frames (client_opening w)) past more)
client_adds_all own w servers past mirrored sent [] may told =
    retold w servers servers past past mirrored mirrored sent (sent ++ []) (λ s. refl) refl refl (append-nil sent) told
client_adds_all own w servers past mirrored sent (c ∷ more) may told =
    retold w servers servers (c ∷ (more ++ past)) (c ∷ (more ++ past)) mirrored mirrored ((sent ++ before) ++ now) (sent ++ (before ++ now)) (λ s. refl) refl
    refl (sym (append_assoc sent before now))
    (client_adds own w servers (more ++ past) mirrored (sent ++ before) c (client_may_still w sent before (more ++ past) c may.0)
    (client_adds_all own w servers past mirrored sent more may.1 told))
  where
    before : List Frame
    before = sent_since (client_frames (client_opening w)) past more

    now : List Frame
    now = client_frames (client_opening w) (more ++ past) c

-- ---- something more comes to the mirror

abbrev pub mirror_frames : List mirror.Entry → mirror.Entry → List Frame
mirror_frames past e = flat_map frames_of (mirror_packets mirror_opening past e)

mirror_adds : (w : Setup) (servers : ℕ → List ServerEntry) (client : List ClientEntry) (past : List mirror.Entry) (sent : List Frame) (e : mirror.Entry)
    → w.mirror ≡ true → MirrorMay sent e → Told w servers client past sent → Told w servers client (e ∷ past) (sent ++ mirror_frames past e)
mirror_adds w servers client past sent e there may (t, told) = (
  OfMirror e ∷ t,
  record {
    legal = (told.legal, subst (λ (fs : List Frame). MayHappen fs (OfMirror e)) (sym told.sent_is) (mirror_happens sent e may), there);
    fits = (tt, told.fits);
    servers_are = told.servers_are;
    client_is = told.client_is;
    mirror_is = ap (λ (list : List mirror.Entry). e ∷ list) told.mirror_is;
    sent_is =
        sent_more w (OfMirror e) t
        ∙ (ap (λ fs. fs ++ frames_of_step w t (OfMirror e)) told.sent_is ∙ ap (λ (list : List mirror.Entry). sent ++ mirror_frames list e) told.mirror_is);
  },
)

pub mirror_adds_all : (w : Setup) (servers : ℕ → List ServerEntry) (client : List ClientEntry) (past : List mirror.Entry) (sent : List Frame)
    (more : List mirror.Entry) → w.mirror ≡ true → AllByRecursion (MirrorMay sent) more → Told w servers client past sent
    → Told w servers client (more ++ past) (sent ++ sent_since mirror_frames past more)
mirror_adds_all w servers client past sent [] there may told =
    retold w servers servers client client past past sent (sent ++ []) (λ s. refl) refl refl (append-nil sent) told
mirror_adds_all w servers client past sent (e ∷ more) there may told =
    retold w servers servers client client (e ∷ (more ++ past)) (e ∷ (more ++ past)) ((sent ++ before) ++ now) (sent ++ (before ++ now)) (λ s. refl) refl refl
    (sym (append_assoc sent before now))
    (mirror_adds w servers client (more ++ past) (sent ++ before) e there (mirror_may_still sent before e may.0)
    (mirror_adds_all w servers client past sent more there may.1 told))
  where
    before : List Frame
    before = sent_since mirror_frames past more

    now : List Frame
    now = mirror_frames (more ++ past) e

-- ---- something more comes to a server

-- One server's list in place of another.
abbrev pub with_list : ℕ → List ServerEntry → (ℕ → List ServerEntry) → ℕ → List ServerEntry
with_list s list servers r = if s == r then list else servers r

pub itself : (s : ℕ) → (s == s) ≡ true
itself s = grind (arith, nat_tests)

pub own_list : (s r : ℕ) (servers : ℕ → List ServerEntry) → with_list s (servers s) servers r ≡ servers r
own_list s r servers = by_test (s == r) refl
  where
    by_test : (b : Bool) → (s == r) ≡ b → (if b then servers s else servers r) ≡ servers r
    by_test true e = ap servers (eqb-true s r e)
    by_test false e = refl

pub server_adds : (w : Setup) (s : ℕ) (servers : ℕ → List ServerEntry) (client : List ClientEntry) (mirrored : List mirror.Entry) (past : List ServerEntry) (sent : List Frame) (c : ServerEntry) → s < 8
    → ServerMay s sent c → Told w (with_list s past servers) client mirrored sent
    → Told w (with_list s (c ∷ past) servers) client mirrored (sent ++ server_frames (opening_of s) past c)
server_adds w s servers client mirrored past sent c few may (t, told) = (
  OfServer s (server_coming c) ∷ t,
  record {
    legal = (
      told.legal,
      subst (λ (fs : List Frame). MayHappen fs (OfServer s (server_coming c))) (sym told.sent_is) (server_happens s sent c may),
      refl,
    );
    fits = (server_fits s sent c few may, told.fits);
    servers_are = λ r. by_test r (s == r) refl;
    client_is = told.client_is;
    mirror_is = told.mirror_is;
    sent_is =
        sent_more w (OfServer s (server_coming c)) t
        ∙ (ap (λ fs. fs ++ frames_of_step w t (OfServer s (server_coming c))) told.sent_is
        ∙ ap (λ fs. sent ++ fs) frames_are);
  },
)
  where
    own : of_server s t ≡ map server_coming past
    own = told.servers_are s ∙ ap (λ b. map server_coming (if b then past else servers s)) (itself s)

    frames_are : frames_of_step w t (OfServer s (server_coming c)) ≡ server_frames (opening_of s) past c
    frames_are =
        ap (λ (list : List (Coming server.Entry SaveOutcome)). frames_by (server_packets (opening_of s)) (heard (at_server s) list).entries
        (entry_of (at_server s) (heard (at_server s) list) (server_coming c))) own

    by_test : (r : ℕ) (b : Bool) → (s == r) ≡ b
        → (if s == r then server_coming c ∷ of_server r t else of_server r t) ≡ map server_coming (if s == r then c ∷ past else servers r)
    by_test r true e =
        ap (λ b. if b then server_coming c ∷ of_server r t else of_server r t) e
        ∙ (ap (λ (list : List (Coming server.Entry SaveOutcome)). server_coming c ∷ list)
        (told.servers_are r ∙ ap (λ b. map server_coming (if b then past else servers r)) e)
        ∙ sym (ap (λ b. map server_coming (if b then c ∷ past else servers r)) e))
    by_test r false e =
        ap (λ b. if b then server_coming c ∷ of_server r t else of_server r t) e
        ∙ (told.servers_are r ∙ ap (λ b. map server_coming (if b then past else servers r)) e
        ∙ sym (ap (λ b. map server_coming (if b then c ∷ past else servers r)) e))

pub server_adds_all : (w : Setup) (s : ℕ) (servers : ℕ → List ServerEntry) (client : List ClientEntry) (mirrored : List mirror.Entry) (past : List ServerEntry) (sent : List Frame)
    (more : List ServerEntry) → s < 8 → AllByRecursion (ServerMay s sent) more → Told w (with_list s past servers) client mirrored sent
    → Told w (with_list s (more ++ past) servers) client mirrored (sent ++ sent_since (server_frames (opening_of s)) past more)
server_adds_all w s servers client mirrored past sent [] few may told =
    retold w (with_list s past servers) (with_list s past servers) client client mirrored mirrored sent (sent ++ []) (λ r. refl) refl refl (append-nil sent) told
server_adds_all w s servers client mirrored past sent (c ∷ more) few may told =
    retold w (with_list s (c ∷ (more ++ past)) servers) (with_list s (c ∷ (more ++ past)) servers) client client mirrored mirrored ((sent ++ before) ++ now)
    (sent ++ (before ++ now)) (λ r. refl) refl refl (sym (append_assoc sent before now))
    (server_adds w s servers client mirrored (more ++ past) (sent ++ before) c few (server_may_still s sent before c may.0)
    (server_adds_all w s servers client mirrored past sent more few may.1 told))
  where
    before : List Frame
    before = sent_since (server_frames (opening_of s)) past more

    now : List Frame
    now = server_frames (opening_of s) (more ++ past) c

-- ---- the bytes of frames

-- What was sent is read as it was.
pub reads_frame : Laws → (w : Setup) → w.servers ≤ 8 → (servers : ℕ → List ServerEntry) (client : List ClientEntry) (mirrored : List mirror.Entry)
    (sent : List Frame) → Told w servers client mirrored sent → (node : Node) (h : Happening) → IfSome (frame_bytes_read h) (WasSentTo sent node) → IfSome (frame_read h) (GoesTo sent node)
reads_frame laws w few servers client mirrored sent (t, told) node h reads = by h reads
  where
    readable : All IsReadable sent
    readable = subst (All IsReadable) told.sent_is (trace_readable laws w t told.legal (record { few = few; steps = told.fits }))

    of_kind : (kind : Option Kind) (body : List ℕ) → IfSome (frame_bytes_if kind body) (WasSentTo sent node) → IfSome (frame_if kind body) (GoesTo sent node)
    of_kind (Some kinds.Frame) body was =
        let fit = All-contains IsReadable sent was.frame readable was.was_sent in
        let again : frame_at body ≡ Some was.frame =
        subst (λ (b : List ℕ). frame_at b ≡ Some was.frame) (sym was.bytes_are) (laws.read was.frame fit.in_range fit.is_short).1 in
        subst (λ x. IfSome x (GoesTo sent node)) (sym again) (was.was_sent, was.goes_to)
    of_kind None body was = tt
    of_kind (Some kinds.Note) body was = tt
    of_kind (Some kinds.Done) body was = tt
    of_kind (Some kinds.Failed) body was = tt
    of_kind (Some kinds.Blocks) body was = tt
    of_kind (Some kinds.Unread) body was = tt
    of_kind (Some kinds.Begin) body was = tt
    of_kind (Some kinds.Trigger) body was = tt
    of_kind (Some kinds.Stop) body was = tt
    of_kind (Some kinds.Verify) body was = tt
    of_kind (Some kinds.Tick) body was = tt
    of_kind (Some kinds.Look) body was = tt
    of_kind (Some kinds.Show) body was = tt
    of_kind (Some kinds.Ends) body was = tt

    by : (h : Happening) → IfSome (frame_bytes_read h) (WasSentTo sent node) → IfSome (frame_read h) (GoesTo sent node)
    by (Answers r answer) was = of_kind (told_numbered r.kind) r.body was
    by Ends was = tt
    by (EndsWithin r part) was = of_kind (told_numbered r.kind) r.body was
