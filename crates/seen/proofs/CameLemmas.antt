-- A request that came to a server is seen to have come, and the packet that it came in was sent.
use Rattle.std.proofs.Common.{◌≡◌, refl, sym, ◌∙◌, ap, subst, ℕ, Bool, true, false, List, [], ◌∷◌, ◌++◌, Option}
use Rattle.std.specs.Prelude.{◌≤◌, Contains}
use Rattle.std.proofs.lemmas.List.Elements.{Contains-append_left}
use Rattle.fc_base.specs.declared.limits.TheConstants.{MAX_SERVERS}
use Rattle.fc_base.proofs.ListLemmas.{first_of}
use Rattle.disk_model.specs.declared.save_outcome.SaveOutcome.{SaveOutcome}
use Rattle.disk_model.specs.SaveOutcome.{is_lost}
use Rattle.messages.specs.declared.packet.PacketParts.{PacketParts}
use Rattle.messages.specs.Laws.{LengthsAreBounded}
use Rattle.messages.specs.Pieces.{is_cut}
use Rattle.messages.specs.Hearing.{with_entry}
use Rattle.server_core.specs.Inputs.{PacketInput}
use Rattle.server_core.specs.declared.input.Input.TheVariants as inputs
use Rattle.server_core.specs.History.{Met}
use Rattle.server_core.specs.Heard.{heard_packets}
use Rattle.server_core.specs.Request.{Request, request_of}
use Rattle.net_world.specs.Setup.{Setup}
use Rattle.net_world.specs.Happenings.{Happening}
use Rattle.net_world.specs.Trace.{Step, opening_of, sent_packets}
use Rattle.net_world.specs.Frames.{step_heard}
use Rattle.net_world.specs.Changes.{Change, Met as MetStep, Landed, Rotted, steps, trace}
use Rattle.net_world.specs.Outcomes.{Outcome, Does, Refuses, Drops, outcome}
use Rattle.net_world.specs.World.{world, and_outcome}
use Rattle.net_world.specs.WorldLaws.{EachWorldIsATrace}
use Rattle.net_world.proofs.HearingLemmas.{packets_by, sent_with}
use Rattle.net_world.proofs.OnlySentLemmas.{heard_fits}
use Rattle.net_world.proofs.TagLemmas.{Long, long, in_range}
use Rattle.net_world.proofs.TraceLemmas.{heard_was_sent}
use Rattle.net_world.proofs.WorldFitLemmas.{world_fits}
use Rattle.seen.specs.Reports.{HasCome}
use Rattle.seen.specs.Watching.{observation, observations}
use Rattle.seen.proofs.ServerLemmas.{is_packets}
use Rattle.seen.proofs.PlaceLemmas.{list_at, found, seen_since, seen_append, with_one}
use Rattle.seen.proofs.ArriveLemmas.{ArriveLaws, Arrives, arrives, comes}
use Rattle.seen.proofs.CheckLemmas.{Came}
use Rattle.seen.proofs.QuietLemmas.{TakingLaws}

-- ---- what was sent stays sent

with_step : (w : Setup) (x : Option Step) (t : List Step) (p : PacketParts) → Contains (sent_packets w t) p → Contains (sent_packets w (with_entry x t)) p
with_step w x t p h = subst (λ ps. Contains ps p) (sym (sent_with w x t)) (Contains-append_left (sent_packets w t) (packets_by w t x) p h)

sent_on : (w : Setup) (past : List Change) (r : Outcome) (p : PacketParts) → Contains (sent_packets w (trace w past)) p
    → Contains (sent_packets w (trace w (and_outcome r past))) p
sent_on w past (Does (MetStep step)) p h = with_step w (step_heard w (steps past) step) (trace w past) p h
sent_on w past (Does (Landed s j k mask)) p h = h
sent_on w past (Does (Rotted s j sector bytes)) p h = h
sent_on w past (Refuses fault) p h = h
sent_on w past (Drops step) p h = with_step w (step_heard w (steps past) step) (trace w past) p h

pub sent_later : (w : Setup) (later earlier : List Happening) (p : PacketParts) → Contains (sent_packets w (trace w (world w earlier))) p
    → Contains (sent_packets w (trace w (world w (later ++ earlier)))) p
sent_later w [] earlier p h = h
sent_later w (e ∷ later) earlier p h = sent_on w (world w (later ++ earlier)) (outcome w (world w (later ++ earlier)) e) p (sent_later w later earlier p h)

-- ---- where a request came

-- The event by which a request came, and its packet, which was sent.
pub record CameIn (w : Setup) (s : ℕ) (evs : List Happening) (x : Request) : Type 0 where
  pub later : List Happening
  pub event : Happening
  pub earlier : List Happening
  pub split : evs ≡ later ++ event ∷ earlier
  pub input : PacketInput
  pub left : SaveOutcome
  pub arrives_in : Arrives w s earlier event input left
  pub request : request_of s (inputs.Deliver arrives_in.packet) ≡ x
  pub sent : Contains (sent_packets w (trace w (world w evs))) arrives_in.packet

no_loss : (left : SaveOutcome) → is_lost left ≡ false → is_lost left ≡ true → ⊥
no_loss left h k = let both : false ≡ true = sym h ∙ k in absurd cc

pub came_in : TakingLaws → (w : Setup) (s : ℕ) (evs : List Happening) (x : Request) → w.servers ≤ MAX_SERVERS → is_packets x ≡ true
    → Came (opening_of s) (list_at w s evs) x → CameIn w s evs x
came_in laws w s evs x few packets c =
    let f = found w s evs c.newer c.event c.left c.older c.split in
    let a = arrives w s f.earlier f.event c.event c.left f.now (ap is_packets c.request ∙ packets) (λ lost d h. no_loss c.left c.kept lost) in
    let now_seen = f.event ∷ f.earlier in
    let list : list_at w s now_seen ≡ Met (inputs.Deliver a.packet) c.left ∷ list_at w s f.earlier =
    with_one w s f.earlier f.event (Met c.event c.left) f.now ∙ ap (λ y. Met y c.left ∷ list_at w s f.earlier) a.is in
    let heard : Contains (heard_packets (list_at w s now_seen)) a.packet =
    subst (λ l. Contains (heard_packets l) a.packet) (sym list) (first_of a.packet (heard_packets (list_at w s f.earlier))) in
    let sent = heard_was_sent w s (trace w (world w now_seen)) a.packet (laws.seen.traces w now_seen few) heard in
    record {
      later = f.later;
      event = f.event;
      earlier = f.earlier;
      split = f.split;
      input = c.event;
      left = c.left;
      arrives_in = a;
      request = ap (request_of s) (sym a.is) ∙ c.request;
      sent = subst (λ l. Contains (sent_packets w (trace w (world w l))) a.packet) (sym f.split) (sent_later w f.later now_seen a.packet sent);
    }

-- A packet that was sent and is no job file isn't cut.
pub sent_short : ArriveLaws → EachWorldIsATrace → LengthsAreBounded → (w : Setup) (evs : List Happening) (p : PacketParts) → w.servers ≤ MAX_SERVERS
    → Contains (sent_packets w (trace w (world w evs))) p → (Long p.body → ⊥) → is_cut p.body ≡ false
sent_short laws traces lengths w evs p few i not_long = by (is_cut p.body) refl
  where
    by : (b : Bool) → is_cut p.body ≡ b → b ≡ false
    by false k = refl
    by true k =
        let fits = heard_fits w (steps (world w evs)) (world_fits laws.reports w evs few) in
        let packet = laws.ranges w (trace w (world w evs)) (traces w evs few) fits p i in
        absurd (not_long (long lengths p.body (in_range p packet) packet.state k))

-- It is seen to have come, where it is no job file.
pub has_come : TakingLaws → (w : Setup) (s : ℕ) (evs : List Happening) (x : Request) (p : PacketParts) → w.servers ≤ MAX_SERVERS → (c : CameIn w s evs x)
    → c.arrives_in.packet ≡ p → (Long p.body → ⊥) → HasCome (observations w evs) p
has_come laws w s evs x p few c packet not_long =
    let sent : Contains (sent_packets w (trace w (world w evs))) p = subst (Contains (sent_packets w (trace w (world w evs)))) packet c.sent in
    let short = sent_short laws.arriving laws.seen.traces laws.lengths w evs p few sent not_long in
    record {
      newer = seen_since w c.later (c.event ∷ c.earlier);
      now = observation w c.earlier c.event;
      older = observations w c.earlier;
      split = ap (observations w) c.split ∙ seen_append w c.later (c.event ∷ c.earlier);
      comes = comes laws.arriving w s c.earlier c.event c.input c.left p few c.arrives_in packet short;
    }
