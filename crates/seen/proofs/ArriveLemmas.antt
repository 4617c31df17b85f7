-- A request that comes to a server comes in a whole frame that is delivered, and is seen to come.
use Rattle.std.proofs.Common.{◌≡◌, refl, sym, ◌∙◌, ap, subst, ◌⊎◌, inl, inr, ℕ, Bool, true, false, List, Option, Some, None}
use Rattle.std.specs.Prelude.{if◌then◌else◌, ◌&&◌, ◌≤◌, slice_get}
use Rattle.std.specs.Option.{option_map}
use Rattle.std.proofs.lemmas.Option.{slice_get-map}
use Rattle.fc_base.specs.declared.limits.TheConstants.{MAX_SERVERS}
use Rattle.disk_model.specs.declared.save_outcome.SaveOutcome.{SaveOutcome}
use Rattle.disk_model.specs.SaveOutcome.{is_lost, saved_for}
use Rattle.messages.specs.declared.packet.PacketParts.{PacketParts}
use Rattle.messages.specs.declared.frame.Frame.{Frame}
use Rattle.messages.specs.declared.frame.Frame.TheVariants.{Whole, Piece}
use Rattle.messages.specs.FrameBytes.{frame_spelling}
use Rattle.messages.specs.Pieces.{is_cut}
use Rattle.messages.specs.Assemblies as looks
use Rattle.messages.specs.Assemblies.{Look, look_at_piece}
use Rattle.messages.specs.PieceLaws.{OnlySentComesTogether}
use Rattle.messages.specs.Hearing.{Comes as ComesFrame, Says, Strays, said_by, heard}
use Rattle.server_core.specs.Inputs.{PacketInput}
use Rattle.server_core.specs.declared.input.Input.TheVariants as inputs
use Rattle.server_core.specs.History as server
use Rattle.server_core.specs.Hearing.{is_piece_for}
use Rattle.server_core.specs.Words as words
use Rattle.server_core.specs.Words.{Staged, due}
use Rattle.server_core.specs.Request.{request_of}
use Rattle.server_core.specs.Answers.{refusal}
use Rattle.net_world.specs.Setup.{Setup}
use Rattle.net_world.specs.Happenings.{Happening, Deliver}
use Rattle.net_world.specs.Trace.{opening_of, sent_packets}
use Rattle.net_world.specs.Frames as frames
use Rattle.net_world.specs.Frames.{OfServer, at_server}
use Rattle.net_world.specs.InRange.{SentAreInRange}
use Rattle.net_world.specs.FrameLaws.{FramesAreOfPackets, TagsNameOneBody}
use Rattle.net_world.specs.Changes.{Met, steps, trace}
use Rattle.net_world.specs.Outcomes.{Does, said_to_server, outcome}
use Rattle.net_world.specs.World.{world}
use Rattle.net_world.specs.WorldLaws.{EachWorldIsAFrameTrace, SentFramesAreRead}
use Rattle.net_world.proofs.OnlySentLemmas.{stands, heard_fits, frame_is}
use Rattle.net_world.proofs.WorldFitLemmas.{Reports, world_fits}
use Rattle.net_world.proofs.WorldLemmas.{sent_at as found_at}
use Rattle.seen.specs.Sightings.{Comes}
use Rattle.seen.specs.Watching.{observation, observations}
use Rattle.seen.proofs.ReadLemmas.{reads}
use Rattle.seen.proofs.ServerLemmas.{is_packets}
use Rattle.seen.proofs.EntryLemmas.{Makes, ByFrame, ByLoss, ByWorker, ByEnd, ByCheck, ByCut, ByRestart}
use Rattle.seen.proofs.MakeLemmas.{makes}
use Rattle.seen.proofs.PlaceLemmas.{list_at, entry_now}
use Rattle.seen.proofs.FrameLemmas.{sent_at, frames_are}
use Rattle.seen.proofs.DoneLemmas.{same_event, told_ok}

-- An event by which a packet comes to a server, in a frame that is delivered.
pub record Arrives (w : Setup) (s : ℕ) (events : List Happening) (e : Happening) (x : PacketInput) (left : SaveOutcome) : Type 0 where
  pub index : ℕ
  pub event : e ≡ Deliver index
  pub frame : Frame
  pub there : slice_get (sent_at w events) index ≡ Some frame
  pub packet : PacketParts
  pub says : said_to_server (steps (world w events)) s frame ≡ Says packet
  pub is : x ≡ inputs.Deliver packet
  pub free : refusal (opening_of s) (list_at w s events) x ≡ None
  pub kept : is_lost left ≡ false
  pub does : outcome w (world w events) e ≡ Does (Met (OfServer s (ComesFrame frame left)))

pub same_left : (x y : PacketInput) (l m : SaveOutcome) → server.Met x l ≡ server.Met y m → l ≡ m
same_left x y l m h = cc

not_lost : (x : Option Staged) → is_lost (saved_for x) ≡ false
not_lost None = refl
not_lost (Some d) = refl

no_packet : (s : ℕ) (x y : PacketInput) → x ≡ y → is_packets (request_of s y) ≡ false → is_packets (request_of s x) ≡ true → ⊥
no_packet s x y same none some =
    let k : is_packets (request_of s y) ≡ true = subst (λ (z : PacketInput). is_packets (request_of s z) ≡ true) same some in
    let both : false ≡ true = sym none ∙ k in
    absurd cc

arrived : (w : Setup) (s : ℕ) (evs : List Happening) (e : Happening) (x : PacketInput) (left : SaveOutcome) → is_packets (request_of s x) ≡ true
    → (is_lost left ≡ true → (d : Staged) → due (opening_of s) (list_at w s evs) x ≡ Some d → ⊥)
    → Makes w (world w evs) s e (outcome w (world w evs) e) (server.Met x left) → Arrives w s evs e x left
arrived w s evs e x left asks stays (ByFrame i f p l event there to says free saved is does) =
    let same : x ≡ inputs.Deliver p = same_event x (inputs.Deliver p) left l is in
    let l_is : left ≡ l = same_left x (inputs.Deliver p) left l is in
    record {
      index = i;
      event = event;
      frame = f;
      there = there;
      packet = p;
      says = says;
      is = same;
      free = subst (λ (z : PacketInput). refusal (opening_of s) (list_at w s evs) z ≡ None) (sym same) free;
      kept = ap is_lost (l_is ∙ saved) ∙ not_lost (due (opening_of s) (list_at w s evs) (inputs.Deliver p));
      does = does ∙ ap (λ (v : SaveOutcome). Does (Met (OfServer s (ComesFrame f v)))) (sym l_is);
    }
arrived w s evs e x left asks stays (ByLoss y l is lost d due_is) =
    let same : x ≡ y = same_event x y left l is in
    let l_is : left ≡ l = same_left x y left l is in
    absurd (stays (ap is_lost l_is ∙ lost) d (subst (λ (z : PacketInput). due (opening_of s) (list_at w s evs) z ≡ Some d) (sym same) due_is))
arrived w s evs e x left asks stays (ByWorker j l event saved is c does) =
    absurd (no_packet s x (inputs.Issue j) (same_event x (inputs.Issue j) left l is) refl asks)
arrived w s evs e x left asks stays (ByEnd end j k origin l event there free saved is c does) =
    absurd (no_packet s x _ (same_event x _ left l is) refl asks)
arrived w s evs e x left asks stays (ByCheck boot a j report l event end saved is c does) = absurd (no_packet s x _ (same_event x _ left l is) refl asks)
arrived w s evs e x left asks stays (ByCut is) = absurd cc
arrived w s evs e x left asks stays (ByRestart l is) = absurd cc

-- What asks in a packet arrives in a frame, where its save wasn't cut off.
pub arrives : (w : Setup) (s : ℕ) (evs : List Happening) (e : Happening) (x : PacketInput) (left : SaveOutcome) → entry_now w s evs e ≡ Some (server.Met x left)
    → is_packets (request_of s x) ≡ true → (is_lost left ≡ true → (d : Staged) → due (opening_of s) (list_at w s evs) x ≡ Some d → ⊥)
    → Arrives w s evs e x left
arrives w s evs e x left h asks stays = arrived w s evs e x left asks stays (makes w (world w evs) s e (server.Met x left) h)

-- ---- its frame

-- The laws on which this rests.
pub record ArriveLaws : Type 0 where
  pub traces : EachWorldIsAFrameTrace
  pub read : SentFramesAreRead
  pub frames : FramesAreOfPackets
  pub together : OnlySentComesTogether
  pub tags : TagsNameOneBody
  pub ranges : SentAreInRange
  pub reports : Reports

said_of : (b : Bool) (x : Look) (p q : PacketParts) → (x ≡ looks.Waits) ⊎ (x ≡ looks.Gives p) → (if b then said_by x else Strays) ≡ Says q → p ≡ q
said_of false x p q h e = absurd cc
said_of true x p q (inl k) e = let no : said_by looks.Waits ≡ Says q = subst (λ (y : Look). said_by y ≡ Says q) k e in absurd cc
said_of true x p q (inr k) e = let same : said_by (looks.Gives p) ≡ Says q = subst (λ (y : Look). said_by y ≡ Says q) k e in cc

whole_if : ArriveLaws → (w : Setup) (s : ℕ) (evs : List Happening) (f : Frame) (i : ℕ) (p : PacketParts) → w.servers ≤ MAX_SERVERS
    → slice_get (sent_at w evs) i ≡ Some f → said_to_server (steps (world w evs)) s f ≡ Says p → is_cut p.body ≡ false → f ≡ Whole p
whole_if laws w s evs (Whole q) i p few there says short = let same : Says q ≡ Says p = says in cc
whole_if laws w s evs (Piece q) i p few there says short =
    let ps = steps (world w evs) in
    let fits = world_fits laws.reports w evs few in
    let st = stands laws.together laws.frames laws.tags laws.ranges w ps (laws.traces w evs) fits in
    let are = laws.ranges w (trace w (world w evs)) st.trace (heard_fits w ps fits) in
    let of = frame_is laws.frames w ps (Piece q) (found_at (sent_at w evs) i (Piece q) there) in
    let h = heard (at_server s) (frames.of_server s ps) in
    let told = laws.together (sent_packets w (trace w (world w evs))) are (laws.tags w (trace w (world w evs)) st.trace are) h.rows (st.servers s) of.0 of.1 q of.2 in
    let same : of.0 ≡ p = said_of (words.is_on h.entries && is_piece_for s q) (look_at_piece h.rows q) of.0 p told.0 says in
    let cut : is_cut p.body ≡ true = ap (λ (x : PacketParts). is_cut x.body) (sym same) ∙ (of.2).0 in
    let no : true ≡ false = sym cut ∙ short in
    absurd cc

-- It is seen to come.
pub comes : ArriveLaws → (w : Setup) (s : ℕ) (evs : List Happening) (e : Happening) (x : PacketInput) (left : SaveOutcome) (p : PacketParts) → w.servers ≤ MAX_SERVERS
    → (a : Arrives w s evs e x left) → a.packet ≡ p → is_cut p.body ≡ false → Comes (observations w evs) (observation w evs e) p
comes laws w s evs e x left p few a packet short =
    let says : said_to_server (steps (world w evs)) s a.frame ≡ Says p = a.says ∙ ap Says packet in
    let whole : a.frame ≡ Whole p = whole_if laws w s evs a.frame a.index p few a.there says short in
    let there : slice_get (sent_at w evs) a.index ≡ Some (Whole p) = a.there ∙ ap Some whole in
    record {
      frame = a.index;
      event = a.event;
      bytes = frame_spelling (Whole p);
      there = ap (λ l. slice_get l a.index) (frames_are w evs) ∙ slice_get-map frame_spelling (sent_at w evs) a.index ∙ ap (option_map frame_spelling) there;
      says = reads (frame_spelling (Whole p)) (Whole p) (laws.read w evs (Whole p) few (found_at (sent_at w evs) a.index (Whole p) there)).1;
      accepted = told_ok w (world w evs) e (outcome w (world w evs) e) (Met (OfServer s (ComesFrame a.frame left))) a.does;
    }
