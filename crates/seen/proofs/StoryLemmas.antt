-- What is seen of the worlds that can be followed by hand: the disks of one, and the packets of single events.
use Rattle.std.proofs.Common.{◌≡◌, refl, sym, ◌∙◌, ap, subst, zero, suc, arith, ℕ, true, List, [], ◌∷◌, Some}
use Rattle.std.specs.Prelude.{◌≤◌, is_ok, slice_get, Contains}
use Rattle.std.specs.Option.{option_map}
use Rattle.std.proofs.lemmas.Option.{slice_get-map}
use Rattle.std.proofs.lemmas.List.Elements.{Contains-append_right}
use Rattle.fc_base.proofs.ListLemmas.{first_of}
use Rattle.fc_base.specs.declared.limits.TheConstants.{MAX_SERVERS}
use Rattle.fc_base.specs.declared.record.JobParts.{JobParts}
use Rattle.fc_base.specs.declared.record.Kind.TheVariants.{Sequential}
use Rattle.fc_base.specs.declared.record.Verify.TheVariants.{Stamp}
use Rattle.fc_base.specs.Layouts.{bytes_of}
use Rattle.disk_model.specs.File.{zeros, block_bytes}
use Rattle.engine.specs.declared.issue.Ticket.{Ticket}
use Rattle.job_file.specs.declared.job.Job.{Job}
use Rattle.rand_core.specs.Steps.{u32_at, stream_of, word_bytes}
use Rattle.rand_core.specs.Stream.{fill_bytes}
use Rattle.write_order.specs.Stamps as stamps
use Rattle.write_order.specs.Stamps.{counting_bytes, stamped_sector}
use Rattle.write_order.specs.Words.{word, state_after}
use Rattle.verify_state.specs.Misfit.{misfit}
use Rattle.verify_state.specs.Same.{is_same}
use Rattle.verify_state.specs.Spelling as states
use Rattle.verify_state.specs.Spelling.{key_bytes, job_bytes}
use Rattle.messages.specs.Bodies as bodies
use Rattle.messages.specs.declared.packet.PacketParts.{PacketParts}
use Rattle.messages.specs.declared.frame.Frame.TheVariants.{Whole}
use Rattle.messages.specs.FrameBytes.{frame_spelling}
use Rattle.server_core.specs.Texts.{jobs_for}
use Rattle.server_core.specs.Run.{has_open, have_ended}
use Rattle.server_core.specs.Taken.{job_state}
use Rattle.client_core.specs.Refusals.{is_begun, has_next, is_of_generation, is_free_to_number, is_for_client, is_from_server, is_from_mirror}
use Rattle.net_world.specs.Setup.{Setup}
use Rattle.net_world.specs.Happenings.{Happening, Deliver, Issue, Land}
use Rattle.net_world.specs.Examples.{one, after_start, key}
use Rattle.net_world.specs.Frames.{frames_sent}
use Rattle.net_world.specs.Changes.{steps}
use Rattle.net_world.specs.Honest.{HasAllSectors}
use Rattle.net_world.specs.Outcomes.{outcome}
use Rattle.net_world.specs.World.{world, told_of_happening}
use Rattle.net_world.specs.WorldLaws.{SentFramesAreRead}
use Rattle.net_world.proofs.ListLemmas.{some_is}
use Rattle.net_world.proofs.WorldLemmas.{sent_at as found_at}
use Rattle.seen.specs.Sightings.{Comes, IsAmong}
use Rattle.seen.specs.Texts.{job_of}
use Rattle.seen.specs.Files.{given_write, held}
use Rattle.seen.specs.Examples.{SeesHonestDisks}
use Rattle.seen.specs.Watching.{observation, observations}
use Rattle.seen.proofs.ReadLemmas.{reads}
use Rattle.seen.proofs.FrameLemmas.{frames_by_step, sent_more, step_now, sent_at, frames_are, frames_now, say_among}

-- ---- the packets of an event

-- A frame that was sent is seen to come, where it is delivered and not refused.
pub comes_from : SentFramesAreRead → (w : Setup) (evs : List Happening) (i : ℕ) (p : PacketParts) → w.servers ≤ MAX_SERVERS
    → slice_get (sent_at w evs) i ≡ Some (Whole p) → is_ok (told_of_happening w (world w evs) (Deliver i)) ≡ true
    → Comes (observations w evs) (observation w evs (Deliver i)) p
comes_from law w evs i p few there told = record {
  frame = i;
  event = refl;
  bytes = frame_spelling (Whole p);
  there = ap (λ l. slice_get l i) (frames_are w evs) ∙ slice_get-map frame_spelling (sent_at w evs) i ∙ ap (option_map frame_spelling) there;
  says = reads (frame_spelling (Whole p)) (Whole p) (law w evs (Whole p) few (found_at (sent_at w evs) i (Whole p) there)).1;
  accepted = told;
}

-- The one packet that is sent with an event is seen.
pub among_now : SentFramesAreRead → (w : Setup) (evs : List Happening) (e : Happening) (p : PacketParts) → w.servers ≤ MAX_SERVERS
    → frames_by_step w (steps (world w evs)) (step_now w evs e) ≡ Whole p ∷ [] → IsAmong (observation w evs e).frames p
among_now law w evs e p few is =
    let more = frames_by_step w (steps (world w evs)) (step_now w evs e) in
    let i : Contains more (Whole p) = subst (λ fs. Contains fs (Whole p)) (sym is) (first_of (Whole p) []) in
    let sent : Contains (sent_at w (e ∷ evs)) (Whole p) =
    subst (λ fs. Contains fs (Whole p)) (sym (sent_more w (world w evs) (outcome w (world w evs) e))) (Contains-append_right (sent_at w evs) more (Whole p) i) in
    subst (λ fs. IsAmong fs p) (sym (frames_now w evs e)) (say_among law w (e ∷ evs) few more p sent i)

-- ---- the disks

the_ticket : Ticket
the_ticket = record { boot = 1; key = key; seq = 0; block = 0 }

the_job : JobParts
the_job = record { kind = Sequential; verify = Stamp; pattern = 0; bs = 512; blocks = 2; total = 2; seed = 1; depth = 2; window = 2 }

-- Before the first write is done it has landed.
issued_both : List Happening
issued_both = Issue 0 0 ∷ Issue 0 0 ∷ after_start

landed : List Happening
landed = Land 0 0 0 1 ∷ issued_both

ticket_then : given_write 0 0 0 (observations one landed) ≡ Some the_ticket
unfolding the_ticket landed issued_both frames_sent has_next is_of_generation is_free_to_number is_for_client is_from_server is_from_mirror jobs_for has_open
    have_ended bytes_of
ticket_then = refl

ticket_before : given_write 0 0 0 (observations one issued_both) ≡ Some the_ticket
unfolding the_ticket issued_both frames_sent has_next is_of_generation is_free_to_number is_for_client is_from_server is_from_mirror jobs_for has_open
    have_ended bytes_of
ticket_before = refl

job_then : option_map (λ (job : Job). job.rec) (job_of key (observations one landed)) ≡ Some the_job
unfolding the_job landed issued_both frames_sent has_next is_of_generation is_free_to_number is_for_client is_from_server is_from_mirror jobs_for has_open
    have_ended bytes_of
job_then = refl

job_before : option_map (λ (job : Job). job.rec) (job_of key (observations one issued_both)) ≡ Some the_job
unfolding the_job issued_both frames_sent has_next is_of_generation is_free_to_number is_for_client is_from_server is_from_mirror jobs_for has_open
    have_ended bytes_of
job_before = refl

block_is : block_bytes (held (observations one landed) 0 0) the_job.bs the_ticket.block ≡ stamps.bytes_of the_ticket.key the_job the_ticket.seq
unfolding the_ticket the_job landed issued_both frames_sent has_next is_of_generation is_free_to_number is_for_client is_from_server is_from_mirror jobs_for
    has_open have_ended zeros counting_bytes stamped_sector bytes_of
block_is = refl

in_file : ◌≡◌ {A = ℕ} 0 0 → ◌≡◌ {A = ℕ} 0 0 → (ticket : Ticket) (job : Job) → given_write 0 0 0 (observations one landed) ≡ Some ticket → job_of ticket.key (observations one landed) ≡ Some job
    → block_bytes (held (observations one landed) 0 0) job.rec.bs ticket.block ≡ stamps.bytes_of ticket.key job.rec ticket.seq
unfolding the_ticket
in_file server file ticket job given is =
    let t : the_ticket ≡ ticket = some_is (sym ticket_then ∙ given) in
    let j : job_of key (observations one landed) ≡ Some job = ap (λ (x : Ticket). job_of x.key (observations one landed)) t ∙ is in
    let r : the_job ≡ job.rec = some_is (sym job_then ∙ ap (option_map (λ (x : Job). x.rec)) j) in
    subst (λ (x : Ticket). block_bytes (held (observations one landed) 0 0) job.rec.bs x.block ≡ stamps.bytes_of x.key job.rec x.seq) t
    (subst (λ (x : JobParts). block_bytes (held (observations one landed) 0 0) x.bs the_ticket.block ≡ stamps.bytes_of the_ticket.key x the_ticket.seq) r block_is)

one_sector : HasAllSectors 1 the_job
unfolding the_job
one_sector zero lt = refl
one_sector (suc i) lt = absurd (omega (arith, lt))

all_landed : true ≡ true → (ticket : Ticket) (job : Job) → given_write 0 0 0 (observations one issued_both) ≡ Some ticket
    → job_of ticket.key (observations one issued_both) ≡ Some job → HasAllSectors 1 job.rec
unfolding the_ticket
all_landed here ticket job given is =
    let t : the_ticket ≡ ticket = some_is (sym ticket_before ∙ given) in
    let j : job_of key (observations one issued_both) ≡ Some job = ap (λ (x : Ticket). job_of x.key (observations one issued_both)) t ∙ is in
    subst (HasAllSectors 1) (some_is (sym job_before ∙ ap (option_map (λ (x : Job). x.rec)) j)) one_sector

pub sees_honest_disks : SeesHonestDisks
unfolding landed issued_both frames_sent has_next is_of_generation is_free_to_number is_begun is_for_client is_from_server is_from_mirror jobs_for has_open
    have_ended job_state is_same misfit zeros counting_bytes stamped_sector word state_after u32_at stream_of word_bytes fill_bytes bodies.spelled_state
    states.spelling key_bytes job_bytes bytes_of
sees_honest_disks = record {
  honest = (((((((((((((((((((tt, tt), tt), tt), tt), tt), tt), tt), tt), in_file), tt), tt), tt), tt), tt), tt), tt), tt), tt), tt);
  whole = (((((((((((((((((((tt, tt), tt), tt), tt), tt), tt), tt), all_landed), tt), tt), tt), tt), tt), tt), tt), tt), tt), tt), tt);
}
