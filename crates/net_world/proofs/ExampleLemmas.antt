-- The examples, by computation.
use Rattle.std.proofs.Common.{◌≡◌, refl, sym, ◌∙◌, subst, zero, suc, arith, ℕ, true, List, ◌∷◌, Some}
use Rattle.fc_base.specs.declared.record.Kind.TheVariants.{Sequential}
use Rattle.fc_base.specs.declared.record.Verify.TheVariants.{Stamp}
use Rattle.engine.specs.Running.{Origin}
use Rattle.net_world.specs.Happenings.{Happening, Issue, Land}
use Rattle.net_world.specs.Changes.{trace}
use Rattle.net_world.specs.Writes.{open_at}
use Rattle.net_world.specs.Contents.{content}
use Rattle.net_world.specs.World.{world}
use Rattle.net_world.specs.Honest.{HoldsWrite, HasAllSectors}
use Rattle.messages.specs.Bodies as bodies
use Rattle.rand_core.specs.Steps.{u32_at, stream_of, word_bytes}
use Rattle.rand_core.specs.Stream.{fill_bytes}
use Rattle.net_world.specs.Frames.{frames_sent}
use Rattle.client_core.specs.Refusals.{is_begun, has_next, is_of_generation, is_free_to_number, is_for_client, is_from_server, is_from_mirror}
use Rattle.verify_state.specs.Misfit.{misfit}
use Rattle.verify_state.specs.Same.{is_same}
use Rattle.verify_state.specs.Spelling as states
use Rattle.verify_state.specs.Spelling.{key_bytes, job_bytes}
use Rattle.fc_base.specs.Layouts.{bytes_of, number_in}
use Rattle.disk_model.specs.File.{zeros}
use Rattle.write_order.specs.Stamps.{counting_bytes, stamped_sector}
use Rattle.write_order.specs.Words.{word, state_after}
use Rattle.server_core.specs.Texts.{jobs_for}
use Rattle.server_core.specs.Run.{has_open, have_ended}
use Rattle.server_core.specs.Taken.{job_state}
use Rattle.net_world.specs.Examples.{one, after_start, IsHonestlyMade, RefusesByNumber, StartsOnceAfterACut}
use Rattle.net_world.specs.Examples.{KeepsBehindACut, ChecksInAFullPass, ChecksByItsState, ComesTogether}
use Rattle.net_world.proofs.ListLemmas.{some_is}

pub refuses_by_number : RefusesByNumber
unfolding frames_sent has_next is_of_generation is_free_to_number is_begun
refuses_by_number = record {
  no_frame = refl;
  no_write = refl;
  no_save = refl;
  no_cut_again = refl;
  stopped = refl;
  off = refl;
  on = refl;
  no_server = refl;
  no_file = refl;
  not_ready = refl;
  no_run = refl;
  restarts = refl;
}

pub starts_once_after_a_cut : StartsOnceAfterACut
unfolding frames_sent has_next is_of_generation is_free_to_number is_begun is_for_client is_from_server is_from_mirror jobs_for has_open have_ended bytes_of
starts_once_after_a_cut = record { frames = refl; stopped = refl }

pub checks_in_a_full_pass : ChecksInAFullPass
unfolding frames_sent has_next is_of_generation is_free_to_number is_begun is_for_client is_from_server is_from_mirror jobs_for has_open have_ended zeros
    counting_bytes stamped_sector bytes_of
checks_in_a_full_pass = record { faulty = refl; frames = refl }

pub keeps_behind_a_cut : KeepsBehindACut
unfolding frames_sent has_next is_of_generation is_free_to_number is_begun is_for_client is_from_server is_from_mirror jobs_for has_open have_ended job_state
    is_same bytes_of bodies.spelled_state states.spelling key_bytes job_bytes word state_after u32_at stream_of word_bytes fill_bytes
keeps_behind_a_cut = record { down = refl; before = refl; behind = refl; kept_before = refl; kept_behind = refl }

pub checks_by_its_state : ChecksByItsState
unfolding frames_sent has_next is_of_generation is_free_to_number is_begun is_for_client is_from_server is_from_mirror jobs_for has_open have_ended job_state
    is_same bytes_of bodies.spelled_state states.spelling key_bytes job_bytes misfit zeros counting_bytes stamped_sector word state_after u32_at stream_of
    word_bytes fill_bytes
checks_by_its_state = record { begins = refl; writes = refl; cuts = refl; counts = refl; verifies = refl; sound = refl; rotten = refl; frames = refl }

pub comes_together : ComesTogether
unfolding frames_sent has_next is_of_generation is_free_to_number is_begun is_for_client is_from_server is_from_mirror jobs_for has_open have_ended bytes_of
    number_in
comes_together = record { begins = refl; waits = refl; frames = refl; mixed = refl }

-- ---- the disks were honest

the_origin : Origin
the_origin = record {
  boot = 1;
  key = record { run = 1; server = 0; job = 0 };
  job = record { kind = Sequential; verify = Stamp; pattern = 0; bs = 512; blocks = 2; total = 2; seed = 1; depth = 2; window = 2 };
}

-- Before the first write is done it has landed.
issued_both : List Happening
issued_both = Issue 0 0 ∷ Issue 0 0 ∷ after_start

landed : List Happening
landed = Land 0 0 0 1 ∷ issued_both

is_open : open_at (trace one (world one landed)) 0 0 0 ≡ Some the_origin
unfolding the_origin landed issued_both frames_sent has_next is_of_generation is_free_to_number is_for_client is_from_server is_from_mirror jobs_for has_open
    have_ended
is_open = refl

was_open : open_at (trace one (world one issued_both)) 0 0 0 ≡ Some the_origin
unfolding the_origin issued_both frames_sent has_next is_of_generation is_free_to_number is_for_client is_from_server is_from_mirror jobs_for has_open
    have_ended
was_open = refl

holds : HoldsWrite (content one (world one landed) 0 0) the_origin.key the_origin.job 0
unfolding the_origin landed issued_both frames_sent has_next is_of_generation is_free_to_number is_for_client is_from_server is_from_mirror jobs_for has_open
    have_ended zeros counting_bytes stamped_sector
holds = refl

in_file : ◌≡◌ {A = ℕ} 0 0 → ◌≡◌ {A = ℕ} 0 0 → (origin : Origin) → open_at (trace one (world one landed)) 0 0 0 ≡ Some origin
    → HoldsWrite (content one (world one landed) 0 0) origin.key origin.job 0
in_file s j origin h = subst (λ (x : Origin). HoldsWrite (content one (world one landed) 0 0) x.key x.job 0) (some_is (sym is_open ∙ h)) holds

one_sector : HasAllSectors 1 the_origin.job
unfolding the_origin
one_sector zero lt = refl
one_sector (suc i) lt = absurd (omega (arith, lt))

all_landed : true ≡ true → (origin : Origin) → open_at (trace one (world one issued_both)) 0 0 0 ≡ Some origin → HasAllSectors 1 origin.job
all_landed here origin h = subst (λ (x : Origin). HasAllSectors 1 x.job) (some_is (sym was_open ∙ h)) one_sector

pub is_honestly_made : IsHonestlyMade
unfolding landed issued_both frames_sent has_next is_of_generation is_free_to_number is_begun is_for_client is_from_server is_from_mirror jobs_for has_open
    have_ended job_state is_same misfit zeros counting_bytes stamped_sector word state_after u32_at stream_of word_bytes fill_bytes bodies.spelled_state
    states.spelling key_bytes job_bytes bytes_of
is_honestly_made = record {
  honest = ((((((((((((((((((tt, tt), tt), tt), tt), tt), tt), tt), in_file), tt), tt), tt), tt), tt), tt), tt), tt), tt), tt);
  whole = (tt, all_landed);
}
