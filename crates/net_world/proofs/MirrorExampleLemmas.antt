-- The examples with a mirror, by computation.
use Rattle.std.proofs.Common.{refl}
use Rattle.messages.specs.Bodies as bodies
use Rattle.rand_core.specs.Steps.{u32_at, stream_of, word_bytes}
use Rattle.rand_core.specs.Stream.{fill_bytes}
use Rattle.client_core.specs.Refusals.{is_begun, has_next, is_of_generation, is_free_to_number, is_for_client, is_from_server, is_from_mirror}
use Rattle.verify_state.specs.Same.{is_same}
use Rattle.verify_state.specs.Spelling as states
use Rattle.verify_state.specs.Spelling.{key_bytes, job_bytes}
use Rattle.fc_base.specs.Layouts.{bytes_of}
use Rattle.write_order.specs.Words.{word, state_after}
use Rattle.server_core.specs.Texts.{jobs_for}
use Rattle.server_core.specs.Run.{has_open, have_ended}
use Rattle.server_core.specs.Taken.{job_state}
use Rattle.net_world.specs.Frames.{frames_sent}
use Rattle.net_world.specs.MirrorExamples.{FetchesWhatWasLost, RefusesOfAMirror, StopsWithinARenewal}

pub fetches_what_was_lost : FetchesWhatWasLost
unfolding frames_sent has_next is_of_generation is_free_to_number is_begun is_for_client is_from_server is_from_mirror jobs_for has_open have_ended job_state
    is_same bytes_of bodies.spelled_state states.spelling key_bytes job_bytes word state_after u32_at stream_of word_bytes fill_bytes
fetches_what_was_lost = record { waits = refl; begins = refl; copies = refl; empty = refl; used = refl; counts = refl; begins_anew = refl; frames = refl }

pub refuses_of_a_mirror : RefusesOfAMirror
unfolding frames_sent has_next is_of_generation is_free_to_number is_begun
refuses_of_a_mirror = record {
  no_loss = refl;
  no_renewal = refl;
  no_cut = refl;
  no_restart = refl;
  on = refl;
  still_on = refl;
  mirror_on = refl;
  mirror_off = refl;
  bad = refl;
  used = refl;
  written = refl;
  no_save = refl;
}

pub stops_within_a_renewal : StopsWithinARenewal
unfolding frames_sent has_next is_of_generation is_free_to_number is_begun
stops_within_a_renewal = record { old_used = refl; old_empty = refl; old_goes_on = refl; new_used = refl; new_written = refl; new_goes_on = refl }
