-- A client that is cut, by computation and by the laws.
use Rattle.std.proofs.Common.{◌≡◌, ◌<◌, ◌+◌, ℕ, false, inl, inr, refl, sym, subst, arith, List, [], ◌∷◌, ◌++◌, length, take, drop, append_assoc, take-append-drop}
use Rattle.std.specs.Prelude.{Ok}
use Rattle.std.proofs.lemmas.Bool.{ltb-true}
use Rattle.fc_base.specs.Layouts.{bytes_of}
use Rattle.messages.specs.declared.frame.Frame.TheVariants.{Whole}
use Rattle.messages.specs.FrameLaws.{FramesAreRead}
use Rattle.messages.specs.FrameBytes.{frame_spelling}
use Rattle.messages.specs.Laws.{LengthsAreBounded}
use Rattle.client_core.specs.Inputs.{Begin, Deliver}
use Rattle.verify_state.specs.Spelling.{spelling as state_bytes, key_bytes, job_bytes}
use Rattle.client_core.specs.Note.{numbers_of, note_of, blank, Says, IsNoted, SaysWhatIsWritten}
use Rattle.client_core.specs.Refusals.{has_next, is_of_generation, is_free_to_number, is_for_client, is_from_server, is_from_mirror}
use Rattle.filters.specs.declared.beginning.Beginning.TheVariants.{Renewed}
use Rattle.filters.specs.declared.kinds.InRecordKind.TheVariants as told
use Rattle.filters.specs.ClientAsks.{input_in}
use Rattle.filters.specs.ClientCuts.{LivesGoOn, RenewalsGoOn}
use Rattle.client_core.specs.Hearing.{Cut}
use Rattle.filters.specs.ClientSteps.{noted}
use Rattle.filters.specs.ClientLives.{ClientAt, ClientTakes, TakesBody, opening_bytes}
use Rattle.filters.specs.Kinds.{told_numbered}
use Rattle.filters.specs.Lives.{Lives}
use Rattle.filters.specs.NodeCuts.{saved, CutsAnswer}
use Rattle.filters.specs.Records.{end_bytes}
use Rattle.uses.specs.OneJob.{state, text}
use Rattle.uses.specs.Packets.{state_packet}
use Rattle.uses.specs.ClientCut.{opening, first, one_run, begun, kept, begins, brings, acknowledges, first_answer, second_answer, records, answers, ClientGoesOn, ClientIsCut, lost, RenewalIsCut}
use Rattle.uses.proofs.CutLemmas.{in_two, cut_in_second, within_save, behind_save}
use Rattle.uses.proofs.FrameLemmas.{state_is_short}
use Rattle.uses.proofs.StateLemmas.{is_state}

pub says_blank : Says [] blank
says_blank = record {
  note = record { generation = omega arith; runs = omega arith; attempts = omega arith; count = omega arith; states = tt; keys = refl };
  spelled = inr (refl, refl);
}

pub is_begun_note : IsNoted one_run
is_begun_note = record { generation = omega arith; runs = omega arith; attempts = omega arith; count = omega arith; states = tt; keys = refl }

is_kept : IsNoted (record one_run { kept = state ∷ [] })
is_kept = record { generation = omega arith; runs = omega arith; attempts = omega arith; count = omega arith; states = (is_state, tt); keys = refl }

-- ---- the two records

state_is_read : LengthsAreBounded → FramesAreRead → input_in told.Frame (frame_spelling (Whole state_packet)) ≡ Ok (Deliver (Whole state_packet))
state_is_read lengths law =
    let read = law (Whole state_packet) (record { in_range = refl; state = is_state }) (state_is_short lengths) in
    rw (read.0, read.1) refl

pub takes_begin : TakesBody opening first (Ok (Begin text)) begun first_answer
unfolding bytes_of has_next is_of_generation is_free_to_number
takes_begin = inl (refl, refl)

takes_state : TakesBody opening begun (Ok (Deliver (Whole state_packet))) kept second_answer
unfolding bytes_of has_next is_of_generation is_free_to_number is_for_client is_from_server is_from_mirror
takes_state = inl (refl, refl)

pub says_begun : SaysWhatIsWritten → Says begun.note (noted opening begun.list)
unfolding has_next is_of_generation is_free_to_number
says_begun written = written one_run is_begun_note

says_kept : SaysWhatIsWritten → Says kept.note (noted opening kept.list)
unfolding has_next is_of_generation is_free_to_number is_for_client is_from_server is_from_mirror
says_kept written = written (record one_run { kept = state ∷ [] }) is_kept

lives_once : SaysWhatIsWritten → Lives (ClientTakes opening) first (begins ∷ []) begun first_answer
unfolding told_numbered
lives_once written = record {
  before = first;
  earlier = [];
  answer = first_answer;
  lived = (refl, refl);
  takes = (takes_begin, says_begun written);
  all = refl;
}

takes_second : LengthsAreBounded → FramesAreRead → SaysWhatIsWritten → ClientTakes opening begun brings kept second_answer
unfolding told_numbered
takes_second lengths law written =
    (subst (λ r. TakesBody opening begun r kept second_answer) (sym (state_is_read lengths law)) takes_state, says_kept written)

lives : LengthsAreBounded → FramesAreRead → SaysWhatIsWritten → Lives (ClientTakes opening) first records kept answers
lives lengths law written = record {
  before = begun;
  earlier = first_answer;
  answer = second_answer;
  lived = lives_once written;
  takes = takes_second lengths law written;
  all = refl;
}

-- ---- where the cuts are

is_in_save : 100 < length (saved kept.note)
unfolding bytes_of note_of numbers_of state_bytes key_bytes job_bytes
is_in_save = ltb-true 100 (length (saved kept.note)) refl

is_behind_save : length (saved kept.note) < 200
unfolding bytes_of note_of numbers_of state_bytes key_bytes job_bytes
is_behind_save = ltb-true (length (saved kept.note)) 200 refl

is_in_sent : 200 < length (saved kept.note ++ acknowledges)
unfolding bytes_of note_of numbers_of state_bytes key_bytes job_bytes
is_in_sent = ltb-true 200 (length (saved kept.note ++ acknowledges)) refl

is_so_long : 200 ≡ length (saved kept.note) + 19
unfolding bytes_of note_of numbers_of state_bytes key_bytes job_bytes
is_so_long = refl

abbrev note : ClientAt → List ℕ
note at = at.note

-- What stands behind the save.
abbrev behind : List ℕ
behind = acknowledges ++ end_bytes (Ok tt)

goes_on : LengthsAreBounded → FramesAreRead → SaysWhatIsWritten → LivesGoOn → (n : ℕ) (left : ClientAt)
    → CutsAnswer note begun kept (take n (saved kept.note ++ behind)) left → Says left.note (noted opening left.list) → ClientGoesOn n left
goes_on lengths read written law n left within says_left =
    let lived = lives lengths read written in
    let at = length first_answer + n in
    record {
      may = tt;
      says = says_blank;
      lives = lived;
      cuts =
          cut_in_second (ClientTakes opening) note first begun kept left begins brings first_answer second_answer n (lives_once written)
          (takes_second lengths read written)
          (subst (λ l. CutsAnswer note begun kept (take n l) left) (sym (append_assoc (saved kept.note) acknowledges (end_bytes (Ok tt)))) within);
      next = record { past = Cut ∷ left.list; servers_are = refl; says = says_left; begins = refl };
      goes_on =
          law false opening first kept records (take at answers) (drop at answers) tt says_blank
          (in_two (ClientTakes opening) first records kept at answers lived);
    }

pub client_is_cut : LengthsAreBounded → FramesAreRead → SaysWhatIsWritten → LivesGoOn → ClientIsCut
client_is_cut lengths read written law = record {
  is_in_save = is_in_save;
  in_save = goes_on lengths read written law 100 begun (within_save note begun kept behind 100 is_in_save) (says_begun written);
  is_behind_save = is_behind_save;
  is_in_sent = is_in_sent;
  behind_save = goes_on lengths read written law 200 kept (behind_save note begun kept behind 200 19 is_so_long) (says_kept written);
}

pub renewal_is_cut : RenewalsGoOn → RenewalIsCut
renewal_is_cut law = record {
  generation = refl;
  says = says_blank;
  renewed =
      law 2 opening lost (take 20 (opening_bytes (Renewed 2))) (drop 20 (opening_bytes (Renewed 2))) refl says_blank
      (sym (take-append-drop 20 (opening_bytes (Renewed 2))));
}
