-- A mirror that is cut, by computation and by the laws.
use Rattle.std.proofs.Common.{◌≡◌, ◌<◌, ◌+◌, ℕ, inl, inr, refl, sym, subst, arith, List, [], ◌∷◌, ◌++◌, length, take, drop, append_assoc}
use Rattle.std.specs.Prelude.{Ok}
use Rattle.std.proofs.lemmas.Bool.{ltb-true}
use Rattle.fc_base.specs.Layouts.{bytes_of}
use Rattle.messages.specs.declared.body.Body.TheVariants.{Copy, CopyOk, Fetch}
use Rattle.messages.specs.FrameLaws.{FramesAreRead}
use Rattle.messages.specs.FrameBytes.{frame_spelling}
use Rattle.messages.specs.Laws.{LengthsAreBounded}
use Rattle.verify_state.specs.Spelling.{spelling as state_bytes, key_bytes, job_bytes}
use Rattle.mirror_core.specs.Note.{note_of, blank, Says, IsNoted, SaysWhatIsWritten}
use Rattle.filters.specs.Kinds.{told_numbered}
use Rattle.filters.specs.Lives.{Lives}
use Rattle.filters.specs.NodeCuts.{saved, CutsAnswer}
use Rattle.filters.specs.Records.{end_bytes}
use Rattle.filters.specs.MirrorCuts.{LivesGoOn}
use Rattle.mirror_core.specs.History.{Cut}
use Rattle.mirror_core.specs.Words.{words_noted}
use Rattle.filters.specs.MirrorLives.{MirrorAt, MirrorTakes, TakesBody, frame_in}
use Rattle.uses.specs.OneJob.{state}
use Rattle.uses.specs.MirrorCut.{asks, reads, says, first, granted, kept, first_answer, second_answer, records, answers, MirrorGoesOn, MirrorIsCut}
use Rattle.uses.proofs.CutLemmas.{in_two, cut_in_second, within_save, behind_save}
use Rattle.uses.proofs.FrameLemmas.{copy_is_short}
use Rattle.uses.proofs.StateLemmas.{is_state}

pub says_first : Says [] blank
says_first = record {
  note = record { generation = omega arith; count = omega arith; states = tt; keys = refl };
  spelled = inr (refl, refl);
}

is_granted : IsNoted (record { generation = 1; kept = [] })
is_granted = record { generation = omega arith; count = omega arith; states = tt; keys = refl }

is_kept : IsNoted (record { generation = 1; kept = state ∷ [] })
is_kept = record { generation = omega arith; count = omega arith; states = (is_state, tt); keys = refl }

says_granted : SaysWhatIsWritten → Says granted.note (words_noted blank granted.list)
says_granted written = written (record { generation = 1; kept = [] }) is_granted

says_kept : SaysWhatIsWritten → Says kept.note (words_noted blank kept.list)
says_kept written = written (record { generation = 1; kept = state ∷ [] }) is_kept

-- ---- the two records

fetch_is_read : FramesAreRead → frame_in (frame_spelling (asks (Fetch 1))) ≡ Ok (asks (Fetch 1))
fetch_is_read law =
    let read = law (asks (Fetch 1)) (record { in_range = refl; state = tt }) (omega arith) in
    rw (read.0, read.1) refl

copy_is_read : LengthsAreBounded → FramesAreRead → frame_in (frame_spelling (asks (Copy state))) ≡ Ok (asks (Copy state))
copy_is_read lengths law =
    let read = law (asks (Copy state)) (record { in_range = refl; state = is_state }) (copy_is_short lengths) in
    rw (read.0, read.1) refl

takes_fetch : TakesBody blank first (Ok (asks (Fetch 1))) granted first_answer
unfolding bytes_of
takes_fetch = inl (refl, refl)

takes_copy : TakesBody blank granted (Ok (asks (Copy state))) kept second_answer
unfolding bytes_of
takes_copy = inl (refl, refl)

lives_once : FramesAreRead → SaysWhatIsWritten → Lives (MirrorTakes blank) first (reads (Fetch 1) ∷ []) granted first_answer
unfolding told_numbered
lives_once law written = record {
  before = first;
  earlier = [];
  answer = first_answer;
  lived = (refl, refl);
  takes = (subst (λ r. TakesBody blank first r granted first_answer) (sym (fetch_is_read law)) takes_fetch, says_granted written);
  all = refl;
}

takes_second : LengthsAreBounded → FramesAreRead → SaysWhatIsWritten → MirrorTakes blank granted (reads (Copy state)) kept second_answer
unfolding told_numbered
takes_second lengths law written =
    (subst (λ r. TakesBody blank granted r kept second_answer) (sym (copy_is_read lengths law)) takes_copy, says_kept written)

lives : LengthsAreBounded → FramesAreRead → SaysWhatIsWritten → Lives (MirrorTakes blank) first records kept answers
lives lengths law written = record {
  before = granted;
  earlier = first_answer;
  answer = second_answer;
  lived = lives_once law written;
  takes = takes_second lengths law written;
  all = refl;
}

-- ---- where the cuts are

is_in_save : 100 < length (saved kept.note)
unfolding bytes_of note_of state_bytes key_bytes job_bytes
is_in_save = ltb-true 100 (length (saved kept.note)) refl

is_behind_save : length (saved kept.note) < 180
unfolding bytes_of note_of state_bytes key_bytes job_bytes
is_behind_save = ltb-true (length (saved kept.note)) 180 refl

is_in_sent : 180 < length (saved kept.note ++ says (CopyOk 1 0 0))
unfolding bytes_of note_of state_bytes key_bytes job_bytes
is_in_sent = ltb-true 180 (length (saved kept.note ++ says (CopyOk 1 0 0))) refl

is_so_long : 180 ≡ length (saved kept.note) + 15
unfolding bytes_of note_of state_bytes key_bytes job_bytes
is_so_long = refl

abbrev note : MirrorAt → List ℕ
note at = at.note

-- What stands behind the save.
abbrev behind : List ℕ
behind = says (CopyOk 1 0 0) ++ end_bytes (Ok tt)

goes_on : LengthsAreBounded → FramesAreRead → SaysWhatIsWritten → LivesGoOn → (n : ℕ) (left : MirrorAt)
    → CutsAnswer note granted kept (take n (saved kept.note ++ behind)) left → Says left.note (words_noted blank left.list) → MirrorGoesOn n left
goes_on lengths read written law n left within says_left =
    let lived = lives lengths read written in
    let at = length first_answer + n in
    record {
      says = says_first;
      lives = lived;
      cuts =
          cut_in_second (MirrorTakes blank) note first granted kept left (reads (Fetch 1)) (reads (Copy state)) first_answer second_answer n
          (lives_once read written) (takes_second lengths read written)
          (subst (λ l. CutsAnswer note granted kept (take n l) left) (sym (append_assoc (saved kept.note) (says (CopyOk 1 0 0)) (end_bytes (Ok tt)))) within);
      next = record { past = Cut ∷ left.list; says = says_left; begins = refl };
      goes_on =
          law blank first kept records (take at answers) (drop at answers) says_first
          (in_two (MirrorTakes blank) first records kept at answers lived);
    }

pub mirror_is_cut : LengthsAreBounded → FramesAreRead → SaysWhatIsWritten → LivesGoOn → MirrorIsCut
mirror_is_cut lengths read written law = record {
  is_in_save = is_in_save;
  in_save = goes_on lengths read written law 100 granted (within_save note granted kept behind 100 is_in_save) (says_granted written);
  is_behind_save = is_behind_save;
  is_in_sent = is_in_sent;
  behind_save = goes_on lengths read written law 180 kept (behind_save note granted kept behind 180 15 is_so_long) (says_kept written);
}
