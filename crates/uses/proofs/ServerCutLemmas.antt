-- A server that is cut, by computation and by the laws.
use Rattle.std.proofs.Common.{◌≡◌, ◌<◌, ◌+◌, ℕ, zero, suc, inl, refl, sym, subst, arith, List, [], ◌∷◌, ◌++◌, length, take, drop, append_assoc}
use Rattle.std.specs.Prelude.{Ok}
use Rattle.std.proofs.lemmas.Bool.{ltb-true}
use Rattle.fc_base.specs.Layouts.{bytes_of}
use Rattle.messages.specs.declared.body.Body.TheVariants.{Jobs, Start, Started}
use Rattle.messages.specs.declared.frame.Frame.TheVariants.{Whole}
use Rattle.messages.specs.FrameLaws.{FramesAreRead}
use Rattle.messages.specs.FrameBytes.{frame_spelling, frame_at, frame_faults}
use Rattle.write_order.specs.Stamps.{counting_bytes, stamped_sector}
use Rattle.server_core.specs.declared.input.Input.TheVariants.{Deliver}
use Rattle.server_core.specs.Hearing.{Cut}
use Rattle.server_core.specs.Note.{Says}
use Rattle.server_core.specs.Run.{has_open, have_ended}
use Rattle.server_core.specs.Texts.{jobs_for}
use Rattle.filters.specs.Kinds.{told_numbered}
use Rattle.filters.specs.Lives.{Lives}
use Rattle.filters.specs.NodeCuts.{saved, CutsAnswer}
use Rattle.filters.specs.Records.{end_bytes}
use Rattle.filters.specs.ServerAt.{ServerAt, noted}
use Rattle.filters.specs.ServerCuts.{LivesGoOn}
use Rattle.filters.specs.ServerLives.{ServerTakes, TakesBody, frame_in}
use Rattle.filters.specs.ServerOrders.{AreAllGiven}
use Rattle.filters.specs.ServerTurns.{Turns, Asks}
use Rattle.uses.specs.OneJob.{text}
use Rattle.uses.specs.Packets.{to_server}
use Rattle.uses.specs.ServerCut.{opening, reads, says, first, staged, started, first_order, first_answer, second_answer, records, answers, ServerGoesOn, ServerIsCut}
use Rattle.uses.proofs.CutLemmas.{in_two, cut_in_second, within_save, behind_save}

-- ---- the two records

jobs_are_read : FramesAreRead
    → frame_in (frame_faults (frame_spelling (Whole (to_server (Jobs 1 text))))) (frame_at (frame_spelling (Whole (to_server (Jobs 1 text)))))
    ≡ Ok (Deliver (Whole (to_server (Jobs 1 text))))
jobs_are_read law =
    let read = law (Whole (to_server (Jobs 1 text))) (record { in_range = refl; state = tt }) (omega arith) in
    rw (read.0, read.1) refl

start_is_read : FramesAreRead
    → frame_in (frame_faults (frame_spelling (Whole (to_server (Start 1))))) (frame_at (frame_spelling (Whole (to_server (Start 1)))))
    ≡ Ok (Deliver (Whole (to_server (Start 1))))
start_is_read law =
    let read = law (Whole (to_server (Start 1))) (record { in_range = refl; state = tt }) (omega arith) in
    rw (read.0, read.1) refl

none_yet : AreAllGiven opening staged.list
unfolding jobs_for has_open have_ended
none_yet j few = refl

-- With one write open the job is given no other, and there is no other job.
all_given : AreAllGiven opening started.list
unfolding jobs_for has_open have_ended
all_given zero few = refl
all_given (suc j) few = refl

pub takes_jobs : TakesBody opening first (Ok (Deliver (Whole (to_server (Jobs 1 text))))) staged first_answer
unfolding bytes_of jobs_for has_open have_ended
takes_jobs = inl (record { written = []; turns = ([], (refl, refl)); ordered = none_yet; all = refl })

-- The server once its Start is taken, and before its first turn.
asked : ServerAt
asked = record started { list = drop 1 started.list }

orders : Turns opening asked started first_order
unfolding asked bytes_of jobs_for has_open have_ended stamped_sector counting_bytes
orders = (
  Asks 0 ∷ [],
  record { before = asked; earlier = []; answer = first_order; lived = (refl, refl); takes = (refl, refl); all = refl },
)

pub takes_start : TakesBody opening staged (Ok (Deliver (Whole (to_server (Start 1))))) started second_answer
unfolding asked bytes_of jobs_for has_open have_ended
takes_start = inl (record { written = first_order; turns = orders; ordered = all_given; all = refl })

says_boot : Says first.note (noted opening first.list)
says_boot = record { boot_range = omega arith; last_range = omega arith; spelled = inl refl }

pub says_start : Says started.note (noted opening started.list)
unfolding jobs_for has_open have_ended
says_start = record { boot_range = omega arith; last_range = omega arith; spelled = inl refl }

pub says_staged : Says staged.note (noted opening staged.list)
unfolding jobs_for has_open have_ended
says_staged = record { boot_range = omega arith; last_range = omega arith; spelled = inl refl }

lives_once : FramesAreRead → Lives (ServerTakes opening) first (reads (Jobs 1 text) ∷ []) staged first_answer
unfolding told_numbered
lives_once law = record {
  before = first;
  earlier = [];
  answer = first_answer;
  lived = (refl, refl);
  takes = (subst (λ r. TakesBody opening first r staged first_answer) (sym (jobs_are_read law)) takes_jobs, says_staged);
  all = refl;
}

takes_second : FramesAreRead → ServerTakes opening staged (reads (Start 1)) started second_answer
unfolding told_numbered
takes_second law = (subst (λ r. TakesBody opening staged r started second_answer) (sym (start_is_read law)) takes_start, says_start)

lives : FramesAreRead → Lives (ServerTakes opening) first records started answers
lives law = record {
  before = staged;
  earlier = first_answer;
  answer = second_answer;
  lived = lives_once law;
  takes = takes_second law;
  all = refl;
}

-- ---- where the cuts are

is_in_save : 20 < length (saved started.note)
unfolding bytes_of
is_in_save = ltb-true 20 (length (saved started.note)) refl

is_behind_started : length (saved started.note ++ says (Started 1)) < 100
unfolding bytes_of
is_behind_started = ltb-true (length (saved started.note ++ says (Started 1))) 100 refl

is_in_order : 100 < length (saved started.note ++ (says (Started 1) ++ first_order))
unfolding bytes_of stamped_sector counting_bytes
is_in_order = ltb-true 100 (length (saved started.note ++ (says (Started 1) ++ first_order))) refl

is_so_long : 100 ≡ length (saved started.note) + 71
unfolding bytes_of
is_so_long = refl

abbrev note : ServerAt → List ℕ
note at = at.note

-- What stands behind the save.
abbrev behind : List ℕ
behind = says (Started 1) ++ (first_order ++ end_bytes (Ok tt))

goes_on : FramesAreRead → LivesGoOn → (n : ℕ) (left : ServerAt) → CutsAnswer note staged started (take n (saved started.note ++ behind)) left
    → Says left.note (noted opening left.list) → ServerGoesOn n left
goes_on read law n left within says_left =
    let lived = lives read in
    let at = length first_answer + n in
    record {
      says = says_boot;
      lives = lived;
      cuts =
          cut_in_second (ServerTakes opening) note first staged started left (reads (Jobs 1 text)) (reads (Start 1)) first_answer second_answer n
          (lives_once read) (takes_second read)
          (subst (λ l. CutsAnswer note staged started (take n l) left)
          (sym (append_assoc (saved started.note) (says (Started 1)) (first_order ++ end_bytes (Ok tt)))) within);
      next = record { past = Cut ∷ left.list; me_is = refl; says = says_left; begins = refl };
      goes_on =
          law opening first started records (take at answers) (drop at answers) says_boot
          (in_two (ServerTakes opening) first records started at answers lived);
    }

pub server_is_cut : FramesAreRead → LivesGoOn → ServerIsCut
server_is_cut read law = record {
  is_in_save = is_in_save;
  in_save = goes_on read law 20 staged (within_save note staged started behind 20 is_in_save) says_staged;
  is_behind_started = is_behind_started;
  is_in_order = is_in_order;
  behind_save = goes_on read law 100 started (behind_save note staged started behind 100 71 is_so_long) says_start;
}
