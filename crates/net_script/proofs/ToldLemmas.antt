-- What is told of what happens says the lines that are printed of it.
use Rattle.std.proofs.Common.{◌≡◌, ◌≤◌, ℕ, false, List, [], ◌∷◌, ◌++◌, length, map, take, drop}
use Rattle.std.proofs.Common.{Option, Ok, Err, append-nil, refl, sym, ◌∙◌, ap, subst, Contains, arith}
use Rattle.std.specs.List.{flat_map}
use Rattle.std.specs.Io.KnownBytes.{Appends}
use Rattle.std.proofs.lemmas.List.{drop_at, map-append, take_all, length-map}
use Rattle.std.proofs.lemmas.List.Elements.{Contains-append_right}
use Rattle.fc_base.specs.declared.limits.TheConstants.{MAX_SERVERS}
use Rattle.fc_base.specs.declared.fault.Fault.{Fault}
use Rattle.fc_base.specs.declared.fault.Fault.TheVariants.{FrameBadField}
use Rattle.fc_base.specs.declared.fault.FaultSort.{FaultSort}
use Rattle.fc_base.specs.declared.fault.FaultSort.TheVariants as sorts
use Rattle.messages.specs.declared.frame.Frame.{Frame}
use Rattle.messages.specs.FrameBytes.{frame_spelling}
use Rattle.messages.specs.FrameLaws.{IsFrame}
use Rattle.net_world.specs.Setup.{Setup}
use Rattle.net_world.specs.declared.told.Told.{Told}
use Rattle.net_world.specs.declared.world.World.{World}
use Rattle.net_world.specs.Happenings.{Happening}
use Rattle.net_world.specs.Changes.{Change, Met, Landed, Rotted, steps}
use Rattle.net_world.specs.Frames.{frames_sent}
use Rattle.net_world.specs.Outcomes.{Outcome, Does, Refuses, Drops, outcome}
use Rattle.net_world.specs.Ends.{Faults}
use Rattle.net_world.specs.World as worlds
use Rattle.net_world.specs.World.{world, and_outcome, answer, act, told_by, told_of_happening}
use Rattle.net_world.specs.WorldLaws.{SentAreFrames}
use Rattle.program_io.specs.Words.{with_line_feed}
use Rattle.net_script.specs.Printed.{answer_line, refusal_line, has_faults, sent_lines, frames_of_change, addressee, act_lines, lines_by}
use Rattle.net_script.specs.Script.{tells_faults}
use Rattle.net_script.specs.Told.{AreBytesOf}
use Rattle.net_script.specs.Running.{HasCome, refused_by}

-- The frames of a change stand behind those that were sent before.
sent_with : (setup : Setup) (past : List Change) (change : Change)
    → frames_sent setup (steps (change ∷ past)) ≡ frames_sent setup (steps past) ++ frames_of_change setup past change
unfolding frames_sent
sent_with setup past (Met step) = refl
sent_with setup past (Landed s j k mask) = sym (append-nil (frames_sent setup (steps past)))
sent_with setup past (Rotted s j sector bytes) = sym (append-nil (frames_sent setup (steps past)))

counted : (setup : Setup) (past : List Change) (change : Change) → worlds.frame_count setup past change ≡ length (frames_of_change setup past change)
counted setup past (Met step) = refl
counted setup past (Landed s j k mask) = refl
counted setup past (Rotted s j sector bytes) = refl

bytes_of : (setup : Setup) (past : List Change) (change : Change) (kept : List (List ℕ))
    → ((f : Frame) → Contains (frames_sent setup (steps (change ∷ past))) f → IsFrame f)
    → kept ≡ map frame_spelling (frames_sent setup (steps (change ∷ past)))
    → AreBytesOf (frames_of_change setup past change) (length (frames_sent setup (steps past))) (worlds.frame_count setup past change) kept
bytes_of setup past change kept each is = record {
  each = λ f h. each f (subst (λ fs. Contains fs f) (sym (sent_with setup past change)) (Contains-append_right older newer f h));
  number = sym (counted setup past change);
  bytes =
      ap (λ k. take (worlds.frame_count setup past change) (drop (length older) k))
      (is ∙ ap (map frame_spelling) (sent_with setup past change) ∙ map-append frame_spelling older newer)
      ∙ ap (take (worlds.frame_count setup past change))
      (drop_at (map frame_spelling older) (map frame_spelling newer) (length older) (length-map older frame_spelling))
      ∙ take_all (worlds.frame_count setup past change) (map frame_spelling newer) (omega (arith, counted setup past change, length-map newer frame_spelling));
}
  where
    older : List Frame
    older = frames_sent setup (steps past)

    newer : List Frame
    newer = frames_of_change setup past change

-- What is told of what has happened gives its lines, and says whether there are faults.
pub record Prints (setup : Setup) (past : List Change) (e : Happening) (x : Outcome) (t : Told) (kept : List (List ℕ)) : Type 0 where
  pub sent : List Frame
  pub bytes : AreBytesOf sent t.first t.sent kept
  pub lines : lines_by setup past e x ≡ (answer_line t.answer ∷ sent_lines t.first sent) ++ act_lines (addressee setup past e) t.act
  pub faults : has_faults t.answer ≡ tells_faults (answer setup past e) x

prints : SentAreFrames → (setup : Setup) (before : List Happening) (e : Happening) (x : Outcome) (t : Told) (kept : List (List ℕ)) → setup.servers ≤ MAX_SERVERS
    → outcome setup (world setup before) e ≡ x → told_by setup (world setup before) e x ≡ Ok t → kept ≡ worlds.frames setup (and_outcome x (world setup before))
    → Prints setup (world setup before) e x t kept
prints law setup before e (Refuses fault) t kept few is told_so kept_is = absurd cc
prints law setup before e (Drops step) t kept few is told_so kept_is = absurd cc
prints law setup before e (Does change) t kept few is told_so kept_is =
    let past = world setup before in
    let same : ◌≡◌ {A = Told} (record {
      answer = answer setup past e;
      first = length (frames_sent setup (steps past));
      sent = worlds.frame_count setup past change;
      act = act setup past change;
    }) t = cc in
    let later : world setup (e ∷ before) ≡ change ∷ past = ap (λ y. and_outcome y past) is in
    subst (λ told. Prints setup past e (Does change) told kept) same (record {
      sent = frames_of_change setup past change;
      bytes = bytes_of setup past change kept
          (λ f h. (law setup (e ∷ before) f few (subst (λ p. Contains (frames_sent setup (steps p)) f) (sym later) h)).0)
          kept_is;
      lines = refl;
      faults = refl;
    })

-- So it is with the frames of a world that stands for what has changed then.
pub told_prints : SentAreFrames → (setup : Setup) (before : List Happening) (e : Happening) (t : Told) (kept : List (List ℕ)) → setup.servers ≤ MAX_SERVERS
    → told_of_happening setup (world setup before) e ≡ Ok t → kept ≡ worlds.frames setup (world setup (e ∷ before))
    → Prints setup (world setup before) e (outcome setup (world setup before) e) t kept
told_prints law setup before e t kept few told_so kept_is =
    prints law setup before e (outcome setup (world setup before) e) t kept few refl told_so kept_is

refused_lines : (setup : Setup) (past : List Change) (e : Happening) (x : Outcome) (fault : Fault) → told_by setup past e x ≡ Err fault
    → (lines_by setup past e x ≡ refusal_line fault ∷ []) × (tells_faults (answer setup past e) x ≡ false)
refused_lines setup past e (Does change) fault told_so = absurd cc
refused_lines setup past e (Refuses why) fault told_so = let same : why ≡ fault = cc in (ap (λ f. refusal_line f ∷ []) same, refl)
refused_lines setup past e (Drops step) fault told_so = let same : FrameBadField ≡ fault = cc in (ap (λ f. refusal_line f ∷ []) same, refl)

-- What has come of what is refused.
pub refused_comes : (setup : Setup) (before : List Happening) (e : Happening) (sort : FaultSort) (fault : Fault) (new : World) (old now : Option (List ℕ))
    → Faults setup (world setup before) e sort fault new → Appends old now (with_line_feed (refusal_line fault))
    → HasCome setup before e new old now (refused_by sort)
refused_comes setup before e sorts.Memory fault new old now faults wrote = subst (λ f. Appends old now (with_line_feed (refusal_line f))) faults.0 wrote
refused_comes setup before e sorts.Save fault new old now faults wrote = absurd faults
refused_comes setup before e sorts.Refusal fault new old now faults wrote =
    let says = refused_lines setup (world setup before) e (outcome setup (world setup before) e) fault faults.0 in
    (subst (Appends old now) (sym (append-nil (with_line_feed (refusal_line fault))) ∙ ap (flat_map with_line_feed) (sym says.0)) wrote, faults.1, sym says.1)
