-- A server takes a Start that is due as its list does.
use Rattle.std.proofs.Common.{◌≡◌, ◌⊎◌, inl, inr, refl, sym, ap, subst, ◌∙◌, ℕ, ◌<◌, ◌^◌, true, false, ◌&&◌, List, ◌∷◌, Option, None, Some}
use Rattle.std.specs.Prelude.{if◌then◌else◌, not, nat_le, is_some, Result, Ok, Err}
use Rattle.std.specs.List.{flat_map}
use Rattle.std.proofs.lemmas.Bool.{and_parts, ltb-true}
use Rattle.fc_base.specs.declared.fault.Fault.{Fault}
use Rattle.fc_base.specs.declared.fault.Fault.TheVariants.{Down}
use Rattle.fc_base.specs.declared.fault.FaultSort.{FaultSort}
use Rattle.fc_base.specs.declared.fault.FaultSort.TheVariants as sorts
use Rattle.fc_base.specs.Fault.{sort_of}
use Rattle.disk_model.specs.declared.save_outcome.SaveOutcome.{SaveOutcome}
use Rattle.disk_model.specs.declared.save_outcome.SaveOutcome.TheVariants.{NoSave, Saved, LostNew, LostOld}
use Rattle.disk_model.specs.SaveOutcome.{saved_for, has_new}
use Rattle.disk_model.specs.Notes.{Note}
use Rattle.node.specs.Steps.{LeavesNote, Answers, Fails, Faults, Ends}
use Rattle.messages.specs.FramesOf.{spelled_frames}
use Rattle.messages.specs.Ranges.{is_run, is_word}
use Rattle.server_core.specs.Inputs.{PacketInput}
use Rattle.server_core.specs.declared.outs.Outs.{Outs}
use Rattle.server_core.specs.declared.packet_server.PacketServer.{PacketServer}
use Rattle.server_core.specs.History.{Opening, Entry, Met}
use Rattle.server_core.specs.declared.note.ServerNote.{ServerNote}
use Rattle.server_core.specs.Note.{Says, spelling}
use Rattle.server_core.specs.Request.{ToStart, request_of}
use Rattle.server_core.specs.Run.{Work}
use Rattle.server_core.specs.Words.{Staged, is_on, boot, last_run, words_noted, due, due_by, last_run_after, work}
use Rattle.server_core.specs.Replies.{replies}
use Rattle.server_core.specs.Answers.{now, refusal, refusal_of, packets, to_client, sent_by, issue_for, act_of, shown_entries}
use Rattle.server_core.specs.Framed.{frames_to_client}
use Rattle.server_core.specs.Stands.{MachineIs, EachNow}
use Rattle.server_core.specs.WordsAfter.{IsDueFor}
use Rattle.server_core.specs.Bounds.{AreShort}
use Rattle.server_core.specs.Ends.{StandsFor, steps, Starts, Unstarted, answered_entry}
use Rattle.server_core.proofs.Due.{rests}
use Rattle.server_core.proofs.FollowLemmas.{starts_follow}
use Rattle.server_core.proofs.UndueLemmas.{no_act}
use Rattle.server_core.proofs.ServeLemmas.{keeps_now, IsSendable}

-- What is due of a Start is of its run.
due_run : (last r : ℕ) (found : Option Staged) (w : Option Work) (s : Staged) → due_by true last found w (ToStart r) ≡ Some s → s.run ≡ r
due_run last r found w s e = let same : ToStart r ≡ ToStart s.run = (rests true last found w (ToStart r) s e).start in cc

there : (o : Option Staged) → is_some o ≡ true → (s : Staged) × (o ≡ Some s)
there None e = cc
there (Some s) e = (s, refl)

-- All that is known of a Start that is due.
record IsStart (o : Opening) (past : List Entry) (e : PacketInput) (run : ℕ) (s : Staged) : Type 0 where
  on : is_on past ≡ true
  asks : request_of o.me e ≡ ToStart run
  is : due o past e ≡ Some s
  words : due_by true (now o past).last (now o past).staged (now o past).run (ToStart run) ≡ Some s
  run_is : s.run ≡ run

free_of : (o : Opening) (past : List Entry) (e : PacketInput) (run : ℕ) (s : Staged) → IsStart o past e run s → refusal o past e ≡ None
free_of o past e run s d = ap (λ b. if b then refusal_of (now o past) (request_of o.me e) else Some Down) d.on ∙ ap (refusal_of (now o past)) d.asks

abbrev noted_as : ℕ → ℕ → ServerNote
noted_as b run = record { boot = b; last_run = run }

-- The durable bytes say the boot and a run that was recorded.
new_says : (bytes : List ℕ) (b mine last run : ℕ) → Says bytes (record { boot = b; last_run = last }) → mine ≡ b → run < 2 ^ 64 → (new : List ℕ)
    → new ≡ spelling (record { boot = mine; last_run = run }) → Says new (record { boot = b; last_run = run })
new_says bytes b mine last run s same fits new is =
    record { boot_range = s.boot_range; last_range = fits; spelled = inl (is ∙ ap (λ n. spelling (record { boot = n; last_run = run })) same) }

-- A boot and a run that was recorded are what is noted then.
to_note : (o : Opening) (past : List Entry) (e : PacketInput) (run : ℕ) (s : Staged) (mine : ℕ) (left : SaveOutcome) → has_new left ≡ true → mine ≡ boot o past
    → IsStart o past e run s
    → noted_as mine run ≡ words_noted o (Met e left ∷ past)
to_note o past e run s mine left new same d =
    ap (λ b. noted_as b run) same
    ∙ ap (noted_as (boot o past)) (sym (ap (λ x. last_run_after left x (last_run o past)) d.is ∙ by_left left new))
  where
    by_left : (left : SaveOutcome) → has_new left ≡ true → last_run_after left (Some s) (last_run o past) ≡ run
    by_left Saved h = d.run_is
    by_left LostNew h = d.run_is
    by_left LostOld h = cc
    by_left NoSave h = cc

begun : {T : Type 0} (note : T → Note) (old new : PacketServer T) (o : Opening) (past : List Entry) (e : PacketInput) (run : ℕ) (s : Staged) (outs : Outs)
    → old.durable.down ≡ false → StandsFor note old o past → MachineIs old.machine (now o past) → run < 2 ^ 64 → IsStart o past e run s
    → IsSendable o past e → Starts note run old new (Ok outs) → Answers (steps note o) past e old new outs
begun note old new o past e run s outs up stands k fits d can p =
    let q = p.2 (now o past) s k d.words in
    let free = free_of o past e run s d in
    let last : last_run o (Met e Saved ∷ past) ≡ run = ap (λ x. last_run_after Saved x (last_run o past)) d.is ∙ d.run_is in
    let bytes : (note new.durable.notes).bytes ≡ spelling (record { boot = old.machine.boot; last_run = run }) = ap (λ (n : Note). n.bytes) p.0 in
    let says = new_says (note old.durable.notes).bytes (boot o past) old.machine.boot (last_run o past) run stands.durable k.boot_is fits
    (note new.durable.notes).bytes bytes in
    let frames : outs.frames ≡ flat_map spelled_frames (packets o past (answered_entry o past e)) =
    ap (λ (x : Outs). x.frames) q.0 ∙ ap (λ x. frames_to_client o.me (replies (now o past) x)) (sym d.asks)
    ∙ ap (λ r. flat_map spelled_frames (to_client o.me (sent_by false r (replies (now o past) (request_of o.me e))))) (sym free)
    ∙ ap (λ x. flat_map spelled_frames (packets o past (Met e (saved_for x)))) (sym d.is) in
    record {
      free = free;
      sends = record {
        frames_are = frames;
        issue_is = ap (λ (x : Outs). x.issue) q.0 ∙ ap (issue_for (work o past)) (sym d.asks);
        act_is = ap (λ (x : Outs). x.act) q.0 ∙ no_act (work o past) run ∙ ap (act_of (work o past)) (sym d.asks);
        short = λ i h. subst AreShort (sym frames) (can.short i h);
        ranges = can.ranges;
      };
      leaves = subst (λ x. LeavesNote x (spelling (words_noted o (Met e (saved_for x) ∷ past))) (note old.durable.notes) (note new.durable.notes)) (sym d.is)
          (p.0 ∙ ap (λ n. record (note old.durable.notes) { bytes = spelling n }) (to_note o past e run s old.machine.boot Saved refl k.boot_is d));
      stands = subst (λ x. StandsFor note new o (Met e (saved_for x) ∷ past)) (sym d.is)
          (record {
            on = p.1 ∙ up ∙ sym (ap (λ b. not (b && true)) d.on);
            durable = subst (λ n. Says (note new.durable.notes).bytes (record { boot = boot o past; last_run = n })) (sym last) says;
            keeps = subst (λ l. MachineIs new.machine (now o l)) (sym (ap (λ b. if b then Met e Saved ∷ past else shown_entries past) d.on))
                (subst (λ n. MachineIs new.machine n) (sym (starts_follow o past e s d.is)) q.1);
          });
    }

unbegun : {T : Type 0} (note : T → Note) (old new : PacketServer T) (o : Opening) (past : List Entry) (e : PacketInput) (run : ℕ) (s : Staged) (t : FaultSort)
    (fault : Fault) → old.durable.down ≡ false → StandsFor note old o past → MachineIs old.machine (now o past) → run < 2 ^ 64 → IsStart o past e run s
    → Unstarted note run t fault old new → Faults (steps note o) past e t fault old new
unbegun note old new o past e run s sorts.Memory fault up stands k fits d u = record {
  why = u.0;
  same_note = u.1;
  unchanged = record {
    on = u.2 ∙ stands.on;
    durable = subst (λ (n : Note). Says n.bytes (record { boot = boot o past; last_run = last_run o past })) (sym u.1) stands.durable;
    keeps = subst (λ m. MachineIs m (now o (shown_entries past))) (sym u.3) stands.keeps;
  };
}
unbegun note old new o past e run s sorts.Refusal fault up stands k fits d u = absurd u
unbegun note old new o past e run s sorts.Save fault up stands k fits d u = by_bytes u.1
  where
    by_bytes : ((note new.durable.notes).bytes ≡ (note old.durable.notes).bytes) ⊎ ((note new.durable.notes).bytes ≡ spelling (record { boot = old.machine.boot; last_run = run }))
        → Fails (steps note o) past e old new
    by_bytes (inl same) = record {
      cause = u.0;
      free = free_of o past e run s d;
      addition = s;
      makes_one = d.is;
      left = LostOld;
      lost = refl;
      bytes_are = same;
      stands = record {
        on = u.2 ∙ sym (ap (λ b. not (b && false)) d.on);
        durable = subst (λ n. Says (note new.durable.notes).bytes (record { boot = boot o past; last_run = n }))
            (sym (ap (λ x. last_run_after LostOld x (last_run o past)) d.is))
            (subst (λ bs. Says bs (record { boot = boot o past; last_run = last_run o past })) (sym same) stands.durable);
        keeps = subst (λ l. MachineIs new.machine (now o l)) (sym (ap (λ b. if b then past else shown_entries past) d.on))
            (subst (λ m. MachineIs m (now o past)) (sym u.3) k);
      };
    }
    by_bytes (inr new_bytes) = record {
      cause = u.0;
      free = free_of o past e run s d;
      addition = s;
      makes_one = d.is;
      left = LostNew;
      lost = refl;
      bytes_are = new_bytes ∙ ap spelling (to_note o past e run s old.machine.boot LostNew refl k.boot_is d);
      stands = record {
        on = u.2 ∙ sym (ap (λ b. not (b && false)) d.on);
        durable = subst (λ n. Says (note new.durable.notes).bytes (record { boot = boot o past; last_run = n }))
            (sym (ap (λ x. last_run_after LostNew x (last_run o past)) d.is ∙ d.run_is))
            (new_says (note old.durable.notes).bytes (boot o past) old.machine.boot (last_run o past) run stands.durable k.boot_is fits
            (note new.durable.notes).bytes new_bytes);
        keeps = subst (λ l. MachineIs new.machine (now o l)) (sym (ap (λ b. if b then past else shown_entries past) d.on))
            (subst (λ m. MachineIs m (now o past)) (sym u.3) k);
      };
    }

ends : {T : Type 0} (note : T → Note) (old new : PacketServer T) (o : Opening) (past : List Entry) (e : PacketInput) (run : ℕ) (s : Staged)
    (result : Result Outs Fault) → old.durable.down ≡ false → StandsFor note old o past → MachineIs old.machine (now o past) → run < 2 ^ 64 → IsStart o past e run s
    → IsSendable o past e → Starts note run old new result → Ends (steps note o) past e old new result
ends note old new o past e run s (Ok outs) up stands k fits d can p = begun note old new o past e run s outs up stands k fits d can p
ends note old new o past e run s (Err fault) up stands k fits d can u = unbegun note old new o past e run s (sort_of fault) fault up stands k fits d u

pub started : {T : Type 0} (note : T → Note) (old new : PacketServer T) (o : Opening) (past : List Entry) (e : PacketInput) (run : ℕ) (result : Result Outs Fault)
    → old.durable.down ≡ false → StandsFor note old o past → is_run run ≡ true
    → EachNow old.machine (λ words. IsDueFor words (request_of old.machine.me e) (Some run)) → Starts note run old new result → IsSendable o past e
    → Ends (steps note o) past e old new result
started note old new o past e run result up stands range is p can =
    let k = keeps_now note old o past up stands in
    let words = now o past in
    let d = is words k.1 in
    let asks : request_of o.me e ≡ ToStart run = ap (λ n. request_of n e) (sym k.1.me) ∙ d.0 in
    let found = there (due_by true words.last words.staged words.run (request_of old.machine.me e)) d.1 in
    let told : due_by true words.last words.staged words.run (ToStart run) ≡ Some found.0 =
    ap (due_by true words.last words.staged words.run) (sym d.0) ∙ found.1 in
    let fits = ltb-true run (2 ^ 64) (and_parts (nat_le 1 run) (is_word run) range).1 in
    ends note old new o past e run found.0 result up stands k.1 fits
    (record {
      on = k.0;
      asks = asks;
      is = ap (λ b. due_by b words.last words.staged words.run (request_of o.me e)) k.0 ∙ ap (due_by true words.last words.staged words.run) asks ∙ told;
      words = told;
      run_is = due_run words.last run words.staged words.run found.0 told;
    })
    can p
