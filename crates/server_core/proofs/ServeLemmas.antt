-- A server takes an input as its list does.
use Rattle.std.proofs.Common.{◌≡◌, ◌⊎◌, inl, inr, refl, sym, ap, subst, ◌∙◌, ℕ, Bool, true, false, ◌&&◌, List, ◌∷◌, Option, None, Some}
use Rattle.std.specs.Prelude.{if◌then◌else◌, not, is_some, Result, Ok, Err}
use Rattle.std.specs.List.{AllByRecursion, flat_map}
use Rattle.fc_base.specs.declared.fault.Fault.{Fault}
use Rattle.fc_base.specs.declared.fault.Fault.TheVariants.{NoMemory, Down}
use Rattle.fc_base.specs.declared.fault.FaultSort.TheVariants as sorts
use Rattle.fc_base.specs.Fault.{sort_of}
use Rattle.disk_model.specs.declared.save_outcome.SaveOutcome.TheVariants.{NoSave}
use Rattle.disk_model.specs.SaveOutcome.{saved_for}
use Rattle.disk_model.specs.Notes.{Note}
use Rattle.node.specs.Steps.{LeavesNote, Faults, Ends}
use Rattle.messages.specs.FramesOf.{spelled_frames}
use Rattle.messages.specs.Laws.{IsPacket}
use Rattle.server_core.specs.Inputs.{PacketInput}
use Rattle.server_core.specs.declared.machine.Machine.{Machine}
use Rattle.server_core.specs.declared.outs.Outs.{Outs}
use Rattle.server_core.specs.declared.packet_server.PacketServer.{PacketServer}
use Rattle.server_core.specs.History.{Opening, Entry, Met}
use Rattle.server_core.specs.Note.{Says, spelling}
use Rattle.server_core.specs.Request.{Request, ToStage, ToStart, ToTrigger, ToMark, ToStop, ToVerify}
use Rattle.server_core.specs.Request.{ToHold, ToPassFully, ToIssue, ToEnd, ToReport, ToNobody, request_of}
use Rattle.server_core.specs.Words.{is_on, boot, last_run, words_noted, due, due_by}
use Rattle.server_core.specs.Replies.{Now, replies}
use Rattle.server_core.specs.Answers.{now, refusal, refusal_of, refused_by, packets, to_client, sent_by, shown_entries}
use Rattle.server_core.specs.Handles.{Handled, EachUndue}
use Rattle.server_core.specs.Stands.{MachineIs, EachNow}
use Rattle.server_core.specs.WordsAfter.{IsDueFor, words_after}
use Rattle.server_core.specs.Bounds.{AreShort, FramesAreShort}
use Rattle.server_core.specs.Laws.{PacketsAreInRange}
use Rattle.server_core.specs.Ranges.{IsInRange, OpensInRange, CameInRange}
use Rattle.server_core.specs.Ends.{StandsFor, steps, answered_entry}
use Rattle.server_core.proofs.WorkLemmas.{unsaved}
use Rattle.server_core.proofs.Looked.{looked_on}
use Rattle.server_core.proofs.FollowLemmas.{follows}
use Rattle.server_core.proofs.RefusedLemmas.{refused_stays}

is_up : (b : Bool) → false ≡ not b → b ≡ true
is_up true e = refl
is_up false e = cc

-- What a server that is on keeps is kept of the words behind its list.
pub keeps_now : {T : Type 0} (note : T → Note) (server : PacketServer T) (o : Opening) (past : List Entry) → server.durable.down ≡ false → StandsFor note server o past
    → (is_on past ≡ true) × MachineIs server.machine (now o past)
keeps_now note server o past up s =
    let on = is_up (is_on past) (sym up ∙ s.on) in
    (on, subst (λ p. MachineIs server.machine (now o p)) (looked_on past on) s.keeps)

-- It stands for the list with an input that made no save, where it keeps what is kept of the words behind it.
pub stands_with : {T : Type 0} (note : T → Note) (server : PacketServer T) (m : Machine) (o : Opening) (past : List Entry) (e : PacketInput) → server.durable.down ≡ false
    → StandsFor note server o past → is_on past ≡ true → due o past e ≡ None
    → MachineIs m (words_after (now o past) (request_of o.me e))
    → StandsFor note (record { durable = server.durable; machine = m }) o (Met e NoSave ∷ past)
stands_with note server m o past e up s on none k = record {
  on = up ∙ sym (ap (λ b. not (b && true)) on);
  durable = subst (λ n. Says (note server.durable.notes).bytes (record { boot = boot o past; last_run = n }))
      (sym (unsaved (due o past e) (last_run o past))) s.durable;
  keeps = subst (λ p. MachineIs m (now o p)) (sym (ap (λ b. if b then Met e NoSave ∷ past else shown_entries past) on))
      (subst (λ n. MachineIs m n) (sym (follows o past e on none)) k);
}

-- ---- refusals

refused_sort : (s t : Bool) (fault : Fault) → refused_by s t ≡ Some fault → sort_of fault ≡ sorts.Refusal
refused_sort false t fault e = ap sort_of (some_is e)
  where
    some_is : {a : Fault} → Some a ≡ Some fault → fault ≡ a
    some_is e = cc
refused_sort true false fault e = ap sort_of (some_is e)
  where
    some_is : {a : Fault} → Some a ≡ Some fault → fault ≡ a
    some_is e = cc
refused_sort true true fault e = cc

refusal_sort : (words : Now) (x : Request) (fault : Fault) → refusal_of words x ≡ Some fault → sort_of fault ≡ sorts.Refusal
refusal_sort words ToNobody fault e = ap sort_of (some_is e)
  where
    some_is : {a : Fault} → Some a ≡ Some fault → fault ≡ a
    some_is e = cc
refusal_sort words (ToEnd ticket end) fault e = refused_sort _ _ fault e
refusal_sort words (ToReport b a j r) fault e = refused_sort _ _ fault e
refusal_sort words (ToStage r text) fault e = cc
refusal_sort words (ToStart r) fault e = cc
refusal_sort words (ToTrigger r act) fault e = cc
refusal_sort words (ToMark r j) fault e = cc
refusal_sort words (ToStop r) fault e = cc
refusal_sort words (ToVerify r a text) fault e = cc
refusal_sort words (ToHold a state) fault e = cc
refusal_sort words (ToPassFully a j) fault e = cc
refusal_sort words (ToIssue j) fault e = cc

-- ---- what is sent

-- What is known of all that a server sends in answer to this input.
pub record IsSendable (o : Opening) (past : List Entry) (e : PacketInput) : Type 0 where
  pub short : OpensInRange o → CameInRange past → AreShort (flat_map spelled_frames (packets o past (answered_entry o past e)))
  pub ranges : OpensInRange o → CameInRange past → AllByRecursion IsPacket (packets o past (answered_entry o past e))

pub sendable : FramesAreShort → PacketsAreInRange → (o : Opening) (past : List Entry) (e : PacketInput) → IsInRange e → IsSendable o past e
sendable frames ranges o past e h = record {
  short = λ i k. frames o past (answered_entry o past e) i (h, k);
  ranges = λ i k. ranges o past (answered_entry o past e) i (h, k);
}

-- ---- an input that is not due to record a run

ends : {T : Type 0} (note : T → Note) (server : PacketServer T) (m : Machine) (o : Opening) (past : List Entry) (e : PacketInput) (result : Result Outs Fault)
    → server.durable.down ≡ false → StandsFor note server o past → is_on past ≡ true → MachineIs server.machine (now o past)
    → due o past e ≡ None → IsSendable o past e → Handled (now o past) (request_of o.me e) server.machine m result
    → Ends (steps note o) past e server (record { durable = server.durable; machine = m }) result
ends note server m o past e (Ok outs) up s on k none can a =
    let free : refusal o past e ≡ None = ap (λ b. if b then refusal_of (now o past) (request_of o.me e) else Some Down) on ∙ a.free in
    let frames : outs.frames ≡ flat_map spelled_frames (packets o past (answered_entry o past e)) =
    a.frames_are ∙ ap (λ r. flat_map spelled_frames (to_client o.me (sent_by false r (replies (now o past) (request_of o.me e))))) (sym free)
    ∙ ap (λ d. flat_map spelled_frames (packets o past (Met e (saved_for d)))) (sym none) in
    record {
      free = free;
      sends = record {
        frames_are = frames;
        issue_is = a.issue_is;
        act_is = a.act_is;
        short = λ i h. subst AreShort (sym frames) (can.short i h);
        ranges = can.ranges;
      };
      leaves = subst (λ d. LeavesNote d (spelling (words_noted o (answered_entry o past e ∷ past))) (note server.durable.notes) (note server.durable.notes)) (sym none) refl;
      stands = subst (λ d. StandsFor note (record { durable = server.durable; machine = m }) o (Met e (saved_for d) ∷ past)) (sym none)
          (stands_with note server m o past e up s on none a.left);
    }
ends note server m o past e (Err fault) up s on k none can u = by_why u.why
  where
    unchanged : StandsFor note (record { durable = server.durable; machine = m }) o past
    unchanged = record { on = s.on; durable = s.durable; keeps = subst (λ x. MachineIs x (now o (shown_entries past))) (sym u.same) s.keeps }

    by_why : (fault ≡ NoMemory) ⊎ (refusal_of (now o past) (request_of o.me e) ≡ Some fault)
        → Faults (steps note o) past e (sort_of fault) fault server (record { durable = server.durable; machine = m })
    by_why (inl w) = subst (λ t. Faults (steps note o) past e t fault server (record { durable = server.durable; machine = m }))
        (sym (ap sort_of w)) (record { why = w; same_note = refl; unchanged = unchanged })
    by_why (inr w) =
        subst (λ t. Faults (steps note o) past e t fault server (record { durable = server.durable; machine = m }))
        (sym (refusal_sort (now o past) (request_of o.me e) fault w))
        (record {
          why = ap (λ b. if b then refusal_of (now o past) (request_of o.me e) else Some Down) on ∙ w;
          same_note = refl;
          unchanged = unchanged;
          stands = stands_with note server m o past e up s on none
              (refused_stays m (now o past) (request_of o.me e) fault (subst (λ x. MachineIs x (now o past)) (sym u.same) k) w);
        })

pub taken : {T : Type 0} (note : T → Note) (server : PacketServer T) (m : Machine) (o : Opening) (past : List Entry) (e : PacketInput) (result : Result Outs Fault)
    → server.durable.down ≡ false → StandsFor note server o past
    → EachNow server.machine (λ words. IsDueFor words (request_of server.machine.me e) None)
    → EachUndue server.machine (request_of server.machine.me e) (λ words. Handled words (request_of server.machine.me e) server.machine m result)
    → ((o : Opening) (past : List Entry) → IsSendable o past e)
    → Ends (steps note o) past e server (record { durable = server.durable; machine = m }) result
taken note server m o past e result up s undue handled can =
    let k = keeps_now note server o past up s in
    let me = k.1.me in
    let words = now o past in
    let none : due o past e ≡ None = ap (λ b. due_by b words.last words.staged words.run (request_of o.me e)) k.0
    ∙ ap (λ n. due_by true words.last words.staged words.run (request_of n e)) (sym me) ∙ undue words k.1 in
    ends note server m o past e result up s k.0 k.1 none (can o past)
    (subst (λ n. Handled words (request_of n e) server.machine m result) me (handled words k.1 (undue words k.1)))

-- ---- whether a packet would make a save

is_due_at : (words : Now) (x : Request) (run : Option ℕ) → IsDueFor words x run → is_some run ≡ is_some (due_by true words.last words.staged words.run x)
is_due_at words x None d = ap is_some (sym d)
is_due_at words x (Some r) d = sym d.1

pub saves_where_due : {T : Type 0} (note : T → Note) (server : PacketServer T) (o : Opening) (past : List Entry) (e : PacketInput) (run : Option ℕ)
    → server.durable.down ≡ false → StandsFor note server o past
    → EachNow server.machine (λ words. IsDueFor words (request_of server.machine.me e) run) → is_some run ≡ is_some (due o past e)
saves_where_due note server o past e run up s d =
    let k = keeps_now note server o past up s in
    let words = now o past in
    is_due_at words (request_of server.machine.me e) run (d words k.1)
    ∙ ap (λ n. is_some (due_by true words.last words.staged words.run (request_of n e))) k.1.me
    ∙ ap (λ b. is_some (due_by b words.last words.staged words.run (request_of o.me e))) (sym k.0)
