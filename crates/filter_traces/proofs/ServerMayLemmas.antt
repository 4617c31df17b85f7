-- What comes to a server of a fleet may come.
use Rattle.std.proofs.Common.{◌≡◌, refl, sym, ◌∙◌, ap, inl, inr, ℕ, Bool, true, false, List, [], ◌∷◌, ◌++◌, length, Option, Some, None, Result, Ok, Err, append_assoc}
use Rattle.std.specs.Prelude.{IfSome, ◌==◌, nat_lt, take, drop, if◌then◌else◌}
use Rattle.std.specs.List.{AllByRecursion}
use Rattle.fc_base.specs.declared.fault.Fault.{Fault}
use Rattle.fc_base.specs.declared.fault.Fault.TheVariants.{NotInFlight}
use Rattle.fc_base.specs.declared.report.ReportParts.{ReportParts}
use Rattle.disk_model.specs.declared.save_outcome.SaveOutcome.{SaveOutcome}
use Rattle.disk_model.specs.declared.save_outcome.SaveOutcome.TheVariants.{NoSave, Saved}
use Rattle.disk_model.specs.SaveOutcome.{saved_for}
use Rattle.engine.specs.declared.issue.Ticket.{Ticket}
use Rattle.messages.specs.declared.frame.Frame.{Frame}
use Rattle.messages.specs.declared.node.Node.TheVariants.{Server}
use Rattle.messages.specs.FrameBytes.{frame_at, frame_faults}
use Rattle.server_core.specs.Inputs.{FrameInput}
use Rattle.server_core.specs.declared.input.Input.TheVariants as inputs
use Rattle.server_core.specs.declared.input.WriteEnd.{WriteEnd}
use Rattle.server_core.specs.declared.input.WriteEnd.TheVariants as ends
use Rattle.server_core.specs.History.{Opening}
use Rattle.server_core.specs.OpenWrites.{open_write}
use Rattle.server_core.specs.Hearing.{FrameEntry, Met, Cut, Restart, packets_heard}
use Rattle.server_core.specs.Answers.{shown_entries}
use Rattle.server_core.specs.FrameAnswers.{refusal, due}
use Rattle.net_world.specs.Trace.{opening_of}
use Rattle.filters.specs.declared.kinds.InRecordKind.{InRecordKind}
use Rattle.filters.specs.declared.kinds.InRecordKind.TheVariants as told
use Rattle.filters.specs.Kinds.{told_numbered}
use Rattle.filters.specs.UnderWay.{UnderWay, report_before, with_blocks}
use Rattle.filters.specs.ServerAt.{ServerAt, at_by, with_check}
use Rattle.filters.specs.ServerTurns.{Turn, Asks, Begins, GoesOn, TakesTurn, TellsBy, TellsReport}
use Rattle.filters.specs.ServerChecks.{FeedsBy, FeedsIf, GivesUpBy, GivesUpIf, block_in, named, named_with_block}
use Rattle.filters.specs.ServerLives.{EndsBy, TakesBody, TakesBy, TakesKind, frame_in}
use Rattle.filters.specs.ServerLives.{write_in, end_in, end_of_open}
use Rattle.filters.specs.declared.names.BlockName.{BlockName}
use Rattle.filters.specs.declared.names.TheConstants.{BLOCK_NAME}
use Rattle.filters.specs.Lives.{Lives}
use Rattle.filters.specs.NodeCuts.{CutsAnswer}
use Rattle.filter_traces.specs.Members.{Happening, Answers, Ends, EndsWithin, Becomes, ServerBegins, server_member}
use Rattle.filter_traces.proofs.MayLemmas.{GoesTo, ServerMay, frame_if, frame_read}

-- What was added to the list of a server may come there.
pub record Added (s : ℕ) (sent : List Frame) (old new : ServerAt) : Type 0 where
  pub more : List FrameEntry
  pub list_is : new.list ≡ more ++ old.list
  pub may : AllByRecursion (ServerMay s sent) more

-- What a body asks may come, whatever its save leaves.
abbrev AskedMay : ℕ → List Frame → Result FrameInput Fault → Type 0
AskedMay s sent (Ok e) = (left : SaveOutcome) → ServerMay s sent (Met e left)
AskedMay s sent (Err why) = Unit {0}

none_more : (s : ℕ) (sent : List Frame) (old new : ServerAt) → new ≡ old → Added s sent old new
none_more s sent old new is = record { more = []; list_is = ap (λ (c : ServerAt). c.list) is; may = tt }

-- ---- what is asked

frame_may : (s : ℕ) (sent : List Frame) (faults : List Fault) (x : Option Frame) → IfSome x (GoesTo sent (Server s)) → AskedMay s sent (frame_in faults x)
frame_may s sent [] (Some f) h = λ left. h
frame_may s sent [] None h = tt
frame_may s sent (fault ∷ faults) x h = tt

open_may : (s : ℕ) (sent : List Frame) (end : WriteEnd) (run : ℕ) (x : Option Ticket) → AskedMay s sent (end_of_open end run x)
open_may s sent end run None = tt
open_may s sent end run (Some ticket) = by_run (ticket.key.run == run)
  where
    by_run : (b : Bool) → AskedMay s sent (if b then Ok (inputs.WriteDone ticket end) else Err NotInFlight)
    by_run true = λ left. tt
    by_run false = tt

-- What is asked by something, if it is there.
each_may : {T : Type 0} (s : ℕ) (sent : List Frame) (asks : Option T → Result FrameInput Fault) → AskedMay s sent (asks None)
    → ((t : T) → AskedMay s sent (asks (Some t))) → (x : Option T) → AskedMay s sent (asks x)
each_may s sent asks none some None = none
each_may s sent asks none some (Some t) = some t

end_may : (o : Opening) (past : List FrameEntry) (s : ℕ) (sent : List Frame) (end : WriteEnd) (body : List ℕ) → AskedMay s sent (end_in o past end (write_in body))
end_may o past s sent end body =
    each_may s sent (end_in o past end) tt
    (λ name. open_may s sent end name.run (open_write o (shown_entries (packets_heard o past)) name.job name.seq)) (write_in body)

-- ---- what it adds

added_to : (s : ℕ) (sent : List Frame) (at before now : ServerAt) → Added s sent at before → Added s sent before now → Added s sent at now
added_to s sent at before now a b = record {
  more = b.more ++ a.more;
  list_is = b.list_is ∙ (ap (λ list. b.more ++ list) a.list_is ∙ sym (append_assoc b.more a.more at.list));
  may = both b.more b.may;
}
  where
    both : (more : List FrameEntry) → AllByRecursion (ServerMay s sent) more → AllByRecursion (ServerMay s sent) (more ++ a.more)
    both [] h = a.may
    both (c ∷ more) h = (h.0, both more h.1)

module _ (o : Opening) (s : ℕ) (sent : List Frame) where
  by_adds : (why : Option Fault) (e : FrameInput) (at now : ServerAt) → ((left : SaveOutcome) → ServerMay s sent (Met e left)) → now ≡ at_by why o at e → Added s sent at now
  by_adds None e at now may is = record {
    more = Met e (saved_for (due o at.list e)) ∷ [];
    list_is = ap (λ (c : ServerAt). c.list) is;
    may = (may (saved_for (due o at.list e)), tt);
  }
  by_adds (Some fault) e at now may is =
      record { more = Met e NoSave ∷ []; list_is = ap (λ (c : ServerAt). c.list) is; may = (may NoSave, tt) }

  -- What is told of a check.
  tells_adds : (why : Option Fault) (e : FrameInput) (at now : ServerAt) (end : Result (Unit {0}) Fault) (answer : List ℕ)
      → ((left : SaveOutcome) → ServerMay s sent (Met e left)) → TellsBy why o at e end now answer → Added s sent at now
  tells_adds None e at now end answer may (ends, (is, said)) = by_adds None e at now may is
  tells_adds (Some fault) e at now end answer may (ends, (is, said)) = by_adds (Some fault) e at now may is

  report_adds : (at : ServerAt) (j : ℕ) (u : UnderWay) (r : ReportParts) (end : Result (Unit {0}) Fault) (now : ServerAt) (answer : List ℕ)
      → TellsReport o at j u r end now answer → Added s sent at now
  report_adds at j u r end now answer (fits, inl tells) =
      let before : ServerAt = with_check j None at in
      let e : FrameInput = inputs.CheckDone u.boot u.attempt j r in
      let a = tells_adds (refusal o at.list e) e before now end answer (λ left. fits) tells in
      record { more = a.more; list_is = a.list_is; may = a.may }
  report_adds at j u r end now answer (fits, inr (fault, memory, ends, (is, said))) =
      record { more = []; list_is = ap (λ (c : ServerAt). c.list) is; may = tt }

  goes_adds : (at : ServerAt) (j : ℕ) (u : UnderWay) (end : Result (Unit {0}) Fault) (now : ServerAt) (answer : List ℕ)
      → GoesOn o at j u end now answer → Added s sent at now
  goes_adds at j u end now answer (inl (first, count, wants, ends, (is, said))) =
      record { more = []; list_is = ap (λ (c : ServerAt). c.list) is; may = tt }
  goes_adds at j u end now answer (inr (r, over, tells)) = report_adds at j u r end now answer tells

  turn_adds : (turn : Turn) (at now : ServerAt) (answer : List ℕ) → TakesTurn o at turn now answer → Added s sent at now
  turn_adds (Asks j) at now answer (is, said) = by_adds (refusal o at.list (inputs.Issue j)) (inputs.Issue j) at now (λ left. tt) is
  turn_adds (Begins j) at now answer begins = goes_adds at j begins.check begins.end now answer begins.goes

  turns_add : (turns : List Turn) (at now : ServerAt) (written : List ℕ) → Lives (TakesTurn o) at turns now written → Added s sent at now
  turns_add [] at now written (is, none) = none_more s sent at now is
  turns_add (turn ∷ turns) at now written more =
      added_to s sent at more.before now (turns_add turns at more.before more.earlier more.lived) (turn_adds turn more.before now more.answer more.takes)

  taken_adds : (why : Option Fault) (e : FrameInput) (at now : ServerAt) (answer : List ℕ) → ((left : SaveOutcome) → ServerMay s sent (Met e left))
      → TakesBy why o at e now answer → Added s sent at now
  taken_adds None e at now answer may follows =
      added_to s sent at (at_by None o at e) now (by_adds None e at (at_by None o at e) may refl)
      (turns_add follows.turns.0 (at_by None o at e) now follows.written follows.turns.1)
  taken_adds (Some fault) e at now answer may (is, said) = by_adds (Some fault) e at now may is

  body_adds : (asked : Result FrameInput Fault) (at now : ServerAt) (answer : List ℕ) → AskedMay s sent asked → TakesBody o at asked now answer
      → Added s sent at now
  body_adds (Ok e) at now answer may (inl takes) = taken_adds (refusal o at.list e) e at now answer may takes
  body_adds (Ok e) at now answer may (inr (fault, memory, (is, said))) = none_more s sent at now is
  body_adds (Err why) at now answer may (is, said) = none_more s sent at now is

  -- Blocks of a check that come, and one that couldn't be read.
  fed_adds : (u : Option UnderWay) (name : BlockName) (bytes : List ℕ) (end : Result (Unit {0}) Fault) (at now : ServerAt) (answer : List ℕ)
      → FeedsBy u o at name bytes end now answer → Added s sent at now
  fed_adds None name bytes end at now answer (ends, (is, said)) = none_more s sent at now is
  fed_adds (Some u) name bytes end at now answer (inl (given, wanted, goes)) = goes_adds at name.job (with_blocks u given bytes) end now answer goes
  fed_adds (Some u) name bytes end at now answer (inr (none, (ends, (is, said)))) = none_more s sent at now is

  feeds_adds : (short : Bool) (body : List ℕ) (end : Result (Unit {0}) Fault) (at now : ServerAt) (answer : List ℕ)
      → FeedsIf short o at body end now answer → Added s sent at now
  feeds_adds true body end at now answer (ends, (is, said)) = none_more s sent at now is
  feeds_adds false body end at now answer feeds =
      fed_adds (named o at (block_in (take BLOCK_NAME body))) (block_in (take BLOCK_NAME body)) (drop BLOCK_NAME body) end at now answer feeds

  given_up_adds : (u : Option UnderWay) (name : BlockName) (end : Result (Unit {0}) Fault) (at now : ServerAt) (answer : List ℕ)
      → GivesUpBy u o at name end now answer → Added s sent at now
  given_up_adds None name end at now answer (ends, (is, said)) = none_more s sent at now is
  given_up_adds (Some u) name end at now answer tells = report_adds at name.job u (report_before u name.block) end now answer tells

  gives_up_adds : (good : Bool) (body : List ℕ) (end : Result (Unit {0}) Fault) (at now : ServerAt) (answer : List ℕ)
      → GivesUpIf good o at body end now answer → Added s sent at now
  gives_up_adds false body end at now answer (ends, (is, said)) = none_more s sent at now is
  gives_up_adds true body end at now answer gives =
      given_up_adds (named_with_block o at (block_in body)) (block_in body) end at now answer gives

  ends_adds : (end : Result (Unit {0}) Fault) (front : List ℕ) (at now : ServerAt) (answer : List ℕ) → EndsBy end o at front now answer → Added s sent at now
  ends_adds (Ok taken) front at now answer follows = turns_add follows.turns.0 at now follows.written follows.turns.1
  ends_adds (Err fault) front at now answer (is, said) = none_more s sent at now is

  kind_adds : (kind : Option InRecordKind) (body : List ℕ) (at now : ServerAt) (answer : List ℕ) → IfSome (frame_if kind body) (GoesTo sent (Server s))
      → TakesKind o at kind body now answer → Added s sent at now
  kind_adds (Some told.Frame) body at now answer h takes =
      body_adds (frame_in (frame_faults body) (frame_at body)) at now answer (frame_may s sent (frame_faults body) (frame_at body) h) takes
  kind_adds (Some told.Done) body at now answer h takes =
      body_adds (end_in o at.list ends.Done (write_in body)) at now answer (end_may o at.list s sent ends.Done body) takes
  kind_adds (Some told.Failed) body at now answer h takes =
      body_adds (end_in o at.list ends.Failed (write_in body)) at now answer (end_may o at.list s sent ends.Failed body) takes
  kind_adds (Some told.Blocks) body at now answer h check =
      added_to s sent at check.mid now
      (feeds_adds (nat_lt (length body) BLOCK_NAME) body check.end at check.mid check.front check.comes)
      (ends_adds check.end check.front check.mid now answer check.ends)
  kind_adds (Some told.Unread) body at now answer h check =
      added_to s sent at check.mid now
      (gives_up_adds (length body == BLOCK_NAME) body check.end at check.mid check.front check.comes)
      (ends_adds check.end check.front check.mid now answer check.ends)
  kind_adds None body at now answer h (is, said) = none_more s sent at now is
  kind_adds (Some told.Note) body at now answer h (is, said) = none_more s sent at now is
  kind_adds (Some told.Begin) body at now answer h (is, said) = none_more s sent at now is
  kind_adds (Some told.Trigger) body at now answer h (is, said) = none_more s sent at now is
  kind_adds (Some told.Stop) body at now answer h (is, said) = none_more s sent at now is
  kind_adds (Some told.Verify) body at now answer h (is, said) = none_more s sent at now is
  kind_adds (Some told.Tick) body at now answer h (is, said) = none_more s sent at now is
  kind_adds (Some told.Look) body at now answer h (is, said) = none_more s sent at now is
  kind_adds (Some told.Show) body at now answer h (is, said) = none_more s sent at now is
  kind_adds (Some told.Ends) body at now answer h (is, said) = none_more s sent at now is

-- ---- a life that ends

begins_anew : (s : ℕ) (sent : List Frame) (at left now : ServerAt) → Added s sent at left → ServerBegins left now → Added s sent at now
begins_anew s sent at left now a (said, says, is) = record {
  more = Restart Saved ∷ (Cut ∷ a.more);
  list_is = ap (λ (c : ServerAt). c.list) is ∙ ap (λ list. Restart Saved ∷ (Cut ∷ list)) a.list_is;
  may = (tt, (tt, a.may));
}

left_adds : (s : ℕ) (sent : List Frame) (at after left : ServerAt) (part : List ℕ) → Added s sent at after → CutsAnswer (λ (c : ServerAt). c.note) at after part left
    → Added s sent at left
left_adds s sent at after left part a (inl (is, save)) =
    record { more = a.more; list_is = ap (λ (c : ServerAt). c.list) is ∙ a.list_is; may = a.may }
left_adds s sent at after left part a (inr (is, save)) = none_more s sent at left is

pub server_added : (s : ℕ) (sent : List Frame) (h : Happening) (at now : ServerAt) → IfSome (frame_read h) (GoesTo sent (Server s))
    → Becomes (server_member s) at h now → Added s sent at now
server_added s sent (Answers r answer) at now reads takes =
    kind_adds (opening_of s) s sent (told_numbered r.kind) r.body at now answer reads takes.0
server_added s sent Ends at now reads begins = begins_anew s sent at at now (none_more s sent at at refl) begins
server_added s sent (EndsWithin r part) at now reads cut =
    begins_anew s sent at cut.left now
    (left_adds s sent at cut.after cut.left part
    (kind_adds (opening_of s) s sent (told_numbered r.kind) r.body at cut.after (part ++ cut.rest) reads cut.takes.0) cut.within)
    cut.begins
