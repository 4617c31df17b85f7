-- Nodes that are one trace hear a trace of packets, and hold one state of each job.
use Rattle.std.proofs.Common.{◌≡◌, refl, sym, ◌∙◌, ap, subst, ℕ, ◌≤◌, Bool, true, false, List, [], ◌∷◌, length, Some}
use Rattle.std.specs.Prelude.{◌++◌, ◌==◌, if◌then◌else◌}
use Rattle.disk_model.specs.declared.save_outcome.SaveOutcome.{SaveOutcome}
use Rattle.messages.specs.Hearing.{Coming, heard}
use Rattle.server_core.specs.History as server
use Rattle.server_core.specs.Accepted.{IsTaking}
use Rattle.server_core.specs.Taken.{takings}
use Rattle.server_core.specs.Check.{With, progress}
use Rattle.verify_state.specs.State.{State}
use Rattle.client_core.specs.History as client
use Rattle.client_core.specs.Words.{kept_state}
use Rattle.net_world.specs.Setup.{without_mirror}
use Rattle.net_world.specs.Trace.{Step, AtServer, AtClient, AtMirror, IsTrace, of_server, opening_of, client_opening}
use Rattle.net_world.specs.Frames.{at_server, at_client, trace_heard}
use Rattle.net_world.specs.FrameLaws.{NodesHearTheirOwn, OnlySentIsHeard}
use Rattle.net_world.specs.Holders.{ByClient}
use Rattle.net_world.specs.Exact.{IsBased}
use Rattle.net_world.specs.Claims.{OfEachList, OfEachTrace}
use Rattle.net_world.specs.Headline.{OneTaking, HeldIsTheTaken, CountsTheCompleted, QuietUntilTheCheck}
use Rattle.assembly.specs.Laws.{AssembledAreHeard, AssembledNodesHoldOneState}

-- Of a trace there is the part in which a server's list was this one, which isn't empty.
record IsOlder (n s : ℕ) (past : List server.Entry) : Type 0 where
  part : List Step
  legal : IsTrace (without_mirror n) part
  list : of_server s part ≡ past

tail : {X : Type 0} (x y : X) (xs ys : List X) → x ∷ xs ≡ y ∷ ys → xs ≡ ys
tail x y xs ys h = cc

older_at :
    (b : Bool) (n s r : ℕ) (e : server.Entry) (t : List Step) (later past : List server.Entry) →
    IsTrace (without_mirror n) (AtServer r e ∷ t) → (r == s) ≡ b →
    (if b then e ∷ of_server s t else of_server s t) ≡ later ++ past →
    ((front : List server.Entry) → of_server s t ≡ front ++ past → IsOlder n s past) → IsOlder n s past
older_at true n s r e t [] past legal at is rest = record {
  part = AtServer r e ∷ t;
  legal = legal;
  list = ap (λ b. if b then e ∷ of_server s t else of_server s t) at ∙ is;
}
older_at true n s r e t (x ∷ later) past legal at is rest =
    rest later (tail e x (of_server s t) (later ++ past) is)
older_at false n s r e t later past legal at is rest = rest later is

ends : (later past : List server.Entry) → [] ≡ later ++ past → past ≡ []
ends [] past h = sym h
ends (x ∷ later) past h = cc

older :
    (n s : ℕ) (t : List Step) (later past : List server.Entry) → IsTrace (without_mirror n) t →
    of_server s t ≡ later ++ past → (past ≡ [] → ⊥) → IsOlder n s past
older n s [] [] past legal is some = record { part = []; legal = legal; list = is }
older n s [] (x ∷ later) past legal is some =
    absurd (some (ends later past (tail _ x [] (later ++ past) is)))
older n s (AtServer r e ∷ t) later past legal is some =
    older_at (r == s) n s r e t later past legal refl is
    (λ front h. older n s t front past legal.0 h some)
older n s (AtClient e ∷ t) later past legal is some = older n s t later past legal.0 is some
older n s (AtMirror e ∷ t) later past legal is some = older n s t later past legal.0 is some

-- No job is checked in an empty list.
unchecked :
    (s j : ℕ) (state : State) (past : List server.Entry) →
    progress (opening_of s) past j ≡ Some (With state) → past ≡ [] → ⊥
unchecked s j state past h e =
    none (subst (λ (list : List server.Entry). progress (opening_of s) list j ≡ Some (With state)) e h)
  where
    none : progress (opening_of s) [] j ≡ Some (With state) → ⊥
    none h = cc

pub assembled_are_heard : OnlySentIsHeard → NodesHearTheirOwn → AssembledAreHeard
assembled_are_heard only own n frames servers list trace is = record {
  legal = only (without_mirror n) trace is.legal is.fits;
  servers_are =
      λ s. (own (without_mirror n) trace).servers s ∙ ap (λ (past : List (Coming server.Entry SaveOutcome)). (heard (at_server s) past).entries) (is.servers_are s);
  client_is = (own (without_mirror n) trace).client ∙ ap
      (λ (past : List (Coming client.Entry SaveOutcome)). (heard (at_client (without_mirror n)) past).entries) is.client_is;
}

-- The verdict theorem of all traces.
pub record Laws : Type 0 where
  pub once : OfEachList OneTaking
  pub held : OfEachTrace HeldIsTheTaken
  pub counted : OfEachTrace CountsTheCompleted
  pub quiet : OfEachTrace QuietUntilTheCheck

pub hold_one_state : Laws → AssembledAreHeard → AssembledNodesHoldOneState
hold_one_state laws are n frames servers list trace is =
    let heard = are n frames servers list trace is in
    let t = trace_heard (without_mirror n) trace in
    record {
      once = λ key. subst (λ (past : List server.Entry). length (takings (opening_of key.server) key.run key.job past) ≤ 1) (heard.servers_are key.server)
          (laws.once (without_mirror n) t key);
      keeps = λ key state h. ByClient (subst (λ (past : List client.Entry). kept_state (client_opening (without_mirror n)) past key ≡ Some state)
          (sym heard.client_is) h);
      held = λ key state h. subst (λ (past : List server.Entry). takings (opening_of key.server) key.run key.job past ≡ state ∷ [])
          (heard.servers_are key.server) (laws.held (without_mirror n) t heard.legal key state h);
      counted = λ key state h. subst (λ (past : List server.Entry). IsTaking (opening_of key.server) key.run key.job past state) (heard.servers_are key.server)
          (laws.counted (without_mirror n) t heard.legal key state h);
      quiet = λ s j state later past split h.
          let split_heard = heard.servers_are s ∙ split in
          let part = older n s t later past heard.legal split_heard (unchecked s j state past h) in
          let checked = subst (λ (list : List server.Entry). progress (opening_of s) list j ≡ Some (With state)) (sym part.list) h in
          subst (λ (list : List server.Entry). IsBased s j list state) part.list
          (laws.quiet (without_mirror n) part.part part.legal s j state checked);
    }
