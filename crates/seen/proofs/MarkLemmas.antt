-- A server asks for its cut where a mark comes to it: the entry of the cut, and its request.
use Rattle.std.proofs.Common.{◌≡◌, refl, sym, ◌∙◌, ap, ◌⊎◌, inl, inr, ℕ, Bool, true, false, ◌&&◌, List, [], ◌∷◌, ◌++◌, length, Option, Some, None, Ok}
use Rattle.std.specs.Prelude.{if◌then◌else◌, ◌==◌, not}
use Rattle.std.specs.List.{list_all}
use Rattle.std.specs.Option.{option_map}
use Rattle.std.proofs.lemmas.Bool.{and_parts, eqb-true, eq-eqb}
use Rattle.fc_base.specs.Counted.{has, numbers_below}
use Rattle.disk_model.specs.declared.save_outcome.SaveOutcome.{SaveOutcome}
use Rattle.disk_model.specs.SaveOutcome.{is_lost}
use Rattle.messages.specs.declared.refusal.Act.{Act}
use Rattle.messages.specs.declared.refusal.Act.TheVariants as acts
use Rattle.messages.specs.Hearing.{Coming, entry_of, heard}
use Rattle.server_core.specs.Inputs.{PacketInput}
use Rattle.server_core.specs.History as server
use Rattle.server_core.specs.History.{Entry}
use Rattle.server_core.specs.Request.{Request, ToStage, ToStart, ToTrigger, ToMark, ToStop, ToVerify, ToHold, ToPassFully, ToIssue, ToEnd, ToReport, ToNobody}
use Rattle.server_core.specs.Run.{Work, Halt, halt_of}
use Rattle.server_core.specs.Run as runs
use Rattle.server_core.specs.Answers.{marks_by, marks, is_marked, wants_cut, completes, act_of}
use Rattle.server_core.specs.Answers as servers
use Rattle.server_core.specs.Laws.{CutsWhenKept}
use Rattle.client_core.specs.History as client
use Rattle.net_world.specs.declared.told.Told.{Told}
use Rattle.net_world.specs.Setup.{Setup}
use Rattle.net_world.specs.Happenings.{Happening}
use Rattle.net_world.specs.Trace.{Step, AtServer, AtClient, opening_of}
use Rattle.net_world.specs.Frames as frames
use Rattle.net_world.specs.Frames.{OfServer, OfClient, OfMirror, at_server, at_client}
use Rattle.net_world.specs.Changes.{Met, Landed, Rotted, steps, trace}
use Rattle.net_world.specs.Outcomes.{Outcome, Does, Refuses, Drops, outcome}
use Rattle.net_world.specs.World as worlds
use Rattle.net_world.specs.World.{world, told_by}
use Rattle.seen.proofs.EntryLemmas.{step_in, entry_by}
use Rattle.seen.proofs.PlaceLemmas.{list_at, entry_now}
use Rattle.seen.proofs.QuietLemmas.{TakingLaws}

-- The laws on which this rests.
pub record CutLaws : Type 0 where
  pub taking : TakingLaws
  pub cuts : CutsWhenKept

-- ---- the request that completes a run is a mark

cut_if : (b : Bool) → (if b then acts.Cut else acts.None) ≡ acts.Cut → b ≡ true
cut_if true h = refl
cut_if false h = absurd cc

unlike : (a b : Bool) → (not a && b) ≡ true → a ≡ b → ⊥
unlike true b h e = cc
unlike false true h e = cc
unlike false false h e = cc

-- Only a mark adds to the marks.
adds_mark : (w : Work) (x : Request) → (marks_by (halt_of w.run w.since) w.run x ≡ [] → ⊥) → (j : ℕ) × (x ≡ ToMark w.run j)
adds_mark w x f = by (halt_of w.run w.since) x f
  where
    mark_if : (t : Bool) (r j : ℕ) → (r ≡ w.run ⊎ (t ≡ false)) → ((if t then j ∷ [] else []) ≡ [] → ⊥) → (i : ℕ) × (ToMark r j ≡ ToMark w.run i)
    mark_if true r j (inl e) g = (j, ap (λ n. ToMark n j) e)
    mark_if true r j (inr e) g = absurd cc
    mark_if false r j e g = absurd (g refl)

    run_or : (r : ℕ) (t : Bool) → (r == w.run) ≡ t → (r ≡ w.run) ⊎ (t ≡ false)
    run_or r true e = inl (eqb-true r w.run e)
    run_or r false e = inr refl

    by : (h : Option Halt) (y : Request) → (marks_by h w.run y ≡ [] → ⊥) → (j : ℕ) × (y ≡ ToMark w.run j)
    by (Some (runs.Triggered act before)) (ToMark r j) g = mark_if (r == w.run) r j (run_or r (r == w.run) refl) g
    by (Some (runs.Triggered act before)) (ToStage r text) g = absurd (g refl)
    by (Some (runs.Triggered act before)) (ToStart r) g = absurd (g refl)
    by (Some (runs.Triggered act before)) (ToTrigger r a) g = absurd (g refl)
    by (Some (runs.Triggered act before)) (ToStop r) g = absurd (g refl)
    by (Some (runs.Triggered act before)) (ToVerify r a text) g = absurd (g refl)
    by (Some (runs.Triggered act before)) (ToHold a state) g = absurd (g refl)
    by (Some (runs.Triggered act before)) (ToPassFully a j) g = absurd (g refl)
    by (Some (runs.Triggered act before)) (ToIssue j) g = absurd (g refl)
    by (Some (runs.Triggered act before)) (ToEnd ticket end) g = absurd (g refl)
    by (Some (runs.Triggered act before)) (ToReport b a j report) g = absurd (g refl)
    by (Some (runs.Triggered act before)) ToNobody g = absurd (g refl)
    by (Some runs.Stopped) y g = absurd (g refl)
    by None y g = absurd (g refl)

completing : (w : Work) (x : Request) → completes w x ≡ true → (j : ℕ) × (x ≡ ToMark w.run j)
completing w x h =
    let more = record w { since = x ∷ w.since } in
    let p = and_parts (wants_cut (halt_of w.run w.since)) (not (is_marked w) && is_marked more) h in
    adds_mark w x (λ none. unlike (is_marked w) (is_marked more) p.1
    (ap (λ ms. list_all (has (ms ++ marks w.run w.since)) (numbers_below (length w.jobs))) (sym none)))

pub cut_is_mark : (w : Option Work) (x : Request) → act_of w x ≡ acts.Cut → (v : Work) × (w ≡ Some v) × ((j : ℕ) × (x ≡ ToMark v.run j))
cut_is_mark None x h = absurd cc
cut_is_mark (Some w) x h = (w, refl, completing w x (cut_if (completes w x) h))

-- ---- the entry of the cut

-- The entry with which a server asks for its cut.
pub record AsksCut (w : Setup) (evs : List Happening) (e : Happening) : Type 0 where
  pub s : ℕ
  pub x : PacketInput
  pub left : SaveOutcome
  pub heard_it : entry_now w s evs e ≡ Some (server.Met x left)
  pub asks : servers.act (opening_of s) (list_at w s evs) x ≡ acts.Cut

act_if : (b : Bool) (a : Act) → (if b then acts.None else a) ≡ acts.Cut → a ≡ acts.Cut
act_if true a h = absurd cc
act_if false a h = h

pub own : (s : ℕ) (x : Option Entry) → (if s == s then x else None) ≡ x
own s x = by (s == s) (eq-eqb s s refl)
  where
    by : (b : Bool) → b ≡ true → (if b then x else None) ≡ x
    by true e = refl
    by false e = absurd cc

-- What a server asks in a step that it hears so.
asked_at : (w : Setup) (evs : List Happening) (e : Happening) (s : ℕ) (c : Coming Entry SaveOutcome) (y : Option Entry)
    → outcome w (world w evs) e ≡ Does (Met (OfServer s c)) → entry_of (at_server s) (heard (at_server s) (frames.of_server s (steps (world w evs)))) c ≡ y
    → worlds.act_of (trace w (world w evs)) (option_map (AtServer s) y) ≡ acts.Cut → AsksCut w evs e
asked_at w evs e s c None does is h = absurd cc
asked_at w evs e s c (Some (server.Met x left)) does is h =
    record {
      s = s;
      x = x;
      left = left;
      heard_it = ap (λ (r : Outcome). entry_by s (steps (world w evs)) (step_in r)) does
          ∙ own s (entry_of (at_server s) (heard (at_server s) (frames.of_server s (steps (world w evs)))) c) ∙ is;
      asks = act_if (is_lost left) (servers.act (opening_of s) (list_at w s evs) x) h;
    }
asked_at w evs e s c (Some server.Cut) does is h = absurd cc
asked_at w evs e s c (Some (server.Restart left)) does is h = absurd cc

by_client : (t : List Step) (y : Option client.Entry) → worlds.act_of t (option_map AtClient y) ≡ acts.Cut → ⊥
by_client t None h = cc
by_client t (Some y) h = cc

pub asks_cut : (w : Setup) (evs : List Happening) (e : Happening) (r : Outcome) (t : Told) → outcome w (world w evs) e ≡ r → told_by w (world w evs) e r ≡ Ok t
    → t.act ≡ acts.Cut → AsksCut w evs e
asks_cut w evs e (Does (Met (OfServer s c))) t is told cut =
    let act : t.act ≡ worlds.act w (world w evs) (Met (OfServer s c)) = cc in
    asked_at w evs e s c (entry_of (at_server s) (heard (at_server s) (frames.of_server s (steps (world w evs)))) c) is refl (sym act ∙ cut)
asks_cut w evs e (Does (Met (OfClient c))) t is told cut =
    let act : t.act ≡ worlds.act w (world w evs) (Met (OfClient c)) = cc in
    absurd (by_client (trace w (world w evs)) (entry_of (at_client w) (heard (at_client w) (frames.of_client w (steps (world w evs)))) c) (sym act ∙ cut))
asks_cut w evs e (Does (Met (OfMirror m))) t is told cut =
    let act : t.act ≡ worlds.act w (world w evs) (Met (OfMirror m)) = cc in
    let both : acts.None ≡ acts.Cut = sym act ∙ cut in
    absurd cc
asks_cut w evs e (Does (Landed s j k mask)) t is told cut =
    let act : t.act ≡ acts.None = cc in
    let both : acts.None ≡ acts.Cut = sym act ∙ cut in
    absurd cc
asks_cut w evs e (Does (Rotted s j sector bytes)) t is told cut =
    let act : t.act ≡ acts.None = cc in
    let both : acts.None ≡ acts.Cut = sym act ∙ cut in
    absurd cc
asks_cut w evs e (Refuses fault) t is told cut = absurd cc
asks_cut w evs e (Drops step) t is told cut = absurd cc
