-- A server asks for the cut once the client has told of each job that its state is kept.
use Rattle.std.proofs.Common.{◌≡◌, refl, sym, ◌∙◌, subst, ◌⊎◌, inl, inr, ℕ, zero, suc, ◌<◌, ◌≤◌, arith}
use Rattle.std.proofs.Common.{Bool, true, false, ◌&&◌, ◌==◌, List, [], ◌∷◌, length, Option, None, Some}
use Rattle.std.specs.Prelude.{if◌then◌else◌, not, Contains}
use Rattle.std.specs.List.{list_all}
use Rattle.std.proofs.lemmas.Bool.{and_parts, or_cases, eqb-true, cases_lt}
use Rattle.std.proofs.lemmas.List.Folds.{list_any-append, list_all-append}
use Rattle.std.proofs.lemmas.List.Elements.{Contains-append_right}
use Rattle.fc_base.specs.Counted.{has, numbers_below}
use Rattle.messages.specs.declared.refusal.Act.TheVariants as acts
use Rattle.server_core.specs.Inputs.{PacketInput}
use Rattle.server_core.specs.History.{Opening, Entry}
use Rattle.server_core.specs.Request.{Request, ToStage, ToStart, ToTrigger, ToMark, ToStop, ToVerify}
use Rattle.server_core.specs.Request.{ToHold, ToPassFully, ToIssue, ToEnd, ToReport, ToNobody, request_of}
use Rattle.server_core.specs.Run.{Work, Halt, Triggered, Stopped, halt_of}
use Rattle.server_core.specs.Words.{work}
use Rattle.server_core.specs.Answers.{marks_by, marks, is_marked, wants_cut, completes, act_of, act}
use Rattle.server_core.specs.Heard.{heard_packets, AreStatesKept}
use Rattle.server_core.proofs.HeardLemmas.{WorkHeard, one_heard, work_heard}
use Rattle.fc_base.proofs.ListLemmas.{first_of}

all_below : (p : ℕ → Bool) (n : ℕ) → list_all p (numbers_below n) ≡ true → (j : ℕ) → j < n → p j ≡ true
all_below p zero h j l = absurd (omega arith)
all_below p (suc n) h j l =
    let parts = and_parts (list_all p (numbers_below n)) (list_all p (n ∷ [])) (sym (list_all-append p (numbers_below n) (n ∷ [])) ∙ h) in
    elim (below_or j n (omega arith)) [
      | inl a ↦ all_below p n parts.0 j a
      | inr b ↦ subst (λ i. p i ≡ true) (sym b) (and_parts (p n) true parts.1).0
    ]
  where
    below_or : (i m : ℕ) → i ≤ m → (i < m) ⊎ (i ≡ m)
    below_or i m le = elim (cases_lt i m) [ inl a ↦ inl a | inr b ↦ inr (omega arith) ]

mark_if : (t : Bool) (i j : ℕ) → has (if t then i ∷ [] else []) j ≡ true → (t ≡ true) × (i ≡ j)
mark_if true i j h = elim (or_cases (i == j) false h) [ inl a ↦ (refl, eqb-true i j a) | inr b ↦ absurd (no b) ]
  where
    no : false ≡ true → ⊥
    no b = cc
mark_if false i j h = cc

same_mark : (q i r j : ℕ) → q ≡ r → i ≡ j → ToMark q i ≡ ToMark r j
same_mark q i r j a b = cc

mark_of : (b : Option Halt) (run : ℕ) (x : Request) (j : ℕ) → has (marks_by b run x) j ≡ true → x ≡ ToMark run j
mark_of (Some (Triggered act before)) run (ToMark r i) j h = let p = mark_if (r == run) i j h in same_mark r i run j (eqb-true r run p.0) p.1
mark_of (Some (Triggered act before)) run (ToStage r text) j h = cc
mark_of (Some (Triggered act before)) run (ToStart r) j h = cc
mark_of (Some (Triggered act before)) run (ToTrigger r a) j h = cc
mark_of (Some (Triggered act before)) run (ToStop r) j h = cc
mark_of (Some (Triggered act before)) run (ToVerify r a text) j h = cc
mark_of (Some (Triggered act before)) run (ToHold a state) j h = cc
mark_of (Some (Triggered act before)) run (ToPassFully a i) j h = cc
mark_of (Some (Triggered act before)) run (ToIssue i) j h = cc
mark_of (Some (Triggered act before)) run (ToEnd ticket end) j h = cc
mark_of (Some (Triggered act before)) run (ToReport c a i report) j h = cc
mark_of (Some (Triggered act before)) run ToNobody j h = cc
mark_of (Some Stopped) run x j h = cc
mark_of None run x j h = cc

marked_asked : (run : ℕ) (since : List Request) (j : ℕ) → has (marks run since) j ≡ true → Contains since (ToMark run j)
marked_asked run [] j h = cc
marked_asked run (x ∷ since) j h =
    elim (or_cases (has (marks_by (halt_of run since) run x) j) (has (marks run since) j)
    (sym (list_any-append (λ i. i == j) (marks_by (halt_of run since) run x) (marks run since)) ∙ h)) [
      | inl a ↦ subst (λ y. Contains (x ∷ since) y) (mark_of (halt_of run since) run x j a) (first_of x since)
      | inr b ↦ Contains-append_right (x ∷ []) since (ToMark run j) (marked_asked run since j b)
    ]

completes_marked : (a b c : Bool) → (a && (not b && c)) ≡ true → (a ≡ true) × (c ≡ true)
completes_marked true false true h = (refl, refl)
completes_marked true false false h = cc
completes_marked true true c h = cc
completes_marked false b c h = cc

cut_if : (t : Bool) → (if t then acts.Cut else acts.None) ≡ acts.Cut → t ≡ true
cut_if true h = refl
cut_if false h = cc

cut_at : (o : Opening) (past : List Entry) (e : PacketInput) (x : Option Work) → work o past ≡ x → WorkHeard o.me (heard_packets past) x
    → act_of x (request_of o.me e) ≡ acts.Cut → AreStatesKept o past e
cut_at o past e None is k h = cc
cut_at o past e (Some w) is k h =
    let x = request_of o.me e in
    let c = completes_marked (wants_cut (halt_of w.run w.since)) (is_marked w) (is_marked (record w { since = x ∷ w.since })) (cut_if (completes w x) h) in
    record {
      now = w;
      works = is;
      wants = c.0;
      kept = λ j l. one_heard o.me e (heard_packets past) w.since k (ToMark w.run j)
          (marked_asked w.run (x ∷ w.since) j (all_below (has (marks w.run (x ∷ w.since))) (length w.jobs) c.1 j l));
    }

pub cuts_when_kept : (o : Opening) (past : List Entry) (e : PacketInput) → act o past e ≡ acts.Cut → AreStatesKept o past e
cuts_when_kept o past e h = cut_at o past e (work o past) refl (work_heard o past) h
