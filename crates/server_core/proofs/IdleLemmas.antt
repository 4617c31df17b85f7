-- Requests that change nothing of what is kept of a run.
use Rattle.std.proofs.Common.{◌≡◌, refl, sym, ap, subst, ◌∙◌, ℕ, Bool, true, false, ◌&&◌, ◌==◌, [], ◌∷◌, ◌++◌, Option, None, Some}
use Rattle.std.specs.Prelude.{if◌then◌else◌, is_none, not, length}
use Rattle.std.specs.List.{list_all}
use Rattle.std.proofs.lemmas.Bool.{eqb-true, eq-eqb}
use Rattle.std.specs.Option.{option_or}
use Rattle.fc_base.specs.Counted.{has, numbers_below}
use Rattle.messages.specs.declared.refusal.Act.{Act}
use Rattle.messages.specs.declared.refusal.Act.TheVariants as acts
use Rattle.server_core.specs.Request.{Request, ToStage, ToStart, ToTrigger, ToMark, ToStop, ToVerify, ToHold, ToPassFully, ToIssue, ToEnd, ToReport, ToNobody}
use Rattle.server_core.specs.Run.{Work, Halt, Triggered, Stopped, halt_of, goes_on}
use Rattle.server_core.specs.Answers.{marks_by, marks, is_marked, wants_cut, act_of}
use Rattle.server_core.specs.Kept.{Kept, end_kept, RunIs}
use Rattle.server_core.specs.Check.{Check, check_goes_on}
use Rattle.server_core.specs.KeptCheck.{CheckKept, check_kept}
use Rattle.server_core.specs.Stands.{WorkIs, OpenIs}
use Rattle.server_core.proofs.RowLemmas.{and_then, or_none, idle}

swapped : (a b : ℕ) → (a == b) ≡ (b == a)
swapped a b = swap (a == b) (b == a) refl refl
  where
    swap : (s t : Bool) → (a == b) ≡ s → (b == a) ≡ t → s ≡ t
    swap true true e f = refl
    swap false false e f = refl
    swap true false e f = sym (eq-eqb b a (sym (eqb-true a b e))) ∙ f
    swap false true e f = sym e ∙ eq-eqb a b (sym (eqb-true b a f))

-- Requests that are of no run at work.
abbrev pub IsElsewhere : Request → Type 0
IsElsewhere (ToStage r text) = Unit {0}
IsElsewhere (ToStart r) = Unit {0}
IsElsewhere (ToVerify r a text) = Unit {0}
IsElsewhere (ToHold a state) = Unit {0}
IsElsewhere (ToPassFully a j) = Unit {0}
IsElsewhere (ToReport b a j report) = Unit {0}
IsElsewhere ToNobody = Unit {0}
IsElsewhere _ = ⊥

not_marked : (b : Option Halt) (run : ℕ) (x : Request) → IsElsewhere x → marks_by b run x ≡ []
not_marked None run x e = refl
not_marked (Some Stopped) run x e = refl
not_marked (Some (Triggered act before)) run (ToStage r text) e = refl
not_marked (Some (Triggered act before)) run (ToStart r) e = refl
not_marked (Some (Triggered act before)) run (ToVerify r a text) e = refl
not_marked (Some (Triggered act before)) run (ToHold a state) e = refl
not_marked (Some (Triggered act before)) run (ToPassFully a j) e = refl
not_marked (Some (Triggered act before)) run (ToReport b a j report) e = refl
not_marked (Some (Triggered act before)) run ToNobody e = refl
not_marked (Some (Triggered act before)) run (ToTrigger r a) e = absurd e
not_marked (Some (Triggered act before)) run (ToMark r j) e = absurd e
not_marked (Some (Triggered act before)) run (ToStop r) e = absurd e
not_marked (Some (Triggered act before)) run (ToIssue j) e = absurd e
not_marked (Some (Triggered act before)) run (ToEnd ticket end) e = absurd e

marks_stay : (w : Work) (x : Request) (j : ℕ) → marks_by (halt_of w.run w.since) w.run x ≡ [] → has (marks w.run (x ∷ w.since)) j ≡ has (marks w.run w.since) j
marks_stay w x j e = ap (λ ms. has (ms ++ marks w.run w.since) j) e

pub elsewhere : (kept : Kept) (w : Work) (x : Request) → RunIs kept w → IsElsewhere x → RunIs kept (and_then w x)
elsewhere kept w (ToStage r text) h e = idle kept w (ToStage r text) h (or_none (halt_of w.run w.since)) (λ j job is. refl)
    (λ j job is. marks_stay w (ToStage r text) j (not_marked (halt_of w.run w.since) w.run (ToStage r text) tt))
elsewhere kept w (ToStart r) h e = idle kept w (ToStart r) h (or_none (halt_of w.run w.since)) (λ j job is. refl)
    (λ j job is. marks_stay w (ToStart r) j (not_marked (halt_of w.run w.since) w.run (ToStart r) tt))
elsewhere kept w (ToVerify r a text) h e = idle kept w (ToVerify r a text) h (or_none (halt_of w.run w.since)) (λ j job is. refl)
    (λ j job is. marks_stay w (ToVerify r a text) j (not_marked (halt_of w.run w.since) w.run (ToVerify r a text) tt))
elsewhere kept w (ToHold a state) h e = idle kept w (ToHold a state) h (or_none (halt_of w.run w.since)) (λ j job is. refl)
    (λ j job is. marks_stay w (ToHold a state) j (not_marked (halt_of w.run w.since) w.run (ToHold a state) tt))
elsewhere kept w (ToPassFully a i) h e = idle kept w (ToPassFully a i) h (or_none (halt_of w.run w.since)) (λ j job is. refl)
    (λ j job is. marks_stay w (ToPassFully a i) j (not_marked (halt_of w.run w.since) w.run (ToPassFully a i) tt))
elsewhere kept w (ToReport b a i report) h e = idle kept w (ToReport b a i report) h (or_none (halt_of w.run w.since)) (λ j job is. refl)
    (λ j job is. marks_stay w (ToReport b a i report) j (not_marked (halt_of w.run w.since) w.run (ToReport b a i report) tt))
elsewhere kept w ToNobody h e = idle kept w ToNobody h (or_none (halt_of w.run w.since)) (λ j job is. refl)
    (λ j job is. marks_stay w ToNobody j (not_marked (halt_of w.run w.since) w.run ToNobody tt))
elsewhere kept w (ToTrigger r act) h e = absurd e
elsewhere kept w (ToMark r j) h e = absurd e
elsewhere kept w (ToStop r) h e = absurd e
elsewhere kept w (ToIssue j) h e = absurd e
elsewhere kept w (ToEnd ticket end) h e = absurd e

-- ---- requests for another run, or for one that came to its end

halt_stays : (b : Option Halt) (t : Bool) (x : Halt) → (t && is_none (end_kept b)) ≡ false → option_or b (if t then Some x else None) ≡ b
halt_stays None true x e = cc
halt_stays None false x e = refl
halt_stays (Some (Triggered act before)) t x e = refl
halt_stays (Some Stopped) t x e = refl

no_mark_ends : (b : Option Halt) (run r : ℕ) (act : Act) → (marks_by b run (ToTrigger r act) ≡ []) × (marks_by b run (ToStop r) ≡ [])
no_mark_ends None run r act = (refl, refl)
no_mark_ends (Some (Triggered a before)) run r act = (refl, refl)
no_mark_ends (Some Stopped) run r act = (refl, refl)

is_not : (kept : Kept) (w : Work) (r : ℕ) → RunIs kept w → ((kept.number == r) && is_none kept.end) ≡ false
    → ((r == w.run) && is_none (end_kept (halt_of w.run w.since))) ≡ false
is_not kept w r h e =
    ap (λ t. t && is_none (end_kept (halt_of w.run w.since))) (swapped r w.run) ∙ ap (λ (k : Kept). (k.number == r) && is_none k.end) (sym h.is) ∙ e

pub no_trigger : (kept : Kept) (w : Work) (r : ℕ) (act : Act) → RunIs kept w → ((kept.number == r) && is_none kept.end) ≡ false
    → RunIs kept (and_then w (ToTrigger r act))
no_trigger kept w r act h e =
    idle kept w (ToTrigger r act) h (halt_stays (halt_of w.run w.since) (r == w.run) (Triggered act w.since) (is_not kept w r h e)) (λ j job is. refl)
    (λ j job is. marks_stay w (ToTrigger r act) j (no_mark_ends (halt_of w.run w.since) w.run r act).0)

pub no_stop : (kept : Kept) (w : Work) (r : ℕ) → RunIs kept w → ((kept.number == r) && is_none kept.end) ≡ false → RunIs kept (and_then w (ToStop r))
no_stop kept w r h e =
    idle kept w (ToStop r) h (halt_stays (halt_of w.run w.since) (r == w.run) Stopped (is_not kept w r h e)) (λ j job is. refl)
    (λ j job is. marks_stay w (ToStop r) j (no_mark_ends (halt_of w.run w.since) w.run r acts.None).1)

other_mark : (b : Option Halt) (run r j : ℕ) → (r == run) ≡ false → marks_by b run (ToMark r j) ≡ []
other_mark None run r j e = refl
other_mark (Some Stopped) run r j e = refl
other_mark (Some (Triggered act before)) run r j e = ap (λ t. if t then j ∷ [] else []) e

pub no_mark : (kept : Kept) (w : Work) (r j : ℕ) → RunIs kept w → (kept.number == r) ≡ false
    → RunIs kept (and_then w (ToMark r j)) × (acts.None ≡ act_of (Some w) (ToMark r j))
no_mark kept w r j h e =
    let other : (r == w.run) ≡ false = swapped r w.run ∙ ap (λ (k : Kept). k.number == r) (sym h.is) ∙ e in
    let unmarked = other_mark (halt_of w.run w.since) w.run r j other in (
      idle kept w (ToMark r j) h (or_none (halt_of w.run w.since)) (λ i job is. refl) (λ i job is. marks_stay w (ToMark r j) i unmarked),
      sym (ap (λ ms. if wants_cut (halt_of w.run w.since) && (not (is_marked w) && list_all (has (ms ++ marks w.run w.since)) (numbers_below (length w.jobs)))
          then acts.Cut else acts.None) unmarked
          ∙ never (wants_cut (halt_of w.run w.since)) (is_marked w)),
    )
  where
    never : (a b : Bool) → (if a && (not b && b) then acts.Cut else acts.None) ≡ acts.None
    never true true = refl
    never true false = refl
    never false b = refl

-- ---- the same of the present run, if there is one

pub trigger_elsewhere : (me now_boot : ℕ) (old : Option Kept) (kept : Kept) (w : Option Work) (r : ℕ) (act : Act) → old ≡ Some kept → WorkIs me now_boot old w
    → ((kept.number == r) && is_none kept.end) ≡ false
    → WorkIs me now_boot (Some kept) (goes_on (ToTrigger r act) w)
trigger_elsewhere me now_boot None kept w r act e h t = cc
trigger_elsewhere me now_boot (Some old) kept None r act e h t = absurd h
trigger_elsewhere me now_boot (Some old) kept (Some w) r act e h t =
    let same : old ≡ kept = cc in record { run = no_trigger kept w r act (subst (λ k. RunIs k w) same h.run) t; server = h.server; boot_is = h.boot_is }

pub stop_elsewhere : (me now_boot : ℕ) (old : Option Kept) (kept : Kept) (w : Option Work) (r : ℕ) → old ≡ Some kept → WorkIs me now_boot old w
    → ((kept.number == r) && is_none kept.end) ≡ false → WorkIs me now_boot (Some kept) (goes_on (ToStop r) w)
stop_elsewhere me now_boot None kept w r e h t = cc
stop_elsewhere me now_boot (Some old) kept None r e h t = absurd h
stop_elsewhere me now_boot (Some old) kept (Some w) r e h t =
    let same : old ≡ kept = cc in record { run = no_stop kept w r (subst (λ k. RunIs k w) same h.run) t; server = h.server; boot_is = h.boot_is }

pub mark_elsewhere : (me now_boot : ℕ) (old : Option Kept) (kept : Kept) (w : Option Work) (r j : ℕ) → old ≡ Some kept → WorkIs me now_boot old w
    → (kept.number == r) ≡ false
    → WorkIs me now_boot (Some kept) (goes_on (ToMark r j) w) × (acts.None ≡ act_of w (ToMark r j))
mark_elsewhere me now_boot None kept w r j e h t = cc
mark_elsewhere me now_boot (Some old) kept None r j e h t = absurd h
mark_elsewhere me now_boot (Some old) kept (Some w) r j e h t =
    let same : old ≡ kept = cc in
    let n = no_mark kept w r j (subst (λ k. RunIs k w) same h.run) t in
    (record { run = n.0; server = h.server; boot_is = h.boot_is }, n.1)

pub work_elsewhere : (me now_boot : ℕ) (kept : Option Kept) (w : Option Work) (x : Request) → WorkIs me now_boot kept w → IsElsewhere x
    → WorkIs me now_boot kept (goes_on x w)
work_elsewhere me now_boot None None x h e = tt
work_elsewhere me now_boot (Some kept) (Some w) x h e = record { run = elsewhere kept w x h.run e; server = h.server; boot_is = h.boot_is }
work_elsewhere me now_boot None (Some w) x h e = absurd h
work_elsewhere me now_boot (Some kept) None x h e = absurd h

-- ---- the open check

-- Requests that are of no check.
abbrev pub IsUnchecked : Request → Type 0
IsUnchecked (ToHold a state) = ⊥
IsUnchecked (ToPassFully a j) = ⊥
IsUnchecked (ToReport b a j report) = ⊥
IsUnchecked _ = Unit {0}

unchecked : (kept : CheckKept) (c : Check) (x : Request) → kept ≡ check_kept c → IsUnchecked x → kept ≡ check_kept (record c { since = x ∷ c.since })
unchecked kept c (ToStage r text) h e = h
unchecked kept c (ToStart r) h e = h
unchecked kept c (ToVerify r a text) h e = h
unchecked kept c (ToTrigger r act) h e = h
unchecked kept c (ToMark r j) h e = h
unchecked kept c (ToStop r) h e = h
unchecked kept c (ToHold a state) h e = absurd e
unchecked kept c (ToPassFully a j) h e = absurd e
unchecked kept c (ToIssue j) h e = h
unchecked kept c (ToEnd ticket end) h e = h
unchecked kept c (ToReport b a j report) h e = absurd e
unchecked kept c ToNobody h e = h

pub check_elsewhere : (me now_boot : ℕ) (kept : Option CheckKept) (c : Option Check) (x : Request) → OpenIs me now_boot kept c → IsUnchecked x
    → OpenIs me now_boot kept (check_goes_on x c)
check_elsewhere me now_boot None None x h e = tt
check_elsewhere me now_boot (Some kept) (Some c) x h e = record { is = unchecked kept c x h.is e; server = h.server; boot_is = h.boot_is }
check_elsewhere me now_boot None (Some c) x h e = absurd h
check_elsewhere me now_boot (Some kept) None x h e = absurd h
