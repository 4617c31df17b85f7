-- How the loss of the client's note ends, and a renewal, as events of a world.
use Rattle.std.proofs.Common.{◌≡◌, refl, sym, ◌∙◌, ap, subst, ℕ, ◌≤◌, arith, Bool, true, false, ◌&&◌, List, [], ◌∷◌, length, Option, Some, None, Ok, Err}
use Rattle.std.specs.Prelude.{if◌then◌else◌, not, map, nat_lt}
use Rattle.std.specs.List.{list_all}
use Rattle.std.specs.Option.{option_or}
use Rattle.std.proofs.lemmas.Bool.Decides.{nat_tests}
use Rattle.std.proofs.lemmas.Bool.{ltb-true, lt-ltb}
use Rattle.fc_base.specs.declared.fault.Fault.{Fault}
use Rattle.fc_base.specs.declared.fault.FaultSort.TheVariants as sorts
use Rattle.fc_base.specs.Fault.{sort_of}
use Rattle.fc_base.specs.declared.fault.Fault.TheVariants.{NoMemory, NoMirror, NodeOn, NoSave, BadNote, BadGeneration, UsedGeneration}
use Rattle.disk_model.specs.declared.save_outcome.SaveOutcome.{SaveOutcome}
use Rattle.disk_model.specs.declared.save_outcome.SaveOutcome.TheVariants.{Saved}
use Rattle.messages.specs.FrameBytes.{frame_spelling}
use Rattle.messages.specs.Ranges.{is_generation}
use Rattle.messages.specs.Hearing.{Happens, Meaning, Says, Waits, Spoils, Strays, meaning, heard_by, with_entry}
use Rattle.messages.specs.declared.node.Node.TheVariants.{Client}
use Rattle.client_core.specs.History as client
use Rattle.client_core.specs.Note.{is_blank}
use Rattle.client_core.specs.Words.{words_noted}
use Rattle.client_core.specs.Numbering.{generations}
use Rattle.client_core.specs.Hearing as hearing
use Rattle.client_core.specs.Hearing.{FrameEntry, rules, heard_at, packets_heard, is_up}
use Rattle.client_core.specs.Inputs as inputs
use Rattle.net_world.specs.declared.told.Told.{Told}
use Rattle.net_world.specs.declared.world.World.{World}
use Rattle.net_world.specs.Setup.{Setup}
use Rattle.net_world.specs.Happenings.{Happening, LoseNote, Renew, CutIn}
use Rattle.net_world.specs.Trace.{client_opening, of_client}
use Rattle.net_world.specs.Frames.{OfClient, frames_sent, frames_of_step}
use Rattle.net_world.specs.Changes.{Change, Met, steps, trace}
use Rattle.net_world.specs.Barred.{unless, is_on, unless_losable, unless_unused, used_generation, barring_fault}
use Rattle.net_world.specs.Outcomes.{Does, Refuses, outcome_of_step, noted_in, lost_by, brings, outcome}
use Rattle.net_world.specs.World.{answer}
use Rattle.net_world.specs.declared.told.WorldAnswer.TheVariants.{Plain}
use Rattle.net_world.specs.Telling.{plainly_told}
use Rattle.net_world.specs.Sending.{sent_in}
use Rattle.net_world.specs.ClientNodes as nodes
use Rattle.net_world.specs.ClientNodes.{handed_in, lacks_note}
use Rattle.net_world.specs.Stands.{IsGreatest, StandsFor}
use Rattle.net_world.specs.Ends.{Ends}
use Rattle.net_world.specs.Asking.{entries, step_of}
use Rattle.net_world.proofs.ServeLemmas.{first_is}
use Rattle.net_world.proofs.EndsLemmas.{does, goes, refuses}
use Rattle.net_world.proofs.PlainLemmas.{IsPlain, told_plainly}
use Rattle.net_world.proofs.ClientHeardLemmas.{heard_is, frames_are}
use Rattle.net_world.proofs.AskLemmas.{up_is, HasMoved, HasPassed, client_passed, client_kept}

-- ---- the generations that were handed in are those of the trace

heard_none : (o : client.Opening) (left : SaveOutcome) (m : Meaning) (list : List client.Entry)
    → generations (with_entry (heard_by (rules o) left m) list) ≡ generations list
heard_none o left (Says p) list = refl
heard_none o left Waits list = refl
heard_none o left Spoils list = refl
heard_none o left Strays list = refl

handed_heard : (o : client.Opening) (past : List FrameEntry) → generations (packets_heard o past) ≡ handed_in past
handed_heard o [] = refl
handed_heard o (hearing.Met (inputs.Begin text) left ∷ past) = handed_heard o past
handed_heard o (hearing.Met (inputs.Trigger run act) left ∷ past) = handed_heard o past
handed_heard o (hearing.Met (inputs.Stop run) left ∷ past) = handed_heard o past
handed_heard o (hearing.Met (inputs.Verify run text) left ∷ past) = handed_heard o past
handed_heard o (hearing.Met (inputs.Deliver f) left ∷ past) =
    heard_none o left (meaning (rules o) (heard_at o past) f) (packets_heard o past) ∙ handed_heard o past
handed_heard o (hearing.Met inputs.Tick left ∷ past) = handed_heard o past
handed_heard o (hearing.Cut ∷ past) = handed_heard o past
handed_heard o (hearing.Restart mirror ∷ past) = handed_heard o past
handed_heard o (hearing.Renew g left ∷ past) = ap (λ gs. g ∷ gs) (handed_heard o past)
handed_heard o (hearing.Lose ∷ past) = handed_heard o past

handed_are : (w : Setup) (past : List Change) → generations (of_client w (trace w past)) ≡ handed_in (entries w past)
handed_are w past = ap generations (sym (heard_is w past)) ∙ handed_heard (client_opening w) (entries w past)

-- One above the greatest of them is the greatest.
greater : (old g : ℕ) (handed : List ℕ) → IsGreatest old handed → nat_lt old g ≡ true → IsGreatest g (g ∷ handed)
greater old g handed h l k fits = ap (λ x. nat_lt g k && x) (h k fits) ∙ by_test (nat_lt g k) refl
  where
    by_test : (b : Bool) → nat_lt g k ≡ b → (b && nat_lt old k) ≡ b
    by_test false e = refl
    by_test true e = lt-ltb old k (omega (arith, ltb-true old g l, ltb-true g k e))

-- ---- why the world refuses one

-- By whether there is a mirror, and whether the client is on.
pub unlosable_is : (w : Setup) (past : List Change) (has up : Bool) → w.mirror ≡ has → is_up (client_opening w) (entries w past) ≡ up
    → unless_losable w (trace w past) ≡ option_or (unless has NoMirror) (unless (not up) NodeOn)
unlosable_is w past has up h k = by_tests w.mirror (is_on w (trace w past) Client) h (sym (up_is w past) ∙ k)
  where
    by_tests : (a b : Bool) → a ≡ has → b ≡ up → option_or (unless a NoMirror) (unless (not b) NodeOn)
        ≡ option_or (unless has NoMirror) (unless (not up) NodeOn)
    by_tests a b e f = rw (e, f) refl

-- What isn't refused finds the client off.
never_on : (w : Setup) (past : List Change) → unless_losable w (trace w past) ≡ None → is_up (client_opening w) (entries w past) ≡ true → ⊥
never_on w past free up = by_mirror w.mirror (sym (unlosable_is w past w.mirror true refl up) ∙ free)
  where
    by_mirror : (b : Bool) → option_or (unless b NoMirror) (unless (not true) NodeOn) ≡ None → ⊥
    by_mirror true e = cc
    by_mirror false e = cc

-- By the greatest of those that were handed in.
pub unfit_is : (w : Setup) (past : List Change) (g : ℕ) (now : World) (b : Bool) → StandsFor w past now → is_generation g ≡ true
    → nat_lt now.mirror.greatest g ≡ b → unless_unused w (trace w past) g ≡ unless b UsedGeneration
unfit_is w past g now b stands fits h = by_test (is_generation g) fits
    ∙ ap (λ x. unless x UsedGeneration) (ap (λ gs. list_all (λ earlier. nat_lt earlier g) gs) (handed_are w past) ∙ stands.greatest_is g fits ∙ h)
  where
    by_test : (a : Bool) → a ≡ true → option_or (unless a BadGeneration) (used_generation w (trace w past) g) ≡ used_generation w (trace w past) g
    by_test a e = rw e refl

-- A number within the bounds is one.
pub in_range : (n g : ℕ) → n ≡ g → 1 ≤ n → n ≤ 4294967295 → is_generation g ≡ true
in_range n g e l m = grind (arith, nat_tests)

-- What is losable is refused by that alone.
pub fit_is : (w : Setup) (past : List Change) (g : ℕ) (now : World) (b : Bool) → StandsFor w past now → unless_losable w (trace w past) ≡ None
    → is_generation g ≡ true → nat_lt now.mirror.greatest g ≡ b
    → option_or (unless_losable w (trace w past)) (unless_unused w (trace w past) g) ≡ unless b UsedGeneration
fit_is w past g now b stands free fits h = ap (λ x. option_or x (unless_unused w (trace w past) g)) free ∙ unfit_is w past g now b stands fits h

first_free : (x y : Option Fault) → option_or x y ≡ None → x ≡ None
first_free None y h = refl
first_free (Some fault) y h = absurd cc

second_free : (x y : Option Fault) → option_or x y ≡ None → y ≡ None
second_free None y h = h
second_free (Some fault) y h = absurd cc

above : (w : Setup) (past : List Change) (g : ℕ) (now : World) → StandsFor w past now → is_generation g ≡ true → unless_unused w (trace w past) g ≡ None
    → nat_lt now.mirror.greatest g ≡ true
above w past g now stands fits free = by_test (nat_lt now.mirror.greatest g) refl
  where
    by_test : (b : Bool) → nat_lt now.mirror.greatest g ≡ b → b ≡ true
    by_test true e = refl
    by_test false e = absurd (some_none (sym (unfit_is w past g now false stands fits e) ∙ free))
      where
        some_none : Some UsedGeneration ≡ None → ⊥
        some_none e = cc

-- ---- the note is lost

pub loss_plain : (w : Setup) (past : List Change) → unless_losable w (trace w past) ≡ None → IsPlain w past LoseNote (step_of hearing.Lose)
loss_plain w past free = record { comes = goes w past LoseNote free; answered = refl; silent = sym (frames_are w past hearing.Lose); asks = refl }

pub loss_ends : (w : Setup) (past : List Change) (fault : Fault) (old new : World) → StandsFor w past old → HasMoved [] old new
    → unless_losable w (trace w past) ≡ None → nodes.Loses (client_opening w) (entries w past) new.client (Err fault)
    → Ends w past LoseNote new (Err fault)
loss_ends w past NodeOn old new stands moved free h = absurd (never_on w past free h.0)
loss_ends w past _ old new stands moved free h = absurd h

-- ---- a renewal

-- The client is renewed with this generation, or loses its power within the save of it.
pub record Renews (w : Setup) (past : List Change) (g : ℕ) (left : SaveOutcome) (e : Happening) : Type 0 where
  pub bar : barring_fault w (trace w past) (frames_sent w (steps past)) e ≡ option_or (unless_losable w (trace w past)) (unless_unused w (trace w past) g)
  pub saves : is_blank (noted_in w (trace w past)) ≡ true → brings w past e ≡ Does (Met (step_of (hearing.Renew g left)))
  pub answers : answer w past e ≡ Plain
  pub silent : frames_of_step w (steps past) (step_of (hearing.Renew g left)) ≡ []

pub renewed : (w : Setup) (past : List Change) (g : ℕ) → Renews w past g Saved (Renew g)
renewed w past g = record {
  bar = refl;
  saves = λ blank. ap (λ b. outcome_of_step (if b then Ok (OfClient (Happens (client.Renew g Saved))) else Err BadNote)) blank;
  answers = refl;
  silent = sym (frames_are w past (hearing.Renew g Saved));
}

pub cut_in : (w : Setup) (past : List Change) (g : ℕ) (landed : Bool) → Renews w past g (lost_by landed) (CutIn landed (Renew g))
cut_in w past g landed = record {
  bar = refl;
  saves = λ blank. ap (λ b. outcome_of_step (if b then Ok (OfClient (Happens (client.Renew g (lost_by landed)))) else Err NoSave)) blank;
  answers = refl;
  silent = sym (frames_are w past (hearing.Renew g (lost_by landed)));
}

noted_is : (w : Setup) (past : List Change) (b : Bool) → lacks_note (client_opening w) (entries w past) true ≡ b → is_blank (noted_in w (trace w past)) ≡ b
noted_is w past b h = ap (λ list. is_blank (words_noted (client_opening w) list)) (sym (heard_is w past)) ∙ h

-- It was handed in.
pub renewal_ends : (w : Setup) (past : List Change) (g : ℕ) (left : SaveOutcome) (e : Happening) (first : ℕ) (t : Told) (old new : World) → Renews w past g left e
    → StandsFor w past old → HasPassed [] old new → new.mirror.greatest ≡ g
    → option_or (unless_losable w (trace w past)) (unless_unused w (trace w past) g) ≡ None → is_generation g ≡ true
    → lacks_note (client_opening w) (entries w past) true ≡ true → nodes.Stands (client_opening w) (hearing.Renew g left ∷ entries w past) new.client
    → first ≡ length (sent_in old.sent) → t ≡ plainly_told first → Ends w past e new (Ok t)
renewal_ends w past g left e first t old new r stands passed is free fits lacks node_is f tells =
    let plain : IsPlain w past e (step_of (hearing.Renew g left)) = record {
      comes = goes w past e (r.bar ∙ free) ∙ r.saves (noted_is w past true lacks);
      answered = r.answers;
      silent = r.silent;
      asks = refl;
    } in
    does w past e (Met (step_of (hearing.Renew g left))) t new plain.comes
    (told_plainly w past e (step_of (hearing.Renew g left)) first t plain (f ∙ first_is w past old stands) tells)
    (client_passed w past (hearing.Renew g left) [] old new stands passed (ap (map frame_spelling) (sym r.silent)) node_is
    (subst (λ x. IsGreatest x (g ∷ handed_in (entries w past))) (sym is)
    (greater old.mirror.greatest g (handed_in (entries w past)) stands.greatest_is
    (above w past g old stands fits (second_free (unless_losable w (trace w past)) (unless_unused w (trace w past) g) free)))))

-- It wasn't.
module _ (w : Setup) (past : List Change) (g : ℕ) where
  kept : (e : Happening) (fault : Fault) (old new : World) → sort_of fault ≡ sorts.Refusal → StandsFor w past old → HasMoved [] old new
      → outcome w past e ≡ Refuses fault → nodes.Stands (client_opening w) (entries w past) new.client → Ends w past e new (Err fault)
  kept e fault old new sort stands moved is node_is = refuses w past e fault new sort is (client_kept w past old new stands moved node_is)

  pub unrenewed_ends : (fault : Fault) (old new : World) → StandsFor w past old → HasMoved [] old new
      → option_or (unless_losable w (trace w past)) (unless_unused w (trace w past) g) ≡ None
      → nodes.Renews (client_opening w) (entries w past) g new.client (Err fault) → Ends w past (Renew g) new (Err fault)
  unrenewed_ends NodeOn old new stands moved free h =
      absurd (never_on w past (first_free (unless_losable w (trace w past)) (unless_unused w (trace w past) g) free) h.0)
  unrenewed_ends BadNote old new stands moved free h =
      kept (Renew g) BadNote old new refl stands moved
      (goes w past (Renew g) free ∙ ap (λ b. outcome_of_step (if b then Ok (OfClient (Happens (client.Renew g Saved))) else Err BadNote))
      (noted_is w past false h.1)) h.2
  unrenewed_ends NoMemory old new stands moved free h = (refl, client_kept w past old new stands moved h.1)
  unrenewed_ends _ old new stands moved free h = let wrong = h.3 in absurd cc

  pub uncut_ends : (landed : Bool) (fault : Fault) (old new : World) → StandsFor w past old → HasMoved [] old new
      → option_or (unless_losable w (trace w past)) (unless_unused w (trace w past) g) ≡ None
      → nodes.CutsInRenewal (client_opening w) (entries w past) landed g new.client (Err fault) → Ends w past (CutIn landed (Renew g)) new (Err fault)
  uncut_ends landed NodeOn old new stands moved free h =
      absurd (never_on w past (first_free (unless_losable w (trace w past)) (unless_unused w (trace w past) g) free) h.0)
  uncut_ends landed NoSave old new stands moved free h =
      kept (CutIn landed (Renew g)) NoSave old new refl stands moved
      (goes w past (CutIn landed (Renew g)) free ∙ ap (λ b. outcome_of_step
      (if b then Ok (OfClient (Happens (client.Renew g (lost_by landed)))) else Err NoSave)) (noted_is w past false h.1)) h.2
  uncut_ends landed NoMemory old new stands moved free h = (refl, client_kept w past old new stands moved h.1)
  uncut_ends landed _ old new stands moved free h = let wrong = h.3 in absurd cc
