-- A client of a world is started as the world is made: without a mirror, or with it over a note of a
-- generation that was not used before.
use Rattle.std.proofs.Common.{◌≡◌, refl, sym, ◌∙◌, ap, subst, ℕ, Bool, true, false, arith, List, [], ◌∷◌, Option, Some, None}
use Rattle.std.specs.Prelude.{if◌then◌else◌, nat_lt, nat_le, not, ◌&&◌, ◌==◌}
use Rattle.std.specs.List.{list_all}
use Rattle.std.specs.Option.{option_or}
use Rattle.std.proofs.lemmas.Bool.{and_parts}
use Rattle.std.proofs.lemmas.Bool.Decides.{nat_tests}
use Rattle.fc_base.specs.declared.fault.Fault.{Fault}
use Rattle.fc_base.specs.declared.fault.Fault.TheVariants.{NoMirror, BadGeneration, UsedGeneration}
use Rattle.fc_base.specs.Counted.{has}
use Rattle.messages.specs.Hearing.{Coming, Comes, Happens, Meaning, Says, Waits, Spoils, Strays, meaning, heard_by, entry_of, with_entry, heard}
use Rattle.messages.specs.Ranges.{is_generation}
use Rattle.disk_model.specs.declared.save_outcome.SaveOutcome.{SaveOutcome}
use Rattle.disk_model.specs.declared.save_outcome.SaveOutcome.TheVariants as lefts
use Rattle.disk_model.specs.SaveOutcome.{has_new, is_lost, is_saved}
use Rattle.client_core.specs.Inputs.{PacketInput}
use Rattle.client_core.specs.declared.note.ClientNote.{ClientNote}
use Rattle.client_core.specs.declared.peers.Peers.{Peers}
use Rattle.client_core.specs.History as client
use Rattle.client_core.specs.History.{Opening, Entry}
use Rattle.client_core.specs.Numbering.{generations}
use Rattle.client_core.specs.Note.{is_blank, new_note}
use Rattle.client_core.specs.Saves.{due_by, noted_after}
use Rattle.client_core.specs.Words.{is_on, words_noted, peers, may_renew}
use Rattle.client_core.proofs.PeersLemmas.{generation_stays}
use Rattle.net_world.specs.Setup.{Setup}
use Rattle.net_world.specs.Trace.{Step, AtClient, client_opening, first_entry, of_client, is_alone, is_with_mirror, is_of_setup}
use Rattle.net_world.specs.Frames as frames
use Rattle.net_world.specs.Frames.{FrameStep, OfServer, OfClient, OfMirror, of_server, at_server, at_client, is_allowed, IsFrameTrace, trace_heard}
use Rattle.net_world.specs.Barred.{unless, unless_losable, used_generation, unless_unused}
use Rattle.net_world.specs.Outcomes.{noted_in}
use Rattle.net_world.proofs.HearingLemmas.{client_with, client_by_server}
use Rattle.net_world.proofs.TraceLemmas.{when_with}

-- ---- what the world does not refuse

pub has_mirror_of : (b : Bool) (x : Option Fault) → option_or (unless b NoMirror) x ≡ None → b ≡ true
has_mirror_of true x h = refl
has_mirror_of false x h = absurd cc

both_none : (x y : Option Fault) → option_or x y ≡ None → (x ≡ None) × (y ≡ None)
both_none None y h = (refl, h)
both_none (Some fault) y h = absurd cc

passes : (b : Bool) (fault : Fault) → unless b fault ≡ None → b ≡ true
passes true fault h = refl
passes false fault h = absurd cc

-- ---- a client that is on, or whose note says something, is of a generation

pub record IsOfGeneration (o : Opening) (list : List Entry) : Type 0 where
  pub on : is_on list ≡ true → nat_lt 0 (words_noted o list).generation ≡ true
  pub written : is_blank (words_noted o list) ≡ false → nat_lt 0 (words_noted o list).generation ≡ true

met_written : (on : Bool) (p : Peers) (n : ClientNote) (c : PacketInput) (left : SaveOutcome) → (on ≡ true → nat_lt 0 n.generation ≡ true)
    → (is_blank n ≡ false → nat_lt 0 n.generation ≡ true)
    → is_blank (noted_after (has_new left) (due_by on p n c) n) ≡ false → nat_lt 0 (noted_after (has_new left) (due_by on p n c) n).generation ≡ true
met_written true p n c left f g h = ap (λ (x : ℕ). nat_lt 0 x) (generation_stays (has_new left) (due_by true p n c) n) ∙ f refl
met_written false p n c left f g h = g h

positive : (g : ℕ) → is_generation g ≡ true → nat_lt 0 g ≡ true
positive g h = let low = (and_parts (nat_le 1 g) _ h).0 in grind (arith, nat_tests)

renewed_positive : (b : Bool) (g : ℕ) (n : ClientNote) → is_generation g ≡ true → (b ≡ false → nat_lt 0 n.generation ≡ true)
    → nat_lt 0 (if b then new_note g else n).generation ≡ true
renewed_positive true g n h f = positive g h
renewed_positive false g n h f = f refl

-- A renewal that saves nothing finds a note that says something.
not_blank : (g : ℕ) (left : SaveOutcome) (b : Bool) → is_generation g ≡ true → is_saved left ≡ true → (has_new left && (is_generation g && b)) ≡ false → b ≡ false
not_blank g left b h s e = by left (is_generation g) h s e
  where
    by : (l : SaveOutcome) (x : Bool) → x ≡ true → is_saved l ≡ true → (has_new l && (x && b)) ≡ false → b ≡ false
    by lefts.NoSave x f k y = absurd cc
    by lefts.Saved true f k y = y
    by lefts.Saved false f k y = absurd cc
    by lefts.LostNew x f k y = absurd cc
    by lefts.LostOld x f k y = absurd cc

renewed_written : (b : Bool) (g : ℕ) (n : ClientNote) → is_generation g ≡ true → (is_blank n ≡ false → nat_lt 0 n.generation ≡ true)
    → is_blank (if b then new_note g else n) ≡ false → nat_lt 0 (if b then new_note g else n).generation ≡ true
renewed_written true g n h f e = positive g h
renewed_written false g n h f e = f e

goes_on : (o : Opening) (e : Entry) (past : List Entry) → is_with_mirror o past e ≡ true → IsOfGeneration o past → IsOfGeneration o (e ∷ past)
goes_on o (client.Met c left) past h s = record {
  on = λ k. ap (λ (x : ℕ). nat_lt 0 x) (generation_stays (has_new left) (due_by (is_on past) (peers o past) (words_noted o past) c) (words_noted o past))
      ∙ s.on (and_parts (is_on past) (not (is_lost left)) k).0;
  written = met_written (is_on past) (peers o past) (words_noted o past) c left s.on s.written;
}
goes_on o client.Cut past h s = record { on = λ k. absurd cc; written = s.written }
goes_on o (client.Restart mirror) past h s = record { on = λ k. (and_parts mirror (nat_lt 0 (words_noted o past).generation) h).1; written = s.written }
goes_on o (client.Renew g left) past h s =
    let n = words_noted o past in
    let fits = (and_parts (is_generation g) (not (has (generations past) g)) h).0 in
    record {
      on = λ k. renewed_positive (has_new left && may_renew g n) g n fits (λ e. s.written (not_blank g left (is_blank n) fits k e));
      written = renewed_written (has_new left && may_renew g n) g n fits s.written;
    }
goes_on o client.Lose past h s = record { on = λ k. absurd cc; written = λ k. absurd cc }

-- What the client hears, if anything, is of a world with a mirror.
IsWithMirror : Opening → List Entry → Option Entry → Type 0
IsWithMirror o list None = Unit {0}
IsWithMirror o list (Some e) = is_with_mirror o list e ≡ true

said_so : (w : Setup) (list : List Entry) (left : SaveOutcome) (m : Meaning) → IsWithMirror (client_opening w) list (heard_by (at_client w) left m)
unfolding IsWithMirror
said_so w list left (Says p) = refl
said_so w list left Waits = tt
said_so w list left Spoils = tt
said_so w list left Strays = tt

heard_so : (w : Setup) (past : List FrameStep) (c : Coming Entry SaveOutcome) → w.mirror ≡ true → is_allowed w past (OfClient c) ≡ true
    → IsWithMirror (client_opening w) (of_client w (trace_heard w past)) (entry_of (at_client w) (heard (at_client w) (frames.of_client w past)) c)
unfolding IsWithMirror
heard_so w past (Comes f left) has h =
    said_so w (of_client w (trace_heard w past)) left (meaning (at_client w) (heard (at_client w) (frames.of_client w past)) f)
heard_so w past (Happens e) has h =
    when_with w.mirror (is_with_mirror (client_opening w) (of_client w (trace_heard w past)) e) (is_alone e) has h

with_one : (o : Opening) (x : Option Entry) (list : List Entry) → IsWithMirror o list x → IsOfGeneration o list → IsOfGeneration o (with_entry x list)
unfolding IsWithMirror
with_one o None list h s = s
with_one o (Some e) list h s = goes_on o e list h s

first_one : (w : Setup) (b : Bool) → b ≡ true → IsOfGeneration (client_opening w) (first_entry b ∷ [])
first_one w true h = record { on = λ k. refl; written = λ k. refl }
first_one w false h = absurd cc

pub is_of_generation : (w : Setup) (ps : List FrameStep) → w.mirror ≡ true → IsFrameTrace w ps
    → IsOfGeneration (client_opening w) (of_client w (trace_heard w ps))
is_of_generation w [] has h = first_one w w.mirror has
is_of_generation w (OfServer s c ∷ past) has h =
    subst (IsOfGeneration (client_opening w)) (sym (client_by_server w s (entry_of (at_server s) (heard (at_server s) (of_server s past)) c)
    (trace_heard w past))) (is_of_generation w past has h.0)
is_of_generation w (OfClient c ∷ past) has h =
    let x = entry_of (at_client w) (heard (at_client w) (frames.of_client w past)) c in
    subst (IsOfGeneration (client_opening w)) (sym (client_with w x (trace_heard w past)))
    (with_one (client_opening w) x (of_client w (trace_heard w past)) (heard_so w past c has h.2) (is_of_generation w past has h.0))
is_of_generation w (OfMirror e ∷ past) has h = is_of_generation w past has h.0

-- ---- the three ways in which a client's note comes and goes

starts : (b blank : Bool) (g : ℕ) → (b && blank) ≡ false → (b ≡ true → blank ≡ false → nat_lt 0 g ≡ true) → (if b then (b && nat_lt 0 g) else not b) ≡ true
starts true blank g h f = f refl h
starts false blank g h f = refl

pub restart_fits : (w : Setup) (ps : List FrameStep) → IsFrameTrace w ps → (w.mirror && is_blank (noted_in w (trace_heard w ps))) ≡ false
    → is_of_setup w (trace_heard w ps) (AtClient (client.Restart w.mirror)) ≡ true
restart_fits w ps h e =
    starts w.mirror (is_blank (noted_in w (trace_heard w ps))) (noted_in w (trace_heard w ps)).generation e (λ has k. (is_of_generation w ps has h).written k)

-- A number above all is none of them.
none_of : (gs : List ℕ) (g : ℕ) → list_all (λ earlier. nat_lt earlier g) gs ≡ true → has gs g ≡ false
none_of [] g h = refl
none_of (x ∷ gs) g h =
    let k = and_parts (nat_lt x g) (list_all (λ earlier. nat_lt earlier g) gs) h in
    let apart : (x == g) ≡ false = differ x g k.0 in
    rw apart (none_of gs g k.1)
  where
    differ : (a b : ℕ) → nat_lt a b ≡ true → (a == b) ≡ false
    differ a b l = grind (arith, nat_tests)

renews : (b : Bool) (g : ℕ) (gs : List ℕ) (y : Bool) → b ≡ true → is_generation g ≡ true → has gs g ≡ false
    → (if b then (is_generation g && not (has gs g)) else y) ≡ true
renews true g gs y h k l = rw (k, l) refl
renews false g gs y h k l = absurd cc

pub renewal_fits : (w : Setup) (ps : List FrameStep) (g : ℕ) (left : SaveOutcome)
    → option_or (unless_losable w (trace_heard w ps)) (unless_unused w (trace_heard w ps) g) ≡ None
    → is_of_setup w (trace_heard w ps) (AtClient (client.Renew g left)) ≡ true
renewal_fits w ps g left h =
    let t = trace_heard w ps in
    let first = both_none (unless_losable w t) (unless_unused w t g) h in
    let second = both_none (unless (is_generation g) BadGeneration) (used_generation w t g) first.1 in
    renews w.mirror g (generations (of_client w t)) false (has_mirror_of w.mirror _ first.0) (passes (is_generation g) BadGeneration second.0)
    (none_of (generations (of_client w t)) g (passes (list_all (λ earlier. nat_lt earlier g) (generations (of_client w t))) UsedGeneration second.1))

loses : (b : Bool) → b ≡ true → (if b then true else false) ≡ true
loses true h = refl
loses false h = absurd cc

pub loss_fits : (w : Setup) (t : List Step) → unless_losable w t ≡ None → is_of_setup w t (AtClient client.Lose) ≡ true
loss_fits w t h = loses w.mirror (has_mirror_of w.mirror _ h)
