-- Which event an entry of a server's list came with, and which observation that is.
use Rattle.std.proofs.Common.{◌≡◌, refl, sym, ◌∙◌, ap, ℕ, List, [], ◌∷◌, ◌++◌, Option, Some, None}
use Rattle.disk_model.specs.declared.save_outcome.SaveOutcome.{SaveOutcome}
use Rattle.disk_model.specs.declared.save_outcome.SaveOutcome.TheVariants.{Saved}
use Rattle.messages.specs.Hearing.{with_entry}
use Rattle.server_core.specs.Inputs.{PacketInput}
use Rattle.server_core.specs.History.{Entry, Met, Restart}
use Rattle.net_world.specs.Setup.{Setup}
use Rattle.net_world.specs.Happenings.{Happening}
use Rattle.net_world.specs.Trace.{of_server}
use Rattle.net_world.specs.Changes.{steps, trace}
use Rattle.net_world.specs.Outcomes.{outcome}
use Rattle.net_world.specs.World.{world}
use Rattle.seen.specs.Observations.{Observation}
use Rattle.seen.specs.Watching.{observation, observations}
use Rattle.seen.proofs.EntryLemmas.{step_in, entry_by, list_with}

-- The list of a server in a world.
abbrev pub list_at : Setup → ℕ → List Happening → List Entry
list_at w s events = of_server s (trace w (world w events))

-- What it hears with one more event.
abbrev pub entry_now : Setup → ℕ → List Happening → Happening → Option Entry
entry_now w s events e = entry_by s (steps (world w events)) (step_in (outcome w (world w events) e))

pub one_more : (w : Setup) (s : ℕ) (events : List Happening) (e : Happening) → list_at w s (e ∷ events) ≡ with_entry (entry_now w s events e) (list_at w s events)
one_more w s events e = list_with w s (world w events) (outcome w (world w events) e)

pub with_one : (w : Setup) (s : ℕ) (evs : List Happening) (e : Happening) (y : Entry) → entry_now w s evs e ≡ Some y → list_at w s (e ∷ evs) ≡ y ∷ list_at w s evs
with_one w s evs e y is = one_more w s evs e ∙ ap (λ z. with_entry z (list_at w s evs)) is

-- ---- where an entry came

-- The event with which an entry came, and what was heard before it.
pub record Found (w : Setup) (s : ℕ) (events : List Happening) (y : Entry) (older : List Entry) : Type 0 where
  pub later : List Happening
  pub event : Happening
  pub earlier : List Happening
  pub split : events ≡ later ++ event ∷ earlier
  pub now : entry_now w s earlier event ≡ Some y
  pub before : list_at w s earlier ≡ older

further : (w : Setup) (s : ℕ) (events : List Happening) (e : Happening) (y : Entry) (older : List Entry) → Found w s events y older → Found w s (e ∷ events) y older
further w s events e y older f =
    record { later = e ∷ f.later; event = f.event; earlier = f.earlier; split = ap (λ l. e ∷ l) f.split; now = f.now; before = f.before }

not_first : (newer : List Entry) (e : PacketInput) (left : SaveOutcome) (older : List Entry) → Restart Saved ∷ [] ≡ newer ++ Met e left ∷ older → ⊥
not_first [] e left older h = cc
not_first (x ∷ []) e left older h = cc
not_first (x ∷ z ∷ newer) e left older h = cc

same_head : (x y : Entry) (xs ys : List Entry) → x ∷ xs ≡ y ∷ ys → x ≡ y
same_head x y xs ys h = cc

same_tail : (x y : Entry) (xs ys : List Entry) → x ∷ xs ≡ y ∷ ys → xs ≡ ys
same_tail x y xs ys h = cc

pub found : (w : Setup) (s : ℕ) (events : List Happening) (newer : List Entry) (e : PacketInput) (left : SaveOutcome) (older : List Entry)
    → list_at w s events ≡ newer ++ Met e left ∷ older → Found w s events (Met e left) older
found w s [] newer e left older h = absurd (not_first newer e left older h)
found w s (x ∷ events) newer e left older h =
    by (entry_now w s events x) refl newer (λ new k. found w s events new e left older k) (sym (one_more w s events x) ∙ h)
  where
    by : (n : Option Entry) → entry_now w s events x ≡ n → (new : List Entry)
        → ((rest : List Entry) → list_at w s events ≡ rest ++ Met e left ∷ older → Found w s events (Met e left) older)
        → with_entry n (list_at w s events) ≡ new ++ Met e left ∷ older → Found w s (x ∷ events) (Met e left) older
    by None is new f k = further w s events x (Met e left) older (f new k)
    by (Some y) is [] f k =
        record {
          later = [];
          event = x;
          earlier = events;
          split = refl;
          now = is ∙ ap Some (same_head y (Met e left) (list_at w s events) older k);
          before = same_tail y (Met e left) (list_at w s events) older k;
        }
    by (Some y) is (z ∷ new) f k =
        further w s events x (Met e left) older (f new (same_tail y z (list_at w s events) (new ++ Met e left ∷ older) k))

-- ---- what came since

-- What a server has heard since these events.
abbrev pub since : Setup → ℕ → List Happening → List Happening → List Entry
since w s [] base = []
since w s (e ∷ mid) base = with_entry (entry_now w s (mid ++ base) e) (since w s mid base)

with_append : (x : Option Entry) (xs ys : List Entry) → with_entry x (xs ++ ys) ≡ with_entry x xs ++ ys
with_append None xs ys = refl
with_append (Some e) xs ys = refl

pub since_is : (w : Setup) (s : ℕ) (mid base : List Happening) → list_at w s (mid ++ base) ≡ since w s mid base ++ list_at w s base
since_is w s [] base = refl
since_is w s (e ∷ mid) base =
    one_more w s (mid ++ base) e ∙ ap (with_entry (entry_now w s (mid ++ base) e)) (since_is w s mid base)
    ∙ with_append (entry_now w s (mid ++ base) e) (since w s mid base) (list_at w s base)

-- What is seen since these events.
abbrev pub seen_since : Setup → List Happening → List Happening → List Observation
seen_since w [] base = []
seen_since w (e ∷ mid) base = observation w (mid ++ base) e ∷ seen_since w mid base

pub seen_append : (w : Setup) (mid base : List Happening) → observations w (mid ++ base) ≡ seen_since w mid base ++ observations w base
seen_append w [] base = refl
seen_append w (e ∷ mid) base = ap (λ l. observation w (mid ++ base) e ∷ l) (seen_append w mid base)

-- ---- where an observation was made

-- The event of an observation among those since a base.
pub record SeenAt (w : Setup) (mid base : List Happening) (o : Observation) (older : List Observation) : Type 0 where
  pub later : List Happening
  pub event : Happening
  pub earlier : List Happening
  pub split : mid ≡ later ++ event ∷ earlier
  pub here : observation w (earlier ++ base) event ≡ o
  pub before : seen_since w earlier base ≡ older

same_first : (x y : Observation) (xs ys : List Observation) → x ∷ xs ≡ y ∷ ys → x ≡ y
same_first x y xs ys h = cc

same_rest : (x y : Observation) (xs ys : List Observation) → x ∷ xs ≡ y ∷ ys → xs ≡ ys
same_rest x y xs ys h = cc

pub seen_at : (w : Setup) (mid base : List Happening) (newer : List Observation) (o : Observation) (older : List Observation)
    → seen_since w mid base ≡ newer ++ o ∷ older → SeenAt w mid base o older
seen_at w [] base [] o older h = absurd cc
seen_at w [] base (x ∷ newer) o older h = absurd cc
seen_at w (e ∷ mid) base [] o older h =
    record {
      later = [];
      event = e;
      earlier = mid;
      split = refl;
      here = same_first (observation w (mid ++ base) e) o (seen_since w mid base) older h;
      before = same_rest (observation w (mid ++ base) e) o (seen_since w mid base) older h;
    }
seen_at w (e ∷ mid) base (x ∷ newer) o older h =
    let k = seen_at w mid base newer o older (same_rest (observation w (mid ++ base) e) x (seen_since w mid base) (newer ++ o ∷ older) h) in
    record { later = e ∷ k.later; event = k.event; earlier = k.earlier; split = ap (λ l. e ∷ l) k.split; here = k.here; before = k.before }

-- The same of all observations.
pub record SeenIn (w : Setup) (events : List Happening) (o : Observation) (older : List Observation) : Type 0 where
  pub later : List Happening
  pub event : Happening
  pub earlier : List Happening
  pub split : events ≡ later ++ event ∷ earlier
  pub here : observation w earlier event ≡ o
  pub before : observations w earlier ≡ older

pub seen_in : (w : Setup) (events : List Happening) (newer : List Observation) (o : Observation) (older : List Observation)
    → observations w events ≡ newer ++ o ∷ older → SeenIn w events o older
seen_in w [] [] o older h = absurd cc
seen_in w [] (x ∷ newer) o older h = absurd cc
seen_in w (e ∷ events) [] o older h =
    record {
      later = [];
      event = e;
      earlier = events;
      split = refl;
      here = same_first (observation w events e) o (observations w events) older h;
      before = same_rest (observation w events e) o (observations w events) older h;
    }
seen_in w (e ∷ events) (x ∷ newer) o older h =
    let k = seen_in w events newer o older (same_rest (observation w events e) x (observations w events) (newer ++ o ∷ older) h) in
    record { later = e ∷ k.later; event = k.event; earlier = k.earlier; split = ap (λ l. e ∷ l) k.split; here = k.here; before = k.before }
