-- What is kept of this life, where the mirror says something.
use Rattle.std.proofs.Common.{◌≡◌, refl, sym, ◌∙◌, ap, subst, ℕ, ◌<◌, arith, Bool, true, false, ◌&&◌, ◌||◌, ◌==◌, List, ◌∷◌}
use Rattle.std.specs.Prelude.{cond, if◌then◌else◌, Result, Ok, Err, OnOk}
use Rattle.std.proofs.lemmas.Bool.Decides.{nat_tests}
use Rattle.fc_base.specs.declared.numbers.Key.{Key}
use Rattle.fc_base.specs.Keys.{is_same_key}
use Rattle.std.specs.HashSet.{contains, Updates}
use Rattle.messages.specs.declared.body.Body.{Body}
use Rattle.messages.specs.declared.body.Body.TheVariants as bodies
use Rattle.messages.specs.declared.node.Node.{Node}
use Rattle.messages.specs.declared.node.Node.TheVariants as nodes
use Rattle.messages.specs.Nodes.{node_number, is_mirror}
use Rattle.messages.specs.Bodies.{kind_of}
use Rattle.messages.specs.Kinds.{is_of_mirror}
use Rattle.client_core.specs.declared.life.Life.{Life}
use Rattle.client_core.specs.Life.{Deed, Hears}
use Rattle.std.specs.Ordering.{nat_cmp}
use Rattle.std.specs.BTreeMap.{get}
use Rattle.fc_base.specs.declared.limits.TheConstants.{MAX_SERVERS}
use Rattle.messages.specs.declared.limits.TheConstants.{MIRROR_NUMBER}
use Rattle.client_core.specs.Lives.{LifeIs, CopiedAre, RunFor, AttemptFor}
use Rattle.client_core.specs.Packets.{says_kept, is_copied}
use Rattle.client_core.specs.Reports.{reports}
use Rattle.client_core.proofs.DeedLemmas.{SameRun, SameAttempt, run_stays, attempt_stays}

-- What a server says tells of no copy.
pub server_keeps_none : (server : ℕ) (body : Body) (key : Key) (deeds : List Deed) → server < MAX_SERVERS
    → is_copied key (Hears server body ∷ deeds) ≡ is_copied key deeds
server_keeps_none server body key deeds l =
    let other : (server == MIRROR_NUMBER) ≡ false = grind (arith, nat_tests) in
    ap (λ b. (b && says_kept key body) || is_copied key deeds) other

either : {A : Type 0} (b : Bool) (x : A) → (if b then x else x) ≡ x
either true x = refl
either false x = refl

same_run : (run server : ℕ) (body : Body) (deeds : List Deed) → is_of_mirror (kind_of body) ≡ true → SameRun run (Hears server body) deeds
same_run run server (bodies.Copy state) deeds h =
    record { text = refl; act = refl; begins = λ s. either _ _; triggers = λ s. either _ _; stops = λ s. either _ _ }
same_run run server (bodies.CopyOk r node job) deeds h =
    record { text = refl; act = refl; begins = λ s. either _ _; triggers = λ s. either _ _; stops = λ s. either _ _ }
same_run run server (bodies.Granted generation) deeds h =
    record { text = refl; act = refl; begins = λ s. either _ _; triggers = λ s. either _ _; stops = λ s. either _ _ }
same_run run server _ deeds h = cc

same_attempt : (attempt server : ℕ) (body : Body) (deeds : List Deed) → is_of_mirror (kind_of body) ≡ true → SameAttempt attempt (Hears server body) deeds
same_attempt attempt server (bodies.Copy state) deeds h = record { run = refl; text = refl; verifies = λ s. either _ _ }
same_attempt attempt server (bodies.CopyOk r node job) deeds h = record { run = refl; text = refl; verifies = λ s. either _ _ }
same_attempt attempt server (bodies.Granted generation) deeds h = record { run = refl; text = refl; verifies = λ s. either _ _ }
same_attempt attempt server _ deeds h = cc

same_reports : (server : ℕ) (body : Body) (deeds : List Deed) → is_of_mirror (kind_of body) ≡ true → reports (Hears server body ∷ deeds) ≡ reports deeds
same_reports server (bodies.Copy state) deeds h = refl
same_reports server (bodies.CopyOk r node job) deeds h = refl
same_reports server (bodies.Granted generation) deeds h = refl
same_reports server _ deeds h = cc

-- What the mirror says leaves the requests and the reports.
pub mirror_said : (old new : Life) (server : ℕ) (body : Body) (deeds : List Deed) → is_of_mirror (kind_of body) ≡ true → new.runs ≡ old.runs
    → new.attempts ≡ old.attempts → new.reports ≡ old.reports
    → CopiedAre new (Hears server body ∷ deeds) → LifeIs old deeds → LifeIs new (Hears server body ∷ deeds)
mirror_said old new server body deeds h runs attempts kept copied l = record {
  runs = subst (λ m. (run : ℕ) → RunFor run (Hears server body ∷ deeds) (get nat_cmp m run)) (sym runs)
      (λ run. run_stays run (Hears server body) deeds _ (same_run run server body deeds h) (l.runs run));
  attempts = subst (λ m. (attempt : ℕ) → AttemptFor attempt (Hears server body ∷ deeds) (get nat_cmp m attempt)) (sym attempts)
      (λ attempt. attempt_stays attempt (Hears server body) deeds _ (same_attempt attempt server body deeds h) (l.attempts attempt));
  reports_are = kept ∙ l.reports_are ∙ sym (same_reports server body deeds h);
  copied = copied;
}

tells_none : (key : Key) (server : ℕ) (body : Body) (deeds : List Deed) → says_kept key body ≡ false
    → is_copied key (Hears server body ∷ deeds) ≡ is_copied key deeds
tells_none key server body deeds none = ap (λ b. ((server == MIRROR_NUMBER) && b) || is_copied key deeds) none ∙ no_more (server == MIRROR_NUMBER)
  where
    no_more : (b : Bool) → ((b && false) || is_copied key deeds) ≡ is_copied key deeds
    no_more true = refl
    no_more false = refl

-- What tells of no copy changes nothing.
pub mirror_said_nothing : (kept : Life) (server : ℕ) (body : Body) (deeds : List Deed) → is_of_mirror (kind_of body) ≡ true
    → ((key : Key) → says_kept key body ≡ false) → LifeIs kept deeds → LifeIs kept (Hears server body ∷ deeds)
mirror_said_nothing kept server body deeds h none l =
    mirror_said kept kept server body deeds h refl refl refl (λ key. l.copied key ∙ sym (tells_none key server body deeds (none key))) l

-- What tells of a copy makes its key one of those that are copied.
pub copied_more : (old new : Life) (run node job : ℕ) (deeds : List Deed)
    → Updates is_same_key old.copied new.copied (record { run = run; server = node; job = job }) true → LifeIs old deeds
    → CopiedAre new (Hears MIRROR_NUMBER (bodies.CopyOk run node job) ∷ deeds)
copied_more old new run node job deeds u l = λ key. u.0 key
    ∙ one_more (is_same_key (record { run = run; server = node; job = job }) key) (contains is_same_key old.copied key) (is_copied key deeds) (l.copied key)
  where
    one_more : (here before said : Bool) → before ≡ said → cond here true before ≡ (here || said)
    one_more true before said e = refl
    one_more false before said e = e

pub ok_life : {A E : Type 0} (r : Result A E) (P Q : Type 0) → (P → Q) → OnOk r P → OnOk r Q
ok_life (Ok x) P Q f h = f h
ok_life (Err e) P Q f h = tt

-- What is of the mirror's, and tells of no copy.
pub says_none : (body : Body) → is_of_mirror (kind_of body) ≡ true → ((run node job : ℕ) → body ≡ bodies.CopyOk run node job → ⊥) → (key : Key)
    → says_kept key body ≡ false
says_none (bodies.Copy state) h none key = refl
says_none (bodies.CopyOk r node job) h none key = absurd (none r node job refl)
says_none (bodies.Granted generation) h none key = refl
says_none _ h none key = cc

pub mirror_number : (node : Node) → is_mirror node ≡ true → node_number node ≡ MIRROR_NUMBER
mirror_number nodes.Mirror h = refl
mirror_number nodes.Client h = cc
mirror_number (nodes.Server s) h = cc
