-- The writes that are ordered one after the other.
use Rattle.std.proofs.Common.{◌≡◌, ◌<◌, ◌≤◌, ℕ, Bool, true, false, ◌||◌, nat_le, List, [], ◌∷◌, ◌++◌, Option, None, Some}
use Rattle.std.proofs.Common.{IfOk, IfSome, Result, Ok, Err, append_assoc, append-nil, refl, sym, ap, ◌∙◌, subst, arith}
use Rattle.std.specs.Prelude.{if◌then◌else◌}
use Rattle.std.specs.Io.KnownBytes.{Appends}
use Rattle.std.proofs.KnownBytes.{Appends-nil, Appends-trans, Consumes-nil}
use Rattle.std.proofs.lemmas.Bool.Decides.{nat_tests}
use Rattle.std.proofs.lemmas.List.{length_push}
use Rattle.fc_base.specs.declared.numbers.Key.{Key}
use Rattle.fc_base.specs.declared.record.JobParts.{JobParts}
use Rattle.std.specs.List.{flat_map}
use Rattle.engine.specs.History.{Event, issue, issues}
use Rattle.engine.specs.Legal.{IsLegal}
use Rattle.engine.specs.declared.issue.Issue.{Issue}
use Rattle.engine.specs.declared.issue.Issue.TheVariants.{Write, Full, Held, Overlap, Finished, Stopped}
use Rattle.engine.specs.declared.issue.Ticket.{Ticket}
use Rattle.engine.specs.Running.{Origin, Running, StandsFor, EachHistory, Adds}
use Rattle.engine.specs.Answers.{after_answer, answer_by, answer_to, is_write, ticket_of}
use Rattle.targets.specs.Orders.{order_bytes, orders, orders_behind}
use Rattle.targets.specs.declared.notice.Notice.{Notice}
use Rattle.targets.specs.declared.writing.RunEnd.{RunEnd}
use Rattle.targets.specs.Runs.{Follows, IsHistory, Issues, Runs}
use Rattle.targets.specs.Writing.{Ends, GoesOn, OrdersSome, OrdersAll, RunsOn, SoFar, steps_left}
use Rattle.targets.proofs.RunLemmas.{orders_more}

-- None is ordered yet.
pub none_yet : (head : List ℕ) (h : List Event) (running : Running) (text : Option (List ℕ)) → StandsFor running h → OrdersSome head running.origin h running text text
none_yet head h running text stands = record {
  history = h;
  writes = [];
  bytes = [];
  stands = stands;
  issued = refl;
  written = Appends-nil text;
  ordered = sym (append-nil (orders_behind head running.origin.key running.origin.job h));
}

-- One more is ordered.
pub one_more : (head : List ℕ) (origin : Origin) (h : List Event) (running new : Running) (first text now : Option (List ℕ)) (k : ℕ) (key : Key) (job : JobParts)
    → OrdersSome head origin h running first text → Adds running new (issue k) → Appends text now (head ++ order_bytes key job k) → key ≡ origin.key → job ≡ origin.job
    → OrdersSome head origin h new first now
one_more head origin h running new first text now k key job some adds wrote same_key same_job = record {
  history = issue k ∷ some.history;
  writes = k ∷ some.writes;
  bytes = some.bytes ++ (head ++ order_bytes origin.key origin.job k);
  stands = adds some.history some.stands;
  issued = ap (λ l. issue k ∷ l) some.issued;
  written = Appends-trans first text now some.bytes (head ++ order_bytes origin.key origin.job k) some.written
      (subst (λ b. Appends text now (head ++ order_bytes origin.key b k)) same_job (subst (λ a. Appends text now (head ++ order_bytes a job k)) same_key wrote));
  ordered =
      orders_more head origin.key origin.job k some.history ∙ ap (λ l. l ++ (head ++ order_bytes origin.key origin.job k)) some.ordered
      ∙ append_assoc (orders_behind head origin.key origin.job h) some.bytes (head ++ order_bytes origin.key origin.job k);
}

-- A write that is answered is the next, and there was one left.
pub write_is : (origin : Origin) (stopped failed : Bool) (next : ℕ) (writes : List ℕ) (ticket : Ticket)
    → Write ticket ≡ answer_by origin stopped failed next writes
    → (ticket ≡ ticket_of origin next) × (next < origin.job.total)
write_is origin stopped failed next writes ticket is = by (stopped || failed) (nat_le origin.job.total next) _ _ _ refl is
  where
    by : (a b c d e : Bool) → nat_le origin.job.total next ≡ b
        → Write ticket ≡ (if a then Stopped else (if b then Finished
        else (if c then Full else (if d then Held else (if e then Overlap else Write (ticket_of origin next))))))
        → (ticket ≡ ticket_of origin next) × (next < origin.job.total)
    by true b c d e left is = absurd cc
    by false true c d e left is = absurd cc
    by false false true d e left is = absurd cc
    by false false false true e left is = absurd cc
    by false false false false true left is = absurd cc
    by false false false false false left is = let same : ticket ≡ ticket_of origin next = cc in (same, grind (arith, nat_tests))

-- What is left once a write is issued.
pub left_by_write : (running new : Running) (ticket : Ticket) → new ≡ after_answer running (Write ticket) → running.kept.issued < running.origin.job.total
    → steps_left new ≤ steps_left running
left_by_write running new ticket is some =
    subst (λ r. steps_left r ≤ steps_left running) (sym is) (omega (arith, some, length_push running.kept.open_writes running.kept.issued))

-- An answer that is no write.
pub not_write : (answer : Issue) → ((t : Ticket) → answer ≡ Write t → ⊥) → is_write answer ≡ false
not_write (Write t) none = absurd (none t refl)
not_write Full none = refl
not_write Held none = refl
not_write Overlap none = refl
not_write Finished none = refl
not_write Stopped none = refl

-- It changes nothing.
pub same_by_answer : (running : Running) (answer : Issue) → is_write answer ≡ false → after_answer running answer ≡ running
same_by_answer running (Write t) none = absurd cc
same_by_answer running Full none = refl
same_by_answer running Held none = refl
same_by_answer running Overlap none = refl
same_by_answer running Finished none = refl
same_by_answer running Stopped none = refl

-- So all are ordered that can be.
pub all_ordered : (head : List ℕ) (origin : Origin) (h : List Event) (running new : Running) (first text : Option (List ℕ)) (answer : Issue)
    → OrdersSome head origin h running first text → running.origin ≡ origin → running.stopped ≡ false
    → EachHistory running (λ g. answer ≡ answer_to running.origin running.stopped g) → new ≡ after_answer running answer → is_write answer ≡ false
    → OrdersAll head origin h new first text
all_ordered head origin h running new first text answer some same going answers new_is none =
    let unchanged : new ≡ running = new_is ∙ same_by_answer running answer none in
    let answered : answer ≡ answer_to origin false some.history =
    answers some.history some.stands ∙ ap (λ o. answer_to o running.stopped some.history) same ∙ ap (λ b. answer_to origin b some.history) going in (
      record {
        history = some.history;
        writes = some.writes;
        bytes = some.bytes;
        stands = subst (λ r. StandsFor r some.history) (sym unchanged) some.stands;
        issued = some.issued;
        written = some.written;
        ordered = some.ordered;
      },
      ap is_write (sym answered) ∙ none,
    )

-- A write has ended, and all are ordered that can be then.
ended_then : (head : List ℕ) (origin : Origin) (h : List Event) (e : Event) (n : Notice) (new : Running) (old text : Option (List ℕ)) → OrdersAll head origin (e ∷ h) new old text
    → new.origin ≡ origin
    → ((later : List Event) → Issues origin (e ∷ h) later → Follows origin n h later) → issues (e ∷ h) ≡ issues h → GoesOn head h n origin new old text
ended_then head origin h e n new old text (some, all) same follow quiet = record {
  history = some.history;
  bytes = some.bytes;
  follows = follow some.history (record {
    writes = some.writes;
    events = some.issued;
    legal = subst (λ (o : Origin). IsLegal o.job some.history) same some.stands.legal;
    all = all;
  });
  stands = some.stands;
  written = some.written;
  ordered = some.ordered ∙ ap (λ l. flat_map (λ j. head ++ order_bytes origin.key origin.job j) l ++ some.bytes) quiet;
}

pub followed : (head : List ℕ) (old mid new : Running) (h : List Event) (e : Event) (k : ℕ) (n : Notice) (is_open : Bool) (old_text text : Option (List ℕ)) → is_open ≡ true
    → Ends e k h mid is_open → mid.origin ≡ old.origin
    → new.origin ≡ mid.origin → ((g : List Event) → StandsFor mid g → OrdersAll head mid.origin g new old_text text)
    → ((later : List Event) → Issues old.origin (e ∷ h) later → Follows old.origin n h later) → issues (e ∷ h) ≡ issues h
    → (new.origin ≡ old.origin) × GoesOn head h n old.origin new old_text text
followed head old mid new h e k n false old_text text is ends same_mid same_new ordered follow quiet = absurd cc
followed head old mid new h e k n true old_text text is ends same_mid same_new ordered follow quiet = (
  same_new ∙ same_mid,
  ended_then head old.origin h e n new old_text text (subst (λ o. OrdersAll head o (e ∷ h) new old_text text) same_mid (ordered (e ∷ h) ends))
      (same_new ∙ same_mid) follow quiet,
)

-- A run that begins.
pub begun : (origin : Origin) (running : Running) (input first text : Option (List ℕ)) → OrdersAll [] origin [] running first text → running.origin ≡ origin
    → SoFar running input input first text
begun origin running input first text (some, all) same = record {
  notices = [];
  history = some.history;
  stands = some.stands;
  is_history = subst (λ o. IsHistory o [] some.history) (sym same) (record {
    writes = some.writes;
    events = some.issued;
    legal = subst (λ (o : Origin). IsLegal o.job some.history) same some.stands.legal;
    all = all;
  });
  told = Consumes-nil input;
  written = subst (λ (o : Origin). Appends first text (orders o.key o.job some.history)) (sym same)
      (subst (Appends first text) (sym some.ordered) some.written);
}

-- It ends as runs do.
pub run_all : {E : Type 0} (origin : Origin) (running : Running) (r : Result RunEnd E) (input first old new : Option (List ℕ))
    → IfOk r (RunsOn running input old new) → SoFar running input input first old
    → running.origin ≡ origin → IfSome input (λ whole. IfOk r (Runs origin whole first new))
run_all origin running r None first old new runs so_far same = tt
run_all origin running (Err e) (Some whole) first old new runs so_far same = tt
run_all origin running (Ok end) (Some whole) first old new runs so_far same = subst (λ o. Runs o whole first new end) same (runs (Some whole) first so_far)
