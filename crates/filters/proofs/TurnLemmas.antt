-- What a server's filter does of itself, turn by turn.
use Rattle.std.proofs.Common.{◌≡◌, ◌<◌, ◌≤◌, ◌+◌, ℕ, Bool, true, false, List, [], ◌∷◌, ◌++◌, Result, Ok, Err, append_assoc, append-nil, refl, sym, ap, ◌∙◌, subst, arith, below_more}
use Rattle.fc_base.specs.declared.fault.Fault.{Fault}
use Rattle.fc_base.specs.declared.limits.TheConstants.{MAX_JOBS, MAX_WRITES}
use Rattle.server_core.specs.History.{Opening}
use Rattle.filters.specs.Written.{Written, Puts}
use Rattle.filters.proofs.OutputLemmas.{puts_none, puts_both}
use Rattle.filters.specs.Records.{end_bytes}
use Rattle.filters.specs.Lives.{Lives}
use Rattle.filters.specs.Steps.{AnswersBy}
use Rattle.filters.specs.ServerOrders.{AreAllGiven, GivesNone}
use Rattle.filters.specs.ServerAt.{ServerAt}
use Rattle.filters.specs.ServerTurns.{Turn, TakesTurn, Turns}
use Rattle.filters.specs.ServerLives.{EndsBy, TakesCheck}
use Rattle.filters.specs.ServerRuns.{Asked, Gave, TurnsTo}
use Rattle.filters.proofs.OrderLemmas.{turns_keep}

-- No turn.
none_taken : (o : Opening) (at : ServerAt) → Turns o at at []
none_taken o at = ([], (refl, refl))

-- Turns behind turns.
both_taken : (o : Opening) (first mid now : ServerAt) (earlier later : List ℕ) → Turns o first mid earlier → (turns : List Turn)
    → Lives (TakesTurn o) mid turns now later → Turns o first now (earlier ++ later)
both_taken o first mid now earlier later (some, lived) [] (same, none) = (
  some,
  subst (λ l. Lives (TakesTurn o) first some now l) (sym (ap (λ l. earlier ++ l) none ∙ append-nil earlier))
      (subst (λ n. Lives (TakesTurn o) first some n earlier) (sym same) lived),
)
both_taken o first mid now earlier later before (t ∷ ts) more =
    let b = both_taken o first mid more.before earlier more.earlier before ts more.lived in (
      t ∷ b.0,
      record {
        before = more.before;
        earlier = earlier ++ more.earlier;
        answer = more.answer;
        lived = b.1;
        takes = more.takes;
        all = ap (λ l. earlier ++ l) more.all ∙ sym (append_assoc earlier more.earlier more.answer);
      },
    )

-- No turn was taken.
pub takes_none : (Now : Opening → ServerAt → Type 0) (text : Written) → AnswersBy Turns Now Now text text
takes_none Now text = record { answer = []; written = puts_none text; takes = λ o at h. (at, h, none_taken o at) }

-- One turn was taken.
pub takes_one : (Before After : Opening → ServerAt → Type 0) (turn : Turn) (old new : Written) (bytes : List ℕ) → Puts old new bytes
    → ((o : Opening) (at : ServerAt) → Before o at → (now : ServerAt) × After o now × TakesTurn o at turn now bytes) → AnswersBy Turns Before After old new
takes_one Before After turn old new bytes wrote takes = record {
  answer = bytes;
  written = wrote;
  takes = λ o at h. let t = takes o at h in (
    t.0,
    t.1,
    (turn ∷ [], record { before = at; earlier = []; answer = bytes; lived = (refl, refl); takes = t.2; all = refl }),
  );
}

-- Turns were taken behind others.
pub takes_more : (Before Mid After : Opening → ServerAt → Type 0) (old mid new : Written) → AnswersBy Turns Before Mid old mid
    → AnswersBy Turns Mid After mid new → AnswersBy Turns Before After old new
takes_more Before Mid After old mid new some more = record {
  answer = some.answer ++ more.answer;
  written = puts_both old mid new some.answer more.answer some.written more.written;
  takes = λ o at h.
      let s = some.takes o at h in
      let m = more.takes o s.0 s.1 in (m.0, m.1, both_taken o at s.0 m.0 some.answer more.answer s.2 m.2.0 m.2.1);
}

-- One turn was taken, and this holds then.
pub takes_one_to : (P : Opening → ServerAt → ServerAt → Type 0) (Before After : Opening → ServerAt → Type 0) (turn : Turn) (old new : Written)
    (bytes : List ℕ) → Puts old new bytes
    → ((o : Opening) (at : ServerAt) → Before o at → (now : ServerAt) × After o now × TakesTurn o at turn now bytes × P o at now)
    → AnswersBy (TurnsTo P) Before After old new
takes_one_to P Before After turn old new bytes wrote takes = record {
  answer = bytes;
  written = wrote;
  takes = λ o at h. let t = takes o at h in (
    t.0,
    t.1,
    ((turn ∷ [], record { before = at; earlier = []; answer = bytes; lived = (refl, refl); takes = t.2; all = refl }), t.3),
  );
}

-- No turn was taken, and this holds.
pub takes_none_to : (P : Opening → ServerAt → ServerAt → Type 0) (Now : Opening → ServerAt → Type 0) (text : Written)
    → ((o : Opening) (at : ServerAt) → Now o at → P o at at) → AnswersBy (TurnsTo P) Now Now text text
takes_none_to P Now text holds =
    record { answer = []; written = puts_none text; takes = λ o at h. (at, h, (none_taken o at, holds o at h)) }

-- Turns were taken behind others.
pub takes_more_to : (P Q R : Opening → ServerAt → ServerAt → Type 0) (Before Mid After : Opening → ServerAt → Type 0) (old mid new : Written)
    → AnswersBy (TurnsTo P) Before Mid old mid → AnswersBy (TurnsTo Q) Mid After mid new
    → ((o : Opening) (first at now : ServerAt) (written : List ℕ) → Turns o at now written → P o first at → Q o at now → R o first now)
    → AnswersBy (TurnsTo R) Before After old new
takes_more_to P Q R Before Mid After old mid new some more then = record {
  answer = some.answer ++ more.answer;
  written = puts_both old mid new some.answer more.answer some.written more.written;
  takes = λ o at h.
      let s = some.takes o at h in
      let m = more.takes o s.0 s.1 in (
        m.0,
        m.1,
        (
          both_taken o at s.0 m.0 some.answer more.answer s.2.0 m.2.0.0 m.2.0.1,
          then o at s.0 m.0 more.answer m.2.0 s.2.1 m.2.1,
        ),
      );
}

-- Turns were taken, of which nothing more is known.
pub takes_any : (Before After : Opening → ServerAt → Type 0) (old new : Written) → AnswersBy Turns Before After old new
    → AnswersBy (TurnsTo (λ o at now. Unit {0})) Before After old new
takes_any Before After old new some = record {
  answer = some.answer;
  written = some.written;
  takes = λ o at h. let s = some.takes o at h in (s.0, s.1, (s.2, tt));
}

-- Jobs were asked until they give none, one behind the other.
pub jobs_asked : (n : ℕ) (Before Mid After : Opening → ServerAt → Type 0) (old mid new : Written)
    → AnswersBy (TurnsTo (λ o at now. (j : ℕ) → j < n → GivesNone o now.list j)) Before Mid old mid
    → AnswersBy (TurnsTo (λ o at now. GivesNone o now.list n)) Mid After mid new
    → AnswersBy (TurnsTo (λ o at now. (j : ℕ) → j < n + 1 → GivesNone o now.list j)) Before After old new
jobs_asked n Before Mid After old mid new some more =
    takes_more_to (λ o at now. (j : ℕ) → j < n → GivesNone o now.list j) (λ o at now. GivesNone o now.list n)
    (λ o at now. (j : ℕ) → j < n + 1 → GivesNone o now.list j) Before Mid After old mid new some more
    (λ o first at now written turns below here. below_more (λ j. GivesNone o now.list j) n
    (λ j lt. turns_keep o at now written j turns (below j lt)) here)

-- None was asked yet.
pub jobs_none : (Now : Opening → ServerAt → Type 0) (text : Written)
    → AnswersBy (TurnsTo (λ o at now. (j : ℕ) → j < 0 → GivesNone o now.list j)) Now Now text text
jobs_none Now text = takes_none_to (λ o at now. (j : ℕ) → j < 0 → GivesNone o now.list j) Now text (λ o at h. λ j lt. absurd (omega arith))

-- All were asked.
pub jobs_all : (n : ℕ) (Before After : Opening → ServerAt → Type 0) (old new : Written) → MAX_JOBS ≤ n
    → AnswersBy (TurnsTo (λ o at now. (j : ℕ) → j < n → GivesNone o now.list j)) Before After old new
    → AnswersBy (TurnsTo (λ o at now. AreAllGiven o now.list)) Before After old new
jobs_all n Before After old new all some = record {
  answer = some.answer;
  written = some.written;
  takes = λ o at h. let s = some.takes o at h in (s.0, s.1, (s.2.0, λ j lt. s.2.1 j (omega (arith, all, lt))));
}

-- Turns behind those that ordered all.
pub ordered_then : (Before Mid After : Opening → ServerAt → Type 0) (old mid new : Written)
    → AnswersBy (TurnsTo (λ o at now. AreAllGiven o now.list)) Before Mid old mid → AnswersBy Turns Mid After mid new
    → AnswersBy (TurnsTo (λ o at now. AreAllGiven o now.list)) Before After old new
ordered_then Before Mid After old mid new some more =
    takes_more_to (λ o at now. AreAllGiven o now.list) (λ o at now. Unit {0}) (λ o at now. AreAllGiven o now.list) Before Mid After old mid new
    some (takes_any Mid After mid new more) (λ o first at now written turns all so. λ j lt. turns_keep o at now written j turns (all j lt))

-- A job was asked so often.
pub asked_none : (j : ℕ) (Now : Opening → ServerAt → Type 0) (text : Written) → AnswersBy (TurnsTo (Gave j 0)) Now Now text text
asked_none j Now text = takes_none_to (Gave j 0) Now text (λ o at h. (omega arith, λ some. absurd (omega arith)))

pub asked_more : (j n : ℕ) (more : Bool) (Before Mid After : Opening → ServerAt → Type 0) (old mid new : Written) → more ≡ true
    → AnswersBy (TurnsTo (Gave j n)) Before Mid old mid → AnswersBy (TurnsTo (Asked j more)) Mid After mid new
    → AnswersBy (TurnsTo (Gave j (n + 1))) Before After old new
asked_more j n more Before Mid After old mid new is some next =
    takes_more_to (Gave j n) (Asked j true) (Gave j (n + 1)) Before Mid After old mid new some
    (subst (λ (b : Bool). AnswersBy (TurnsTo (Asked j b)) Mid After mid new) is next)
    (λ o first at now written turns gave one. (omega (arith, gave.0, one.0), λ some. one.1))

pub asked_last : (j n : ℕ) (more : Bool) (Before Mid After : Opening → ServerAt → Type 0) (old mid new : Written) → more ≡ false
    → AnswersBy (TurnsTo (Gave j n)) Before Mid old mid → AnswersBy (TurnsTo (Asked j more)) Mid After mid new
    → AnswersBy (TurnsTo (λ o at now. GivesNone o now.list j)) Before After old new
asked_last j n more Before Mid After old mid new is some next =
    takes_more_to (Gave j n) (Asked j false) (λ o at now. GivesNone o now.list j) Before Mid After old mid new some
    (subst (λ (b : Bool). AnswersBy (TurnsTo (Asked j b)) Mid After mid new) is next)
    (λ o first at now written turns gave none. none)

-- It was asked once, and answered whether it gave a write.
pub asked_so : (j : ℕ) (gives : Bool) (Before After : Opening → ServerAt → Type 0) (turn : Turn) (old new : Written) (bytes : List ℕ)
    (more : Bool) → Puts old new bytes → more ≡ gives
    → ((o : Opening) (at : ServerAt) → Before o at → (now : ServerAt) × After o now × TakesTurn o at turn now bytes × Asked j gives o at now)
    → AnswersBy (TurnsTo (Asked j more)) Before After old new
asked_so j gives Before After turn old new bytes more wrote same takes =
    subst (λ (b : Bool). AnswersBy (TurnsTo (Asked j b)) Before After old new) (sym same) (takes_one_to (Asked j gives) Before After turn old new bytes wrote takes)

-- It can't be asked oftener than it has writes.
pub asked_out : (j n : ℕ) (Before After : Opening → ServerAt → Type 0) (old new : Written) → MAX_WRITES < n
    → AnswersBy (TurnsTo (Gave j n)) Before After old new → AnswersBy (TurnsTo (λ o at now. GivesNone o now.list j)) Before After old new
asked_out j n Before After old new spent some = record {
  answer = some.answer;
  written = some.written;
  takes = λ o at h. let s = some.takes o at h in absurd (omega (arith, s.2.1.0, s.2.1.1 (omega (arith, spent)), spent));
}

-- And the end behind them.
pub takes_end : (Before After : Opening → ServerAt → Type 0) (old mid new : Written)
    → AnswersBy (TurnsTo (λ o at now. AreAllGiven o now.list)) Before After old mid → Puts mid new (end_bytes (Ok tt))
    → AnswersBy (λ o at now written. EndsBy (Ok tt) o at [] now written) Before After old new
takes_end Before After old mid new some wrote = record {
  answer = some.answer ++ end_bytes (Ok tt);
  written = puts_both old mid new some.answer (end_bytes (Ok tt)) some.written wrote;
  takes = λ o at h. let s = some.takes o at h in (
    s.0,
    s.1,
    record { written = some.answer; turns = s.2.0; ordered = s.2.1; all = refl },
  );
}

-- Just the fault.
pub takes_fault : (Now : Opening → ServerAt → Type 0) (old new : Written) (fault : Fault) → Puts old new (end_bytes (Err fault))
    → AnswersBy (λ o at now written. EndsBy (Err fault) o at [] now written) Now Now old new
takes_fault Now old new fault wrote =
    record { answer = end_bytes (Err fault); written = wrote; takes = λ o at h. (at, h, (refl, refl)) }

behind : (end : Result (Unit {0}) Fault) (o : Opening) (mid : ServerAt) (front : List ℕ) (now : ServerAt) (written : List ℕ)
    → EndsBy end o mid [] now written → EndsBy end o mid front now (front ++ written)
behind (Ok taken) o mid front now written follows = record {
  written = follows.written;
  turns = follows.turns;
  ordered = follows.ordered;
  all = ap (λ l. front ++ l) follows.all;
}
behind (Err fault) o mid front now written (is, said) = (is, ap (λ l. front ++ l) said)

-- What is made of what is told of a check, and the end.
pub takes_then : (Comes : Opening → ServerAt → Result (Unit {0}) Fault → ServerAt → List ℕ → Type 0) (end : Result (Unit {0}) Fault)
    (Before Mid After : Opening → ServerAt → Type 0) (old mid new : Written)
    → AnswersBy (λ o at now answer. Comes o at end now answer) Before Mid old mid
    → AnswersBy (λ o at now written. EndsBy end o at [] now written) Mid After mid new
    → AnswersBy (λ o at now answer. TakesCheck (Comes o at) o now answer) Before After old new
takes_then Comes end Before Mid After old mid new some more = record {
  answer = some.answer ++ more.answer;
  written = puts_both old mid new some.answer more.answer some.written more.written;
  takes = λ o at h.
      let s = some.takes o at h in
      let m = more.takes o s.0 s.1 in (
        m.0,
        m.1,
        record {
          end = end;
          mid = s.0;
          front = some.answer;
          comes = s.2;
          ends = behind end o s.0 some.answer m.0 more.answer m.2;
        },
      );
}
