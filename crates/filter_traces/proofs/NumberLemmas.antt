-- A client that gives numbers.
use Rattle.std.proofs.Common.{◌≡◌, refl, ◌∙◌, ap, ℕ, suc, ◌+◌, ◌<◌, ◌≤◌, ◌^◌, arith, true, false, List, [], ◌∷◌, Option, Some}
use Rattle.std.specs.Prelude.{nat_lt, nat_le}
use Rattle.std.proofs.lemmas.Bool.Decides.{nat_tests}
use Rattle.disk_model.specs.declared.save_outcome.SaveOutcome.TheVariants.{Saved}
use Rattle.client_core.specs.Inputs as inputs
use Rattle.client_core.specs.declared.note.ClientNote.{ClientNote}
use Rattle.client_core.specs.History.{Entry, Met}
use Rattle.client_core.specs.Refusals.{has_next, is_begun, is_of_generation, is_free_to_number}
use Rattle.client_core.specs.Saves.{Addition, NextAttempt, due_by, noted_after}
use Rattle.client_core.specs.Words.{is_on, has_mirror, peers_at, words_noted}
use Rattle.net_world.specs.Setup.{without_mirror}
use Rattle.net_world.specs.Trace.{client_opening}
use Rattle.filter_traces.specs.Again.{drawn}

-- It is on, without a mirror, and its note says so many numbers.
pub record IsSo (n : ℕ) (past : List Entry) (runs attempts : ℕ) : Type 0 where
  pub on : is_on past ≡ true
  pub alone : has_mirror past ≡ false
  pub says : words_noted (client_opening (without_mirror n)) past ≡ drawn runs attempts

-- There is a number more.
pub more_is : (n used : ℕ) (past : List Entry) → has_mirror past ≡ false → used + 1 < 2 ^ 64 → has_next (peers_at n past 0) 0 used ≡ true
unfolding has_next is_of_generation is_free_to_number
more_is n used past alone fits =
    let next : nat_lt (used + 1) (2 ^ 64) ≡ true = grind (arith, nat_tests, fits) in
    rw (next, alone) refl

attempt_due : (n runs attempts : ℕ) (past : List Entry) → is_begun (drawn runs attempts) 1 ≡ true → has_next (peers_at n past 0) 0 attempts ≡ true
    → due_by true (peers_at n past 0) (drawn runs attempts) (inputs.Verify 1 []) ≡ Some NextAttempt
attempt_due n runs attempts past first next = rw (first, next) refl

first_begun : (runs attempts : ℕ) → 1 ≤ runs → is_begun (drawn runs attempts) 1 ≡ true
unfolding is_begun
first_begun runs attempts some =
    let least : nat_le 1 runs ≡ true = grind (arith, nat_tests, some) in
    rw least refl

pub one_attempt : (n runs attempts : ℕ) (past : List Entry) → IsSo n past runs attempts → 1 ≤ runs → attempts + 1 < 2 ^ 64
    → IsSo n (Met (inputs.Verify 1 []) Saved ∷ past) runs (suc attempts)
one_attempt n runs attempts past so some fits = record {
  on = rw so.on refl;
  alone = so.alone;
  says =
      ap (λ (m : ClientNote). noted_after true (due_by (is_on past) (peers_at n past m.generation) m (inputs.Verify 1 [])) m) so.says
      ∙ (ap (λ b. noted_after true (due_by b (peers_at n past 0) (drawn runs attempts) (inputs.Verify 1 [])) (drawn runs attempts)) so.on
      ∙ (ap (λ (x : Option Addition). noted_after true x (drawn runs attempts))
      (attempt_due n runs attempts past (first_begun runs attempts some) (more_is n attempts past so.alone fits))
      ∙ ap (λ k. drawn runs k) next));
}
  where
    next : attempts + 1 ≡ suc attempts
    next = omega arith
