-- The open writes, each kept with its block, against the numbers of the open writes.
use Rattle.std.proofs.Common.{◌≡◌, ℕ, Bool, true, false, cond, not, ◌&&◌, ◌||◌, eqb, List, [], ◌∷◌, map, length, ◌≤◌, refl, ap, ◌∙◌, Option, Some, None, arith}
use Rattle.std.specs.List.{find, list_any, filter}
use Rattle.std.specs.Option.{option_map}
use Rattle.std.proofs.lemmas.Bool.{eqb-true}
use Rattle.std.proofs.lemmas.List.Filters.{length-filter_both}
use Rattle.fc_base.specs.Counted.{has}
use Rattle.fc_base.specs.declared.record.JobParts.{JobParts}
use Rattle.write_order.specs.Blocks.{block_of}
use Rattle.engine.specs.Numbers.{without}
use Rattle.engine.specs.declared.writes.OpenWrite.{OpenWrite}
use Rattle.engine.specs.Legal.{any_goes_to}
use Rattle.engine.specs.declared.issue.Ticket.{Ticket}
use Rattle.engine.specs.Running.{Origin}
use Rattle.engine.specs.Answers.{ticket_of, open_ticket}
use Rattle.engine.specs.Inside.{open_write}

pub any_block : (job : JobParts) (block : ℕ) (ks : List ℕ)
    → list_any (λ (w : OpenWrite). eqb w.block block) (map (open_write job) ks) ≡ any_goes_to job block ks
any_block job block [] = refl
any_block job block (k ∷ ks) = ap (λ rest. eqb (block_of job k) block || rest) (any_block job block ks)

absorbed : (here there : Bool) → (here || (there && here)) ≡ here
absorbed true there = refl
absorbed false true = refl
absorbed false false = refl

split : (same here wanted there rest : Bool) → (same ≡ true → here ≡ wanted) → rest ≡ (there && wanted) → ((same && here) || rest) ≡ ((same || there) && wanted)
split true here wanted there rest e r = rw (e refl, r) (absorbed wanted there)
split false here wanted there rest e r = r

pub any_write : (job : JobParts) (n block : ℕ) (ks : List ℕ)
    → list_any (λ (w : OpenWrite). eqb w.seq n && eqb w.block block) (map (open_write job) ks) ≡ (has ks n && eqb (block_of job n) block)
any_write job n block [] = refl
any_write job n block (k ∷ ks) =
    split (eqb k n) (eqb (block_of job k) block) (eqb (block_of job n) block) (has ks n) _ (λ same. ap (λ j. eqb (block_of job j) block) (eqb-true k n same))
    (any_write job n block ks)

kept_or_not : {A B : Type 0} (f : A → B) (stays : Bool) (x : A) (ys : List B) (xs : List A) → ys ≡ map f xs
    → cond stays (f x ∷ ys) ys ≡ map f (cond stays (x ∷ xs) xs)
kept_or_not f true x ys xs e = ap (λ l. f x ∷ l) e
kept_or_not f false x ys xs e = e

pub closed : (job : JobParts) (n : ℕ) (ks : List ℕ) → filter (λ (w : OpenWrite). not (eqb w.seq n)) (map (open_write job) ks)
    ≡ map (open_write job) (without n ks)
closed job n [] = refl
closed job n (k ∷ ks) = kept_or_not (open_write job) (not (eqb k n)) k _ (without n ks) (closed job n ks)

-- the open write of a number, with its block
pub found : (job : JobParts) (n : ℕ) (ks : List ℕ) → find (λ (w : OpenWrite). eqb w.seq n) (map (open_write job) ks)
    ≡ cond (has ks n) (Some (open_write job n)) None
found job n [] = refl
found job n (k ∷ ks) = first (eqb k n) refl (found job n ks)
  where
    rest : Option OpenWrite
    rest = find (λ (w : OpenWrite). eqb w.seq n) (map (open_write job) ks)

    first : (same : Bool) → eqb k n ≡ same → rest ≡ cond (has ks n) (Some (open_write job n)) None
        → cond same (Some (open_write job k)) rest ≡ cond (same || has ks n) (Some (open_write job n)) None
    first true e later = ap (λ j. Some (open_write job j)) (eqb-true k n e)
    first false e later = later

-- its ticket
abbrev pub ticket_at : Origin → OpenWrite → Ticket
ticket_at origin write = record { boot = origin.boot; key = origin.key; seq = write.seq; block = write.block }

ticket_if : (origin : Origin) (n : ℕ) (is_open : Bool) → option_map (ticket_at origin) (cond is_open (Some (open_write origin.job n)) None)
    ≡ cond is_open (Some (ticket_of origin n)) None
ticket_if origin n true = refl
ticket_if origin n false = refl

pub ticket_found : (origin : Origin) (n : ℕ) (ks : List ℕ) (r : Option OpenWrite) → r ≡ find (λ (w : OpenWrite). eqb w.seq n) (map (open_write origin.job) ks)
    → option_map (ticket_at origin) r ≡ open_ticket origin ks n
ticket_found origin n ks r e = ap (option_map (ticket_at origin)) (e ∙ found origin.job n ks) ∙ ticket_if origin n (has ks n)

pub without_is_shorter : (k : ℕ) (ks : List ℕ) → length (without k ks) ≤ length ks
without_is_shorter k ks = omega (arith, length-filter_both (λ j. not (eqb j k)) (λ j. eqb j k) (λ j. not_twice (eqb j k)) ks)
  where
    not_twice : (b : Bool) → b ≡ not (not b)
    not_twice true = refl
    not_twice false = refl
