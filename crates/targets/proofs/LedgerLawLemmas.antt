-- Checks of all blocks, in the words of the ledger.
use Rattle.std.proofs.Common.{◌≡◌, ℕ, suc, Bool, true, false, not, ◌&&◌, List, [], ◌∷◌, length, map, filter, Some, refl, ap, ◌∙◌}
use Rattle.std.specs.List.{list_any}
use Rattle.ledger.specs.declared.entry.RunWrite.{RunWrite}
use Rattle.ledger.specs.Entries.{asks, is_held, is_fault, behind_check}
use Rattle.ledger.specs.Places as places
use Rattle.ledger.specs.Places.{Place, entry_of}
use Rattle.targets.specs.Ledgers.{Cell, entry_behind, is_asked, is_lost}
use Rattle.targets.specs.LedgerLaws.{AreRead, WholeChecks}

-- A test of cells that is one of their numbers keeps the same.
kept_alike : (held : ℕ → List ℕ) (p : Cell → Bool) (q : ℕ → Bool) → ((c : Cell) → c.bytes ≡ Some (held c.block) → p c ≡ q c.block)
    → (cells : List Cell) → AreRead held cells → map (λ (c : Cell). c.block) (filter p cells) ≡ filter q (map (λ (c : Cell). c.block) cells)
kept_alike held p q same [] are = refl
kept_alike held p q same (c ∷ cs) (here, rest) = by (q c.block) refl (same c here) (kept_alike held p q same cs rest)
  where
    by : (b : Bool) → q c.block ≡ b → p c ≡ q c.block → map (λ (x : Cell). x.block) (filter p cs) ≡ filter q (map (λ (x : Cell). x.block) cs)
        → map (λ (x : Cell). x.block) (filter p (c ∷ cs)) ≡ filter q (map (λ (x : Cell). x.block) (c ∷ cs))
    by true is both ih = rw (both, is) (ap (λ l. c.block ∷ l) ih)
    by false is both ih = rw (both, is) ih

mapped_alike : {X : Type 0} (held : ℕ → List ℕ) (f : Cell → X) (g : ℕ → X) → ((c : Cell) → c.bytes ≡ Some (held c.block) → f c ≡ g c.block)
    → (cells : List Cell) → AreRead held cells → map f cells ≡ map g (map (λ (c : Cell). c.block) cells)
mapped_alike held f g same [] are = refl
mapped_alike held f g same (c ∷ cs) (here, rest) =
    ap (λ x. x ∷ map f cs) (same c here) ∙ ap (λ l. g c.block ∷ l) (mapped_alike held f g same cs rest)

count_alike : (cells : List Cell) → length cells ≡ length (map (λ (c : Cell). c.block) cells)
count_alike [] = refl
count_alike (c ∷ cs) = ap (λ n. suc n) (count_alike cs)

asked_alike : (place : Place) (held : ℕ → List ℕ) (c : Cell) → c.bytes ≡ Some (held c.block) → is_asked place c ≡ places.is_checked place c.block
asked_alike place held c is = rw is refl

lost_alike : (place : Place) (held : ℕ → List ℕ) (c : Cell) → c.bytes ≡ Some (held c.block) → is_lost place c ≡ places.is_lost place held c.block
lost_alike place held c is = rw is (by (entry_of place c.block))
  where
    by : (entry : List RunWrite) → (asks entry && not (list_any (is_held c.block (held c.block)) entry)) ≡ is_fault held c.block entry
    by [] = refl
    by (w ∷ ws) = refl

behind_alike : (place : Place) (held : ℕ → List ℕ) (c : Cell) → c.bytes ≡ Some (held c.block) → entry_behind place c ≡ behind_check held c.block (entry_of place c.block)
behind_alike place held c is = rw is refl

pub whole_checks : WholeChecks
whole_checks place held cells are read =
    let asked = kept_alike held (is_asked place) (places.is_checked place) (asked_alike place held) cells read
    ∙ ap (filter (places.is_checked place)) are in
    let lost = kept_alike held (is_lost place) (places.is_lost place held) (lost_alike place held) cells read
    ∙ ap (filter (places.is_lost place held)) are in
    record {
      report = rw (count_alike (filter (is_asked place) cells), count_alike (filter (is_lost place) cells), asked, lost) refl;
      behind = ap (λ es. record place { entries = es })
          (mapped_alike held (entry_behind place) (λ b. behind_check held b (entry_of place b)) (behind_alike place held) cells read
          ∙ ap (map (λ b. behind_check held b (entry_of place b))) are);
    }
