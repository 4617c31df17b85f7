-- Stories in which nothing is lost, and losses at rest.
use Rattle.std.proofs.Common.{◌≡◌, ℕ, Bool, true, false, ◌||◌, not, List, [], ◌∷◌, ◌++◌, map, refl, sym, ap, subst, inl, inr, ◌∙◌}
use Rattle.std.specs.Prelude.{Option, Some, None, IsTrue, if◌then◌else◌}
use Rattle.std.specs.List.{list_any, AllByRecursion}
use Rattle.std.proofs.lemmas.Bool.{or_left, or_right, false_from_ne_true}
use Rattle.std.proofs.lemmas.List.Folds.{list_any-append}
use Rattle.std.proofs.lemmas.Slice.Eq.{bytes_eq-Decides}
use Rattle.std.proofs.lemmas.List.{append-nil}
use Rattle.fc_base.specs.declared.record.JobParts.{JobParts}
use Rattle.write_order.specs.Stamps.{written_bytes}
use Rattle.recheck.specs.Expected.{Expected}
use Rattle.recheck.specs.Faults.{last_write, writes_to}
use Rattle.ledger.specs.declared.entry.RunWrite.{RunWrite}
use Rattle.ledger.specs.Entries.{write_of, is_held, last_of, entry_behind, may_write, behind_run, behind_check, is_fault}
use Rattle.ledger.specs.Laws.{check_of}
use Rattle.ledger.specs.Stories.{Happened, ran, lost_run, checked, LeavesAlone, Step, content_after, entry_after, entry_by_step, LeavesBy, Leaves, NothingLost}
use Rattle.ledger.proofs.EntryLemmas.{any_held, stays}

-- An entry that is no fault, and asks for something, has what the block holds.
holds_one : (held : ℕ → List ℕ) (block : ℕ) (w : RunWrite) (ws : List RunWrite) → is_fault held block (w ∷ ws) ≡ false
    → list_any (is_held block (held block)) (w ∷ ws) ≡ true
holds_one held block w ws fine = by (list_any (is_held block (held block)) (w ∷ ws)) refl
  where
    by : (b : Bool) → list_any (is_held block (held block)) (w ∷ ws) ≡ b → list_any (is_held block (held block)) (w ∷ ws) ≡ true
    by true is = is
    by false is = let bad : true ≡ false = ap not (sym is) ∙ fine in cc

-- And the other way round.
no_fault : (held : ℕ → List ℕ) (block : ℕ) (entry : List RunWrite) → list_any (is_held block (held block)) entry ≡ true
    → is_fault held block entry ≡ false
no_fault held block [] is = refl
no_fault held block (w ∷ ws) is = ap not is

-- Behind a run that loses nothing.
behind_a_run : (e : Expected) (before after : ℕ → List ℕ) (block : ℕ) (entry : List RunWrite) (o : Option ℕ) → last_write e block ≡ o
    → is_fault before block entry ≡ false → LeavesBy o e (before block) (after block) block
    → is_fault after block (entry_behind (last_of e o) (map (write_of e) (writes_to block e.in_flight)) entry) ≡ false
behind_a_run e before after block entry (Some k) is fine left =
    no_fault after block (map (write_of e) (k ∷ writes_to block e.in_flight)) (any_held e block (after block) (k ∷ writes_to block e.in_flight) ∙ left)
behind_a_run e before after block [] None is fine left = refl
behind_a_run e before after block (w ∷ ws) None is fine (inl same) =
    no_fault after block ((w ∷ ws) ++ map (write_of e) (writes_to block e.in_flight))
    (list_any-append (is_held block (after block)) (w ∷ ws) (map (write_of e) (writes_to block e.in_flight))
    ∙ or_left (list_any (is_held block (after block)) (w ∷ ws)) (list_any (is_held block (after block)) (map (write_of e) (writes_to block e.in_flight)))
    (subst (λ (h : List ℕ). list_any (is_held block h) (w ∷ ws) ≡ true) (sym same) (holds_one before block w ws fine)))
behind_a_run e before after block (w ∷ ws) None is fine (inr flew) =
    no_fault after block ((w ∷ ws) ++ map (write_of e) (writes_to block e.in_flight))
    (list_any-append (is_held block (after block)) (w ∷ ws) (map (write_of e) (writes_to block e.in_flight))
    ∙ or_right (list_any (is_held block (after block)) (w ∷ ws)) (list_any (is_held block (after block)) (map (write_of e) (writes_to block e.in_flight)))
    (any_held e block (after block) (writes_to block e.in_flight) ∙ flew))

-- What holds the same bytes is a fault as well.
same_bytes : (before after : ℕ → List ℕ) (block : ℕ) (entry : List RunWrite) → after block ≡ before block → is_fault before block entry ≡ false
    → is_fault after block entry ≡ false
same_bytes before after block [] same fine = refl
same_bytes before after block (w ∷ ws) same fine =
    subst (λ (h : List ℕ). not (list_any (is_held block h) (w ∷ ws)) ≡ false) (sym same) fine

-- Behind a lost run that loses nothing.
behind_lost : (job : JobParts) (before after : ℕ → List ℕ) (block : ℕ) (entry : List RunWrite) (b : Bool) → may_write job block ≡ b
    → is_fault before block entry ≡ false → Leaves (lost_run job) (before block) (after block) block
    → is_fault after block (if b then [] else entry) ≡ false
behind_lost job before after block entry true is fine left = refl
behind_lost job before after block entry false is fine (inl writes) = let bad : false ≡ true = sym is ∙ writes in absurd cc
behind_lost job before after block entry false is fine (inr same) = same_bytes before after block entry same fine

pub nothing_told : (first : ℕ → List ℕ) (steps : List Step) (block : ℕ) → NothingLost first steps block
    → is_fault (content_after first steps) block (entry_after steps block) ≡ false
nothing_told first [] block kept = refl
nothing_told first (s ∷ older) block kept = by s.what refl kept.0 (nothing_told first older block kept.1)
  where
    by : (r : Happened) → s.what ≡ r → Leaves s.what (content_after first older block) (s.content block) block
        → is_fault (content_after first older) block (entry_after older block) ≡ false
        → is_fault s.content block (entry_by_step s.what s.content block (entry_after older block)) ≡ false
    by checked is left ih = rw is (stays s.content block (entry_after older block))
    by (ran e) is left ih =
        let goes : Leaves (ran e) (content_after first older block) (s.content block) block = rw is at left in
        rw is (behind_a_run e (content_after first older) s.content block (entry_after older block) (last_write e block) refl ih goes)
    by (lost_run job) is left ih =
        let goes : Leaves (lost_run job) (content_after first older block) (s.content block) block = rw is at left in
        rw is (behind_lost job (content_after first older) s.content block (entry_after older block) (may_write job block) refl ih goes)

-- What was seen is held by no other bytes.
other_bytes : (seen later : ℕ → List ℕ) (block : ℕ) (w : RunWrite) → is_held block (seen block) w ≡ true → (later block ≡ seen block → ⊥)
    → is_held block (later block) w ≡ false
other_bytes seen later block w was other = false_from_ne_true (is_held block (later block) w) (λ now.
    other ((bytes_eq-Decides (later block) (written_bytes w.key w.job w.seq block)).0 now
    ∙ sym ((bytes_eq-Decides (seen block) (written_bytes w.key w.job w.seq block)).0 was)))

none_holds : (seen later : ℕ → List ℕ) (block : ℕ) (entry : List RunWrite) → (later block ≡ seen block → ⊥)
    → list_any (is_held block (later block)) (behind_check seen block entry) ≡ false
none_holds seen later block [] other = refl
none_holds seen later block (w ∷ ws) other = by (is_held block (seen block) w) refl (none_holds seen later block ws other)
  where
    by : (b : Bool) → is_held block (seen block) w ≡ b → list_any (is_held block (later block)) (behind_check seen block ws) ≡ false
        → list_any (is_held block (later block)) (behind_check seen block (w ∷ ws)) ≡ false
    by true is ih = rw (is, other_bytes seen later block w is other) ih
    by false is ih = rw is ih

-- A check leaves something of an entry of which the block holds one.
something : (seen : ℕ → List ℕ) (block : ℕ) (entry : List RunWrite) → list_any (is_held block (seen block)) entry ≡ true
    → behind_check seen block entry ≡ [] → ⊥
something seen block [] is none = let bad : false ≡ true = is in cc
something seen block (w ∷ ws) is none = by (is_held block (seen block) w) refl (something seen block ws)
  where
    by : (b : Bool) → is_held block (seen block) w ≡ b → (list_any (is_held block (seen block)) ws ≡ true → behind_check seen block ws ≡ [] → ⊥) → ⊥
    by true was ih = let bad : w ∷ behind_check seen block ws ≡ [] = rw was at none in cc
    by false was ih = ih (rw was at is) (rw was at none)

asked : (later : ℕ → List ℕ) (block : ℕ) (entry : List RunWrite) → (entry ≡ [] → ⊥) → list_any (is_held block (later block)) entry ≡ false
    → is_fault later block (entry ++ []) ≡ true
asked later block [] some none = absurd (some refl)
asked later block (w ∷ ws) some none = ap not (list_any-append (is_held block (later block)) (w ∷ ws) [] ∙ by (list_any (is_held block (later block)) (w ∷ ws)) none)
  where
    by : (b : Bool) → b ≡ false → (b || false) ≡ false
    by b is = rw is

pub loss_told : (seen later : ℕ → List ℕ) (e : Expected) (entry : List RunWrite) (block : ℕ) → IsTrue (list_any (is_held block (seen block)) entry)
    → last_write e block ≡ None → writes_to block e.in_flight ≡ [] → (later block ≡ seen block → ⊥)
    → is_fault later block (behind_run e block (behind_check seen block entry)) ≡ true
loss_told seen later e entry block held last none other =
    by (behind_check seen block entry) refl
  where
    by : (kept : List RunWrite) → behind_check seen block entry ≡ kept
        → is_fault later block (behind_run e block (behind_check seen block entry)) ≡ true
    by [] is = absurd (something seen block entry held is)
    by (w ∷ ws) is =
        let gone : list_any (is_held block (later block)) (w ∷ ws) ≡ false = rw is at (none_holds seen later block entry other) in
        rw (last, none, is) (asked later block (w ∷ ws) (λ no. let bad : w ∷ ws ≡ [] = no in cc) gone)

-- ---- losses that many steps leave alone

alone : (what : Happened) (content : ℕ → List ℕ) (block : ℕ) (entry : List RunWrite) → LeavesAlone block what → entry_by_step what content block entry ≡ entry
alone checked content block entry left = absurd left
alone (lost_run job) content block entry left = rw left refl
alone (ran e) content block [] left = rw (left.0) refl
alone (ran e) content block (w ∷ ws) left = rw (left.0, left.1) (append-nil (w ∷ ws))

all_alone : (older newer : List Step) (seen : ℕ → List ℕ) (block : ℕ) → AllByRecursion (λ s. LeavesAlone block s.what) newer
    → entry_after (newer ++ check_of seen ∷ older) block ≡ behind_check seen block (entry_after older block)
all_alone older [] seen block left = refl
all_alone older (s ∷ newer) seen block left =
    alone s.what s.content block (entry_after (newer ++ check_of seen ∷ older) block) left.0 ∙ all_alone older newer seen block left.1

kept_is_fault : (seen later : ℕ → List ℕ) (block : ℕ) (entry kept : List RunWrite) → behind_check seen block entry ≡ kept → (kept ≡ [] → ⊥)
    → list_any (is_held block (later block)) kept ≡ false → is_fault later block kept ≡ true
kept_is_fault seen later block entry [] is some none = absurd (some refl)
kept_is_fault seen later block entry (w ∷ ws) is some none = ap not none

pub old_loss_told : (older newer : List Step) (seen later : ℕ → List ℕ) (block : ℕ)
    → IsTrue (list_any (is_held block (seen block)) (entry_after older block)) → AllByRecursion (λ s. LeavesAlone block s.what) newer
    → (later block ≡ seen block → ⊥) → is_fault later block (entry_after (newer ++ check_of seen ∷ older) block) ≡ true
old_loss_told older newer seen later block held left other =
    ap (is_fault later block) (all_alone older newer seen block left)
    ∙ kept_is_fault seen later block (entry_after older block) (behind_check seen block (entry_after older block)) refl
    (something seen block (entry_after older block) held) (none_holds seen later block (entry_after older block) other)
