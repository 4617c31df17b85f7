-- A core that hears frames accepts what comes as its list does.
use Rattle.std.proofs.Common.{◌≡◌, refl, sym, ◌∙◌, ap, subst, Bool, true, false, ◌&&◌, List, [], ◌∷◌, Option, Some, None, Result, Ok, Err}
use Rattle.std.specs.Prelude.{if◌then◌else◌, not}
use Rattle.std.specs.Result.{is_ok}
use Rattle.fc_base.specs.declared.fault.Fault.{Fault}
use Rattle.fc_base.specs.declared.fault.Fault.TheVariants.{Down, Misdirected, FrameBadField}
use Rattle.fc_base.specs.declared.fault.FaultSort.{FaultSort}
use Rattle.fc_base.specs.declared.fault.FaultSort.TheVariants as sorts
use Rattle.fc_base.specs.Fault.{sort_of}
use Rattle.disk_model.specs.declared.save_outcome.SaveOutcome.{SaveOutcome}
use Rattle.disk_model.specs.declared.save_outcome.SaveOutcome.TheVariants.{NoSave}
use Rattle.disk_model.specs.SaveOutcome.{saved_for, is_lost, bytes_left}
use Rattle.node.specs.Steps.{LeavesNote, Answers, Refuses, Faults, Ends, answered}
use Rattle.node.proofs.StepLemmas.{on_before, off_lost}
use Rattle.messages.specs.declared.packet.PacketParts.{PacketParts}
use Rattle.messages.specs.declared.piece.PieceParts.{PieceParts}
use Rattle.messages.specs.declared.frame.Frame.TheVariants.{Whole, Piece}
use Rattle.messages.specs.Laws.{IsPacket}
use Rattle.messages.specs.Assemblies.{Row, rows_after_piece, without_tag}
use Rattle.messages.specs.Hearing.{Coming, with_entry}
use Rattle.messages.specs.Senses.{Arrival, Framed, Unframed, coming, Sense, Hears, Keeps, Drops, Misses, is_drop, refusal_of_sense, heard_or, SenseInRange}
use Rattle.messages.proofs.SenseLemmas as senses
use Rattle.messages.proofs.SenseLemmas.{entry_by, entries_are, same_rows, taken_by, refused_rows, given_rows, dropped_rows, hears_in_range}
use Rattle.node.specs.declared.hearer.Hearer.{Hearer}
use Rattle.node.specs.Hearers.{CoreKind, Laws, rules_of, heard_at, entries, rows, sense, StandsFor, Sends, steps, Accepts}

-- What has come together behind what comes.
abbrev pub rows_after : {C X E D O : Type 0} → CoreKind C X E D O → List (Coming E SaveOutcome) → Arrival X → SaveOutcome → List Row
rows_after k past a left = senses.rows_after (rules_of k) (heard_at k past) a left

-- What has come together where something was heard.
abbrev pub HeardRows : {C X E D O : Type 0} → CoreKind C X E D O → List (Coming E SaveOutcome) → Arrival X → List Row → List Row → Result O Fault → Type 0
HeardRows k past a old new (Ok outs) = k.core.words.is_up (entries k past) ≡ true → new ≡ rows_after k past a NoSave
HeardRows k past a old new (Err fault) = new ≡ old

abbrev pub with_core : {C : Type 0} → Hearer C → C → Hearer C
with_core hearer core = record hearer { core = core }

abbrev pub with_pieces : {C : Type 0} → Hearer C → List Row → Hearer C
with_pieces hearer rows = record hearer { pieces = rows }

module _ {C X E D O : Type 0} (k : CoreKind C X E D O) (laws : Laws k) (past : List (Coming E SaveOutcome)) where
  -- The packets that are heard behind what comes.
  heard_is : (a : Arrival X) (left : SaveOutcome) (s : Sense X) → sense k past a ≡ s
      → entries k (coming k.core.words.met a left ∷ past) ≡ with_entry (entry_by (rules_of k) left s) (entries k past)
  heard_is a left s is = entries_are (rules_of k) (heard_at k past) a left s is

  -- Whether it is on behind what is heard.
  on_is : (a : Arrival X) (x : X) (left : SaveOutcome) → sense k past a ≡ Hears x
      → k.core.words.is_up (entries k (coming k.core.words.met a left ∷ past)) ≡ (k.core.words.is_up (entries k past) && not (is_lost left))
  on_is a x left is = ap k.core.words.is_up (heard_is a left (Hears x) is) ∙ laws.on_behind (entries k past) x left

  -- ---- what is heard

  heard_stands : (a : Arrival X) (x : X) (left : SaveOutcome) (new : Hearer C) → sense k past a ≡ Hears x
      → k.core.StandsFor (k.core.words.met x left ∷ entries k past) new.core
      → (k.core.words.is_up (entries k (coming k.core.words.met a left ∷ past)) ≡ true → new.pieces ≡ rows_after k past a left)
      → StandsFor k (coming k.core.words.met a left ∷ past) new
  heard_stands a x left new is h rows_are = record {
    core = subst (λ (list : List E). k.core.StandsFor list new.core) (sym (heard_is a left (Hears x) is)) h;
    pieces = rows_are;
  }

  heard_answers : (a : Arrival X) (x : X) (old new : Hearer C) (outs : O) → sense k past a ≡ Hears x
      → Answers k.core (entries k past) x old.core new.core outs
      → (k.core.words.is_up (entries k past) ≡ true → new.pieces ≡ rows_after k past a NoSave) → Answers (steps k) past a old new outs
  heard_answers a x old new outs is h rows_are =
      let list = entries k past in
      let left = saved_for (k.core.words.due list x) in
      let same : answered (steps k).words past a ≡ coming k.core.words.met a left = ap (λ s. coming k.core.words.met a (saved_for (heard_or None (k.core.words.due list) s))) is in
      record {
        free = ap (refusal_of_sense (rules_of k) list) is ∙ h.free;
        sends = subst (λ s. Sends k list s outs) (sym is) h.sends;
        leaves = subst (λ due. LeavesNote due (k.core.words.spelled (entries k (answered (steps k).words past a ∷ past))) (k.core.note old.core) (k.core.note new.core))
            (sym (ap (heard_or None (k.core.words.due list)) is))
            (subst (λ (l : List E). LeavesNote (k.core.words.due list x) (k.core.words.spelled l) (k.core.note old.core) (k.core.note new.core))
            (sym (ap (λ c. entries k (c ∷ past)) same ∙ heard_is a left (Hears x) is)) h.leaves);
        stands = subst (λ c. StandsFor k (c ∷ past) new) (sym same)
            (heard_stands a x left new is h.stands
            (λ on. rows_are (on_before (k.core.words.is_up list) (is_lost left) (sym (on_is a x left is) ∙ on))
            ∙ same_rows (rules_of k) (heard_at k past) a NoSave left laws.goes_on));
      }

  heard_faults : (a : Arrival X) (x : X) (old new : Hearer C) (fault : Fault) → sense k past a ≡ Hears x → StandsFor k past old
      → (sort : FaultSort) → Faults k.core (entries k past) x sort fault old.core new.core → new.pieces ≡ old.pieces
      → Faults (steps k) past a sort fault old new
  heard_faults a x old new fault is w sorts.Memory h same = record {
    why = h.why;
    same_note = h.same_note;
    unchanged = record { core = h.unchanged; pieces = λ on. same ∙ w.pieces on };
  }
  heard_faults a x old new fault is w sorts.Save h same = record {
    cause = h.cause;
    free = ap (refusal_of_sense (rules_of k) (entries k past)) is ∙ h.free;
    addition = h.addition;
    makes_one = ap (heard_or None (k.core.words.due (entries k past))) is ∙ h.makes_one;
    left = h.left;
    lost = h.lost;
    bytes_are = subst (λ (l : List E). (k.core.note new.core).bytes ≡ bytes_left h.left (k.core.words.spelled l) (k.core.note old.core).bytes)
        (sym (heard_is a h.left (Hears x) is)) h.bytes_are;
    stands = heard_stands a x h.left new is h.stands
        (λ on. absurd (off_lost (k.core.words.is_up (entries k past)) (is_lost h.left) h.lost (sym (on_is a x h.left is) ∙ on)));
  }
  heard_faults a x old new fault is w sorts.Refusal h same =
      let list = entries k past in
      let why : (steps k).words.refusal past a ≡ Some fault = ap (refusal_of_sense (rules_of k) list) is ∙ h.why in
      let stay = refused_rows (rules_of k) (heard_at k past) a NoSave fault laws.goes_on why (ap is_drop is) in
      record {
        why = why;
        same_note = h.same_note;
        stands = heard_stands a x NoSave new is h.stands
            (λ on. same ∙ w.pieces (on_before (k.core.words.is_up list) false (sym (on_is a x NoSave is) ∙ on)) ∙ sym stay);
        unchanged = λ d. record { core = laws.stays list x new.core h.unchanged; pieces = λ on. same ∙ w.pieces on };
      }

  heard_ends : (a : Arrival X) (x : X) (old new : Hearer C) (result : Result O Fault) → sense k past a ≡ Hears x → StandsFor k past old
      → Ends k.core (entries k past) x old.core new.core result → HeardRows k past a old.pieces new.pieces result
      → Ends (steps k) past a old new result
  heard_ends a x old new (Ok outs) is w h rows_are = heard_answers a x old new outs is h rows_are
  heard_ends a x old new (Err fault) is w h same = heard_faults a x old new fault is w (sort_of fault) h same

  -- ---- what leaves the pieces as they are

  same_pieces : (a : Arrival X) (old : Hearer C) (result : Result O Fault) → rows_after k past a NoSave ≡ rows k past → StandsFor k past old
      → HeardRows k past a old.pieces old.pieces result
  same_pieces a old (Ok outs) same w = λ on. w.pieces on ∙ sym same
  same_pieces a old (Err fault) same w = refl

  -- What isn't a frame.
  pub unframed_ends : (x : X) (old : Hearer C) (core : C) (result : Result O Fault) → StandsFor k past old
      → Ends k.core (entries k past) x old.core core result → Ends (steps k) past (Unframed x) old (with_core old core) result
  unframed_ends x old core result w h =
      let same = ap (λ (b : Bool). if b then [] else rows k past) (laws.goes_on x NoSave) in
      heard_ends (Unframed x) x old (with_core old core) result refl w h (same_pieces (Unframed x) old result same w)

  -- What comes is accepted that is, within its ranges, so to it.
  accepts : (a : Arrival X) (s : Sense X) (old new : Hearer C) (result : Result O Fault) → sense k past a ≡ s → SenseInRange k.IsInRange s
      → Ends (steps k) past a old new result → Accepts k past a old new result
  accepts a s old new result is range h = (h, hears_in_range k.IsInRange (sense k past a) result (subst (SenseInRange k.IsInRange) (sym is) range))

  -- ---- what says a packet

  -- A whole packet.
  pub whole_accepts : (p : PacketParts) (old : Hearer C) (core : C) (result : Result O Fault) → IsPacket p → StandsFor k past old
      → Ends k.core (entries k past) (k.delivers p) old.core core result → Accepts k past (Framed (Whole p)) old (with_core old core) result
  whole_accepts p old core result range w h =
      accepts (Framed (Whole p)) (Hears (k.delivers p)) old (with_core old core) result refl (laws.in_range p range)
      (heard_ends (Framed (Whole p)) (k.delivers p) old (with_core old core) result refl w h (same_pieces (Framed (Whole p)) old result refl w))

  -- A piece: the packet is answered, and its tag goes;
  pub given_accepts : (q : PieceParts) (p : PacketParts) (old : Hearer C) (core : C) (result : Result O Fault) → IsPacket p → StandsFor k past old
      → sense k past (Framed (Piece q)) ≡ Hears (k.delivers p) → Ends k.core (entries k past) (k.delivers p) old.core core result → is_ok result ≡ true
      → Accepts k past (Framed (Piece q)) old (record { core = core; pieces = without_tag q.tag old.pieces }) result
  given_accepts q p old core (Ok outs) range w is h ok =
      let new : Hearer C = record { core = core; pieces = without_tag q.tag old.pieces } in
      accepts (Framed (Piece q)) (Hears (k.delivers p)) old new (Ok outs) is (laws.in_range p range)
      (heard_answers (Framed (Piece q)) (k.delivers p) old new outs is h
      (λ on. ap (without_tag q.tag) (w.pieces on) ∙ sym (given_rows (rules_of k) (heard_at k past) q (k.delivers p) NoSave is h.free)))
  given_accepts q p old core (Err fault) range w is h ok = absurd cc

  -- or it is refused, and the tag stays.
  pub refused_accepts : (q : PieceParts) (p : PacketParts) (old : Hearer C) (core : C) (result : Result O Fault) → IsPacket p → StandsFor k past old
      → sense k past (Framed (Piece q)) ≡ Hears (k.delivers p) → Ends k.core (entries k past) (k.delivers p) old.core core result → is_ok result ≡ false
      → Accepts k past (Framed (Piece q)) old (with_core old core) result
  refused_accepts q p old core (Ok outs) range w is h ok = absurd cc
  refused_accepts q p old core (Err fault) range w is h ok =
      accepts (Framed (Piece q)) (Hears (k.delivers p)) old (with_core old core) (Err fault) is (laws.in_range p range)
      (heard_faults (Framed (Piece q)) (k.delivers p) old (with_core old core) fault is w (sort_of fault) h refl)

  -- ---- a piece that says nothing

  silent_stands : (a : Arrival X) (s : Sense X) (left : SaveOutcome) (old : Hearer C) (new : List Row) → sense k past a ≡ s → entry_by (rules_of k) left s ≡ None
      → StandsFor k past old → (old.pieces ≡ rows k past → new ≡ rows_after k past a left)
      → StandsFor k (coming k.core.words.met a left ∷ past) (with_pieces old new)
  silent_stands a s left old new is none w rows_are =
      let same = heard_is a left s is ∙ ap (λ (y : Option E). with_entry y (entries k past)) none in
      record {
        core = subst (λ (list : List E). k.core.StandsFor list old.core) (sym same) w.core;
        pieces = λ on. rows_are (w.pieces (sym (ap k.core.words.is_up same) ∙ on));
      }

  pub kept_accepts : (q : PieceParts) (old : Hearer C) → sense k past (Framed (Piece q)) ≡ Keeps → StandsFor k past old
      → Accepts k past (Framed (Piece q)) old (with_pieces old (rows_after_piece old.pieces q)) (Ok k.nothing)
  kept_accepts q old is w =
      let a = Framed (Piece q) in
      let list = entries k past in
      let left = saved_for ((steps k).words.due past a) in
      accepts a Keeps old (with_pieces old (rows_after_piece old.pieces q)) (Ok k.nothing) is tt (record {
        free = ap (refusal_of_sense (rules_of k) list) is;
        sends = subst (λ s. Sends k list s k.nothing) (sym is) refl;
        leaves = subst (λ due. LeavesNote due (k.core.words.spelled (entries k (answered (steps k).words past a ∷ past))) (k.core.note old.core) (k.core.note old.core))
            (sym (ap (heard_or None (k.core.words.due list)) is)) refl;
        stands = silent_stands a Keeps left old (rows_after_piece old.pieces q) is refl w
            (λ same. ap (λ x. rows_after_piece x q) same ∙ sym (taken_by (rules_of k) (heard_at k past) q left Keeps is));
      })

  pub dropped_accepts : (q : PieceParts) (old : Hearer C) → sense k past (Framed (Piece q)) ≡ Drops → StandsFor k past old
      → Accepts k past (Framed (Piece q)) old (with_pieces old (without_tag q.tag old.pieces)) (Err FrameBadField)
  dropped_accepts q old is w = accepts (Framed (Piece q)) Drops old (with_pieces old (without_tag q.tag old.pieces)) (Err FrameBadField) is tt (record {
    why = ap (refusal_of_sense (rules_of k) (entries k past)) is;
    same_note = refl;
    stands = silent_stands (Framed (Piece q)) Drops NoSave old (without_tag q.tag old.pieces) is refl w
        (λ same. ap (without_tag q.tag) same ∙ sym (dropped_rows (rules_of k) (heard_at k past) q NoSave is));
    unchanged = λ d. absurd (no_drop (sym (ap is_drop is) ∙ d));
  })
    where
      no_drop : true ≡ false → ⊥
      no_drop d = cc

  -- A piece that isn't for it changes nothing.
  missed_refuses : (q : PieceParts) (old : Hearer C) (fault : Fault) → sense k past (Framed (Piece q)) ≡ Misses → StandsFor k past old
      → refusal_of_sense (rules_of k) (entries k past) Misses ≡ Some fault → Refuses (steps k) past (Framed (Piece q)) fault old old
  missed_refuses q old fault is w why = record {
    why = ap (refusal_of_sense (rules_of k) (entries k past)) is ∙ why;
    same_note = refl;
    stands = silent_stands (Framed (Piece q)) Misses NoSave old old.pieces is refl w
        (λ same. same ∙ sym (taken_by (rules_of k) (heard_at k past) q NoSave Misses is));
    unchanged = λ d. w;
  }

  pub down_accepts : (q : PieceParts) (old : Hearer C) → (sense k past (Framed (Piece q)) ≡ Misses) × (k.core.words.is_up (entries k past) ≡ false)
      → StandsFor k past old → Accepts k past (Framed (Piece q)) old old (Err Down)
  down_accepts q old misses w = accepts (Framed (Piece q)) Misses old old (Err Down) misses.0 tt
      (missed_refuses q old Down misses.0 w (ap (λ b. if b then Some Misdirected else Some Down) misses.1))

  pub stray_accepts : (q : PieceParts) (old : Hearer C) → (sense k past (Framed (Piece q)) ≡ Misses) × (k.core.words.is_up (entries k past) ≡ true)
      → StandsFor k past old → Accepts k past (Framed (Piece q)) old old (Err Misdirected)
  stray_accepts q old misses w = accepts (Framed (Piece q)) Misses old old (Err Misdirected) misses.0 tt
      (missed_refuses q old Misdirected misses.0 w (ap (λ b. if b then Some Misdirected else Some Down) misses.1))
