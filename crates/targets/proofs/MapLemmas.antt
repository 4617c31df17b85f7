-- A map of a target, block by block as it comes.
use Rattle.std.proofs.Common.{◌≡◌, ◌<◌, ◌+◌, ℕ, Bool, true, false, ◌&&◌, ◌||◌, List, [], ◌∷◌, ◌++◌, length, Option, Some, None, map, filter}
use Rattle.std.proofs.Common.{IfSome, IfOk, OnOk, Result, Ok, Err, append-nil, refl, sym, ap, ◌∙◌, subst, inl, inr, arith}
use Rattle.std.specs.Prelude.{if◌then◌else◌, is_some}
use Rattle.std.specs.List.{flat_map, list_any}
use Rattle.std.specs.Io.KnownBytes.{Appends, Consumes}
use Rattle.std.proofs.KnownBytes.{Appends-nil, Appends-trans, Consumes-nil, Consumes-trans}
use Rattle.std.proofs.lemmas.Grind.{flat_map-append}
use Rattle.std.proofs.lemmas.List.{map-append}
use Rattle.std.proofs.lemmas.List.Elements.{filter-append}
use Rattle.std.proofs.lemmas.List.Folds.{list_any-append}
use Rattle.fc_base.proofs.ListLemmas.{range_more}
use Rattle.fc_base.specs.declared.fault.Fault.{Fault}
use Rattle.fc_base.specs.declared.report.ReportParts.{ReportParts}
use Rattle.fc_base.specs.declared.report.ReportEnd.TheVariants.{ReadFault, Whole}
use Rattle.program_io.specs.Words.{with_line_feed}
use Rattle.program_io.specs.Refusals.{plain, refusal_line}
use Rattle.recheck.specs.Expected.{Expected}
use Rattle.recheck.specs.Report.{report_of, report_with, tally}
use Rattle.recheck.specs.Check.{Check, HasSeen, start}
use Rattle.targets.specs.declared.kind_counts.KindCounts.{KindCounts}
use Rattle.targets.specs.declared.map.Map.{Map}
use Rattle.targets.specs.declared.block_verdict.BlockVerdict.{BlockVerdict}
use Rattle.targets.specs.declared.block_verdict.BlockVerdict.TheVariants as tolds
use Rattle.targets.specs.Jobs.{Refuses}
use Rattle.targets.specs.Reports.{report_status}
use Rattle.targets.specs.MapInput.{block_code, EndsInBlock, IsPart, NoBlock}
use Rattle.targets.specs.MapKinds.{no_lines, with_line}
use Rattle.targets.specs.MapLines.{line_if_any, line_words, unchecked_line}
use Rattle.targets.specs.Maps.{AreOf, AreTold, Cell, HasCome, MapsTarget, Reports, Tells, bytes_in, has_line, is_unread, kinds_of, last_line, lines_of, read_blocks}
use Rattle.targets.specs.Mapping.{GoesOn, IsReady, HasTaken, TakesBlock, fed_bytes}
use Rattle.targets.specs.MapJobs.{status_with}
use Rattle.targets.proofs.CheckLemmas.{known_rest}
use Rattle.targets.proofs.KindLemmas.{is_line, kinds_more, line_is}
use Rattle.targets.proofs.UnitLemmas.{report_alike}

-- So many blocks have come since the input was this, and their lines were written.
pub record HasMapped (unit : Option ℕ) (e : Expected) (check : Check) (unread : Bool) (sums : KindCounts) (count : ℕ) (first now first_text text : Option (List ℕ)) : Type 0 where
  pub cells : List Cell
  pub come : HasCome unit e count cells
  pub came : Consumes first now (flat_map (λ c. block_code c.bytes) cells)
  pub written : Appends first_text text (lines_of unit e cells)
  pub seen : (held : ℕ → List ℕ) → AreOf held cells → HasSeen check (λ n. fed_bytes unit e n (held n)) (read_blocks cells)
  pub any : unread ≡ list_any (is_unread e) cells
  pub kinds : sums ≡ kinds_of unit e cells

-- None has come yet.
pub none_mapped : (unit : Option ℕ) (e : Expected) (check : Check) (unread : Bool) (sums : KindCounts) (input text : Option (List ℕ)) → check ≡ start e false → unread ≡ false
    → sums ≡ no_lines → HasMapped unit e check unread sums 0 input input text text
none_mapped unit e check unread sums input text is none zeros = record {
  cells = [];
  come = record { blocks = refl; told = tt };
  came = Consumes-nil input;
  written = Appends-nil text;
  seen = λ held are. subst (λ k. HasSeen k (λ n. fed_bytes unit e n (held n)) []) (sym is) (record { uncut = refl; found = refl });
  any = none;
  kinds = zeros;
}

-- The parts of what holds of blocks and of one more.
of_more : (held : ℕ → List ℕ) (cells : List Cell) (cell : Cell) → AreOf held (cells ++ cell ∷ [])
    → AreOf held cells × IfSome cell.bytes (λ bytes. held cell.block ≡ bytes)
of_more held [] cell are = (tt, are.0)
of_more held (c ∷ cs) cell are = let rest = of_more held cs cell are.1 in ((are.0, rest.0), rest.1)

told_more : (unit : Option ℕ) (e : Expected) (cells : List Cell) (cell : Cell) → AreTold unit e cells
    → Tells unit e cell.block cell.bytes cell.told → IfSome cell.bytes (λ bytes. length bytes ≡ e.job.bs) → AreTold unit e (cells ++ cell ∷ [])
told_more unit e [] cell are tells whole = ((tells, whole), tt)
told_more unit e (c ∷ cs) cell are tells whole = (are.0, told_more unit e cs cell are.1 tells whole)

-- The line of one block.
one_line : {X : Type 0} (p : X → Bool) (f : X → List ℕ) (x : X) (b : Bool) → p x ≡ b → flat_map f (filter p (x ∷ [])) ≡ (if b then f x else [])
one_line p f x true is = rw (is) (append-nil (f x))
one_line p f x false is = rw (is) refl

line_if : (unit : Option ℕ) (e : Expected) (block : ℕ) (bytes : Option (List ℕ)) (told : BlockVerdict) (buffer : List ℕ) → Tells unit e block bytes told
    → IfSome bytes (λ l. buffer ≡ l)
    → flat_map (λ (c : Cell). line_words e c.block (bytes_in c.bytes) c.told) (filter (has_line unit e) (record { block = block; bytes = bytes; told = told } ∷ []))
    ≡ line_if_any e block buffer told
unfolding is_line
line_if unit e block bytes tolds.Unchecked buffer tells here =
    one_line (has_line unit e) (λ (c : Cell). line_words e c.block (bytes_in c.bytes) c.told) (record { block = block; bytes = bytes; told = tolds.Unchecked }) false (line_is unit e block bytes tolds.Unchecked tells)
line_if unit e block bytes tolds.Unread buffer tells here =
    one_line (has_line unit e) (λ (c : Cell). line_words e c.block (bytes_in c.bytes) c.told) (record { block = block; bytes = bytes; told = tolds.Unread }) true (line_is unit e block bytes tolds.Unread tells)
line_if unit e block bytes tolds.Sound buffer tells here =
    one_line (has_line unit e) (λ (c : Cell). line_words e c.block (bytes_in c.bytes) c.told) (record { block = block; bytes = bytes; told = tolds.Sound }) false (line_is unit e block bytes tolds.Sound tells)
line_if unit e block bytes (tolds.Fault kind) buffer (checked, (held, is, unexpected, holds)) here =
    let same : buffer ≡ held = subst (λ (bs : Option (List ℕ)). IfSome bs (λ l. buffer ≡ l)) is here in
    one_line (has_line unit e) (λ (c : Cell). line_words e c.block (bytes_in c.bytes) c.told) (record { block = block; bytes = bytes; told = tolds.Fault kind }) true (line_is unit e block bytes (tolds.Fault kind) (checked, (held, is, unexpected, holds)))
    ∙ ap (λ (bs : Option (List ℕ)). line_words e block (bytes_in bs) (tolds.Fault kind)) is
    ∙ ap (λ l. line_words e block l (tolds.Fault kind)) (sym same)

lines_more : (unit : Option ℕ) (e : Expected) (cells : List Cell) (block : ℕ) (bytes : Option (List ℕ)) (told : BlockVerdict) (buffer : List ℕ) → Tells unit e block bytes told
    → IfSome bytes (λ l. buffer ≡ l)
    → lines_of unit e (cells ++ record { block = block; bytes = bytes; told = told } ∷ []) ≡ lines_of unit e cells ++ line_if_any e block buffer told
lines_more unit e cells block bytes told buffer tells here =
    let f : Cell → List ℕ = λ c. line_words e c.block (bytes_in c.bytes) c.told in
    let cell : Cell = record { block = block; bytes = bytes; told = told } in
    ap (flat_map f) (filter-append (has_line unit e) cells (cell ∷ []))
    ∙ flat_map-append f (filter (has_line unit e) cells) (filter (has_line unit e) (cell ∷ []))
    ∙ ap (λ l. lines_of unit e cells ++ l) (line_if unit e block bytes told buffer tells here)

-- The check has seen one block more, where it was read.
seen_more : (unit : Option ℕ) (e : Expected) (old new : Check) (cells : List Cell) (block : ℕ) (bytes : Option (List ℕ)) (told : BlockVerdict) (held : ℕ → List ℕ)
    → old.expected ≡ e → HasSeen old (λ n. fed_bytes unit e n (held n)) (read_blocks cells) → HasTaken unit old new block bytes
    → IfSome bytes (λ l. held block ≡ l)
    → HasSeen new (λ n. fed_bytes unit e n (held n)) (read_blocks (cells ++ record { block = block; bytes = bytes; told = told } ∷ []))
seen_more unit e old new cells block None told held same_e seen taken holds =
    let p : Cell → Bool = λ c. is_some c.bytes in
    let f : Cell → ℕ = λ c. c.block in
    let fed : ℕ → List ℕ = λ n. fed_bytes unit e n (held n) in
    let same : read_blocks (cells ++ record { block = block; bytes = None; told = told } ∷ []) ≡ read_blocks cells =
    ap (map f) (filter-append p cells (record { block = block; bytes = None; told = told } ∷ []) ∙ append-nil (filter p cells)) in
    subst (λ k. HasSeen k fed (read_blocks (cells ++ record { block = block; bytes = None; told = told } ∷ []))) (sym taken) (subst (HasSeen old fed) (sym same) seen)
seen_more unit e old new cells block (Some bytes) told held same_e seen taken holds =
    let p : Cell → Bool = λ c. is_some c.bytes in
    let f : Cell → ℕ = λ c. c.block in
    let fed : ℕ → List ℕ = λ n. fed_bytes unit e n (held n) in
    let more : read_blocks (cells ++ record { block = block; bytes = Some bytes; told = told } ∷ []) ≡ read_blocks cells ++ block ∷ [] =
    ap (map f) (filter-append p cells (record { block = block; bytes = Some bytes; told = told } ∷ []))
    ∙ map-append f (filter p cells) (record { block = block; bytes = Some bytes; told = told } ∷ []) in
    let given : fed block ≡ fed_bytes unit old.expected block bytes =
    ap (fed_bytes unit e block) holds ∙ ap (λ (x : Expected). fed_bytes unit x block bytes) (sym same_e) in
    subst (HasSeen new fed) (sym more) (taken fed (read_blocks cells) given seen)

or_false : (b : Bool) → (b || false) ≡ b
or_false true = refl
or_false false = refl

-- A block that was read leaves what is known of the unread ones.
pub unread_kept : (unread checked : Bool) → unread ≡ (unread || (checked && false))
unread_kept true checked = refl
unread_kept false true = refl
unread_kept false false = refl

-- One block more.
pub map_more : (unit : Option ℕ) (e : Expected) (old new : Map) (sums new_sums : KindCounts) (count : ℕ) (first input left first_text text new_text : Option (List ℕ)) (told : BlockVerdict)
    → HasMapped unit e old.check old.unread sums count first input first_text text → old.check.expected ≡ e → TakesBlock unit e old new count input left told
    → Appends text new_text (line_if_any e count new.bytes.items told) → new_sums ≡ with_line sums told
    → HasMapped unit e new.check new.unread new_sums (count + 1) first left first_text new_text
map_more unit e old new sums new_sums count first input left first_text text new_text told so_far same takes wrote summed =
    let cell : Cell = record { block = count; bytes = takes.bytes; told = told } in
    let f : Cell → List ℕ = λ c. block_code c.bytes in
    record {
      cells = so_far.cells ++ cell ∷ [];
      come = record {
        blocks = map-append (λ (c : Cell). c.block) so_far.cells (cell ∷ []) ∙ ap (λ l. l ++ count ∷ []) so_far.come.blocks ∙ sym (range_more count);
        told = told_more unit e so_far.cells cell so_far.come.told takes.tells takes.whole;
      };
      came = subst (Consumes first left)
          (sym (flat_map-append f so_far.cells (cell ∷ []) ∙ ap (λ l. flat_map f so_far.cells ++ l) (append-nil (block_code takes.bytes))))
          (Consumes-trans first input left (flat_map f so_far.cells) (block_code takes.bytes) so_far.came takes.came);
      written = subst (Appends first_text new_text) (sym (lines_more unit e so_far.cells count takes.bytes told new.bytes.items takes.tells takes.here))
          (Appends-trans first_text text new_text (lines_of unit e so_far.cells) (line_if_any e count new.bytes.items told) so_far.written wrote);
      seen = λ held are.
          let parts = of_more held so_far.cells cell are in
          seen_more unit e old.check new.check so_far.cells count takes.bytes told held same (so_far.seen held parts.0) takes.taken parts.1;
      any = takes.unread ∙ ap (λ b. b || is_unread e cell) so_far.any
          ∙ sym (list_any-append (is_unread e) so_far.cells (cell ∷ []) ∙ ap (λ b. list_any (is_unread e) so_far.cells || b) (or_false (is_unread e cell)));
      kinds = summed ∙ ap (λ (k : KindCounts). with_line k told) so_far.kinds ∙ sym (kinds_more unit e so_far.cells count takes.bytes told takes.tells);
    }

-- The report of the blocks that were read.
reports : (unit : Option ℕ) (e : Expected) (check : Check) (cells : List Cell) → check.expected ≡ e → check.fatal ≡ false
    → ((held : ℕ → List ℕ) → AreOf held cells → HasSeen check (λ n. fed_bytes unit e n (held n)) (read_blocks cells))
    → Reports unit e cells (report_with check.found Whole)
reports unit e check cells same whole seen held are =
    ap (λ t. report_with t Whole)
    ((seen held are).found ∙ ap (λ (x : Expected). tally x (λ n. fed_bytes unit e n (held n)) (read_blocks cells)) same)
    ∙ report_alike unit e held (read_blocks cells)

-- A status and what was written.
pub both : {E : Type 0} (r : Result ℕ E) (A : Type 0) (Q P : ℕ → Type 0) → OnOk r A → IfOk r Q → (A → (s : ℕ) → Q s → P s) → IfOk r P
both (Ok s) A Q P a q f = f a s q
both (Err x) A Q P a q f = tt

cut_status : (unread : Bool) → let two : ℕ = 2 in (if unread then two else two) ≡ two
cut_status true = refl
cut_status false = refl

-- All blocks have come.
pub mapped_whole : {E : Type 0} (unit : Option ℕ) (e : Expected) (check : Check) (unread : Bool) (sums : KindCounts) (target : List ℕ)
    (input first_text text mid_text new_text : Option (List ℕ)) (r : ReportParts) (status : Result ℕ E)
    → HasMapped unit e check unread sums e.job.blocks (Some target) input first_text text → check.expected ≡ e
    → check.fatal ≡ false → r ≡ report_of check.fatal check.found
    → Appends text mid_text (unchecked_line e) → OnOk status (Appends mid_text new_text (last_line r sums)) → IfOk status (λ s. s ≡ status_with unread r)
    → IfOk status (MapsTarget unit e target first_text new_text)
mapped_whole unit e check unread sums target input first_text text mid_text new_text r status so_far same whole is told line says =
    let known = known_rest target (Some target) input _ refl so_far.came in
    let mine : r ≡ report_with check.found Whole = is ∙ ap (λ f. report_of f check.found) whole in
    both status _ _ _ line says (λ wrote s is_status. inl (record {
      cells = so_far.cells;
      come = so_far.come;
      rest = known.0;
      input = known.2;
      report = report_with check.found Whole;
      reports = reports unit e check so_far.cells same whole so_far.seen;
      finishes = (
        Appends-trans first_text text new_text (lines_of unit e so_far.cells) _ so_far.written
            (Appends-trans text mid_text new_text (unchecked_line e) (last_line (report_with check.found Whole) (kinds_of unit e so_far.cells)) told
            (subst (λ (k : KindCounts). Appends mid_text new_text (last_line (report_with check.found Whole) k)) so_far.kinds
            (subst (λ (p : ReportParts). Appends mid_text new_text (last_line p sums)) mine wrote))),
        is_status ∙ ap (status_with unread) mine ∙ ap (λ b. if b then 2 else report_status (report_with check.found Whole)) so_far.any,
      );
    }))

-- What is left is a part of a block.
pub part_left : (size : ℕ) (rest : List ℕ) (left : Option (List ℕ)) → EndsInBlock size (Some rest) left → IsPart size rest
part_left size rest None (part, read, is, end) = absurd read
part_left size rest (Some xs) (part, read, is, end) =
    subst (IsPart size) (sym (read ∙ ap (λ l. part ++ l) end ∙ append-nil part)) is

-- The input ends in the next block.
pub mapped_cut : {E : Type 0} (unit : Option ℕ) (e : Expected) (check new_check : Check) (unread new_unread : Bool) (sums : KindCounts) (count : ℕ) (target : List ℕ)
    (input left first_text text mid_text new_text : Option (List ℕ)) (r : ReportParts) (status : Result ℕ E)
    → HasMapped unit e check unread sums count (Some target) input first_text text → check.expected ≡ e
    → check.fatal ≡ false → count < e.job.blocks → EndsInBlock e.job.bs input left → new_check ≡ check → new_unread ≡ unread
    → r ≡ report_with new_check.found (ReadFault count)
    → Appends text mid_text (unchecked_line e) → OnOk status (Appends mid_text new_text (last_line r sums)) → IfOk status (λ s. s ≡ status_with new_unread r)
    → IfOk status (MapsTarget unit e target first_text new_text)
mapped_cut unit e check new_check unread new_unread sums count target input left first_text text mid_text new_text r status so_far same whole within ends kept kept_unread is told line says =
    let known = known_rest target (Some target) input _ refl so_far.came in
    let mine : r ≡ report_with check.found (ReadFault count) = is ∙ ap (λ (k : Check). report_with k.found (ReadFault count)) kept in
    both status _ _ _ line says (λ wrote s is_status. inr (inl (record {
      cells = so_far.cells;
      block = count;
      before = within;
      come = so_far.come;
      rest = known.0;
      input = known.2;
      ends = part_left e.job.bs known.0 left (subst (λ i. EndsInBlock e.job.bs i left) known.1 ends);
      report = report_with check.found Whole;
      reports = reports unit e check so_far.cells same whole so_far.seen;
      finishes = (
        Appends-trans first_text text new_text (lines_of unit e so_far.cells) _ so_far.written
            (Appends-trans text mid_text new_text (unchecked_line e) (last_line (report_with check.found (ReadFault count)) (kinds_of unit e so_far.cells)) told
            (subst (λ (k : KindCounts). Appends mid_text new_text (last_line (report_with check.found (ReadFault count)) k)) so_far.kinds
            (subst (λ (p : ReportParts). Appends mid_text new_text (last_line p sums)) mine wrote))),
        is_status ∙ ap (status_with new_unread) mine ∙ cut_status new_unread,
      );
    })))

-- No block comes.
pub mapped_refused : {E : Type 0} (unit : Option ℕ) (e : Expected) (check : Check) (unread : Bool) (sums : KindCounts) (count : ℕ) (target : List ℕ)
    (input left first_text text new_text : Option (List ℕ)) (fault : Fault) (status : Result ℕ E)
    → HasMapped unit e check unread sums count (Some target) input first_text text → count < e.job.blocks → NoBlock fault input left
    → IfOk status (Refuses (plain fault) text new_text) → IfOk status (MapsTarget unit e target first_text new_text)
mapped_refused unit e check unread sums count target input left first_text text new_text fault (Err x) so_far within none refuses = tt
mapped_refused unit e check unread sums count target input left first_text text new_text fault (Ok s) so_far within none refuses =
    let known = known_rest target (Some target) input _ refl so_far.came in
    inr (inr (record {
      cells = so_far.cells;
      block = count;
      before = within;
      come = so_far.come;
      rest = known.0;
      input = known.2;
      fault = fault;
      left = left;
      none = subst (λ i. NoBlock fault i left) known.1 none;
      finishes = (
        Appends-trans first_text text new_text (lines_of unit e so_far.cells) (with_line_feed (refusal_line (plain fault))) so_far.written refuses.0,
        refuses.1,
      );
    }))

-- A map that is ready goes on from the first block.
pub ready_goes : (m : Map) → IsReady m → GoesOn m.check.expected m 0
ready_goes m ready = record {
  expected = refl;
  fatal = ap (λ (k : Check). k.fatal) ready.starts;
  next = omega (arith, ap (λ (k : Check). k.next) ready.starts);
  room = ready.room;
  wanted = ready.wanted;
}
