-- The check of a region, block by block as its bytes come.
use Rattle.std.proofs.Common.{◌≡◌, ◌<◌, ◌≤◌, ◌*◌, ◌+◌, ℕ, Bool, true, false, List, [], ◌∷◌, ◌++◌, length, take, drop, Option, Some, None}
use Rattle.std.proofs.Common.{IfSome, append_assoc, append-nil, length-append, refl, sym, ap, ◌∙◌, subst, inl, inr, arith}
use Rattle.std.specs.List.{range_with_len}
use Rattle.std.specs.Io.KnownBytes.{Consumes, IsAtEnd}
use Rattle.std.proofs.KnownBytes.{Consumes-trans}
use Rattle.std.proofs.lemmas.List.{take_at, drop_at}
use Rattle.fc_base.proofs.ListLemmas.{range_more}
use Rattle.fc_base.specs.declared.report.ReportParts.{ReportParts}
use Rattle.fc_base.specs.declared.report.ReportEnd.TheVariants.{AtFault, ReadFault, Whole}
use Rattle.recheck.specs.Expected.{Expected}
use Rattle.recheck.specs.Report.{looked_at, report_of, tally, report_with}
use Rattle.recheck.specs.Check.{Check, has_ended, HasSeen}
use Rattle.recheck.specs.Laws.{FaultsEndChecks}
use Rattle.targets.specs.Checks.{block_in, report_on, IsCut, IsWhole}

-- So many blocks of this size were read since the input was this, and the check has seen them.
pub record HasRead (e : Expected) (check : Check) (count : ℕ) (first now : Option (List ℕ)) : Type 0 where
  pub bytes : List ℕ
  pub read : Consumes first now bytes
  pub is : length bytes ≡ count * e.job.bs
  pub seen : (whole : List ℕ) → first ≡ Some whole → HasSeen check (block_in whole e.job.bs) (range_with_len 0 count)

-- What is left of known bytes.
pub known_rest : (whole : List ℕ) (first now : Option (List ℕ)) (bytes : List ℕ) → first ≡ Some whole → Consumes first now bytes
    → (rest : List ℕ) × (now ≡ Some rest) × (whole ≡ bytes ++ rest)
known_rest whole None now bytes is read = absurd cc
known_rest whole (Some all) None bytes is read = absurd read
known_rest whole (Some all) (Some rest) bytes is read = let same : all ≡ whole = cc in (rest, refl, sym same ∙ read)

-- The bytes behind so many blocks are the next block's.
block_behind : (before block rest whole : List ℕ) (count size : ℕ) → whole ≡ before ++ (block ++ rest) → length before ≡ count * size → length block ≡ size
    → block_in whole size count ≡ block
block_behind before block rest whole count size is len own =
    ap (λ l. take size (drop (count * size) l)) is
    ∙ ap (take size) (drop_at before (block ++ rest) (count * size) len)
    ∙ take_at block rest size own

-- One block more is read and seen.
pub read_more : (e : Expected) (check new : Check) (count : ℕ) (first old now : Option (List ℕ)) (block : List ℕ)
    → HasRead e check count first old → Consumes old now block → length block ≡ e.job.bs
    → ((held : ℕ → List ℕ) (blocks : List ℕ) → held count ≡ block → HasSeen check held blocks → HasSeen new held (blocks ++ count ∷ []))
    → HasRead e new (count + 1) first now
read_more e check new count first old now block so_far read own feeds = record {
  bytes = so_far.bytes ++ block;
  read = Consumes-trans first old now so_far.bytes block so_far.read read;
  is = omega (arith, length-append so_far.bytes block, so_far.is, own);
  seen = λ whole is.
      let known = known_rest whole first now (so_far.bytes ++ block) is (Consumes-trans first old now so_far.bytes block so_far.read read) in
      let held : block_in whole e.job.bs count ≡ block =
      block_behind so_far.bytes block known.0 whole count e.job.bs (known.2 ∙ append_assoc so_far.bytes block known.0) so_far.is own in
      subst (HasSeen new (block_in whole e.job.bs)) (sym (range_more count))
      (feeds (block_in whole e.job.bs) (range_with_len 0 count) held (so_far.seen whole is));
}

-- No more is read than there is.
pub are_there : (e : Expected) (check : Check) (count : ℕ) (whole : List ℕ) (now : Option (List ℕ)) → HasRead e check count (Some whole) now
    → count * e.job.bs ≤ length whole
are_there e check count whole now so_far =
    let known = known_rest whole (Some whole) now so_far.bytes refl so_far.read in
    omega (arith, so_far.is, ap length known.2, length-append so_far.bytes known.0)

-- The report of what was seen.
report_seen : (e : Expected) (fatal : Bool) (check : Check) (count : ℕ) (whole : List ℕ) → check.expected ≡ e → check.fatal ≡ fatal
    → HasSeen check (block_in whole e.job.bs) (range_with_len 0 count) → report_on e fatal whole count ≡ report_of fatal check.found
report_seen e fatal check count whole same_e same_fatal seen =
    let uncut : looked_at fatal e (block_in whole e.job.bs) (range_with_len 0 count) ≡ range_with_len 0 count =
    ap (λ f. looked_at f e (block_in whole e.job.bs) (range_with_len 0 count)) (sym same_fatal)
    ∙ ap (λ (x : Expected). looked_at check.fatal x (block_in whole e.job.bs) (range_with_len 0 count)) (sym same_e) ∙ seen.uncut in
    let found : tally e (block_in whole e.job.bs) (range_with_len 0 count) ≡ check.found =
    ap (λ (x : Expected). tally x (block_in whole e.job.bs) (range_with_len 0 count)) (sym same_e) ∙ sym seen.found in
    ap (λ xs. report_of fatal (tally e (block_in whole e.job.bs) xs)) uncut ∙ ap (report_of fatal) found

-- The bytes end in a block.
pub is_cut : (e : Expected) (fatal : Bool) (check : Check) (count : ℕ) (whole part : List ℕ) (old now : Option (List ℕ)) (r : ReportParts)
    → HasRead e check count (Some whole) old → check.expected ≡ e → check.fatal ≡ fatal → has_ended check ≡ false → count < e.job.blocks
    → Consumes old now part → length part < e.job.bs → IsAtEnd now → r ≡ report_with check.found (ReadFault count)
    → IsCut e fatal whole r count
is_cut e fatal check count whole part old now r so_far same_e same_fatal open_check within read short end is =
    let known = known_rest whole (Some whole) now (so_far.bytes ++ part) refl (Consumes-trans (Some whole) old now so_far.bytes part so_far.read read) in
    let none : known.0 ≡ [] = subst IsAtEnd known.1 end in
    let all : length whole ≡ length so_far.bytes + length part =
    ap length (known.2 ∙ ap (λ l. (so_far.bytes ++ part) ++ l) none ∙ append-nil (so_far.bytes ++ part)) ∙ length-append so_far.bytes part in
    let seen = report_seen e fatal check count whole same_e same_fatal (so_far.seen whole refl) in
    let open_end : (report_of fatal check.found).end ≡ Whole = rw (sym same_fatal, open_check) refl in
    record {
      block = within;
      before = omega (arith, all, so_far.is);
      short = omega (arith, all, so_far.is, short);
      unended = ap (λ p. p.end) seen ∙ open_end;
      report = is ∙ sym (ap (λ (p : ReportParts). record p { end = ReadFault count }) seen);
    }

-- The check ends at a fault.
pub ended_at : FaultsEndChecks → (e : Expected) (fatal : Bool) (check : Check) (count : ℕ) (whole : List ℕ) (now : Option (List ℕ)) (r : ReportParts)
    → HasRead e check count (Some whole) now → check.expected ≡ e → check.fatal ≡ fatal → has_ended check ≡ true → count ≤ e.job.blocks
    → r ≡ report_of check.fatal check.found → IsWhole e fatal whole r
ended_at law e fatal check count whole now r so_far same_e same_fatal ended le is =
    let seen = report_seen e fatal check count whole same_e same_fatal (so_far.seen whole refl) in
    let mine : r ≡ report_of fatal check.found = is ∙ ap (λ f. report_of f check.found) same_fatal in
    let at_fault : (report_of fatal check.found).end ≡ AtFault = rw (sym same_fatal, ended) refl in
    record {
      report = mine ∙ sym seen ∙ sym (law fatal e (block_in whole e.job.bs) count e.job.blocks le (ap (λ p. p.end) seen ∙ at_fault));
      there = inr (ap (λ (p : ReportParts). p.end) mine ∙ at_fault);
    }

-- All blocks were read.
pub whole_region : (e : Expected) (fatal : Bool) (check : Check) (whole : List ℕ) (now : Option (List ℕ)) (r : ReportParts)
    → HasRead e check e.job.blocks (Some whole) now → check.expected ≡ e → check.fatal ≡ fatal → r ≡ report_of check.fatal check.found → IsWhole e fatal whole r
whole_region e fatal check whole now r so_far same_e same_fatal is =
    let seen = report_seen e fatal check e.job.blocks whole same_e same_fatal (so_far.seen whole refl) in
    record {
      report = is ∙ ap (λ f. report_of f check.found) same_fatal ∙ sym seen;
      there = inl (are_there e check e.job.blocks whole now so_far);
    }

-- What holds of an input whose bytes are known.
pub checks_some : (input : Option (List ℕ)) (P : List ℕ → Type 0) → ((whole : List ℕ) → input ≡ Some whole → P whole) → IfSome input P
checks_some None P f = tt
checks_some (Some whole) P f = f whole refl
