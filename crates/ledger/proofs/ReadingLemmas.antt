-- What is read of numbers that spell a list.
use Rattle.std.proofs.Common.{◌≡◌, ℕ, ◌+◌, ◌-◌, ◌*◌, ◌/◌, ◌<◌, ◌≤◌, List, [], ◌∷◌, ◌++◌, length, take, drop, get_or, refl, sym, ap, ◌∙◌, arith, append-nil}
use Rattle.std.specs.List.{flat_map, AllByRecursion}
use Rattle.std.specs.Prelude.{◌^◌, Some}
use Rattle.std.specs.Int.{w64, from_be_bytes}
use Rattle.std.proofs.lemmas.List.{append_assoc, length-append}
use Rattle.std.proofs.lemmas.Nat.{from_be_bytes-to_be_bytes_8}
use Rattle.std.proofs.Math.Seq.{take-append_seam, drop-append_seam}
use Rattle.sha1.specs.Sha1.{sha1, digest_bytes}
use Rattle.fc_base.specs.Layouts.{bytes_of, number_in}
use Rattle.verify_state.specs.Spelling.{words}
use Rattle.ledger.specs.declared.entry.RunWrite.{RunWrite}
use Rattle.ledger.specs.Places.{Place}
use Rattle.ledger.specs.Ranges.{IsRangedPlace}
use Rattle.ledger.specs.Reading.{IsRows, IsReadable, IsReadableEntry}
use Rattle.ledger.specs.Spelling.{write_numbers, entry_numbers, table_of}
use Rattle.ledger.proofs.TableLemmas.{Fits64, IsRow, all_map, rows_of, rows_length}

-- A list under way: what is read of it and what is left, whose numbers stand at the front of the rest.
pub record IsUnderWay {X : Type 0} (f : X → List ℕ) (P : X → Type 0) (all read : List X) (rest more : List ℕ) (n : ℕ) : Type 0 where
  pub left : List X
  pub all_is : all ≡ read ++ left
  pub good : AllByRecursion P left
  pub rest_is : rest ≡ flat_map f left ++ more
  pub len : length left ≡ n

-- The next element of it.
pub record HasNext {X : Type 0} (f : X → List ℕ) (P : X → Type 0) (all read : List X) (rest more : List ℕ) (n : ℕ) : Type 0 where
  pub next : X
  pub behind : List ℕ
  pub good : P next
  pub rest_is : rest ≡ f next ++ behind
  pub on : IsUnderWay f P all (read ++ next ∷ []) behind more (n - 1)

pub begun : {X : Type 0} (f : X → List ℕ) (P : X → Type 0) (all : List X) (more : List ℕ) → AllByRecursion P all
    → IsUnderWay f P all [] (flat_map f all ++ more) more (length all)
begun f P all more good = record { left = all; all_is = refl; good = good; rest_is = refl; len = refl }

pub has_next : {X : Type 0} (f : X → List ℕ) (P : X → Type 0) (all read : List X) (rest more : List ℕ) (n : ℕ)
    → 0 < n → IsUnderWay f P all read rest more n → HasNext f P all read rest more n
has_next {X} f P all read rest more n some way = by way.left way.all_is way.good way.rest_is way.len
  where
    by : (left : List X) → all ≡ read ++ left → AllByRecursion P left → rest ≡ flat_map f left ++ more → length left ≡ n → HasNext f P all read rest more n
    by [] all_is good rest_is len = absurd (omega arith)
    by (x ∷ xs) all_is good rest_is len = record {
      next = x;
      behind = flat_map f xs ++ more;
      good = good.0;
      rest_is = rest_is ∙ append_assoc (f x) (flat_map f xs) more;
      on = record { left = xs; all_is = all_is ∙ sym (append_assoc read (x ∷ []) xs); good = good.1; rest_is = refl; len = omega arith };
    }

pub all_read : {X : Type 0} (f : X → List ℕ) (P : X → Type 0) (all read : List X) (rest more : List ℕ) (n : ℕ)
    → n ≡ 0 → IsUnderWay f P all read rest more n → read ≡ all
all_read {X} f P all read rest more n none way = by way.left way.all_is way.len
  where
    by : (left : List X) → all ≡ read ++ left → length left ≡ n → read ≡ all
    by [] all_is len = sym (all_is ∙ append-nil read)
    by (x ∷ xs) all_is len = absurd (omega arith)

-- One element further, as it was read.
pub on_by : {X : Type 0} (f : X → List ℕ) (P : X → Type 0) (all read new : List X) (rest behind more : List ℕ) (n m : ℕ) (x y : X)
    → IsUnderWay f P all (read ++ x ∷ []) behind more n → new ≡ read ++ y ∷ [] → y ≡ x → rest ≡ behind → m ≡ n → IsUnderWay f P all new rest more m
on_by f P all read new rest behind more n m x y way put same rest_is len = rw (len, put, same, rest_is) way

pub some_is : {X : Type 0} (x y : X) → Some x ≡ Some y → x ≡ y
some_is x y is = cc

-- ---- the digest

pub length_sha1 : (m : List ℕ) → length (sha1 m) ≡ 20
unfolding sha1 digest_bytes
length_sha1 m = refl

pub split_is : (bytes body front back : List ℕ) (n : ℕ) → bytes ≡ body ++ sha1 body → n ≡ length bytes - 20 → front ≡ take n bytes → back ≡ drop n bytes
    → (front ≡ body) × (back ≡ sha1 body)
split_is bytes body front back n is at front_is back_is =
    let len : n ≡ length body = omega (arith, ap length is, length-append body (sha1 body), length_sha1 body) in (
      front_is ∙ ap (take n) is ∙ ap (λ m. take m (body ++ sha1 body)) len ∙ take-append_seam body (sha1 body),
      back_is ∙ ap (drop n) is ∙ ap (λ m. drop m (body ++ sha1 body)) len ∙ drop-append_seam body (sha1 body),
    )

-- ---- numbers of eight bytes

pub word_first : (n : ℕ) (rest more : List ℕ) → n < 2 ^ 64 → rest ≡ bytes_of w64 n ++ more → (number_in w64 rest ≡ n) × (drop 8 rest ≡ more)
unfolding bytes_of number_in
word_first n rest more fits is = (
  ap (λ bytes. from_be_bytes w64 (take 8 bytes)) is ∙ from_be_bytes-to_be_bytes_8 n fits,
  ap (drop 8) is,
)

length_word : (n : ℕ) → length (bytes_of w64 n) ≡ 8
unfolding bytes_of
length_word n = refl

words_length : (ns : List ℕ) → length (words ns) ≡ 8 * length ns
words_length [] = refl
words_length (n ∷ ns) = omega (arith, length-append (bytes_of w64 n) (words ns), length_word n, words_length ns)

pub words_begun : (ns body : List ℕ) → AllByRecursion Fits64 ns → body ≡ words ns → IsUnderWay (bytes_of w64) Fits64 ns [] body [] (length body / 8 - 0)
words_begun ns body fits is = record {
  left = ns;
  all_is = refl;
  good = fits;
  rest_is = is ∙ sym (append-nil (words ns));
  len = omega (arith, ap length is, words_length ns);
}

pub words_on : (ns read new rest behind : List ℕ) (number n m : ℕ) → 0 < n → m ≡ n - 1 → number ≡ number_in w64 rest → behind ≡ drop 8 rest
    → new ≡ read ++ number ∷ [] → IsUnderWay (bytes_of w64) Fits64 ns read rest [] n → IsUnderWay (bytes_of w64) Fits64 ns new behind [] m
words_on ns read new rest behind number n m some less number_is behind_is new_is way =
    let next = has_next (bytes_of w64) Fits64 ns read rest [] n some way in
    let first = word_first next.next rest next.behind next.good next.rest_is in
    rw (less, new_is, number_is, first.0, behind_is, first.1) next.on

-- ---- writes

pub pair_of : (rest pair behind more : List ℕ) (i s : ℕ) → pair ≡ take 2 rest → behind ≡ drop 2 rest → rest ≡ i ∷ s ∷ more
    → (get_or pair 0 0 ≡ i) × ((get_or pair 1 0 ≡ s) × (behind ≡ more))
pair_of rest pair behind more i s pair_is behind_is is = (
  ap (λ p. get_or p 0 0) (pair_is ∙ ap (take 2) is),
  (ap (λ p. get_or p 1 0) (pair_is ∙ ap (take 2) is), behind_is ∙ ap (drop 2) is),
)

pub writes_begun : (table : List (List ℕ)) (start writes : List RunWrite) (rest more : List ℕ) (n : ℕ) → length writes ≡ n → AllByRecursion (IsReadable table) writes
    → rest ≡ flat_map (write_numbers table) writes ++ more → IsUnderWay (write_numbers table) (IsReadable table) (start ++ writes) start rest more (n - 0)
writes_begun table start writes rest more n len good is = record { left = writes; all_is = refl; good = good; rest_is = is; len = omega arith }

-- ---- entries

entry_length : (table : List (List ℕ)) (ws : List RunWrite) → length (flat_map (write_numbers table) ws) ≡ 2 * length ws
entry_length table [] = refl
entry_length table (w ∷ ws) = omega (arith, entry_length table ws)

pub entry_there : (table : List (List ℕ)) (entry : List RunWrite) (words more : List ℕ) → words ≡ entry_numbers table entry ++ more
    → length words ≡ 1 + 2 * length entry + length more
entry_there table entry words more is =
    omega (arith, ap length is, length-append (flat_map (write_numbers table) entry) more, entry_length table entry)

-- What stands behind the first number, and that number.
pub head_of : (words head behind more : List ℕ) (n : ℕ) → head ≡ take 1 words → behind ≡ drop 1 words → words ≡ n ∷ more
    → (get_or head 0 0 ≡ n) × (behind ≡ more)
head_of words head behind more n head_is behind_is is = (ap (λ h. get_or h 0 0) (head_is ∙ ap (take 1) is), behind_is ∙ ap (drop 1) is)

-- What stands behind an entry.
pub entry_behind_is : (table : List (List ℕ)) (entry : List RunWrite) (rest behind more : List ℕ) (n : ℕ) → n ≡ 1 + 2 * length entry
    → behind ≡ drop n rest → rest ≡ entry_numbers table entry ++ more → behind ≡ more
entry_behind_is table entry rest behind more n len behind_is is =
    let whole : n ≡ length (entry_numbers table entry) = omega (arith, entry_length table entry) in
    behind_is ∙ ap (drop n) is ∙ ap (λ m. drop m (entry_numbers table entry ++ more)) whole ∙ drop-append_seam (entry_numbers table entry) more

pub entries_begun : (table : List (List ℕ)) (entries : List (List RunWrite)) (words : List ℕ) (n : ℕ) → length entries ≡ n
    → AllByRecursion (IsReadableEntry table) entries → words ≡ flat_map (entry_numbers table) entries
    → IsUnderWay (entry_numbers table) (IsReadableEntry table) entries [] words [] (n - 0)
entries_begun table entries words n len good is = record {
  left = entries;
  all_is = refl;
  good = good;
  rest_is = is ∙ sym (append-nil (flat_map (entry_numbers table) entries));
  len = omega arith;
}

-- There are no more entries than numbers.
pub entries_there : (table : List (List ℕ)) (es : List (List RunWrite)) → length es ≤ length (flat_map (entry_numbers table) es)
entries_there table [] = omega arith
entries_there table (e ∷ es) =
    omega (arith, length-append (flat_map (write_numbers table) e) (flat_map (entry_numbers table) es), entries_there table es)

-- ---- the whole

pub rows_are : (place : Place) → IsRangedPlace place → IsRows (flat_map (λ (row : List ℕ). row) (table_of place.entries)) (table_of place.entries)
rows_are place r = record {
  each = all_map IsRow (λ row. length row ≡ 12) (table_of place.entries) (λ row is. is.len) (rows_of place.entries r.entries);
  rows_are = refl;
}

-- The first four numbers, and what stands behind them.
pub record IsHead (head rest : List ℕ) (a b c d : ℕ) (more : List ℕ) : Type 0 where
  pub magic : get_or head 0 0 ≡ a
  pub bs : get_or head 1 0 ≡ b
  pub count : get_or head 2 0 ≡ c
  pub runs : get_or head 3 0 ≡ d
  pub rest_is : rest ≡ more

pub four_of : (words head rest : List ℕ) (a b c d : ℕ) (more : List ℕ) → head ≡ take 4 words → rest ≡ drop 4 words → words ≡ a ∷ b ∷ c ∷ d ∷ more
    → IsHead head rest a b c d more
four_of words head rest a b c d more head_is rest_is is = record {
  magic = ap (λ h. get_or h 0 0) (head_is ∙ ap (take 4) is);
  bs = ap (λ h. get_or h 1 0) (head_is ∙ ap (take 4) is);
  count = ap (λ h. get_or h 2 0) (head_is ∙ ap (take 4) is);
  runs = ap (λ h. get_or h 3 0) (head_is ∙ ap (take 4) is);
  rest_is = rest_is ∙ ap (drop 4) is;
}

-- The numbers behind the head.
abbrev pub behind_head : Place → List ℕ
behind_head place = flat_map (λ (row : List ℕ). row) (table_of place.entries) ++ flat_map (entry_numbers (table_of place.entries)) place.entries

pub table_length : (place : Place) → IsRangedPlace place → length (flat_map (λ (row : List ℕ). row) (table_of place.entries)) ≡ 12 * length (table_of place.entries)
table_length place r = rows_length (table_of place.entries) (rows_are place r).each

pub behind_length : (place : Place) → IsRangedPlace place → 12 * length (table_of place.entries) ≤ length (behind_head place)
behind_length place r =
    omega (arith, length-append (flat_map (λ (row : List ℕ). row) (table_of place.entries)) (flat_map (entry_numbers (table_of place.entries)) place.entries), table_length place r)

-- The table, and the numbers of the entries behind it.
pub cut_of : (place : Place) (rest rows behind : List ℕ) (n : ℕ) → IsRangedPlace place → rest ≡ behind_head place → n ≡ 12 * length (table_of place.entries)
    → rows ≡ take n rest → behind ≡ drop n rest
    → (rows ≡ flat_map (λ (row : List ℕ). row) (table_of place.entries)) × (behind ≡ flat_map (entry_numbers (table_of place.entries)) place.entries)
cut_of place rest rows behind n r rest_is at rows_is behind_is =
    let table = flat_map (λ (row : List ℕ). row) (table_of place.entries) in
    let entries = flat_map (entry_numbers (table_of place.entries)) place.entries in
    let whole : n ≡ length table = at ∙ sym (table_length place r) in (
      rows_is ∙ ap (take n) rest_is ∙ ap (λ m. take m (table ++ entries)) whole ∙ take-append_seam table entries,
      behind_is ∙ ap (drop n) rest_is ∙ ap (λ m. drop m (table ++ entries)) whole ∙ drop-append_seam table entries,
    )

pub rows_by : (place : Place) (rows : List ℕ) → IsRangedPlace place → rows ≡ flat_map (λ (row : List ℕ). row) (table_of place.entries) → IsRows rows (table_of place.entries)
rows_by place rows r is = record { each = (rows_are place r).each; rows_are = is }
