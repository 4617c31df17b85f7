-- The seeds and patterns of a text's jobs fit into their widths.
use Rattle.std.proofs.Common.{◌≡◌, refl, ℕ, zero, suc, ◌+◌, ◌^◌, ◌<◌, ◌≤◌, arith, mod-lt, Bool, true}
use Rattle.std.proofs.Common.{false, ◌&&◌, List, [], ◌∷◌, ◌++◌, length, drop, Option, None, Some}
use Rattle.std.specs.Prelude.{if◌then◌else◌, not, nat_lt, nat_le, nat_eq, replicate, option_map, bytes_eq, codes, take, ◌-◌}
use Rattle.std.specs.Option.{option_or}
use Rattle.std.specs.List.{AllByRecursion, list_all, starts_with, ends_with}
use Rattle.std.specs.Char.{is_digit, digit_value}
use Rattle.std.specs.Str.Lines.{lines}
use Rattle.std.specs.Str.Parse.{digits_value, AllDigits}
use Rattle.std.proofs.lemmas.Bool.{and_parts, ltb-true, leb-true}
use Rattle.std.proofs.lemmas.Int.Digits.{digits_value-lt}
use Rattle.fc_base.proofs.ListLemmas.{all_append, all_map, flat_of}
use Rattle.fc_base.specs.declared.record.Verify.{Verify}
use Rattle.fc_base.specs.declared.record.Verify.TheVariants as verifies
use Rattle.job_file.specs.declared.draft.Draft.{Draft}
use Rattle.job_file.specs.declared.line.Line.{Line}
use Rattle.job_file.specs.declared.line.Line.TheVariants.{Blank, Global, Job, Set, Ignored, Faulty}
use Rattle.job_file.specs.declared.line.LineFault.TheVariants.{BadLine}
use Rattle.job_file.specs.declared.option.OptionName.{OptionName}
use Rattle.job_file.specs.declared.option.OptionName.TheVariants as names
use Rattle.job_file.specs.declared.option.Setting.{Setting}
use Rattle.job_file.specs.declared.option.Setting.TheVariants as set
use Rattle.job_file.specs.Number.{numeral, fitting, is_hexadecimal, number_of}
use Rattle.job_file.specs.Setting.{read_write_of, switch_or_on, copies_of, verify_of, pattern_of}
use Rattle.job_file.specs.Setting.{filename_of, required_value, setting_of, option_named, is_ignored}
use Rattle.job_file.specs.Settings.{verify_pattern_in, last_in}
use Rattle.job_file.specs.Line.{is_skipped, is_section_name, section_named, section_of, is_option_name, name_in}
use Rattle.job_file.specs.Line.{value_in, with_setting, with_option, option_of, content_of, line_of, lines_of}
use Rattle.job_file.specs.Bytes.{trimmed}
use Rattle.job_file.specs.Section.{Section, own_options, sections_of, defaults_in, global_options, drafts_below, drafts_of}
use Rattle.job_file.specs.Draft as drafts
use Rattle.job_file.specs.Draft.{pattern_under, job_of, with_copies, jobs_from}
use Rattle.job_file.specs.Laws.{FitsItsWidths, JobsFit}

-- ---- lists

all_same : {X : Type 0} (P : X → Type 0) (n : ℕ) (x : X) → P x → AllByRecursion P (replicate n x)
all_same P zero x h = tt
all_same P (suc n) x h = (h, all_same P n x h)

-- ---- one or two hexadecimal digits are a byte

abbrev PatternFits : Option ℕ → Type 0
PatternFits None = Unit {0}
PatternFits (Some n) = n < 256

digits_are : (ds : List ℕ) → list_all (λ c. is_digit c 16) ds ≡ true → AllDigits 16 ds
digits_are [] h = tt
digits_are (c ∷ cs) h =
    let p = and_parts (is_digit c 16) (list_all (λ d. is_digit d 16) cs) h in
    (ltb-true (digit_value c) 16 p.0, digits_are cs p.1)

two_digits : (n : ℕ) → n ≤ 2 → 16 ^ n ≤ 256
two_digits zero h = omega arith
two_digits (suc zero) h = omega arith
two_digits (suc (suc zero)) h = omega arith
two_digits (suc (suc (suc n))) h = absurd (omega arith)

fitting_fits : (b : Bool) (n : ℕ) → n < 256 → PatternFits (if b then Some n else None)
fitting_fits true n h = h
fitting_fits false n h = tt

if_some : (b : Bool) (x : Option ℕ) → (b ≡ true → PatternFits x) → PatternFits (if b then x else None)
if_some true x f = f refl
if_some false x f = tt

numeral_fits : (ds : List ℕ) → length ds ≤ 2 → PatternFits (numeral 16 ds)
numeral_fits ds h =
    if_some (nat_lt 0 (length ds) && list_all (λ c. is_digit c 16) ds) (fitting (digits_value 16 ds))
    (λ e. let all = digits_are ds (and_parts (nat_lt 0 (length ds)) (list_all (λ c. is_digit c 16) ds) e).1 in
    let below = digits_value-lt 16 ds all in
    let small = two_digits (length ds) h in
    fitting_fits (nat_lt (digits_value 16 ds) (2 ^ 64)) (digits_value 16 ds) (omega arith))

behind_two : (xs : List ℕ) → length xs ≤ 4 → length (drop 2 xs) ≤ 2
behind_two [] h = omega arith
behind_two (a ∷ []) h = omega arith
behind_two (a ∷ b ∷ xs) h = omega arith

pattern_fits : (value : List ℕ) → PatternFits (pattern_of value)
pattern_fits value =
    if_some (is_hexadecimal value && nat_le (length value) 4) (numeral 16 (drop 2 value))
    (λ e. numeral_fits (drop 2 value) (behind_two value (leb-true (length value) 4 (and_parts (is_hexadecimal value) (nat_le (length value) 4) e).1)))

-- ---- so are the patterns that settings and lines give

abbrev SettingFits : Setting → Type 0
SettingFits s = PatternFits (verify_pattern_in s)

abbrev SomeFits : Option Setting → Type 0
SomeFits None = Unit {0}
SomeFits (Some s) = SettingFits s

mapped : {X : Type 0} (f : X → Setting) (x : Option X) → ((v : X) → SettingFits (f v)) → SomeFits (option_map f x)
mapped f None h = tt
mapped f (Some v) h = h v

needed_fits : {X : Type 0} (of : List ℕ → Option X) (f : X → Setting) (value : Option (List ℕ)) → ((v : X) → SettingFits (f v))
    → SomeFits (required_value of f value)
needed_fits of f None h = tt
needed_fits of f (Some value) h = mapped f (of value) h

pattern_set : (x : Option ℕ) → PatternFits x → SomeFits (option_map set.VerifyPattern x)
pattern_set None h = tt
pattern_set (Some n) h = h

setting_fits : (name : OptionName) (value : Option (List ℕ)) → SomeFits (setting_of name value)
setting_fits names.ReadWrite value = needed_fits read_write_of set.ReadWrite value (λ v. tt)
setting_fits names.BlockSize value = needed_fits number_of set.BlockSize value (λ v. tt)
setting_fits names.Size value = needed_fits number_of set.Size value (λ v. tt)
setting_fits names.IoSize value = needed_fits number_of set.IoSize value (λ v. tt)
setting_fits names.NumberIos value = needed_fits number_of set.NumberIos value (λ v. tt)
setting_fits names.IoDepth value = needed_fits number_of set.IoDepth value (λ v. tt)
setting_fits names.XWindow value = needed_fits number_of set.XWindow value (λ v. tt)
setting_fits names.NumJobs value = needed_fits copies_of set.NumJobs value (λ v. tt)
setting_fits names.RandSeed value = needed_fits number_of set.RandSeed value (λ v. tt)
setting_fits names.NoRandomMap value = mapped set.NoRandomMap (switch_or_on value) (λ v. tt)
setting_fits names.Verify value = needed_fits verify_of set.Verify value (λ v. tt)
setting_fits names.VerifyPattern None = tt
setting_fits names.VerifyPattern (Some value) = pattern_set (pattern_of value) (pattern_fits value)
setting_fits names.VerifyFatal value = mapped set.VerifyFatal (switch_or_on value) (λ v. tt)
setting_fits names.VerifyStateSave value = mapped set.VerifyStateSave (switch_or_on value) (λ v. tt)
setting_fits names.VerifyStateLoad value = mapped set.VerifyStateLoad (switch_or_on value) (λ v. tt)
setting_fits names.Filename value = needed_fits filename_of set.Filename value (λ v. tt)

abbrev LineFits : Line → Type 0
LineFits Blank = Unit {0}
LineFits Global = Unit {0}
LineFits (Job name) = Unit {0}
LineFits (Set s) = SettingFits s
LineFits (Ignored name) = Unit {0}
LineFits (Faulty fault) = Unit {0}

either : (b : Bool) (x y : Line) → LineFits x → LineFits y → LineFits (if b then x else y)
either true x y h k = h
either false x y h k = k

set_fits : (s : Option Setting) → SomeFits s → LineFits (with_setting s)
set_fits None h = tt
set_fits (Some s) h = h

option_fits : (name : Option OptionName) (value : Option (List ℕ)) → LineFits (with_option name value)
option_fits None value = tt
option_fits (Some name) value = set_fits (setting_of name value) (setting_fits name value)

named_fits : (name : List ℕ) → LineFits (section_named name)
named_fits name = either (not (is_section_name name)) (Faulty BadLine) _ tt (either (bytes_eq name (codes "global")) Global (Job name) tt tt)

section_fits : (rest : List ℕ) → LineFits (section_of rest)
section_fits rest =
    either (ends_with nat_eq rest (codes "]")) (section_named (take (length rest - 1) rest)) (Faulty BadLine) (named_fits (take (length rest - 1) rest)) tt

content_fits : (line : List ℕ) → LineFits (content_of line)
content_fits line =
    either (is_skipped line) Blank _ tt
    (either (starts_with nat_eq line (codes "[")) (section_of (drop 1 line)) (option_of line) (section_fits (drop 1 line))
    (either (not (is_option_name (name_in line))) (Faulty BadLine) _ tt
    (either (is_ignored (name_in line)) (Ignored (name_in line)) _ tt (option_fits (option_named (name_in line)) (value_in line)))))

lines_fit : (text : List ℕ) → AllByRecursion LineFits (lines_of text)
lines_fit text = all_map LineFits line_of (lines text) (λ line. content_fits (trimmed line))

-- ---- and those of sections and drafts

own_fit : (ls : List Line) → AllByRecursion LineFits ls → AllByRecursion SettingFits (own_options ls)
own_fit [] h = tt
own_fit (Blank ∷ ls) h = own_fit ls h.1
own_fit (Global ∷ ls) h = tt
own_fit (Job name ∷ ls) h = tt
own_fit (Set s ∷ ls) h = (h.0, own_fit ls h.1)
own_fit (Ignored name ∷ ls) h = own_fit ls h.1
own_fit (Faulty fault ∷ ls) h = own_fit ls h.1

abbrev SectionFits : Section → Type 0
SectionFits s = AllByRecursion SettingFits s.options

defaults_fit : (job : Option (List ℕ)) (options : List Setting) → AllByRecursion SettingFits options → AllByRecursion SettingFits (defaults_in job options)
defaults_fit None options h = h
defaults_fit (Some name) options h = tt

globals_fit : (ss : List Section) → AllByRecursion SectionFits ss → AllByRecursion SettingFits (global_options ss)
globals_fit ss h = flat_of SectionFits SettingFits (λ (s : Section). defaults_in s.job s.options) ss h (λ s k. defaults_fit s.job s.options k)

or_fits : (a b : Option ℕ) → PatternFits a → PatternFits b → PatternFits (option_or a b)
or_fits None b h k = k
or_fits (Some n) b h k = h

last_fits : (ss : List Setting) → AllByRecursion SettingFits ss → PatternFits (last_in verify_pattern_in ss)
last_fits [] h = tt
last_fits (s ∷ ss) h = or_fits (last_in verify_pattern_in ss) (verify_pattern_in s) (last_fits ss h.1) h.0

abbrev DraftFits : Draft → Type 0
DraftFits d = PatternFits d.settings.verify_pattern

drafts_fit : (above : List Section) (below : List Line) → AllByRecursion SectionFits above → AllByRecursion LineFits below
    → AllByRecursion DraftFits (drafts_below above (sections_of below))
drafts_fit above [] a h = tt
drafts_fit above (Blank ∷ ls) a h = drafts_fit above ls a h.1
drafts_fit above (Global ∷ ls) a h =
    let s : Section = record { job = None; options = own_options ls } in
    drafts_fit (above ++ s ∷ []) ls (all_append SectionFits above (s ∷ []) a (own_fit ls h.1, tt)) h.1
drafts_fit above (Job name ∷ ls) a h =
    let s : Section = record { job = Some name; options = own_options ls } in (
      or_fits (last_in verify_pattern_in (own_options ls)) (last_in verify_pattern_in (global_options above)) (last_fits (own_options ls) (own_fit ls h.1))
          (last_fits (global_options above) (globals_fit above a)),
      drafts_fit (above ++ s ∷ []) ls (all_append SectionFits above (s ∷ []) a (own_fit ls h.1, tt)) h.1,
    )
drafts_fit above (Set s ∷ ls) a h = drafts_fit above ls a h.1
drafts_fit above (Ignored name ∷ ls) a h = drafts_fit above ls a h.1
drafts_fit above (Faulty fault ∷ ls) a h = drafts_fit above ls a h.1

copies_fit : (ds : List Draft) → AllByRecursion DraftFits ds → AllByRecursion DraftFits (with_copies ds)
copies_fit ds h = flat_of DraftFits DraftFits (λ d. replicate (drafts.copies_of d) d) ds h (λ d k. all_same DraftFits (drafts.copies_of d) d k)

-- ---- the jobs

under_fits : (v : Verify) (p : Option ℕ) → PatternFits p → pattern_under v p < 256
under_fits verifies.Stamp p h = omega arith
under_fits verifies.Pattern None h = omega arith
under_fits verifies.Pattern (Some n) h = h

job_fits : (n : ℕ) (d : Draft) → DraftFits d → FitsItsWidths (job_of n d)
job_fits n d h = record {
  seed = mod-lt _ (omega arith);
  pattern = under_fits (drafts.verify_of d.settings) d.settings.verify_pattern h;
}

numbered_fit : (n : ℕ) (ds : List Draft) → AllByRecursion DraftFits ds → AllByRecursion FitsItsWidths (jobs_from n ds)
numbered_fit n [] h = tt
numbered_fit n (d ∷ ds) h = (job_fits n d h.0, numbered_fit (n + 1) ds h.1)

pub jobs_fit : JobsFit
jobs_fit text =
    numbered_fit 0 (with_copies (drafts_of (lines_of text))) (copies_fit (drafts_of (lines_of text)) (drafts_fit [] (lines_of text) tt (lines_fit text)))
