-- What is carried from line to line is what the whole text says.
use Rattle.std.proofs.Common.{◌≡◌, List, [], ◌∷◌, ◌++◌, Option, Some, None, append-nil, refl, sym, ◌∙◌, ap}
use Rattle.std.specs.Option.{option_or}
use Rattle.std.proofs.lemmas.Grind.{flat_map-append}
use Rattle.std.proofs.lemmas.List.Sums.{fold-append}
use Rattle.job_file.specs.declared.line.Line.{Line}
use Rattle.job_file.specs.declared.line.Line.TheVariants.{Blank, Global, Job, Set, Ignored, Faulty}
use Rattle.job_file.specs.declared.option.Setting.{Setting}
use Rattle.job_file.specs.declared.settings.Settings.{Settings}
use Rattle.job_file.specs.declared.draft.Draft.{Draft}
use Rattle.job_file.specs.Section.{Section, own_options, sections_of, defaults_in, global_options, drafts_below, drafts_of}
use Rattle.job_file.specs.Settings.{last_in, value_of, read_write_in, block_size_in, size_in, io_size_in, number_ios_in, io_depth_in}
use Rattle.job_file.specs.Settings.{x_window_in, num_jobs_in, rand_seed_in, no_random_map_in, verify_in, verify_pattern_in, verify_fatal_in}
use Rattle.job_file.specs.Settings.{verify_state_save_in, verify_state_load_in, filename_in, settings_of, none_set, with_setting}
use Rattle.job_file.specs.Reader.{with_all, drafts_with}

option_or_assoc : {X : Type 0} (a b c : Option X) → option_or a (option_or b c) ≡ option_or (option_or a b) c
option_or_assoc None b c = refl
option_or_assoc (Some x) b c = refl

option_or_none : {X : Type 0} (a : Option X) → option_or a None ≡ a
option_or_none None = refl
option_or_none (Some x) = refl

-- An option that each line sets anew has its last value.
value_after : {X : Type 0} (gives : Setting → Option X) (get : Settings → Option X)
    → ((s : Settings) (x : Setting) → get (with_setting s x) ≡ option_or (gives x) (get s)) → (s : Settings) (xs : List Setting)
    → get (with_all s xs) ≡ option_or (last_in gives xs) (get s)
value_after gives get step s [] = refl
value_after gives get step s (x ∷ xs) =
    value_after gives get step (with_setting s x) xs ∙ ap (option_or (last_in gives xs)) (step s x) ∙ option_or_assoc (last_in gives xs) (gives x) (get s)

-- The lines of the job's own section are read after those of the global sections.
value_is : {X : Type 0} (gives : Setting → Option X) (get : Settings → Option X)
    → ((s : Settings) (x : Setting) → get (with_setting s x) ≡ option_or (gives x) (get s)) → get none_set ≡ None → (own above : List Setting)
    → get (with_all (with_all none_set above) own) ≡ value_of gives own above
value_is gives get step none own above =
    value_after gives get step (with_all none_set above) own
    ∙ ap (option_or (last_in gives own)) (value_after gives get step none_set above ∙ ap (option_or (last_in gives above)) none
    ∙ option_or_none (last_in gives above))

settings_are : (own above : List Setting) → with_all (with_all none_set above) own ≡ settings_of own above
settings_are own above =
    let read : Settings = with_all (with_all none_set above) own in
    let by_field : read ≡ record {
      read_write = read.read_write;
      block_size = read.block_size;
      size = read.size;
      io_size = read.io_size;
      number_ios = read.number_ios;
      io_depth = read.io_depth;
      x_window = read.x_window;
      num_jobs = read.num_jobs;
      rand_seed = read.rand_seed;
      no_random_map = read.no_random_map;
      verify = read.verify;
      verify_pattern = read.verify_pattern;
      verify_fatal = read.verify_fatal;
      verify_state_save = read.verify_state_save;
      verify_state_load = read.verify_state_load;
      filename = read.filename;
    } = refl in
    by_field
    ∙ rw (
      value_is read_write_in (λ s. s.read_write) (λ s x. refl) refl own above,
      value_is block_size_in (λ s. s.block_size) (λ s x. refl) refl own above,
      value_is size_in (λ s. s.size) (λ s x. refl) refl own above,
      value_is io_size_in (λ s. s.io_size) (λ s x. refl) refl own above,
      value_is number_ios_in (λ s. s.number_ios) (λ s x. refl) refl own above,
      value_is io_depth_in (λ s. s.io_depth) (λ s x. refl) refl own above,
      value_is x_window_in (λ s. s.x_window) (λ s x. refl) refl own above,
      value_is num_jobs_in (λ s. s.num_jobs) (λ s x. refl) refl own above,
      value_is rand_seed_in (λ s. s.rand_seed) (λ s x. refl) refl own above,
      value_is no_random_map_in (λ s. s.no_random_map) (λ s x. refl) refl own above,
      value_is verify_in (λ s. s.verify) (λ s x. refl) refl own above,
      value_is verify_pattern_in (λ s. s.verify_pattern) (λ s x. refl) refl own above,
      value_is verify_fatal_in (λ s. s.verify_fatal) (λ s x. refl) refl own above,
      value_is verify_state_save_in (λ s. s.verify_state_save) (λ s x. refl) refl own above,
      value_is verify_state_load_in (λ s. s.verify_state_load) (λ s x. refl) refl own above,
      value_is filename_in (λ s. s.filename) (λ s x. refl) refl own above,
    ) refl

-- What the lines below give with the defaults so far is what their sections give below the sections so far.
drafts_are : (above : List Section) (ls : List Line) → drafts_with (with_all none_set (global_options above)) ls ≡ drafts_below above (sections_of ls)
drafts_are above [] = refl
drafts_are above (Blank ∷ ls) = drafts_are above ls
drafts_are above (Global ∷ ls) =
    let s : Section = record { job = None; options = own_options ls } in
    let options =
    flat_map-append (λ (t : Section). defaults_in t.job t.options) above (s ∷ []) ∙ ap (λ os. global_options above ++ os) (append-nil (own_options ls)) in
    ap (λ d. drafts_with d ls) (sym (ap (with_all none_set) options ∙ fold-append with_setting none_set (global_options above) (own_options ls)))
    ∙ drafts_are (above ++ s ∷ []) ls
drafts_are above (Job n ∷ ls) =
    let s : Section = record { job = Some n; options = own_options ls } in
    let options = flat_map-append (λ (t : Section). defaults_in t.job t.options) above (s ∷ []) ∙ append-nil (global_options above) in
    let own = settings_are (own_options ls) (global_options above) in
    let first : Settings → Draft = λ d. record { name = n; settings = d } in
    ap (λ d. first d ∷ drafts_with (with_all none_set (global_options above)) ls) own
    ∙ ap (λ rest. first (settings_of (own_options ls) (global_options above)) ∷ rest)
    (ap (λ d. drafts_with (with_all none_set d) ls) (sym options) ∙ drafts_are (above ++ s ∷ []) ls)
drafts_are above (Set setting ∷ ls) = drafts_are above ls
drafts_are above (Ignored name ∷ ls) = drafts_are above ls
drafts_are above (Faulty fault ∷ ls) = drafts_are above ls

-- Reading line after line gives the jobs of the text.
pub drafts_with_none : (ls : List Line) → drafts_with none_set ls ≡ drafts_of ls
drafts_with_none ls = drafts_are [] ls
