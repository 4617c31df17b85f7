-- The sections of a job file, and which options hold for a job.
use Rattle.std.specs.Prelude.{ℕ, List, [], ◌∷◌, ◌++◌, Option, Some, None}
use Rattle.std.specs.List.{flat_map}
use Rattle.job_file.specs.declared.line.Line.{Line}
use Rattle.job_file.specs.declared.line.Line.TheVariants.{Blank, Global, Job, Set, Ignored, Faulty}
use Rattle.job_file.specs.declared.option.Setting.{Setting}
use Rattle.job_file.specs.declared.draft.Draft.{Draft}
use Rattle.job_file.specs.Settings.{settings_of}

-- A section: the name of its job, or none where it is global, and the options in it.
pub record Section : Type 0 where
  pub job : Option (List ℕ)
  pub options : List Setting

-- The options of the lines up to the next section.
abbrev pub own_options : List Line → List Setting
own_options [] = []
own_options (Blank ∷ below) = own_options below
own_options (Global ∷ below) = []
own_options (Job name ∷ below) = []
own_options (Set setting ∷ below) = setting ∷ own_options below
own_options (Ignored name ∷ below) = own_options below
own_options (Faulty fault ∷ below) = own_options below

-- The sections of the lines, in their order.
abbrev pub sections_of : List Line → List Section
sections_of [] = []
sections_of (Blank ∷ below) = sections_of below
sections_of (Global ∷ below) =
    record { job = None; options = own_options below } ∷ sections_of below
sections_of (Job name ∷ below) =
    record { job = Some name; options = own_options below } ∷ sections_of below
sections_of (Set setting ∷ below) = sections_of below
sections_of (Ignored name ∷ below) = sections_of below
sections_of (Faulty fault ∷ below) = sections_of below

-- A global section has no job, and sets defaults.
abbrev pub defaults_in : Option (List ℕ) → List Setting → List Setting
defaults_in None options = options
defaults_in (Some name) options = []

-- The options of all the global sections among these.
abbrev pub global_options : List Section → List Setting
global_options sections = flat_map (λ s. defaults_in s.job s.options) sections

-- The jobs of these sections, with the sections that stand above them.
abbrev pub drafts_below : List Section → List Section → List Draft
drafts_below above [] = []
drafts_below above (s ∷ below) = drafts_in s.job s.options ++ drafts_below (above ++ s ∷ []) below
  where
    drafts_in : Option (List ℕ) → List Setting → List Draft
    drafts_in None options = []
    drafts_in (Some job_name) options =
        record { name = job_name; settings = settings_of options (global_options above) } ∷ []

-- The jobs of the lines.
abbrev pub drafts_of : List Line → List Draft
drafts_of lines = drafts_below [] (sections_of lines)
