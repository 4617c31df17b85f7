-- What the reader carries from line to line, and what a text comes to by it. No public contract
-- cites this.
use Rattle.std.specs.Prelude.{Bool, true, false, List, [], ◌∷◌, ◌++◌}
use Rattle.std.specs.List.{fold}
use Rattle.job_file.specs.declared.line.Line.{Line}
use Rattle.job_file.specs.declared.line.Line.TheVariants.{Blank, Global, Job, Set, Ignored, Faulty}
use Rattle.job_file.specs.declared.option.Setting.{Setting}
use Rattle.job_file.specs.declared.settings.Settings.{Settings}
use Rattle.job_file.specs.declared.draft.Draft.{Draft}
use Rattle.job_file.specs.declared.reader.Scope.{Scope}
use Rattle.job_file.specs.declared.reader.Scope.TheVariants as scope
use Rattle.job_file.specs.declared.reader.Reader.{Reader}
use Rattle.job_file.specs.Section.{own_options}
use Rattle.job_file.specs.Settings.{with_setting}

-- A section has been opened.
abbrev pub is_inside : Scope → Bool
is_inside scope.Outside = false
is_inside scope.Global = true
is_inside (scope.Job draft) = true

-- The job whose section is open, if it is one.
abbrev pub draft_in : Scope → List Draft
draft_in scope.Outside = []
draft_in scope.Global = []
draft_in (scope.Job draft) = draft ∷ []

-- The options after more lines.
abbrev pub with_all : Settings → List Setting → Settings
with_all old settings = fold with_setting old settings

-- The jobs of lines, with the defaults that come from above them.
abbrev pub drafts_with : Settings → List Line → List Draft
drafts_with defaults [] = []
drafts_with defaults (Blank ∷ below) = drafts_with defaults below
drafts_with defaults (Global ∷ below) = drafts_with (with_all defaults (own_options below)) below
drafts_with defaults (Job job_name ∷ below) =
    (record { name = job_name; settings = with_all defaults (own_options below) })
    ∷ drafts_with defaults below
drafts_with defaults (Set setting ∷ below) = drafts_with defaults below
drafts_with defaults (Ignored name ∷ below) = drafts_with defaults below
drafts_with defaults (Faulty fault ∷ below) = drafts_with defaults below

-- The jobs of a text, where these lines come behind those that were read.
abbrev pub drafts_after : Scope → Settings → List Draft → List Line → List Draft
drafts_after scope.Outside defaults drafts below = drafts ++ drafts_with defaults below
drafts_after scope.Global defaults drafts below =
    drafts ++ drafts_with (with_all defaults (own_options below)) below
drafts_after (scope.Job draft) defaults drafts below =
    drafts ++ (record draft { settings = with_all draft.settings (own_options below) }
    ∷ drafts_with defaults below)

-- The jobs of a text, where these lines come behind all that the reader keeps.
abbrev pub drafts_coming : Reader → List Line → List Draft
drafts_coming reader below = drafts_after reader.scope reader.defaults reader.drafts.items below
