-- The numbers of the kinds of records.
use Rattle.std.specs.Prelude.{ℕ, ◌==◌, [], ◌∷◌, Option, find}
use Rattle.filters.specs.declared.kinds.InRecordKind.{InRecordKind}
use Rattle.filters.specs.declared.kinds.InRecordKind.TheVariants as told
use Rattle.filters.specs.declared.kinds.OutRecordKind.{OutRecordKind}
use Rattle.filters.specs.declared.kinds.OutRecordKind.TheVariants as said

-- The number of a kind that is read.
abbrev pub told_number : InRecordKind → ℕ
told_number told.Note = 1
told_number told.Frame = 2
told_number told.Done = 3
told_number told.Failed = 4
told_number told.Blocks = 5
told_number told.Unread = 6
told_number told.Begin = 7
told_number told.Trigger = 8
told_number told.Stop = 9
told_number told.Verify = 10
told_number told.Tick = 11
told_number told.Look = 12
told_number told.Show = 13
told_number told.Ends = 14

-- The kind that is read with this number.
unfoldable pub told_numbered : ℕ → Option InRecordKind
told_numbered n = find (λ kind. told_number kind == n)
    (told.Note ∷ told.Frame ∷ told.Done ∷ told.Failed ∷ told.Blocks ∷ told.Unread ∷ told.Begin
    ∷ told.Trigger ∷ told.Stop ∷ told.Verify ∷ told.Tick ∷ told.Look ∷ told.Show
    ∷ told.Ends ∷ [])

-- The number of a kind that is written.
abbrev pub said_number : OutRecordKind → ℕ
said_number said.Save = 65
said_number said.Send = 66
said_number said.Order = 67
said_number said.Want = 68
said_number said.Cut = 69
said_number said.Number = 70
said_number said.Outcome = 71
said_number said.Report = 72
said_number said.End = 73
said_number said.PlaceEnd = 74
said_number said.AttemptEnd = 75
