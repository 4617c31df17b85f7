-- The words behind one more input are read from the words before it.
use Rattle.std.specs.Prelude.{◌≡◌, true, List, ◌∷◌, Some, None}
use Rattle.disk_model.specs.declared.save_outcome.SaveOutcome.TheVariants.{NoSave, Saved}
use Rattle.server_core.specs.Inputs.{PacketInput}
use Rattle.server_core.specs.History.{Opening, Entry, Met}
use Rattle.server_core.specs.Request.{request_of}
use Rattle.server_core.specs.Words.{Staged, is_on, due}
use Rattle.server_core.specs.Answers.{now}
use Rattle.server_core.specs.WordsAfter.{words_after, begun_by}

-- The words behind an input that records no run are read from the words before it.
abbrev pub WordsFollow : Type 0
WordsFollow =
    (opening : Opening) (past : List Entry) (e : PacketInput) →
    is_on past ≡ true → due opening past e ≡ None
    → now opening (Met e NoSave ∷ past) ≡ words_after (now opening past) (request_of opening.me e)

-- The words behind a Start whose run was saved are read from the words before it.
abbrev pub StartsFollow : Type 0
StartsFollow =
    (opening : Opening) (past : List Entry) (e : PacketInput) (s : Staged) →
    due opening past e ≡ Some s → now opening (Met e Saved ∷ past) ≡ begun_by (now opening past) s
