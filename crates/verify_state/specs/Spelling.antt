-- The bytes of a verify state, layout 2.
use Rattle.std.specs.Prelude.{ℕ, List, [], ◌∷◌, ◌++◌, codes}
use Rattle.std.specs.List.{flat_map}
use Rattle.std.specs.Int.{w32, w64}
use Rattle.fc_base.specs.Layouts.{bytes_of}
use Rattle.fc_base.specs.declared.numbers.Key.{Key}
use Rattle.fc_base.specs.declared.record.JobParts.{JobParts}
use Rattle.verify_state.specs.Codes.{kind_code, verify_code}
use Rattle.verify_state.specs.State.{State, floor_in, marks_in}

-- Numbers of eight bytes, one behind the other.
abbrev pub words : List ℕ → List ℕ
words ns = flat_map (bytes_of w64) ns

-- The bytes of a key, which say whose a state is.
unfoldable pub key_bytes : Key → List ℕ
key_bytes key = bytes_of w64 key.run ++ bytes_of w32 key.server ++ bytes_of w32 key.job

-- The bytes of the settings of a state's job.
unfoldable pub job_bytes : JobParts → List ℕ
job_bytes job =
    (kind_code job.kind ∷ verify_code job.verify ∷ job.pattern ∷ 0 ∷ []) ++ bytes_of w32 job.bs
    ++ bytes_of w32 job.blocks ++ bytes_of w64 job.total ++ bytes_of w64 job.seed
    ++ bytes_of w32 job.depth ++ bytes_of w32 job.window

-- The magic, the key, the settings, the number issued, the place, the floor, and the marks.
unfoldable pub spelling : State → List ℕ
spelling s =
    codes "FCV2" ++ (key_bytes s.key ++ (job_bytes s.job ++ (bytes_of w64 s.issued
    ++ (words s.place ++ (bytes_of w64 (floor_in s) ++ words (marks_in s))))))
