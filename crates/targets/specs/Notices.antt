-- What is told of the writes of a job that are carried out elsewhere, and its bytes.
use Rattle.std.specs.Prelude.{◌≡◌, ◌<◌, ◌^◌, ⊤, ℕ, ◌==◌, ◌&&◌, List, [], ◌∷◌, ◌++◌, Option, Some, None, if◌then◌else◌}
use Rattle.std.specs.Int.{w64}
use Rattle.fc_base.specs.Layouts.{bytes_of}
use Rattle.targets.specs.declared.notice.Notice.{Notice}
use Rattle.targets.specs.declared.notice.Notice.TheVariants.{Done, Failed, Take}

-- The 16 bytes of a notice: 1, 2 or 3 in eight bytes, and in eight the number of the write, which
-- is 0 for a take.
abbrev pub notice_bytes : Notice → List ℕ
notice_bytes (Done k) = bytes_of w64 1 ++ bytes_of w64 k
notice_bytes (Failed k) = bytes_of w64 2 ++ bytes_of w64 k
notice_bytes Take = bytes_of w64 3 ++ bytes_of w64 0

-- The write that a notice names has a number of eight bytes.
abbrev pub NoticeFits : Notice → Type 0
NoticeFits (Done k) = k < 2 ^ 64
NoticeFits (Failed k) = k < 2 ^ 64
NoticeFits Take = ⊤

-- The bytes of notices. In a list of them the last one stands first.
abbrev pub told_bytes : List Notice → List ℕ
told_bytes [] = []
told_bytes (n ∷ ns) = told_bytes ns ++ notice_bytes n

-- The writes that notices tell as done, in the order in which they do.
abbrev pub told_done : List Notice → List ℕ
told_done [] = []
told_done (Done k ∷ ns) = told_done ns ++ k ∷ []
told_done (Failed k ∷ ns) = told_done ns
told_done (Take ∷ ns) = told_done ns

-- The writes that they tell as failed.
abbrev pub told_failed : List Notice → List ℕ
told_failed [] = []
told_failed (Done k ∷ ns) = told_failed ns
told_failed (Failed k ∷ ns) = told_failed ns ++ k ∷ []
told_failed (Take ∷ ns) = told_failed ns

-- The notice of these two numbers, if they are one's.
abbrev pub notice_of : ℕ → ℕ → Option Notice
notice_of kind write =
    if kind == 1 then Some (Done write) else if kind == 2 then Some (Failed write)
    else if (kind == 3) && (write == 0) then Some Take else None

-- The notice that 16 bytes are, or none where no notice has them.
abbrev pub IsNoticeIn : List ℕ → Option Notice → Type 0
IsNoticeIn bytes (Some n) = (bytes ≡ notice_bytes n) × NoticeFits n
IsNoticeIn bytes None = (n : Notice) → bytes ≡ notice_bytes n → ⊥
