-- What is pushed piece by piece.
use Rattle.std.proofs.Common.{◌≡◌, ℕ, List, [], ◌∷◌, ◌++◌, refl, ap, ◌∙◌, append_assoc}
use Rattle.std.specs.Int.{w32, w64}
use Rattle.fc_base.specs.Layouts.{bytes_of}
use Rattle.fc_base.specs.declared.numbers.Key.{Key}
use Rattle.fc_base.specs.declared.record.JobParts.{JobParts}
use Rattle.std.specs.Prelude.{codes}
use Rattle.verify_state.specs.State.{State, floor_in, marks_in}
use Rattle.verify_state.specs.Codes.{kind_code, verify_code}
use Rattle.verify_state.specs.Spelling.{words, key_bytes, job_bytes, spelling}

-- one piece more
pub joined : (b x y p q : List ℕ) → p ≡ b ++ x → q ≡ p ++ y → q ≡ b ++ (x ++ y)
joined b x y p q e f = f ∙ ap (λ xs. xs ++ y) e ∙ append_assoc b x y

-- the key and the settings, spelled out
pub key_bytes_are : (key : Key) → key_bytes key ≡ bytes_of w64 key.run ++ bytes_of w32 key.server ++ bytes_of w32 key.job
unfolding key_bytes bytes_of
key_bytes_are key = refl

pub job_bytes_are : (job : JobParts) → job_bytes job ≡ (kind_code job.kind ∷ verify_code job.verify ∷ job.pattern ∷ 0 ∷ []) ++ bytes_of w32 job.bs
    ++ bytes_of w32 job.blocks ++ bytes_of w64 job.total ++ bytes_of w64 job.seed ++ bytes_of w32 job.depth ++ bytes_of w32 job.window
unfolding job_bytes bytes_of
job_bytes_are job = refl

-- a state, piece by piece: the number issued, the floor and the marks by what stands for them
pub spelled_on : (s : State) (b p q r t u v x issued floor marks : List ℕ) →
    p ≡ b ++ codes "FCV2" → q ≡ p ++ key_bytes s.key → r ≡ q ++ job_bytes s.job → t ≡ r ++ issued → u ≡ t ++ words s.place → v ≡ u ++ floor → x ≡ v ++ marks →
    issued ≡ bytes_of w64 s.issued → floor ≡ bytes_of w64 (floor_in s) → marks ≡ words (marks_in s) → x ≡ b ++ spelling s
unfolding spelling bytes_of
spelled_on s b p q r t u v x issued floor marks e f g h i j k l m n =
    let one = joined u floor marks v x j k in
    let two = joined t (words s.place) _ u x i one in
    let three = joined r issued _ t x h two in
    let four = joined q (job_bytes s.job) _ r x g three in
    let five = joined p (key_bytes s.key) _ q x f four in
    let six = joined b (codes "FCV2") _ p x e five in
    six ∙ rw (l, m, n) refl
