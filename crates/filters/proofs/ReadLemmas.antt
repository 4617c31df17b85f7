-- The head of a record.
use Rattle.std.proofs.Common.{◌≡◌, ◌<◌, ℕ, suc, List, [], ◌∷◌, length, get_or, take, drop, sym, ap, ◌∙◌, arith}
use Rattle.std.specs.Int.{w8, w64, from_be_bytes, to_be_bytes}
use Rattle.std.proofs.lemmas.Nat.{be_bytes_8}
use Rattle.std.proofs.lemmas.List.{take_all}
use Rattle.fc_base.specs.Layouts.{bytes_of, number_in}
use Rattle.filters.specs.Records.{head_bytes}

-- Nine bytes are those of the head that they say.
pub head_is : (bytes rest : List ℕ) (kind len : ℕ) → ((i : ℕ) → get_or bytes i 0 < 256) → length bytes ≡ 9 → rest ≡ drop 1 bytes
    → kind ≡ number_in w8 bytes → len ≡ number_in w64 rest → bytes ≡ head_bytes kind len
unfolding number_in bytes_of
head_is [] rest kind len h is rest_is k l = absurd (omega (arith, is))
head_is (b ∷ bs) rest kind len h is rest_is k l =
    let eight : length bs ≡ 8 = omega (arith, is) in
    let all : take 8 rest ≡ bs = ap (take 8) rest_is ∙ take_all 8 bs (omega (arith, eight)) in
    let more : to_be_bytes w64 len ≡ bs = be_bytes_8 bs len eight (λ i. h (suc i)) (l ∙ ap (from_be_bytes w64) all) in
    sym (ap (λ x. x ∷ to_be_bytes w64 len) k ∙ ap (λ xs. b ∷ xs) more)
