-- Bits of a mask that is shifted.
use Rattle.std.proofs.Common.{◌≡◌, ℕ, ◌+◌, ◌/◌, ◌%◌, ◌^◌, sym, ◌∙◌, ap}
use Rattle.std.specs.Int.{bit_at}
use Rattle.std.proofs.lemmas.Nat.{pow-add}
use Rattle.std.proofs.Math.Nat.{div-div-eq-div-mul}

pub bit_at-shifted : (n k i : ℕ) → bit_at (n / 2 ^ k) i ≡ bit_at n (k + i)
bit_at-shifted n k i =
    ap (λ q. q % 2) (div-div-eq-div-mul n (2 ^ k) (2 ^ i) ∙ ap (λ d. n / d) (sym (pow-add 2 k i)))
