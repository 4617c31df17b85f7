-- The line of a block at rest, part by part.
use Rattle.std.proofs.Common.{ℕ, List, ◌++◌, Option, append_assoc, ap, subst, codes}
use Rattle.std.specs.Io.KnownBytes.{Appends}
use Rattle.std.proofs.KnownBytes.{Appends-trans}

pub rest_written : (t₀ t₁ t₂ t₃ t₄ : Option (List ℕ)) (number middle wanted held : List ℕ) → Appends t₀ t₁ (codes "block " ++ (number ++ middle))
    → Appends t₁ t₂ wanted → Appends t₂ t₃ held → Appends t₃ t₄ (codes "\n")
    → Appends t₀ t₄ (codes "block " ++ (number ++ (middle ++ (wanted ++ (held ++ codes "\n")))))
rest_written t₀ t₁ t₂ t₃ t₄ number middle wanted held first second third fourth =
    let rest : List ℕ = wanted ++ (held ++ codes "\n") in
    subst (Appends t₀ t₄) (ap (λ l. codes "block " ++ l) (append_assoc number middle rest))
    (Appends-trans t₀ t₁ t₄ (codes "block " ++ (number ++ middle)) rest first
    (Appends-trans t₁ t₂ t₄ wanted (held ++ codes "\n") second (Appends-trans t₂ t₃ t₄ held (codes "\n") third fourth)))
