-- What is read of known bytes.
use Rattle.std.proofs.Common.{◌≡◌, ℕ, ◌<◌, ◌≤◌, List, ◌++◌, length, Option, None, Some, sym, ap, ◌∙◌, arith, append-nil, length-append}
use Rattle.program_io.specs.Input.{IsRead}

-- Fewer bytes than the bound are all bytes.
pub all_read : (bound : ℕ) (text : List ℕ) (new : Option (List ℕ)) (bytes : List ℕ) → IsRead bound (Some text) new bytes → length bytes < bound → bytes ≡ text
all_read bound text None bytes read short = absurd read.taken
all_read bound text (Some rest) bytes read short =
    sym (append-nil bytes) ∙ (ap (λ l. bytes ++ l) (sym (read.whole short)) ∙ sym read.taken)

-- The bytes are no more than there are.
pub no_more : (bound : ℕ) (text : List ℕ) (new : Option (List ℕ)) (bytes : List ℕ) → IsRead bound (Some text) new bytes → length bytes ≤ length text
no_more bound text None bytes read = absurd read.taken
no_more bound text (Some rest) bytes read = omega (arith, length-append bytes rest, ap length read.taken)
