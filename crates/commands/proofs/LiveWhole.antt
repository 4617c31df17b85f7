-- What the front of an input that was read comes to is what the whole of it comes to.
use Rattle.std.proofs.Common.{inl, inr, ℕ, ◌+◌, ◌≤◌, List, length, Option, None, Some, Result, Ok, Err, IfOk, IfErr, IfSome, subst, arith}
use Rattle.std.proofs.lemmas.Bool.{cases_lt}
use Rattle.program_io.specs.Input.{IsRead, ReadsAreFronts, ShortReadsAreWhole}
use Rattle.commands.specs.declared.live.TheConstants.{MAX_INPUT}
use Rattle.program_io.specs.declared.refusal.PrintedRefusal.{PrintedRefusal}
use Rattle.commands.specs.Live.{HasSoundTexts, IsLiveRefusal}

-- What holds of the front holds of the whole, if it does where the front is all that may be read.
whole : ShortReadsAreWhole → ReadsAreFronts → (Holds : List ℕ → Type 0) (old new : Option (List ℕ)) (bytes : List ℕ)
    → ((text : List ℕ) → MAX_INPUT + 1 ≤ length bytes → length bytes ≤ length text → Holds text)
    → IsRead (MAX_INPUT + 1) old new bytes → Holds bytes → IfSome old Holds
whole short_reads fronts Holds None new bytes long_holds read holds = tt
whole short_reads fronts Holds (Some text) new bytes long_holds read holds =
    elim (cases_lt (length bytes) (MAX_INPUT + 1)) [
      | inl short ↦ subst Holds (short_reads (MAX_INPUT + 1) text new bytes read short) holds
      | inr long ↦ long_holds text long (fronts (MAX_INPUT + 1) text new bytes read)
    ]

-- A front that is all that may be read has no ends.
no_ends : {X Y : Type 0} (answer : Result X Y) (Runs : List ℕ → X → Type 0) (bytes text : List ℕ)
    → ((x : X) → Runs bytes x → HasSoundTexts bytes)
    → IfOk answer (Runs bytes) → MAX_INPUT + 1 ≤ length bytes → IfOk answer (Runs text)
no_ends (Ok x) Runs bytes text sound runs long = absurd (omega (arith, long, (sound x runs).short))
no_ends (Err y) Runs bytes text sound runs long = tt

-- So where there are ends, they are those of the whole.
pub runs_whole : ShortReadsAreWhole → ReadsAreFronts → {X Y : Type 0} (answer : Result X Y) (Runs : List ℕ → X → Type 0) (old new : Option (List ℕ))
    (bytes : List ℕ)
    → ((x : X) → Runs bytes x → HasSoundTexts bytes)
    → IsRead (MAX_INPUT + 1) old new bytes → IfOk answer (Runs bytes) → IfSome old (λ text. IfOk answer (Runs text))
runs_whole short_reads fronts answer Runs old new bytes sound read runs =
    whole short_reads fronts (λ text. IfOk answer (Runs text)) old new bytes (λ text long below. no_ends answer Runs bytes text sound runs long) read runs

-- A refusal of a front that is too long is that of the whole.
too_long : (text bytes : List ℕ) (refusal : PrintedRefusal) → MAX_INPUT + 1 ≤ length bytes → length bytes ≤ length text → IsLiveRefusal bytes refusal
    → IsLiveRefusal text refusal
too_long text bytes refusal long below (inl unread) = inl unread
too_long text bytes refusal long below (inr (inl refused)) = inr (inl (omega (arith, long, below), refused.1))
too_long text bytes refusal long below (inr (inr short)) = absurd (omega (arith, long, short.0))

long_refused : {X : Type 0} (answer : Result X PrintedRefusal) (text bytes : List ℕ) → MAX_INPUT + 1 ≤ length bytes → length bytes ≤ length text
    → IfErr answer (IsLiveRefusal bytes) → IfErr answer (IsLiveRefusal text)
long_refused (Ok x) text bytes long below refused = tt
long_refused (Err refusal) text bytes long below refused = too_long text bytes refusal long below refused

-- So is each refusal.
pub refused_whole : ShortReadsAreWhole → ReadsAreFronts → {X : Type 0} (answer : Result X PrintedRefusal) (old new : Option (List ℕ)) (bytes : List ℕ)
    → IsRead (MAX_INPUT + 1) old new bytes → IfErr answer (IsLiveRefusal bytes) → IfSome old (λ text. IfErr answer (IsLiveRefusal text))
refused_whole short_reads fronts answer old new bytes read refused =
    whole short_reads fronts (λ text. IfErr answer (IsLiveRefusal text)) old new bytes
    (λ text long below. long_refused answer text bytes long below refused) read refused
