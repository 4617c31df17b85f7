-- The bytes behind the magic, cut in two, are the two numbers of a note.
use Rattle.std.proofs.Common.{◌≡◌, sym, ◌∙◌, ap, subst, inl, ℕ, ◌^◌, ◌<◌, arith, true, List, ◌++◌, length, take, drop}
use Rattle.std.specs.Prelude.{bytes_eq, codes}
use Rattle.std.specs.Int.{w64, to_be_bytes, from_be_bytes}
use Rattle.std.proofs.lemmas.List.{take-append-drop, length-take, length-drop, take_all}
use Rattle.std.proofs.lemmas.Nat.{be_bytes_8}
use Rattle.std.proofs.lemmas.Slice.Eq.{bytes_eq-Decides}
use Rattle.fc_base.specs.Layouts.{number_in}
use Rattle.verify_state.proofs.FieldLemmas.{IsBytes, bytes_drop, bytes_take}
use Rattle.server_core.specs.Note.{Says}

below : (bytes : List ℕ) → IsBytes bytes → number_in w64 bytes < 2 ^ 64
unfolding number_in
below bytes h =
    let eight = bytes_take 8 bytes h in
    omega (arith, eight 0, eight 1, eight 2, eight 3, eight 4, eight 5, eight 6, eight 7)

pub note_said : (bytes numbers : List ℕ) (x y : ℕ) → IsBytes bytes → bytes_eq (take 4 bytes) (codes "FCN1") ≡ true → numbers ≡ drop 4 bytes
    → length numbers ≡ 16 → x ≡ number_in w64 numbers → y ≡ number_in w64 (drop 8 numbers) → Says bytes (record { boot = x; last_run = y })
unfolding number_in
note_said bytes numbers x y h e n len f g =
    let magic : take 4 bytes ≡ codes "FCN1" = (bytes_eq-Decides (take 4 bytes) (codes "FCN1")).0 e in
    let fits : IsBytes numbers = subst IsBytes (sym n) (bytes_drop 4 bytes h) in
    let a : length (take 8 numbers) ≡ 8 = omega (arith, length-take 8 numbers, len) in
    let b : length (drop 8 numbers) ≡ 8 = omega (arith, length-drop 8 numbers, len) in
    let all : take 8 (drop 8 numbers) ≡ drop 8 numbers = take_all 8 (drop 8 numbers) (omega (arith, b)) in
    let first : to_be_bytes w64 x ≡ take 8 numbers = be_bytes_8 (take 8 numbers) x a (bytes_take 8 numbers fits) f in
    let last : to_be_bytes w64 y ≡ drop 8 numbers = be_bytes_8 (drop 8 numbers) y b (bytes_drop 8 numbers fits) (g ∙ ap (from_be_bytes w64) all) in
    let back : to_be_bytes w64 x ++ to_be_bytes w64 y ≡ drop 4 bytes =
    ap (λ l. l ++ to_be_bytes w64 y) first ∙ ap (λ l. take 8 numbers ++ l) last ∙ take-append-drop 8 numbers ∙ n in
    record {
      boot_range = subst (λ m. m < 2 ^ 64) (sym f) (below numbers fits);
      last_range = subst (λ m. m < 2 ^ 64) (sym g) (below (drop 8 numbers) (bytes_drop 8 numbers fits));
      spelled = inl (sym (ap (λ l. codes "FCN1" ++ l) back ∙ ap (λ l. l ++ drop 4 bytes) (sym magic) ∙ take-append-drop 4 bytes));
    }
