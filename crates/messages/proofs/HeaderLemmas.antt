-- Headers: which tests they pass where they have no fault, and how they are spelled.
use Rattle.std.proofs.Common.{◌≡◌, ℕ, ◌+◌, ◌≤◌, Bool, true, false, ◌&&◌, Some, List, [], ◌∷◌, ◌++◌, length, drop, refl, sym, ap, ◌∙◌, arith}
use Rattle.std.specs.Prelude.{◌==◌, not, nat_lt, is_none, slice_index}
use Rattle.std.proofs.lemmas.Bool.{eqb-true, and_parts}
use Rattle.std.proofs.lemmas.Bool.Decides.{nat_tests}
use Rattle.fc_base.specs.declared.fault.Fault.{Fault}
use Rattle.fc_base.specs.declared.fault.Fault.TheVariants.{FrameShort, FrameBadMagic, BadKind, FrameBadField, FrameTooLong, FrameTrailing}
use Rattle.fc_base.specs.Faults.{when}
use Rattle.messages.specs.declared.node.Node.{Node}
use Rattle.messages.specs.Nodes.{node_number, node_numbered, is_node}
use Rattle.fc_base.specs.Layouts.{spelled, numbers}
use Rattle.messages.specs.Packets.{header, header_at, has_magic, header_faults}
use Rattle.verify_state.proofs.FieldLemmas.{IsBytes}
use Rattle.messages.proofs.LayoutLemmas.{AreWide, wide8, wide32, spelled-numbers}
use Rattle.messages.proofs.ChoiceLemmas.{node_again, node_is}

pub header_wide : AreWide header
header_wide = (wide8, (wide8, (wide8, (wide8, (wide32, (wide32, (wide32, tt)))))))

-- A test that fails is no fault.

pub passes : (t : Bool) (f : Fault) → t ≡ false → when t f ≡ []
passes true f e = absurd cc
passes false f e = refl

pub passed : (t : Bool) (f : Fault) → when t f ≡ [] → t ≡ false
passed true f e = absurd cc
passed false f e = refl

pub none_left : (xs ys : List Fault) → xs ≡ [] → ys ≡ [] → xs ++ ys ≡ []
none_left xs ys ex ey = rw (ex, ey) refl

pub left_none : (xs ys : List Fault) → xs ++ ys ≡ [] → (xs ≡ []) × (ys ≡ [])
left_none [] ys e = (refl, e)
left_none (x ∷ xs) ys e = absurd cc

-- The tests of a header, by the order of their faults.
pub record Passes (is_known : ℕ → Bool) (limit : ℕ) (bytes : List ℕ) : Type 0 where
  pub long : nat_lt (length bytes) 16 ≡ false
  pub magic : not (has_magic bytes) ≡ false
  pub kind : not (is_known (header_at 3 bytes)) ≡ false
  pub from : is_none (node_numbered (header_at 4 bytes)) ≡ false
  pub to : is_none (node_numbered (header_at 5 bytes)) ≡ false
  pub within : nat_lt limit (header_at 6 bytes) ≡ false
  pub less : nat_lt (length bytes) (16 + header_at 6 bytes) ≡ false
  pub more : nat_lt (16 + header_at 6 bytes) (length bytes) ≡ false

pub clean : (is_known : ℕ → Bool) (limit : ℕ) (bytes : List ℕ) → Passes is_known limit bytes → header_faults is_known limit bytes ≡ []
clean is_known limit bytes t =
    none_left _ _ (passes (nat_lt (length bytes) 16) FrameShort t.long)
    (none_left _ _ (passes (not (has_magic bytes)) FrameBadMagic t.magic)
    (none_left _ _ (passes (not (is_known (header_at 3 bytes))) BadKind t.kind)
    (none_left _ _ (passes (is_none (node_numbered (header_at 4 bytes))) FrameBadField t.from)
    (none_left _ _ (passes (is_none (node_numbered (header_at 5 bytes))) FrameBadField t.to)
    (none_left _ _ (passes (nat_lt limit (header_at 6 bytes)) FrameTooLong t.within)
    (none_left _ _ (passes (nat_lt (length bytes) (16 + header_at 6 bytes)) FrameShort t.less)
    (passes (nat_lt (16 + header_at 6 bytes) (length bytes)) FrameTrailing t.more)))))))

pub tested : (is_known : ℕ → Bool) (limit : ℕ) (bytes : List ℕ) → header_faults is_known limit bytes ≡ [] → Passes is_known limit bytes
tested is_known limit bytes e =
    let short = left_none (when (nat_lt (length bytes) 16) FrameShort) _ e in
    let magic = left_none (when (not (has_magic bytes)) FrameBadMagic) _ short.1 in
    let kind = left_none (when (not (is_known (header_at 3 bytes))) BadKind) _ magic.1 in
    let from = left_none (when (is_none (node_numbered (header_at 4 bytes))) FrameBadField) _ kind.1 in
    let to = left_none (when (is_none (node_numbered (header_at 5 bytes))) FrameBadField) _ from.1 in
    let within = left_none (when (nat_lt limit (header_at 6 bytes)) FrameTooLong) _ to.1 in
    let less = left_none (when (nat_lt (length bytes) (16 + header_at 6 bytes)) FrameShort) _ within.1 in
    record {
      long = passed (nat_lt (length bytes) 16) FrameShort short.0;
      magic = passed (not (has_magic bytes)) FrameBadMagic magic.0;
      kind = passed (not (is_known (header_at 3 bytes))) BadKind kind.0;
      from = passed (is_none (node_numbered (header_at 4 bytes))) FrameBadField from.0;
      to = passed (is_none (node_numbered (header_at 5 bytes))) FrameBadField to.0;
      within = passed (nat_lt limit (header_at 6 bytes)) FrameTooLong within.0;
      less = passed (nat_lt (length bytes) (16 + header_at 6 bytes)) FrameShort less.0;
      more = passed (nat_lt (16 + header_at 6 bytes) (length bytes)) FrameTrailing less.1;
    }

-- The numbers of a header of this kind, with these ends and this length.
abbrev pub head_numbers : ℕ → Node → Node → ℕ → List ℕ
head_numbers kind from to len = 70 ∷ 67 ∷ 1 ∷ kind ∷ node_number from ∷ node_number to ∷ len ∷ []

-- Bytes with this header, and as many behind it as it says.
pub record Headed (bytes : List ℕ) (kind : ℕ) (from to : Node) (len : ℕ) : Type 0 where
  pub numbers : numbers header bytes ≡ head_numbers kind from to len
  pub long : length bytes ≡ 16 + len

pub headed_passes : (is_known : ℕ → Bool) (limit : ℕ) (bytes : List ℕ) (kind : ℕ) (from to : Node) (len : ℕ) → Headed bytes kind from to len
    → is_known kind ≡ true → is_node from ≡ true → is_node to ≡ true → len ≤ limit → Passes is_known limit bytes
headed_passes is_known limit bytes kind from to len told known hf ht most =
    let number = λ (i : ℕ). ap (λ (ns : List ℕ). slice_index ns i) told.numbers in
    let size_is : header_at 6 bytes ≡ len = number 6 in
    let all = told.long in
    record {
      long = grind (arith, nat_tests);
      magic = rw (number 0, number 1, number 2) refl;
      kind = ap (λ (n : ℕ). not (is_known n)) (number 3) ∙ ap not known;
      from = ap (λ (n : ℕ). is_none (node_numbered n)) (number 4) ∙ ap is_none (node_again from hf);
      to = ap (λ (n : ℕ). is_none (node_numbered n)) (number 5) ∙ ap is_none (node_again to ht);
      within = grind (arith, nat_tests);
      less = grind (arith, nat_tests);
      more = grind (arith, nat_tests);
    }

not_false : (t : Bool) → not t ≡ false → t ≡ true
not_false true e = refl
not_false false e = absurd cc

at_least : (a b : ℕ) → nat_lt a b ≡ false → b ≤ a
at_least a b h = grind (arith, nat_tests)

seven : (a b c d e f g a' b' c' d' e' f' g' : ℕ) → a ≡ a' → b ≡ b' → c ≡ c' → d ≡ d' → e ≡ e' → f ≡ f' → g ≡ g'
    → (a ∷ b ∷ c ∷ d ∷ e ∷ f ∷ g ∷ []) ≡ (a' ∷ b' ∷ c' ∷ d' ∷ e' ∷ f' ∷ g' ∷ [])
seven a b c d e f g a' b' c' d' e' f' g' p q r s t u v = rw (p, q, r, s, t, u, v) refl

-- What passes the tests has such a header.
pub passed_headed : (is_known : ℕ → Bool) (limit : ℕ) (bytes : List ℕ) → Passes is_known limit bytes → (from to : Node)
    → node_numbered (header_at 4 bytes) ≡ Some from → node_numbered (header_at 5 bytes) ≡ Some to
    → Headed bytes (header_at 3 bytes) from to (header_at 6 bytes)
passed_headed is_known limit bytes t from to from_is to_is =
    let magic = and_parts ((header_at 0 bytes == 70) && (header_at 1 bytes == 67)) (header_at 2 bytes == 1) (not_false (has_magic bytes) t.magic) in
    let letters = and_parts (header_at 0 bytes == 70) (header_at 1 bytes == 67) magic.0 in
    let enough = at_least (length bytes) (16 + header_at 6 bytes) t.less in
    let at_most = at_least (16 + header_at 6 bytes) (length bytes) t.more in
    record {
      numbers =
          seven (header_at 0 bytes) (header_at 1 bytes) (header_at 2 bytes) (header_at 3 bytes) (header_at 4 bytes) (header_at 5 bytes)
          (header_at 6 bytes) 70 67 1 (header_at 3 bytes) (node_number from) (node_number to) (header_at 6 bytes)
          (eqb-true (header_at 0 bytes) 70 letters.0) (eqb-true (header_at 1 bytes) 67 letters.1) (eqb-true (header_at 2 bytes) 1 magic.1) refl
          (sym (node_is (header_at 4 bytes) from from_is)) (sym (node_is (header_at 5 bytes) to to_is)) refl;
      long = omega (arith, enough, at_most);
    }

-- Such bytes are that header, and what stands behind it.
pub headed_spelled : (bytes : List ℕ) (kind : ℕ) (from to : Node) (len : ℕ) → IsBytes bytes → Headed bytes kind from to len
    → spelled header (head_numbers kind from to len) ++ drop 16 bytes ≡ bytes
headed_spelled bytes kind from to len fits told =
    let all = told.long in
    ap (λ (ns : List ℕ). spelled header ns ++ drop 16 bytes) (sym told.numbers) ∙ spelled-numbers header bytes header_wide fits (omega (arith, all))
