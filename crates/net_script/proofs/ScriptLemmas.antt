-- A script's run from its first order on, and the script that was read.
use Rattle.std.proofs.Common.{◌≡◌, inl, inr, ◌≤◌, ◌<◌, ℕ, true, false, cond, List, [], ◌∷◌, ◌++◌, length, Option, Some, None, IfSome}
use Rattle.std.proofs.Common.{Result, Ok, Err, OnOk, IfOk, codes, append-nil, length-append, refl, sym, ◌∙◌, ap, subst, arith}
use Rattle.std.specs.List.{flat_map}
use Rattle.std.specs.Io.KnownBytes.{Appends, Keeps}
use Rattle.std.proofs.KnownBytes.{Appends-trans, Appends-kept}
use Rattle.std.proofs.lemmas.Bool.{cases_lt}
use Rattle.std.proofs.lemmas.Bool.Decides.{nat_tests}
use Rattle.fc_base.specs.declared.fault.Fault.TheVariants.{NoMemory}
use Rattle.program_io.specs.Input.{IsRead}
use Rattle.net_world.specs.Setup.{Setup}
use Rattle.program_io.specs.Words.{with_line_feed}
use Rattle.net_script.specs.Orders.{Order, Opens, orders_of}
use Rattle.net_script.specs.Printed.{refusal_line}
use Rattle.net_script.specs.Script.{are_commands, lines_in, lines_of_orders, status_in, status_of_orders, reads_well, is_too_long, text_of, status_of}
use Rattle.net_script.specs.Runs.{RunOrders, HasRun}

-- The world is made, and the orders behind have run in it.
pub opened : (line : ℕ) (setup : Setup) (orders : List Order) (old mid new : Option (List ℕ)) (status : ℕ) → Appends old mid (codes "ok\n")
    → RunOrders (lines_in setup []) are_commands (status_in setup []) orders mid new status
    → RunOrders lines_of_orders reads_well status_of_orders (Opens line setup ∷ orders) old new status
opened line setup orders old mid new status ok (inl ran) = inl (Appends-trans old mid new _ _ ok ran.0, ran.1)
opened line setup orders old mid new status ok (inr soon) = inr (record {
  before = Opens line setup ∷ soon.before;
  lacking = soon.lacking;
  rest = soon.rest;
  split = ap (λ os. Opens line setup ∷ os) soon.split;
  lacks = soon.lacks;
  finishes = (Appends-trans old mid new _ _ ok soon.finishes.0, soon.finishes.1);
})

-- No memory for the world.
pub no_world : (line : ℕ) (setup : Setup) (orders : List Order) (old new : Option (List ℕ)) → Appends old new (with_line_feed (refusal_line NoMemory))
    → RunOrders lines_of_orders reads_well status_of_orders (Opens line setup ∷ orders) old new 2
no_world line setup orders old new wrote = inr (record {
  before = [];
  lacking = Opens line setup;
  rest = orders;
  split = refl;
  lacks = refl;
  finishes = (wrote, refl);
})

-- Fewer bytes than are asked for are the whole script.
whole : (script : List ℕ) (new : Option (List ℕ)) (bytes : List ℕ) → IsRead 1048577 (Some script) new bytes → length bytes ≤ 1048576 → bytes ≡ script
whole script None bytes read short = absurd read.taken
whole script (Some rest) bytes read short =
    sym (append-nil bytes) ∙ (ap (λ l. bytes ++ l) (sym (read.whole (omega (arith, short)))) ∙ sym read.taken)

no_more : (script : List ℕ) (new : Option (List ℕ)) (bytes : List ℕ) → IsRead 1048577 (Some script) new bytes → length bytes ≤ length script
no_more script None bytes read = absurd read.taken
no_more script (Some rest) bytes read = omega (arith, length-append bytes rest, ap length read.taken)

not_long : (script : List ℕ) → length script ≤ 1048576 → is_too_long script ≡ false
not_long script short = grind (arith, nat_tests)

is_long : (script : List ℕ) → 1048576 < length script → is_too_long script ≡ true
is_long script long = grind (arith, nat_tests)

text_of_long : (script : List ℕ) → 1048576 < length script → text_of script ≡ codes "too long\n"
text_of_long script long = ap (λ b. cond b (codes "too long\n") (flat_map with_line_feed (lines_of_orders (orders_of script)))) (is_long script long)

status_of_long : (script : List ℕ) → 1048576 < length script → status_of script ≡ 2
status_of_long script long = ap (λ b. cond b 2 (status_of_orders (orders_of script))) (is_long script long)

long_answered : (bytes script : List ℕ) (old new : Option (List ℕ)) (status : ℕ) → 1048576 < length bytes → 1048576 < length script
    → HasRun bytes old new status → HasRun script old new status
long_answered bytes script old new status long longer (inl ran) =
    inl (
      subst (Appends old new) (text_of_long bytes long ∙ sym (text_of_long script longer)) ran.0,
      ran.1 ∙ status_of_long bytes long ∙ sym (status_of_long script longer),
    )
long_answered bytes script old new status long longer (inr soon) = let never : false ≡ true = sym soon.0 ∙ is_long bytes long in absurd cc

kept_run : (script : List ℕ) (old mid new : Option (List ℕ)) (status : ℕ) → HasRun script old mid status → Keeps mid new → HasRun script old new status
kept_run script old mid new status (inl ran) kept = inl (Appends-kept old mid new _ ran.0 kept, ran.1)
kept_run script old mid new status (inr soon) kept = inr (
  soon.0,
  record {
    before = soon.1.before;
    lacking = soon.1.lacking;
    rest = soon.1.rest;
    split = soon.1.split;
    lacks = soon.1.lacks;
    finishes = (Appends-kept old mid new _ soon.1.finishes.0 kept, soon.1.finishes.1);
  },
)

-- What was read is answered, and so is the script.
pub script_run : (known left : Option (List ℕ)) (bytes : List ℕ) (old mid new : Option (List ℕ)) (status : ℕ) → IsRead 1048577 known left bytes
    → HasRun bytes old mid status → Keeps mid new → IfSome known (λ script. HasRun script old new status)
script_run None left bytes old mid new status read ran kept = tt
script_run (Some script) left bytes old mid new status read ran kept =
    kept_run script old mid new status (elim (cases_lt 1048576 (length bytes)) [
      | inl long ↦ long_answered bytes script old mid status long (omega (arith, long, no_more script left bytes read)) ran
      | inr short ↦ subst (λ l. HasRun l old mid status) (whole script left bytes read (omega (arith, short))) ran
    ]) kept

-- What holds of an answer.
pub if_ok : {T E : Type 0} (G H : T → Type 0) (r : Result T E) → ((x : T) → G x → H x) → IfOk r G → IfOk r H
if_ok G H (Ok x) f g = f x g
if_ok G H (Err e) f g = tt

-- So it is where the answer is this one.
pub if_ok_is : {T E P : Type 0} (H : T → Type 0) (r : Result T E) (x : T) → (P → H x) → OnOk r P → IfOk r (λ y. y ≡ x) → IfOk r H
if_ok_is H (Ok y) x f p is = subst H (sym is) (f p)
if_ok_is H (Err e) x f p is = tt
