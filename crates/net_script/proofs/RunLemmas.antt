-- A run of a script's commands, as far as it has come.
use Rattle.std.proofs.Common.{◌≡◌, inr, ℕ, Bool, true, false, ◌||◌, List, [], ◌∷◌, ◌++◌, Option, append_assoc, append-nil, refl, sym, ◌∙◌, ap, subst}
use Rattle.std.specs.List.{flat_map}
use Rattle.std.specs.Io.KnownBytes.{Appends}
use Rattle.std.proofs.KnownBytes.{Appends-nil, Appends-trans}
use Rattle.std.proofs.lemmas.Grind.{flat_map-append}
use Rattle.fc_base.specs.declared.fault.Fault.TheVariants.{NoMemory}
use Rattle.net_world.specs.Setup.{Setup}
use Rattle.net_world.specs.declared.world.World.{World}
use Rattle.net_world.specs.Happenings.{Happening}
use Rattle.net_world.specs.Stands.{StandsFor}
use Rattle.net_world.specs.World.{world}
use Rattle.net_script.specs.declared.command.Command.{Command}
use Rattle.net_script.specs.declared.running.commands.Ran.TheVariants.{Answered}
use Rattle.net_script.specs.Commands.{happens}
use Rattle.program_io.specs.Words.{with_line_feed}
use Rattle.net_script.specs.Orders.{Order, Asks}
use Rattle.net_script.specs.Printed.{lines_at, refusal_line}
use Rattle.net_script.specs.Script.{lines_in, are_commands, some_faults, finds_fault, status_in}
use Rattle.net_script.specs.Runs.{RunOrders}
use Rattle.net_script.specs.Running.{HasCome}

-- The front of all orders has run in a world behind these happenings: what is written are its lines, and
-- whatever may still come is answered behind it.
pub record RunSoFar (setup : Setup) (before : List Happening) (all left : List Order) (w : World) (old now : Option (List ℕ)) (faults : Bool) : Type 0 where
  pub asked : List Order
  pub behind : List Happening
  pub stands : StandsFor setup (world setup behind) w
  pub split : all ≡ asked ++ left
  pub lines : (more : List Order) → lines_in setup before (asked ++ more) ≡ lines_in setup before asked ++ lines_in setup behind more
  pub commands : (more : List Order) → are_commands (asked ++ more) ≡ are_commands more
  pub found : (more : List Order) → some_faults setup before (asked ++ more) ≡ (faults || some_faults setup behind more)
  pub written : Appends old now (flat_map with_line_feed (lines_in setup before asked))

pub none_run : (setup : Setup) (before : List Happening) (all : List Order) (w : World) (old : Option (List ℕ)) → StandsFor setup (world setup before) w
    → RunSoFar setup before all all w old old false
none_run setup before all w old stands = record {
  asked = [];
  behind = before;
  stands = stands;
  split = refl;
  lines = λ more. refl;
  commands = λ more. refl;
  found = λ more. refl;
  written = Appends-nil old;
}

or_assoc : (a b c : Bool) → (a || (b || c)) ≡ ((a || b) || c)
or_assoc true b c = refl
or_assoc false b c = refl

-- A command has run.
pub command_run : (setup : Setup) (before : List Happening) (all left : List Order) (w new : World) (old mid now : Option (List ℕ)) (faults more_faults : Bool)
    (line : ℕ) (command : Command) (text : List ℕ) (rest : List Order)
    → (s : RunSoFar setup before all left w old mid faults) → left ≡ Asks line command text ∷ rest
    → HasCome setup s.behind (happens command text) new mid now (Answered more_faults)
    → RunSoFar setup before all rest new old now (faults || more_faults)
command_run setup before all left w new old mid now faults more_faults line command text rest s next come = record {
  asked = s.asked ++ o ∷ [];
  behind = e ∷ s.behind;
  stands = come.1;
  split = s.split ∙ ap (λ l. s.asked ++ l) next ∙ sym (append_assoc s.asked (o ∷ []) rest);
  lines = λ more. ap (lines_in setup before) (append_assoc s.asked (o ∷ []) more) ∙ s.lines (o ∷ more)
      ∙ sym (append_assoc (lines_in setup before s.asked) (lines_at setup (world setup s.behind) e) (lines_in setup (e ∷ s.behind) more))
      ∙ ap (λ l. l ++ lines_in setup (e ∷ s.behind) more) (sym asked_lines);
  commands = λ more. ap are_commands (append_assoc s.asked (o ∷ []) more) ∙ s.commands (o ∷ more);
  found = λ more. ap (some_faults setup before) (append_assoc s.asked (o ∷ []) more) ∙ s.found (o ∷ more)
      ∙ or_assoc faults (finds_fault setup s.behind e) (some_faults setup (e ∷ s.behind) more)
      ∙ ap (λ b. (faults || b) || some_faults setup (e ∷ s.behind) more) (sym come.2);
  written = subst (Appends old now)
      (sym (flat_map-append with_line_feed (lines_in setup before s.asked) (lines_at setup (world setup s.behind) e))
      ∙ ap (flat_map with_line_feed) (sym asked_lines))
      (Appends-trans old mid now _ _ s.written come.0);
}
  where
    o : Order
    o = Asks line command text

    e : Happening
    e = happens command text

    asked_lines : lines_in setup before (s.asked ++ o ∷ []) ≡ lines_in setup before s.asked ++ lines_at setup (world setup s.behind) e
    asked_lines = s.lines (o ∷ []) ∙ ap (λ l. lines_in setup before s.asked ++ l) (append-nil (lines_at setup (world setup s.behind) e))

-- Memory ran out at a command.
pub lacks : (setup : Setup) (before : List Happening) (all left : List Order) (w : World) (old mid now : Option (List ℕ)) (faults : Bool) (status line : ℕ)
    (command : Command) (text : List ℕ) (rest : List Order)
    → (s : RunSoFar setup before all left w old mid faults) → left ≡ Asks line command text ∷ rest → Appends mid now (with_line_feed (refusal_line NoMemory))
    → status ≡ 2
    → RunOrders (lines_in setup before) are_commands (status_in setup before) all old now status
lacks setup before all left w old mid now faults status line command text rest s next wrote ends = inr (record {
  before = s.asked;
  lacking = Asks line command text;
  rest = rest;
  split = s.split ∙ ap (λ l. s.asked ++ l) next;
  lacks = s.commands (Asks line command text ∷ []);
  finishes = (Appends-trans old mid now _ _ s.written wrote, ends);
})
