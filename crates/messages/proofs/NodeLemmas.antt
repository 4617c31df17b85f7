-- Nodes and their numbers.
use Rattle.std.proofs.Common.{◌≡◌, refl, ap, ℕ, ◌<◌, ◌≢◌, Bool, true, false, arith, IsTrue, Some, None}
use Rattle.std.specs.Prelude.{if◌then◌else◌}
use Rattle.std.proofs.lemmas.Bool.Decides.{nat_tests}
use Rattle.fc_base.specs.declared.limits.TheConstants.{MAX_SERVERS}
use Rattle.messages.specs.declared.limits.TheConstants.{MAX_NODES}
use Rattle.messages.specs.declared.node.Node.{Node}
use Rattle.messages.specs.declared.node.Node.TheVariants.{Server, Client, Mirror}
use Rattle.messages.specs.Nodes.{node_number, is_node}
use Rattle.messages.specs.Waiting.{is_same_node}

pub number_below : (node : Node) → IsTrue (is_node node) → node_number node < MAX_NODES
number_below (Server s) h = let lt : s < MAX_SERVERS = grind (arith, nat_tests) in omega arith
number_below Client h = omega arith
number_below Mirror h = omega arith

pub same_node : (a b : Node) → is_same_node a b ≡ true → a ≡ b
same_node (Server s) (Server r) e = let eq : s ≡ r = grind (arith, nat_tests) in ap Server eq
same_node (Server s) Client e = cc
same_node (Server s) Mirror e = cc
same_node Client (Server r) e = cc
same_node Client Client e = refl
same_node Client Mirror e = cc
same_node Mirror (Server r) e = cc
same_node Mirror Client e = cc
same_node Mirror Mirror e = refl

pub is_same_as_itself : (a : Node) → is_same_node a a ≡ true
is_same_as_itself (Server s) = grind (arith, nat_tests)
is_same_as_itself Client = refl
is_same_as_itself Mirror = refl

-- Other nodes have other numbers.
pub other_number : (a b : Node) → IsTrue (is_node a) → IsTrue (is_node b) → is_same_node a b ≡ false → node_number a ≢ node_number b
other_number (Server s) (Server r) ha hb e = grind (arith, nat_tests)
other_number (Server s) Client ha hb e = let lt : s < MAX_SERVERS = grind (arith, nat_tests) in omega arith
other_number (Server s) Mirror ha hb e = let lt : s < MAX_SERVERS = grind (arith, nat_tests) in omega arith
other_number Client (Server r) ha hb e = let lt : r < MAX_SERVERS = grind (arith, nat_tests) in omega arith
other_number Client Client ha hb e = cc
other_number Client Mirror ha hb e = omega arith
other_number Mirror (Server r) ha hb e = let lt : r < MAX_SERVERS = grind (arith, nat_tests) in omega arith
other_number Mirror Client ha hb e = omega arith
other_number Mirror Mirror ha hb e = cc

-- A node that has a place is one of the ten, and the place is its number.
pub placed : (node : Node) (place n : ℕ) (b : Bool) → Some place ≡ (if b then Some n else None) → (b ≡ true) × (place ≡ n)
placed node place n true e = (refl, cc)
placed node place n false e = absurd (cc)
