-- Nodes, and their numbers in frames: servers are 0 to 7, the client is 8, the mirror is 9.
use Rattle.std.specs.Prelude.{ℕ, Bool, true, false, nat_lt, ◌==◌, if◌then◌else◌, Option, Some, None}
use Rattle.fc_base.specs.declared.limits.TheConstants.{MAX_SERVERS}
use Rattle.messages.specs.declared.limits.TheConstants.{CLIENT_NUMBER, MIRROR_NUMBER}
use Rattle.messages.specs.declared.node.Node.{Node}
use Rattle.messages.specs.declared.node.Node.TheVariants.{Server, Client, Mirror}

-- The number of a node.
abbrev pub node_number : Node → ℕ
node_number (Server s) = s
node_number Client = CLIENT_NUMBER
node_number Mirror = MIRROR_NUMBER

-- The node with this number.
abbrev pub node_numbered : ℕ → Option Node
node_numbered n = if nat_lt n MAX_SERVERS then Some (Server n) else if n == CLIENT_NUMBER
    then Some Client else if n == MIRROR_NUMBER then Some Mirror else None

-- A server's number is below 8.
abbrev pub is_node : Node → Bool
is_node (Server s) = nat_lt s MAX_SERVERS
is_node Client = true
is_node Mirror = true

-- The node is the client.
abbrev pub is_client : Node → Bool
is_client (Server _) = false
is_client Client = true
is_client Mirror = false

-- The node is the mirror.
abbrev pub is_mirror : Node → Bool
is_mirror (Server _) = false
is_mirror Client = false
is_mirror Mirror = true

-- The node is the server of this number.
abbrev pub is_server : ℕ → Node → Bool
is_server number (Server s) = s == number
is_server number Client = false
is_server number Mirror = false
