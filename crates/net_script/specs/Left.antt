-- What is left of a script as it is read.
use Rattle.std.specs.Prelude.{◌≤◌, false, List, Option, Some, None}
use Rattle.fc_base.specs.declared.limits.TheConstants.{MAX_SERVERS}
use Rattle.net_world.specs.Setup.{setup_of}
use Rattle.net_script.specs.declared.order.Order.{Order as Given}
use Rattle.net_script.specs.declared.order.Order.TheVariants as given
use Rattle.net_script.specs.declared.orders.Orders.{Orders}
use Rattle.net_script.specs.Words.{lines_of}
use Rattle.net_script.specs.Orders.{Order, Opens, Asks, Fails, orders_from}

-- An order as it is given.
abbrev pub as_order : Given → Order
as_order (given.Opens line config) = Opens line (setup_of config)
as_order (given.Asks line command text) = Asks line command text.now
as_order (given.Fails line at) = Fails line at

-- The orders that are not given yet.
abbrev pub orders_left : Orders → List Order
orders_left left = orders_from left.number false (lines_of left.rest.now)

-- Where an order asks for a world, that has 1 to 8 servers.
abbrev pub OpensFew : Option Given → Type 0
OpensFew (Some (given.Opens line config)) = (1 ≤ config.servers) × (config.servers ≤ MAX_SERVERS)
OpensFew (Some (given.Asks line command text)) = Unit {0}
OpensFew (Some (given.Fails line at)) = Unit {0}
OpensFew None = Unit {0}
