use Rattle.std.proofs.Common.{refl}
use Rattle.net_script.specs.Orders.{orders_of}
use Rattle.net_script.proofs.orders.Orders.of.Goals as goal

pub returns-clause-orders : goal.returns-clause-orders
unfolding orders_of
returns-clause-orders c = refl
