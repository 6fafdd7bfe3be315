use Rattle.std.proofs.Common.{refl}
use Rattle.iface_dhcp.proofs.dhcp.Dhcp.apply_routes.Goals as goal

pub returns : goal.returns
returns c = record {
  between = c.take_routes.new.host;
  taken = rw c.as_slice.ensures.value at c.take_routes.ensures;
  put = rw (c.as_slice-2.ensures.value, c.routes-routes.ensures) at c.put_routes.ensures;
  routed = c.routes-routes.ensures;
  others = refl;
}
