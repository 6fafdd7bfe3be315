-- The router that a lookup found is that of the best route.
use Rattle.std.proofs.Common.{◌≡◌, List, sym}
use Rattle.std.specs.Prelude.{ℤ, Option}
use Rattle.ip_address.specs.declared.ip.IpAddress.{IpAddress}
use Rattle.iface_tables.specs.declared.route.Route.{Route}
use Rattle.iface_tables.specs.Route.{IsRouter, best, router_of}
use Rattle.iface_tables.proofs.RouteBestLemmas.{router_is}

pub found : (rs : List Route) (a : IpAddress) (t : ℤ) (router : Option IpAddress) → IsRouter rs a t router → router_of (best rs a t) ≡ router
found rs a t router is = sym (router_is rs a t router is)
