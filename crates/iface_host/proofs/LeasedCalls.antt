-- Calls that replace what was leased, over plain variables.
use Rattle.std.proofs.Common.{◌≡◌, ◌<◌, ◌≤◌, arith, length, ℕ, Bool, true, false, List, Option, Some, Result, Ok, Err, refl, ap, sym, ◌∙◌, subst}
use Rattle.ip_address.specs.declared.cidr.IpCidr.{IpCidr}
use Rattle.iface_tables.specs.declared.route.Route.{Route}
use Rattle.host_machine.specs.Context.Host.{Host as Machine, SocketSet}
use Rattle.host_machine.specs.Interface.Step.{UpdatesIpAddrs, Accepted, Refused}
use Rattle.host_machine.specs.declared.results.AddrError.{AddrError}
use Rattle.interface.specs.Stands as interface
use Rattle.interface.specs.Stands.{Becomes, host_with}
use Rattle.interface.specs.declared.interface.Interface.{Interface}
use Rattle.iface_host.specs.Calls.{addr_room_of, addresses_of, route_room_of, routes_of}
use Rattle.iface_host.specs.Leased.{PutsLeased, Replaces, ReplacesLeased, Replaced, Kept, addresses_with, are_many_addresses, are_many_routes, leased_refusal, routes_with}
use Rattle.iface_host.specs.Stands.{Follows}
use Rattle.iface_host.specs.TableRefusals.{list_refusal}
use Rattle.iface_host.specs.declared.host.IfaceHost.{IfaceHost}
use Rattle.iface_host.specs.declared.leased.Leased.{Leased}
use Rattle.iface_host.specs.declared.refusal.Refusal.TheVariants.{TableFull}
use Rattle.iface_host.proofs.RefusalCalls.{IsThere, behind, list_told, there}
use Rattle.std.specs.Prelude.{nat_lt}
use Rattle.std.proofs.lemmas.Bool.Decides.{nat_tests}
use Rattle.iface_host.proofs.RuleCalls.{with_interface}

replaced_rule : (list : List IpCidr) (routes : List Route) (H K : Machine) →
    UpdatesIpAddrs list (Ok tt) H K → Replaces list routes (Ok tt) H (record K { routes = routes })
replaced_rule list routes H K (Accepted a answers same) = Replaced a answers (ap (λ (M : Machine). record M { routes = routes }) same)
replaced_rule list routes H K (Refused a answers same) = absurd cc

kept_rule : (list : List IpCidr) (routes : List Route) (e : AddrError) (H K : Machine) →
    UpdatesIpAddrs list (Err e) H K → Replaces list routes (Err e) H K
kept_rule list routes e H K (Accepted a answers same) = absurd cc
kept_rule list routes e H K (Refused a answers same) = Kept a answers same

-- a change of addresses keeps the routes
routes_kept : (list : List IpCidr) (H K : Machine) → UpdatesIpAddrs list (Ok tt) H K → K.routes ≡ H.routes
routes_kept list H K (Accepted a answers same) = ap (λ (M : Machine). M.routes) same
routes_kept list H K (Refused a answers same) = absurd cc

-- first the addresses, then the routes
pub replaced : (i mid j : Interface) (list : List IpCidr) (old new : Option Leased) →
    interface.HostRefines i mid (UpdatesIpAddrs list (Ok tt)) → Becomes mid j (λ H. record H { routes = routes_with old new H.routes }) →
    interface.HostRefines i j (PutsLeased list old new (Ok tt))
replaced i mid j list old new u b = λ sockets H h.
    let l = u sockets H h in record {
      host = record l.host { routes = routes_with old new l.host.routes };
      follows = subst (λ (rs : List Route). Replaces list (routes_with old new H.routes) (Ok tt) H (record l.host { routes = routes_with old new rs }))
          (sym (routes_kept list H l.host l.follows)) (replaced_rule list (routes_with old new H.routes) H l.host l.follows);
      stands = b sockets l.host l.stands;
    }

pub kept : (i j : Interface) (list : List IpCidr) (old new : Option Leased) (e : AddrError) →
    interface.HostRefines i j (UpdatesIpAddrs list (Err e)) → interface.HostRefines i j (PutsLeased list old new (Err e))
kept i j list old new e u = λ sockets H h.
    let l = u sockets H h in record {
      host = l.host;
      follows = kept_rule list (routes_with old new H.routes) e H l.host l.follows;
      stands = l.stands;
    }

pub kept_same : (list : List IpCidr) (old new : Option Leased) (e : AddrError) (H K : Machine) → PutsLeased list old new (Err e) H K → K ≡ H
kept_same list old new e H K (Replaced a answers same) = absurd cc
kept_same list old new e H K (Kept a answers same) = same

replaces_told : (list : List IpCidr) (routes : List Route) (r : Result (Unit {0}) AddrError) (H K : Machine) →
    Replaces list routes r H K → list_told r ≡ list_refusal list
replaces_told list routes r H K (Replaced a answers same) = rw (answers, a) refl
replaces_told list routes r H K (Kept a answers same) = rw (answers, a) refl

pub leased_why : (host : IfaceHost) (i : Interface) (list : List IpCidr) (old new : Option Leased) (r : Result (Unit {0}) AddrError) →
    IsThere host.interface.value → interface.HostRefines host.interface.value i (PutsLeased list old new r) → list_told r ≡ list_refusal list
leased_why host i list old new r stands f =
    let H = (stands host.sockets).0 in
    let l = f host.sockets H (stands host.sockets).1 in
    replaces_told list (routes_with old new H.routes) r H l.host l.follows

-- a list that is made of the one before
pub leased : (host : IfaceHost) (i : Interface) (old new : Option Leased) (list : List IpCidr) →
    ((sockets : SocketSet) → list ≡ addresses_with old new (host_with host.interface.value sockets).ip_addrs) →
    interface.HostRefines host.interface.value i (PutsLeased list old new (Ok tt)) →
    Follows (ReplacesLeased old new) host (with_interface host i)
leased host i old new list made u = record {
  led = λ H h. let l = u host.sockets H h in record {
    host = l.host;
    follows = subst (λ (cidrs : List IpCidr). Replaces cidrs (routes_with old new H.routes) (Ok tt) H l.host)
        (made host.sockets ∙ ap (λ (K : Machine). addresses_with old new K.ip_addrs) (sym h.same)) l.follows;
    stands = l.stands;
  };
  rest = refl;
}

-- whether there is room for so many routes, and for so many addresses
pub too_many : (host : IfaceHost) (old new : Option Leased) (routes : List Route) (count room : ℕ) → routes ≡ routes_of host →
    room ≡ route_room_of host → count ≡ length (routes_with old new routes) → room < count →
    are_many_routes (route_room_of host) old new (routes_of host) ≡ true
too_many host old new routes count room is has counts more = rw (← is, ← has, ← counts) (there room count more)

pub few_enough : (host : IfaceHost) (old new : Option Leased) (routes : List Route) (count room : ℕ) → routes ≡ routes_of host →
    room ≡ route_room_of host → count ≡ length (routes_with old new routes) → count ≤ room →
    are_many_routes (route_room_of host) old new (routes_of host) ≡ false
few_enough host old new routes count room is has counts few = rw (← is, ← has, ← counts) (behind room count few)

pub fits_addresses : (old new : Option Leased) (own list : List IpCidr) (room : ℕ) → list ≡ addresses_with old new own →
    false ≡ are_many_addresses room old new own → length list ≤ room
fits_addresses old new own list room is few = rw is (by (nat_lt room (length (addresses_with old new own))) refl few) where
  by : (b : Bool) → nat_lt room (length (addresses_with old new own)) ≡ b → false ≡ b → length (addresses_with old new own) ≤ room
  by true e f = absurd cc
  by false e f = grind (arith, nat_tests, e)

-- why nothing is replaced: no room for an address, none for a route, or an address that can't be an own one
pub many_addresses : (host : IfaceHost) (old new : Option Leased) (own : List IpCidr) (room : ℕ) → own ≡ addresses_of host →
    room ≡ addr_room_of host → true ≡ are_many_addresses room old new own → Some TableFull ≡ leased_refusal host old new
many_addresses host old new own room is has many = rw (← is, ← has, ← many) refl

pub many_routes : (host : IfaceHost) (old new : Option Leased) (own : List IpCidr) (room : ℕ) → own ≡ addresses_of host →
    room ≡ addr_room_of host → false ≡ are_many_addresses room old new own → are_many_routes (route_room_of host) old new (routes_of host) ≡ true →
    Some TableFull ≡ leased_refusal host old new
many_routes host old new own room is has few many = rw (← is, ← has, ← few, many) refl

pub room_told : (host : IfaceHost) (old new : Option Leased) (own list : List IpCidr) (room : ℕ) (r : Result (Unit {0}) AddrError) →
    own ≡ addresses_of host → room ≡ addr_room_of host → false ≡ are_many_addresses room old new own →
    are_many_routes (route_room_of host) old new (routes_of host) ≡ false → list ≡ addresses_with old new own →
    list_told r ≡ list_refusal list → list_told r ≡ leased_refusal host old new
room_told host old new own list room r is has few fit made told = rw (← is, ← has, ← few, fit, ← made) told
