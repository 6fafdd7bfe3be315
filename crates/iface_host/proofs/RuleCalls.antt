-- Calls that go by a rule of the machine, over plain variables.
use Rattle.std.proofs.Common.{◌≡◌, ◌≤◌, arith, length, ℕ, Bool, true, false, List, [], ◌∷◌, ◌++◌, Result, Ok, Err, refl, ap, sym, ◌∙◌, subst}
use Rattle.std.specs.Box.{with_value}
use Rattle.std.specs.Prelude.{OnErr, OnOk}
use Rattle.ip_address.specs.declared.cidr.IpCidr.{IpCidr}
use Rattle.ip_address.specs.declared.cidr.Ipv4Cidr.{Ipv4Cidr}
use Rattle.ip_address.specs.declared.ipv4.Ipv4Address.{Ipv4Address}
use Rattle.ip_address.specs.declared.ip.IpAddress.{IpAddress}
use Rattle.iface_tables.specs.declared.route.Route.{Route}
use Rattle.iface_tables.specs.declared.route.RouteTableFull.{RouteTableFull}
use Rattle.iface_tables.specs.Route.{is_refused, old_or_full, with_default}
use Rattle.iface_tables.specs.Store.{Stored}
use Rattle.host_machine.specs.Context.Host.{Host as Machine, SocketSet, no_sockets}
use Rattle.host_machine.specs.Multicast.Joins as machine
use Rattle.host_machine.specs.Multicast.Joins.{NoGroup, NoPlace, JoinTaken, NoGroupEither, LeaveTaken}
use Rattle.host_machine.specs.Interface.Step.{SetsIpAddrs, Set, NoRoom, NoOwn}
use Rattle.host_machine.specs.Interface.Step.{UpdatesIpAddrs, Accepted, Refused, SetsHardwareAddr, Taken, NotTaken}
use Rattle.host_machine.specs.declared.results.HardwareError.{HardwareError}
use Rattle.ip_address.specs.declared.hardware.HardwareAddress.{HardwareAddress}
use Rattle.host_machine.specs.declared.results.AddrError.{AddrError}
use Rattle.host_machine.specs.declared.results.AddrError.TheVariants.{NotUnicast}
use Rattle.host_machine.specs.declared.results.AddrListError.{AddrListError}
use Rattle.host_machine.specs.declared.results.MulticastError.{MulticastError}
use Rattle.interface.specs.Stands as interface
use Rattle.interface.specs.Stands.{Becomes, host_with, with_routes}
use Rattle.interface.proofs.SettingCalls.{routes_become}
use Rattle.interface.specs.declared.interface.Interface.{Interface}
use Rattle.iface_host.specs.declared.host.IfaceHost.{IfaceHost}
use Rattle.iface_host.specs.declared.refusal.Refusal.{Refusal}
use Rattle.iface_host.specs.Calls.{RemovesRoute, RemovesRouteBy, is_to, is_way}
use Rattle.iface_host.specs.Stands.{Follows, StandsFor, Stays}
use Rattle.std.specs.List.{position_or_len, remove}

abbrev pub with_interface : IfaceHost → Interface → IfaceHost
with_interface host i = record host { interface = with_value host.interface i }

-- a rule of the interface's is the host's
pub followed : (old : IfaceHost) (i : Interface) (Rule : Machine → Machine → Type 0) →
    interface.HostRefines old.interface.value i Rule → Follows Rule old (with_interface old i)
followed old i Rule f = record { led = λ H h. f old.sockets H h; rest = refl }

-- a rule that leaves the machine's host as it is
pub stayed : (old : IfaceHost) (i : Interface) (Rule : Machine → Machine → Type 0) →
    ((H H' : Machine) → Rule H H' → H' ≡ H) → interface.HostRefines old.interface.value i Rule →
    Stays old (with_interface old i)
stayed old i Rule same f = record {
  led = λ H h. let l = f old.sockets H h in record { host = l.host; follows = same H l.host l.follows; stands = l.stands };
  rest = refl;
}

pub untouched : (old : IfaceHost) → Stays old old
untouched old = record { led = λ H h. record { host = H; follows = refl; stands = h }; rest = refl }

pub untouched_if : (r : Result (Unit {0}) Refusal) (old : IfaceHost) → OnErr r (Stays old old)
untouched_if (Ok done) old = tt
untouched_if (Err refusal) old = untouched old

-- a change of every host
pub changed : (old : IfaceHost) (i : Interface) (change : Machine → Machine) →
    Becomes old.interface.value i change → Follows (λ H H'. H' ≡ change H) old (with_interface old i)
changed old i change b = record { led = λ H h. record { host = change H; follows = refl; stands = b old.sockets H h }; rest = refl }

-- a change of every host that it stood for, said in another way
pub changed_as : (old : IfaceHost) (i : Interface) (change other : Machine → Machine) → Becomes old.interface.value i change →
    ((H : Machine) → StandsFor old H → change H ≡ other H) → Follows (λ H H'. H' ≡ other H) old (with_interface old i)
changed_as old i change other b same = record {
  led = λ H h. record {
    host = other H;
    follows = refl;
    stands = subst (interface.StandsFor i old.sockets) (same H h) (b old.sockets H h);
  };
  rest = refl;
}

-- one change after another
pub changed_twice : (a b c : IfaceHost) (f g : Machine → Machine) → Follows (λ H H'. H' ≡ f H) a b → Follows (λ H H'. H' ≡ g H) b c →
    Follows (λ H H'. H' ≡ g (f H)) a c
changed_twice a b c f g first second = record {
  led = λ H h.
      let l = first.led H h in
      let m = second.led l.host l.stands in
      record { host = m.host; follows = m.follows ∙ ap g l.follows; stands = m.stands };
  rest = second.rest ∙ ap (λ (host : IfaceHost). record host { interface = c.interface }) first.rest;
}

-- and where it is one of a call that may be refused
pub changed_if : (old : IfaceHost) (i : Interface) (change : Machine → Machine) (r : Result (Unit {0}) Refusal) →
    OnOk r (Becomes old.interface.value i change) → OnOk r (Follows (λ H H'. H' ≡ change H) old (with_interface old i))
changed_if old i change (Ok done) b = changed old i change b
changed_if old i change (Err refusal) b = tt

-- a refused call that left the interface as it was
pub same_if : (r : Result (Unit {0}) Refusal) (old : IfaceHost) (was i : Interface) → was ≡ old.interface.value → OnErr r (i ≡ was) →
    OnErr r (with_interface old i ≡ old)
same_if (Ok done) old was i is same = tt
same_if (Err refusal) old was i is same = ap (λ (j : Interface). with_interface old j) (same ∙ is)

pub join_refused : (a : IpAddress) (e : MulticastError) (H H' : Machine) → machine.JoinsGroup a (Err e) H H' → H' ≡ H
join_refused a e H H' (NoGroup m answers same) = same
join_refused a e H H' (NoPlace m full answers same) = same
join_refused a e H H' (JoinTaken m full answers same) = absurd cc

pub leave_refused : (a : IpAddress) (e : MulticastError) (H H' : Machine) → machine.LeavesGroup a (Err e) H H' → H' ≡ H
leave_refused a e H H' (NoGroupEither m answers same) = same
leave_refused a e H H' (LeaveTaken m answers same) = absurd cc

pub addresses_refused : (list : List IpCidr) (e : AddrError) (H H' : Machine) → UpdatesIpAddrs list (Err e) H H' → H' ≡ H
addresses_refused list e H H' (Accepted a answers same) = absurd cc
addresses_refused list e H H' (Refused a answers same) = same

-- a list that there is room for is refused for one reason alone
sets_rule : (list : List IpCidr) (H K : Machine) → SetsIpAddrs list (Ok tt) H K → UpdatesIpAddrs list (Ok tt) H K
sets_rule list H K (Set few a answers same) = Accepted a refl same
sets_rule list H K (NoRoom more answers same) = absurd cc
sets_rule list H K (NoOwn few a answers same) = absurd cc

refuses_rule : (list : List IpCidr) (e : AddrListError) (H K : Machine) → length list ≤ H.addr_room → SetsIpAddrs list (Err e) H K →
    UpdatesIpAddrs list (Err NotUnicast) H K
refuses_rule list e H K within (Set few a answers same) = absurd cc
refuses_rule list e H K within (NoRoom more answers same) = absurd (omega (arith, more, within))
refuses_rule list e H K within (NoOwn few a answers same) = Refused a refl same

pub put : (i j : Interface) (list : List IpCidr) → interface.HostRefines i j (SetsIpAddrs list (Ok tt)) →
    interface.HostRefines i j (UpdatesIpAddrs list (Ok tt))
put i j list u = λ sockets H h.
    let l = u sockets H h in record { host = l.host; follows = sets_rule list H l.host l.follows; stands = l.stands }

pub put_refused : (i j : Interface) (list : List IpCidr) (e : AddrListError) → length list ≤ (host_with i no_sockets).addr_room →
    interface.HostRefines i j (SetsIpAddrs list (Err e)) → interface.HostRefines i j (UpdatesIpAddrs list (Err NotUnicast))
put_refused i j list e few u = λ sockets H h.
    let l = u sockets H h in
    let room : (host_with i no_sockets).addr_room ≡ H.addr_room = ap (λ (K : Machine). K.addr_room) (sym h.same) in
    record { host = l.host; follows = refuses_rule list e H l.host (rw room at few) l.follows; stands = l.stands }

pub hardware_refused : (a : HardwareAddress) (e : HardwareError) (H H' : Machine) → SetsHardwareAddr a (Err e) H H' → H' ≡ H
hardware_refused a e H H' (Taken why is answers same) = absurd cc
hardware_refused a e H H' (NotTaken other why answers same) = same

-- a default route that is refused changes no table
pub default_refused : (room : ℕ) (is_kind : Route → Bool) (routes : List Route) (route : Route) (e : RouteTableFull) →
    Err e ≡ old_or_full room is_kind routes → with_default room is_kind routes route ≡ routes
default_refused room is_kind routes route e answers = by (is_refused room is_kind routes) refl where
  by : (b : Bool) → is_refused room is_kind routes ≡ b → with_default room is_kind routes route ≡ routes
  by true is = rw is refl
  by false is = absurd (let f = rw is at answers in cc)

pub default_stays : (old : IfaceHost) (i : Interface) (is_kind : Route → Bool) (route : Route) (e : RouteTableFull) →
    ((sockets : SocketSet) → Err e ≡ old_or_full (host_with old.interface.value sockets).route_room is_kind
    (host_with old.interface.value sockets).routes) →
    Becomes old.interface.value i (λ H. record H { routes = with_default H.route_room is_kind H.routes route }) → Stays old (with_interface old i)
default_stays old i is_kind route e answers b = record {
  led = λ H h. record {
    host = record H { routes = with_default H.route_room is_kind H.routes route };
    follows = ap (λ (routes : List Route). record H { routes = routes })
        (default_refused H.route_room is_kind H.routes route e (answers old.sockets
        ∙ ap (λ (K : Machine). old_or_full K.route_room is_kind K.routes) (sym h.same)));
    stands = b old.sockets H h;
  };
  rest = refl;
}

-- another list of addresses, which is made of the one before
pub updated : (old : IfaceHost) (i : Interface) (f : List IpCidr → List IpCidr) (list : List IpCidr) →
    ((sockets : SocketSet) → list ≡ f (host_with old.interface.value sockets).ip_addrs) →
    interface.HostRefines old.interface.value i (UpdatesIpAddrs list (Ok tt)) →
    Follows (λ H. UpdatesIpAddrs (f H.ip_addrs) (Ok tt) H) old (with_interface old i)
updated old i f list made u = record {
  led = λ H h. let l = u old.sockets H h in record {
    host = l.host;
    follows = subst (λ (cidrs : List IpCidr). UpdatesIpAddrs cidrs (Ok tt) H l.host)
        (made old.sockets ∙ ap (λ (K : Machine). f K.ip_addrs) (sym h.same)) l.follows;
    stands = l.stands;
  };
  rest = refl;
}

-- other routes, which are made of those before
pub routed : (old : IfaceHost) (i : Interface) (f : List Route → List Route) (list : List Route) →
    ((sockets : SocketSet) → list ≡ f (host_with old.interface.value sockets).routes) →
    Becomes old.interface.value i (λ H. record H { routes = list }) → Follows (λ H H'. H' ≡ record H { routes = f H.routes }) old (with_interface old i)
routed old i f list made b = record {
  led = λ H h. record {
    host = record H { routes = list };
    follows = ap (λ (routes : List Route). record H { routes = routes }) (made old.sockets ∙ ap (λ (K : Machine). f K.routes) (sym h.same));
    stands = b old.sockets H h;
  };
  rest = refl;
}

stored_same : (s t : Stored Route) → s.items ≡ t.items → s.room ≡ t.room → s ≡ t
stored_same s t items room =
    ap (λ (routes : List Route). record { items = routes; room = s.room }) items ∙ ap (λ (n : ℕ). record { items = t.items; room = n }) room

-- one that isn't
pub unpushed_if : (i : Interface) (was w : Stored Route) (r : Result (Unit {0}) RouteTableFull) →
    ((sockets : SocketSet) → was.items ≡ (host_with i sockets).routes) → ((sockets : SocketSet) → was.room ≡ (host_with i sockets).route_room) →
    OnErr r (w ≡ was) → OnErr r (with_routes i w ≡ i)
unpushed_if i was w (Ok done) items room same = tt
unpushed_if i was w (Err e) items room same =
    ap (λ (s : Stored Route). with_routes i s) (same ∙ stored_same was i.context.routes (items no_sockets) (room no_sockets))

-- a route that is pushed, if there is room for it
pub pushed_if : (i : Interface) (was w : Stored Route) (route : Route) (r : Result (Unit {0}) RouteTableFull) →
    ((sockets : SocketSet) → was.items ≡ (host_with i sockets).routes) → ((sockets : SocketSet) → was.room ≡ (host_with i sockets).route_room) →
    OnOk r (w ≡ record was { items = was.items ++ route ∷ [] }) →
    OnOk r (Becomes i (with_routes i w) (λ H. record H { routes = H.routes ++ route ∷ [] }))
pushed_if i was w route (Ok done) items room pushed = λ sockets H h.
    routes_become i w sockets H h (λ (n : ℕ) (routes : List Route). routes ++ route ∷ [])
    (ap (λ (s : Stored Route). s.items) pushed ∙ ap (λ (routes : List Route). routes ++ route ∷ []) (items no_sockets))
    (ap (λ (s : Stored Route). s.room) pushed ∙ room no_sockets)
pushed_if i was w route (Err e) items room pushed = tt

-- the route at an index is gone, which is that of the first one to a network
pub removed : (old : IfaceHost) (i : Interface) (network : IpCidr) (index : ℕ) →
    index ≡ position_or_len (is_to network) (host_with old.interface.value no_sockets).routes →
    Becomes old.interface.value i (λ H. record H { routes = remove H.routes index }) → Follows (RemovesRoute network) old (with_interface old i)
removed old i network index at b = record {
  led = λ H h. record {
    host = record H { routes = remove H.routes index };
    follows = ap (λ (n : ℕ). record H { routes = remove H.routes n })
        (at ∙ ap (λ (K : Machine). position_or_len (is_to network) K.routes) (sym h.same));
    stands = b old.sockets H h;
  };
  rest = refl;
}

pub removed_by : (old : IfaceHost) (i : Interface) (network : Ipv4Cidr) (router : Ipv4Address) (index : ℕ) →
    index ≡ position_or_len (is_way network router) (host_with old.interface.value no_sockets).routes →
    Becomes old.interface.value i (λ H. record H { routes = remove H.routes index }) →
    Follows (RemovesRouteBy network router) old (with_interface old i)
removed_by old i network router index at b = record {
  led = λ H h. record {
    host = record H { routes = remove H.routes index };
    follows = ap (λ (n : ℕ). record H { routes = remove H.routes n })
        (at ∙ ap (λ (K : Machine). position_or_len (is_way network router) K.routes) (sym h.same));
    stands = b old.sockets H h;
  };
  rest = refl;
}

-- the interface is as it was
pub same_host : (old : IfaceHost) (i : Interface) → i ≡ old.interface.value → Stays old (with_interface old i)
same_host old i same = subst (λ (host : IfaceHost). Stays old host) (ap (λ (j : Interface). with_interface old j) (sym same)) (untouched old)
