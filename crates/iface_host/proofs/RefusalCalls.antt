-- Why calls of the interface are refused, over plain variables.
use Rattle.std.proofs.Common.{◌≡◌, ℕ, zero, suc, ◌<◌, ◌≤◌, Bool, true, false, List, [], ◌∷◌, ◌++◌, length, Result, Ok, Err}
use Rattle.std.proofs.Common.{Option, Some, None, refl, ap, ◌∙◌, leb, ltb, arith}
use Rattle.std.specs.Prelude.{ℤ, if◌then◌else◌}
use Rattle.std.specs.List.{position_or_len, remove}
use Rattle.std.proofs.lemmas.List.{length-append}
use Rattle.std.proofs.lemmas.Bool.{le-leb, leb-true, lt-ltb, ltb-true}
use Rattle.ip_address.specs.Ip.{is_multicast}
use Rattle.ip_address.specs.declared.cidr.IpCidr.{IpCidr}
use Rattle.ip_address.specs.declared.cidr.Ipv4Cidr.{Ipv4Cidr}
use Rattle.ip_address.specs.declared.ipv4.Ipv4Address.{Ipv4Address}
use Rattle.ip_address.specs.declared.ip.IpAddress.{IpAddress}
use Rattle.iface_tables.specs.Groups.{is_refused}
use Rattle.iface_tables.specs.declared.groups.Group.{Group}
use Rattle.iface_tables.specs.Route as routes
use Rattle.iface_tables.specs.declared.route.Route.{Route}
use Rattle.iface_tables.specs.declared.route.RouteTableFull.{RouteTableFull}
use Rattle.host_machine.specs.Context.Host.{Host as Machine, SocketSet}
use Rattle.host_machine.specs.Multicast.Joins as machine
use Rattle.host_machine.specs.Multicast.Joins.{NoGroup, NoPlace, JoinTaken, NoGroupEither, LeaveTaken}
use Rattle.host_machine.specs.Interface.Step.{UpdatesIpAddrs, Accepted, Refused, SetsReassemblyTimeout, WithinDay, OverDay}
use Rattle.host_machine.specs.Interface.Step.{SetsHardwareAddr, Taken, NotTaken}
use Rattle.host_machine.specs.Interface.Config.{hardware_refusal_of, if_ethernet}
use Rattle.host_machine.specs.declared.results.HardwareError.{HardwareError}
use Rattle.host_machine.specs.declared.results.HardwareError.TheVariants as error
use Rattle.ip_address.specs.declared.ethernet_address.EthernetAddress.{EthernetAddress}
use Rattle.ip_address.specs.declared.hardware.HardwareAddress.{HardwareAddress}
use Rattle.ip_address.specs.declared.hardware.HardwareAddress.TheVariants.{Ethernet, Ip}
use Rattle.std.specs.Option.{option_and_then}
use Rattle.iface_host.specs.Properties.{ethernet_in, hardware_refusal, of_error}
use Rattle.host_machine.specs.declared.results.AddrError.{AddrError}
use Rattle.host_machine.specs.declared.results.MulticastError.{MulticastError}
use Rattle.host_machine.specs.declared.results.MulticastError.TheVariants.{GroupTableFull, Unaddressable}
use Rattle.host_machine.specs.declared.results.TimeoutError.{TimeoutError}
use Rattle.interface.specs.Stands as interface
use Rattle.interface.specs.declared.interface.Interface.{Interface}
use Rattle.iface_host.specs.Calls.{addr_room_of, addresses_of, is_same, is_to, is_way, route_room_of, routes_of}
use Rattle.iface_host.specs.TableRefusals.{address_refusal, addresses_refusal, join_refusal, leave_refusal, list_refusal, removal_refusal}
use Rattle.iface_host.specs.TableRefusals.{end_refusal, route_refusal, route_removal_refusal, way_removal_refusal}
use Rattle.iface_host.specs.declared.host.IfaceHost.{IfaceHost}
use Rattle.iface_host.specs.declared.refusal.Refusal.{Refusal}
use Rattle.iface_host.specs.declared.refusal.Refusal.TheVariants.{BadAddress, NotThere, NotUnicast, TableFull}

-- there is a host that an interface stands for
abbrev pub IsThere : Interface → Type 0
IsThere i = (sockets : SocketSet) → (H : Machine) × interface.StandsFor i sockets H

-- the refusals by which errors are told
abbrev pub group_told : Result (Unit {0}) MulticastError → Option Refusal
group_told (Ok done) = None
group_told (Err GroupTableFull) = Some TableFull
group_told (Err Unaddressable) = Some BadAddress

abbrev pub list_told : Result (Unit {0}) AddrError → Option Refusal
list_told (Ok done) = None
list_told (Err e) = Some NotUnicast

-- why a join is refused, by the groups
abbrev refused_by : ℕ → List Group → IpAddress → Option Refusal
refused_by room gs a = if is_multicast a then (if is_refused room gs a then Some TableFull else None) else Some BadAddress

join_rule : (a : IpAddress) (r : Result (Unit {0}) MulticastError) (H H' : Machine) →
    machine.JoinsGroup a r H H' → group_told r ≡ refused_by H.group_room H.groups a
join_rule a r H H' (NoGroup m answers same) = rw (answers, m) refl
join_rule a r H H' (NoPlace m full answers same) = rw (answers, m, full) refl
join_rule a r H H' (JoinTaken m room answers same) = rw (answers, m, room) refl

-- a leave is refused for one reason alone
abbrev pub left_told : Result (Unit {0}) MulticastError → Option Refusal
left_told (Ok done) = None
left_told (Err e) = Some BadAddress

leave_rule : (a : IpAddress) (r : Result (Unit {0}) MulticastError) (H H' : Machine) →
    machine.LeavesGroup a r H H' → left_told r ≡ leave_refusal a
leave_rule a r H H' (NoGroupEither m answers same) = rw (answers, m) refl
leave_rule a r H H' (LeaveTaken m answers same) = rw (answers, m) refl

list_rule : (list : List IpCidr) (r : Result (Unit {0}) AddrError) (H H' : Machine) →
    UpdatesIpAddrs list r H H' → list_told r ≡ list_refusal list
list_rule list r H H' (Accepted a answers same) = rw (answers, a) refl
list_rule list r H H' (Refused a answers same) = rw (answers, a) refl

pub joined_why : (old : IfaceHost) (i : Interface) (a : IpAddress) (r : Result (Unit {0}) MulticastError) → IsThere old.interface.value →
    interface.HostRefines old.interface.value i (machine.JoinsGroup a r) → group_told r ≡ join_refusal old a
joined_why old i a r there f =
    let H = (there old.sockets).0 in
    let h = (there old.sockets).1 in
    let l = f old.sockets H h in
    join_rule a r H l.host l.follows ∙ ap (λ (K : Machine). refused_by K.group_room K.groups a) h.same

pub left_why : (old : IfaceHost) (i : Interface) (a : IpAddress) (r : Result (Unit {0}) MulticastError) → IsThere old.interface.value →
    interface.HostRefines old.interface.value i (machine.LeavesGroup a r) → left_told r ≡ leave_refusal a
left_why old i a r there f =
    let H = (there old.sockets).0 in
    let h = (there old.sockets).1 in
    let l = f old.sockets H h in
    leave_rule a r H l.host l.follows

pub list_why : (old : IfaceHost) (i : Interface) (list : List IpCidr) (r : Result (Unit {0}) AddrError) → IsThere old.interface.value →
    interface.HostRefines old.interface.value i (UpdatesIpAddrs list r) → list_told r ≡ list_refusal list
list_why old i list r there f =
    let H = (there old.sockets).0 in
    let h = (there old.sockets).1 in
    let l = f old.sockets H h in
    list_rule list r H l.host l.follows

-- the tests of how many there are, where there is room for so many
at_room : (room n : ℕ) → room ≤ n → leb room n ≡ true
at_room room n le = le-leb room n le

fewer : (room n : ℕ) → n < room → leb room n ≡ false
fewer room n lt = by (leb room n) refl where
  by : (b : Bool) → leb room n ≡ b → b ≡ false
  by true e = absurd (omega (arith, leb-true room n e))
  by false e = refl

pub there : (i n : ℕ) → i < n → ltb i n ≡ true
there i n lt = lt-ltb i n lt

pub behind : (i n : ℕ) → n ≤ i → ltb i n ≡ false
behind i n le = by (ltb i n) refl where
  by : (b : Bool) → ltb i n ≡ b → b ≡ false
  by true e = absurd (omega (arith, ltb-true i n e))
  by false e = refl

-- a list that is one longer than one that leaves room, and one that is shorter than one that fits
pub fits_one_more : (own list : List IpCidr) (cidr : IpCidr) (room : ℕ) → list ≡ own ++ cidr ∷ [] → length own < room → length list ≤ room
fits_one_more own list cidr room is less = rw is (let l = length-append own (cidr ∷ []) in omega (arith, l, less))

removed_least : (own : List IpCidr) (i : ℕ) → length (remove own i) ≤ length own
removed_least [] zero = omega arith
removed_least [] (suc i) = omega arith
removed_least (c ∷ own) zero = omega arith
removed_least (c ∷ own) (suc i) = let l = removed_least own i in omega (arith, l)

pub fits_one_less : (own list : List IpCidr) (i room : ℕ) → list ≡ remove own i → length own ≤ room → length list ≤ room
fits_one_less own list i room is few = rw is (let l = removed_least own i in omega (arith, l, few))

pub address_full : (host : IfaceHost) (own : List IpCidr) (cidr : IpCidr) (room : ℕ) → own ≡ addresses_of host → room ≡ addr_room_of host →
    room ≤ length own → Some TableFull ≡ address_refusal host cidr
address_full host own cidr room is has most = rw (← is, ← has, at_room room (length own) most) refl

pub address_told : (host : IfaceHost) (own list : List IpCidr) (cidr : IpCidr) (room : ℕ) (r : Result (Unit {0}) AddrError) →
    own ≡ addresses_of host → room ≡ addr_room_of host → length own < room → list ≡ own ++ cidr ∷ [] → list_told r ≡ list_refusal list →
    list_told r ≡ address_refusal host cidr
address_told host own list cidr room r is has less pushed told =
    rw (← is, ← has, fewer room (length own) less) (told ∙ ap list_refusal pushed)

-- all addresses at once
pub addresses_full : (host : IfaceHost) (list : List IpCidr) (room : ℕ) → room ≡ addr_room_of host → room < length list →
    Some TableFull ≡ addresses_refusal host list
addresses_full host list room has more = rw (← has, there room (length list) more) refl

pub addresses_told : (host : IfaceHost) (list : List IpCidr) (room : ℕ) (r : Result (Unit {0}) AddrError) → room ≡ addr_room_of host →
    length list ≤ room → list_told r ≡ list_refusal list → list_told r ≡ addresses_refusal host list
addresses_told host list room r has few told = rw (← has, behind room (length list) few) told

pub removal_none : (host : IfaceHost) (own : List IpCidr) (cidr : IpCidr) (i : ℕ) → own ≡ addresses_of host →
    i ≡ position_or_len (is_same cidr) own → length own ≤ i → Some NotThere ≡ removal_refusal host cidr
removal_none host own cidr i is at le = rw (← is, ← at, behind i (length own) le) refl

pub removal_told : (host : IfaceHost) (own : List IpCidr) (cidr : IpCidr) (i : ℕ) (r : Result (Unit {0}) AddrError) → own ≡ addresses_of host →
    i ≡ position_or_len (is_same cidr) own → i < length own → list_told r ≡ list_refusal (remove (addresses_of host) i) →
    list_told r ≡ removal_refusal host cidr
removal_told host own cidr i r is at lt told =
    rw (← is, ← at, there i (length own) lt) (rw (← is) at told)

-- a default route
abbrev pub route_told : Result (Option Route) RouteTableFull → Option Refusal
route_told (Ok old) = None
route_told (Err e) = Some TableFull

pub default_told : (room : ℕ) (is_kind : Route → Bool) (rs : List Route) (r : Result (Option Route) RouteTableFull) →
    r ≡ routes.old_or_full room is_kind rs → route_told r ≡ (if routes.is_refused room is_kind rs then Some TableFull else None)
default_told room is_kind rs r answers = by (routes.is_refused room is_kind rs) refl where
  by : (b : Bool) → routes.is_refused room is_kind rs ≡ b → route_told r ≡ (if b then Some TableFull else None)
  by true e = rw (answers, e) refl
  by false e = rw (answers, e) refl

pub route_full : (host : IfaceHost) (end : Option ℤ) → None ≡ end_refusal end → route_room_of host ≤ length (routes_of host) →
    Some TableFull ≡ route_refusal host end
route_full host end none most = rw (← none, at_room (route_room_of host) (length (routes_of host)) most) refl

pub route_room : (host : IfaceHost) (end : Option ℤ) → None ≡ end_refusal end → length (routes_of host) < route_room_of host →
    None ≡ route_refusal host end
route_room host end none less = rw (← none, fewer (route_room_of host) (length (routes_of host)) less) refl

pub route_none : (host : IfaceHost) (own : List Route) (cidr : IpCidr) (i : ℕ) → own ≡ routes_of host →
    i ≡ position_or_len (is_to cidr) own → length own ≤ i → Some NotThere ≡ route_removal_refusal host cidr
route_none host own cidr i is at le = rw (← is, ← at, behind i (length own) le) refl

pub route_there : (host : IfaceHost) (own : List Route) (cidr : IpCidr) (i : ℕ) → own ≡ routes_of host →
    i ≡ position_or_len (is_to cidr) own → i < length own → None ≡ route_removal_refusal host cidr
route_there host own cidr i is at lt = rw (← is, ← at, there i (length own) lt) refl

pub way_none : (host : IfaceHost) (own : List Route) (network : Ipv4Cidr) (router : Ipv4Address) (i : ℕ) → own ≡ routes_of host →
    i ≡ position_or_len (is_way network router) own → length own ≤ i → Some NotThere ≡ way_removal_refusal host network router
way_none host own network router i is at le = rw (← is, ← at, behind i (length own) le) refl

pub way_there : (host : IfaceHost) (own : List Route) (network : Ipv4Cidr) (router : Ipv4Address) (i : ℕ) → own ≡ routes_of host →
    i ≡ position_or_len (is_way network router) own → i < length own → None ≡ way_removal_refusal host network router
way_there host own network router i is at lt = rw (← is, ← at, there i (length own) lt) refl

-- a time that is at most a day isn't refused
pub waits_within : (i i' : Interface) (timeout : ℕ) (e : TimeoutError) → IsThere i → timeout ≤ 86_400_000_000 → (s : SocketSet) →
    interface.HostRefines i i' (SetsReassemblyTimeout timeout (Err e)) → ⊥
waits_within i i' timeout e is le s f =
    let H = (is s).0 in
    let h = (is s).1 in
    let l = f s H h in
    by l.host l.follows where
      by : (H' : Machine) → SetsReassemblyTimeout timeout (Err e) (is s).0 H' → ⊥
      by H' (WithinDay within answers same) = cc
      by H' (OverDay over answers same) = omega arith

-- the hardware address
abbrev pub hardware_told : Result (Unit {0}) HardwareError → Option Refusal
hardware_told (Ok done) = None
hardware_told (Err error.WrongMedium) = Some NotThere
hardware_told (Err error.NotUnicast) = Some NotUnicast

hardware_rule : (a : EthernetAddress) (r : Result (Unit {0}) HardwareError) (H H' : Machine) → SetsHardwareAddr (Ethernet a) r H H' →
    hardware_told r ≡ of_error (hardware_refusal_of H.capabilities (Ethernet a))
hardware_rule a r H H' (Taken why is answers same) = rw (answers, why) refl
hardware_rule a r H H' (NotTaken error.WrongMedium why answers same) = rw (answers, why) refl
hardware_rule a r H H' (NotTaken error.NotUnicast why answers same) = rw (answers, why) refl

pub hardware_why : (old : IfaceHost) (i : Interface) (a : EthernetAddress) (r : Result (Unit {0}) HardwareError) → IsThere old.interface.value →
    interface.HostRefines old.interface.value i (SetsHardwareAddr (Ethernet a) r) → hardware_told r ≡ hardware_refusal old a
hardware_why old i a r there f =
    let H = (there old.sockets).0 in
    let h = (there old.sockets).1 in
    let l = f old.sockets H h in
    hardware_rule a r H l.host l.follows ∙ ap (λ (K : Machine). of_error (hardware_refusal_of K.capabilities (Ethernet a))) h.same

-- the address on Ethernet, of what the interface tells
pub ethernet_told : (h : HardwareAddress) (told : Option HardwareAddress) → told ≡ if_ethernet h →
    option_and_then ethernet_in told ≡ ethernet_in h
ethernet_told (Ethernet a) told is = rw is refl
ethernet_told Ip told is = rw is refl
