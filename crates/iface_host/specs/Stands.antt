-- Which host of the machine a host stands for.
use Rattle.std.specs.Prelude.{◌≡◌, ◌≤◌, ◌<◌, ℕ, ◌+◌, ◌*◌, ◌==◌, min, false, [], replicate, None, if◌then◌else◌}
use Rattle.std.specs.Borrow.{Bor}
use Rattle.egress_schedule.specs.Plan.{first_plan}
use Rattle.net_base.specs.Checksum.{ip_mtu_of}
use Rattle.socket_set.specs.SocketSet.{Storage, over}
use Rattle.iface_tables.specs.Neighbor.{room_over}
use Rattle.iface_tables.specs.Route.{route_room_over}
use Rattle.fragmentation.specs.Slots.{slot_room_over}
use Rattle.iface_host.specs.Counters.{no_frames}
use Rattle.iface_host.specs.Outbox.{empty}
use Rattle.host_machine.specs.Interface.Config.{first_host}
use Rattle.host_machine.specs.Context.Host.{Host as Machine, SocketSet, with_neighbor_room, with_route_room, with_slot_room}
use Rattle.host_machine.specs.Context.Settings.{with_capacities}
use Rattle.ip_address.specs.Hardware.{medium_of}
use Rattle.ip_address.specs.declared.hardware.HardwareAddress.{HardwareAddress}
use Rattle.ip_address.specs.declared.hardware.HardwareAddress.TheVariants.{Ethernet, Ip}
use Rattle.guard.specs.declared.watch.Watch.{Watch}
use Rattle.net_base.specs.declared.phy.DeviceCapabilities.{DeviceCapabilities}
use Rattle.interface.specs.Stands as interface
use Rattle.interface.specs.Stands.{Refinement}
use Rattle.iface_host.specs.declared.host.IfaceHost.{IfaceHost}
use Rattle.iface_host.specs.declared.host.Settings.{Settings}

-- the interface in its box stands for it, with its sockets
abbrev pub StandsFor : IfaceHost → Machine → Type 0
StandsFor host H = interface.StandsFor host.interface.value host.sockets H

-- what its link can do: the checksums that aren't set aren't computed here
abbrev pub capabilities_of : Settings → DeviceCapabilities
capabilities_of s = record {
  medium = medium_of s.hardware_addr;
  max_transmission_unit = s.frame_len;
  max_burst_size = s.burst;
  checksum = s.checksum;
}

-- a place without a socket
abbrev pub free_storage : Storage (Bor (Unit {0}))
free_storage = record { socket = None; wait = None }

-- the nodes of the trie of so many routes
abbrev pub nodes_for : ℕ → ℕ
nodes_for routes = if routes == 0 then 0 else 128 * routes + 2

-- for how many routes there is room where a number is asked for
abbrev pub route_room : ℕ → ℕ
route_room routes = route_room_over (min routes 32) (nodes_for (min routes 32))

-- a host with as much room in its tables, in which nothing is, as the settings say
abbrev pub with_room : Settings → Machine → Machine
with_room s H = with_slot_room (with_route_room (with_neighbor_room (with_capacities H s.capacities)
    (room_over s.neighbors)) (route_room s.routes)) (slot_room_over s.fragmented)

-- the machine's first host at the moment at which it begins, whose fragments wait as long as they are to, and which has
-- as much room in its tables as it is to have
abbrev pub first_machine : Settings → SocketSet → Machine
first_machine s sockets =
    with_room s (record (first_host (capabilities_of s) s.hardware_addr s.random_seed s.slaac s.start sockets) {
      reassembly_timeout = s.reassembly_timeout;
    })

-- its guard, which is off on a medium without hardware addresses
abbrev pub watch_on : HardwareAddress → Watch → Watch
watch_on (Ethernet address) w = w
watch_on Ip w = record w { is_on = false }

abbrev pub watch_for : Settings → Watch
watch_for s = watch_on s.hardware_addr s.watch

-- it was just made: it stands for the machine's first host; its places are free, its numbers name none, no frame waits,
-- and no socket does; nothing changed, nothing was counted, its guard is that of the settings, no error was told, and no address is watched
pub record IsFirst (s : Settings) (host : IfaceHost) : Type 0 where
  pub stands : StandsFor host (first_machine s host.sockets)
  pub some_time : 0 < s.reassembly_timeout
  pub within_day : s.reassembly_timeout ≤ 86_400_000_000
  pub ip_mtu : host.ip_mtu ≡ ip_mtu_of (capabilities_of s)
  pub sockets : host.sockets ≡ over (replicate s.sockets free_storage) false host.sockets.room
  pub names : host.names ≡ replicate s.sockets None
  pub outbox : host.outbox ≡ empty (capabilities_of s)
  pub schedule : host.schedule ≡ first_plan s.patience s.sockets host.schedule.room
  pub changed : host.changed ≡ false
  pub frames : host.frames ≡ no_frames
  pub watch : host.watch ≡ watch_for s
  pub errors : host.errors ≡ []
  pub watched : host.watched ≡ None

-- nothing but the interface changed, and by a rule: from each host that it stood for, the rule leads to
-- one that it stands for
pub record Follows (Rule : Machine → Machine → Type 0) (old new : IfaceHost) : Type 0 where
  pub led : (H : Machine) → StandsFor old H → Refinement Rule H (StandsFor new)
  pub rest : new ≡ record old { interface = new.interface }

-- nothing changed
abbrev pub Stays : IfaceHost → IfaceHost → Type 0
Stays = Follows (λ H H'. H' ≡ H)
