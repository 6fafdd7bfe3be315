-- How an interface begins, over plain variables.
use Rattle.std.proofs.Common.{◌≡◌, ℕ, ◌≤◌, true, List, [], arith, None, ap, refl, sym}
use Rattle.std.specs.Prelude.{ℤ, Bool, false, pos}
use Rattle.std.proofs.lemmas.Bool.Decides.{nat_tests}
use Rattle.net_base.specs.declared.phy.DeviceCapabilities.{DeviceCapabilities}
use Rattle.net_base.specs.Checksum.{ip_mtu_of}
use Rattle.net_base.specs.Rand.{next}
use Rattle.iface_tables.specs.declared.report.IgmpReportState.TheVariants as igmp
use Rattle.iface_tables.specs.declared.report.MldReportState.TheVariants as mld
use Rattle.ip_address.specs.declared.hardware.HardwareAddress.{HardwareAddress}
use Rattle.net_base.specs.declared.phy.Medium.{Medium}
use Rattle.net_base.specs.declared.phy.Medium.TheVariants as medium
use Rattle.ip_address.specs.declared.hardware.HardwareAddress.TheVariants.{Ethernet, Ip}
use Rattle.ip_address.specs.Hardware.{IsOf, medium_of, is_unicast}
use Rattle.fragmentation.specs.declared.key.FragKey.{FragKey}
use Rattle.fragmentation.specs.Assembly.{Assembly}
use Rattle.fragmentation.specs.Slots.{free_slots}
use Rattle.fragmentation.specs.Stands.{StandForSlots}
use Rattle.host_machine.specs.Context.Host.{SocketSet, with_slots}
use Rattle.iface_context.specs.declared.context.Context.{Context}
use Rattle.iface_context.specs.Stands.{host_of}
use Rattle.iface_context.specs.Refines.{StandsFor}
use Rattle.iface_tables.specs.Slaac.{initial_state}
use Rattle.iface_tables.specs.Neighbor.{first_neighbors}
use Rattle.host_machine.specs.Interface.Config.{refusal_of, same_medium, first_host, first_id}

-- no reason to refuse holds
pub not_refused : (c : DeviceCapabilities) (h : HardwareAddress) →
    same_medium (medium_of h) c.medium ≡ true → is_unicast h ≡ true → 576 ≤ ip_mtu_of c → c.max_transmission_unit ≤ 1514 → refusal_of c h ≡ None
not_refused c h same unicast low high = rw (same, unicast) (grind (arith, nat_tests))

-- an address of a medium has that medium
pub medium_is : (m : Medium) (h : HardwareAddress) → IsOf m h → medium_of h ≡ m
medium_is medium.Ethernet (Ethernet e) own = refl
medium_is medium.Ethernet Ip own = absurd own
medium_is medium.Ip (Ethernet e) own = absurd own
medium_is medium.Ip Ip own = refl

-- the interface is made
pub made : (c : DeviceCapabilities) (h : HardwareAddress) (seed id random : ℕ) (slaac : Bool) (t : ℤ) (context : Context)
    (places : List (Assembly FragKey)) → id ≡ first_id seed → random ≡ next seed → StandForSlots places (free_slots 2) →
    ((sockets : SocketSet) → host_of context sockets ≡ record {
      capabilities = c;
      hardware_addr = h;
      moment = t;
      ip_addrs = [];
      addr_room = 4;
      any_ip = false;
      routes = [];
      route_room = 4;
      neighbors = first_neighbors 4;
      ipv4_id = id;
      reassembly_timeout = 60000000;
      slots = free_slots 2;
      left = [];
      groups = [];
      group_room = 8;
      igmp_report = igmp.Inactive;
      mld_report = mld.Inactive;
      slaac_enabled = slaac;
      slaac = initial_state;
      slaac_updated_at = pos 0;
      random = random;
      sockets = sockets;
    }) →
    (sockets : SocketSet) → StandsFor context places sockets (first_host c h seed slaac t sockets)
made c h seed id random slaac t context places is drawn stand makes sockets =
    let begins : host_of context sockets ≡ first_host c h seed slaac t sockets = rw (← is, ← drawn) (makes sockets) in
    record { slots = free_slots 2; stand = stand; same = sym (ap (λ H. with_slots H (free_slots 2)) begins) }
