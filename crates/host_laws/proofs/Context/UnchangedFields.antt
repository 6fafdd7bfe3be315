-- What laws on what is noted read of a host, and that it stays.
use Rattle.std.proofs.Common.{◌≡◌, List, [], refl, ◌∙◌, ap}
use Rattle.std.specs.Prelude.{ℕ, pos, Bool, true, false, if◌then◌else◌}
use Rattle.std.specs.FinMap as map
use Rattle.ip_address.specs.declared.hardware.HardwareAddress.{HardwareAddress}
use Rattle.ip_wire.specs.declared.ip_packet.IpRepr.{IpRepr}
use Rattle.ip_wire.specs.IpPacket.{src_addr, dst_addr}
use Rattle.ip_address.specs.declared.ip.IpAddress.{IpAddress}
use Rattle.iface_tables.specs.declared.neighbor.Neighbor.{Neighbor}
use Rattle.iface_tables.specs.Neighbor.{Neighbors, Fills, after_renewal, expiry_from}
use Rattle.iface_tables.specs.declared.report.IgmpReportState.TheVariants as igmp
use Rattle.iface_tables.specs.declared.report.MldReportState.TheVariants as mld
use Rattle.iface_tables.specs.Slaac.{initial_state}
use Rattle.host_machine.specs.Context.Host.{Host, no_sockets, with_neighbors}
use Rattle.host_machine.specs.Context.Addresses.{is_unicast}
use Rattle.host_machine.specs.Sockets.Raw as raw
use Rattle.host_machine.specs.Context.Real.{IsReal}
use Rattle.host_machine.specs.Discovery.Renewal.{sender_renewed}
use Rattle.host_laws.proofs.Context.MediumAddresses.{renewed_of}

-- where a neighbour is learnt, all but who is known stays
pub emptied : {old new : Neighbors} {a : IpAddress} {n : Neighbor} → Fills old new a n →
    record new { known = map.empty } ≡ record old { known = map.empty }
emptied {old} {new} f = ap (λ r. record { room = r; known = map.empty; silent_until = new.silent_until }) f.room
    ∙ ap (λ s. record { room = old.room; known = map.empty; silent_until = s }) f.silence

-- what no such law reads, set to one value
abbrev pub rest_of : Host → Host
rest_of H = record H {
  moment = pos 0;
  any_ip = false;
  routes = [];
  neighbors = record H.neighbors { known = map.empty };
  groups = [];
  igmp_report = igmp.Inactive;
  mld_report = mld.Inactive;
  slaac = initial_state;
  slaac_updated_at = pos 0;
  random = 0;
  sockets = no_sockets;
}

-- what such laws read of a host stays
pub record Keeps (old new : Host) : Type 0 where
  pub same : rest_of new ≡ rest_of old
  pub real : IsReal old → IsReal new

pub kept : {old new : Host} → new ≡ old → Keeps old new
kept e = record { same = ap rest_of e; real = λ r. rw e r }

-- a host that is another one, which keeps that
pub kept_by : {old mid new : Host} → new ≡ mid → Keeps old mid → Keeps old new
kept_by e k = record { same = ap rest_of e ∙ k.same; real = λ r. rw e (k.real r) }

-- and one after the other
pub kept_then : {old mid new : Host} → Keeps old mid → Keeps mid new → Keeps old new
kept_then a b = record { same = b.same ∙ a.same; real = λ r. b.real (a.real r) }

-- where the neighbours stay too
abbrev pub unread : {old new : Host} → rest_of new ≡ rest_of old → new.neighbors ≡ old.neighbors → Keeps old new
unread {old} {new} e n = record {
  same = e;
  real = λ r.
      let h : new.hardware_addr ≡ old.hardware_addr = ap (λ (K : Host). K.hardware_addr) e in
      let c : new.capabilities ≡ old.capabilities = ap (λ (K : Host). K.capabilities) e in
      record { own = rw (h, c) r.own; neighbors = rw (n, c) r.neighbors };
}

pub heard_kept : (r : IpRepr) (payload : List ℕ) (H : Host) → Keeps H (raw.host_after_raw_delivery r payload H)
heard_kept r payload H = unread refl refl

-- a packet for the host alone may renew a neighbour, and no more
pub sender_kept : (source : HardwareAddress) (r : IpRepr) (H : Host) → Keeps H (sender_renewed source r H)
sender_kept source r H = by (is_unicast H.ip_addrs (dst_addr r)) where
  by : (b : Bool) → Keeps H (if b then with_neighbors H (after_renewal H.neighbors (src_addr r) source (expiry_from H.moment)) else H)
  by true = record {
    same = refl;
    real =
        λ x. record { own = x.own; neighbors = renewed_of H.capabilities.medium H.neighbors (src_addr r) source (expiry_from H.moment) x.neighbors };
  }
  by false = unread refl refl
