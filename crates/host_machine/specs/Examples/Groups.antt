-- Worked examples of groups, computed from the definitions: the reports of a join and of a leave, octet by octet; when
-- groups are reported in answer to a query; and what happens without a transmit token.
use Rattle.std.specs.Prelude.{◌≡◌, ℕ, pos, true, false, List, [], ◌∷◌, ◌++◌}
use Rattle.std.proofs.Common.{lit≤}
use Rattle.net_base.specs.Device.{Asked, Sent}
use Rattle.ip_address.specs.declared.cidr.IpCidr.{IpCidr}
use Rattle.ip_address.specs.declared.cidr.IpCidr.TheVariants as cidr
use Rattle.ip_address.specs.declared.hardware.HardwareAddress.TheVariants as hardware
use Rattle.ip_address.specs.declared.ip.IpAddress.{IpAddress}
use Rattle.ip_address.specs.declared.ip.IpAddress.TheVariants.{Ipv4, Ipv6}
use Rattle.control_wire.specs.declared.igmp.IgmpVersion.TheVariants.{Version1, Version2}
use Rattle.iface_tables.specs.declared.groups.Group.{Group}
use Rattle.iface_tables.specs.declared.groups.GroupState.{GroupState}
use Rattle.iface_tables.specs.declared.groups.GroupState.TheVariants.{Joining, Joined, Leaving}
use Rattle.iface_tables.specs.declared.report.IgmpReportState.TheVariants as igmp
use Rattle.iface_tables.specs.declared.report.MldReportState.TheVariants as mld
use Rattle.host_machine.specs.Context.Host.{Host, with_groups, with_igmp_report, with_mld_report}
use Rattle.host_machine.specs.Interface.Egress.{Round}
use Rattle.host_machine.specs.Multicast.Joins.{JoinsEgress, LeavesEgress}
use Rattle.host_machine.specs.Context.Membership.{groups_for}
use Rattle.host_machine.specs.Multicast.Igmp.{igmp_report_for}
use Rattle.host_machine.specs.Examples.ArpAndEcho as example

-- 239.1.2.3, and ff02::1:ff00:1
abbrev pub group : IpAddress
group = Ipv4 (record { bits = 0xef010203 })

abbrev pub group_v6 : IpAddress
group_v6 = Ipv6 (record { bits = 0xff02_0000_0000_0000_0000_0001_ff00_0001 })

-- one group
abbrev pub in_state : IpAddress → GroupState → List Group
in_state a state = record { addr = a; state = state } ∷ []

-- the host of 192.168.69.1/24, and that of fe80::1/64
abbrev pub host : ℕ → List Group → Host
host ipv4_id groups = with_groups (example.host ipv4_id (example.no_neighbors (pos 0))) groups

abbrev pub host_v6 : ℕ → List Group → Host
host_v6 ipv4_id groups = record (host ipv4_id groups) {
  ip_addrs = cidr.Ipv6 (record {
    address = record { bits = 0xfe80_0000_0000_0000_0000_0000_0000_0001 };
    prefix_len = 64;
    in_range = lit≤ tt;
  }) ∷ [];
}

-- 192.168.69.1 is in 239.1.2.3
abbrev pub report : List ℕ
report =
    0x01 ∷ 0 ∷ 0x5e ∷ 0x01 ∷ 0x02 ∷ 0x03 ∷ 0x02 ∷ 0 ∷ 0 ∷ 0 ∷ 0 ∷ 0x01 ∷ 0x08 ∷ 0
    ∷ 0x45 ∷ 0 ∷ 0 ∷ 0x1c ∷ 0 ∷ 0 ∷ 0x40 ∷ 0 ∷ 0x01 ∷ 0x02 ∷ 0x83 ∷ 0x32 ∷ 192 ∷ 168 ∷ 69 ∷ 1 ∷ 239 ∷ 1 ∷ 2 ∷ 3
    ∷ 0x16 ∷ 0 ∷ 0xf8 ∷ 0xfa ∷ 239 ∷ 1 ∷ 2 ∷ 3 ∷ []

-- it has left 239.1.2.3
abbrev pub leave : List ℕ
leave =
    0x01 ∷ 0 ∷ 0x5e ∷ 0 ∷ 0 ∷ 0x02 ∷ 0x02 ∷ 0 ∷ 0 ∷ 0 ∷ 0 ∷ 0x01 ∷ 0x08 ∷ 0
    ∷ 0x45 ∷ 0 ∷ 0 ∷ 0x1c ∷ 0 ∷ 0 ∷ 0x40 ∷ 0 ∷ 0x01 ∷ 0x02 ∷ 0x94 ∷ 0x34 ∷ 192 ∷ 168 ∷ 69 ∷ 1 ∷ 224 ∷ 0 ∷ 0 ∷ 2
    ∷ 0x17 ∷ 0 ∷ 0xf7 ∷ 0xfa ∷ 239 ∷ 1 ∷ 2 ∷ 3 ∷ []

-- fe80::1 is in ff02::1:ff00:1
abbrev pub report_v6 : List ℕ
report_v6 =
    0x33 ∷ 0x33 ∷ 0 ∷ 0 ∷ 0 ∷ 0x16 ∷ 0x02 ∷ 0 ∷ 0 ∷ 0 ∷ 0 ∷ 0x01 ∷ 0x86 ∷ 0xdd
    ∷ 0x60 ∷ 0 ∷ 0 ∷ 0 ∷ 0 ∷ 0x24 ∷ 0 ∷ 0x01
    ∷ 0xfe ∷ 0x80 ∷ 0 ∷ 0 ∷ 0 ∷ 0 ∷ 0 ∷ 0 ∷ 0 ∷ 0 ∷ 0 ∷ 0 ∷ 0 ∷ 0 ∷ 0 ∷ 0x01
    ∷ 0xff ∷ 0x02 ∷ 0 ∷ 0 ∷ 0 ∷ 0 ∷ 0 ∷ 0 ∷ 0 ∷ 0 ∷ 0 ∷ 0 ∷ 0 ∷ 0 ∷ 0 ∷ 0x16
    ∷ 0x3a ∷ 0 ∷ 0x05 ∷ 0x02 ∷ 0 ∷ 0 ∷ 0x01 ∷ 0
    ∷ 0x8f ∷ 0 ∷ 0x71 ∷ 0x07 ∷ 0 ∷ 0 ∷ 0 ∷ 0x01
    ∷ 0x04 ∷ 0 ∷ 0 ∷ 0 ∷ 0xff ∷ 0x02 ∷ 0 ∷ 0 ∷ 0 ∷ 0 ∷ 0 ∷ 0 ∷ 0 ∷ 0 ∷ 0 ∷ 0x01 ∷ 0xff ∷ 0 ∷ 0 ∷ 0x01 ∷ []

-- a join is reported
pub record JoinsAreReported : Type 0 where
  pub ipv4 : JoinsEgress (host 0x1405 (in_state group Joining)) (Asked (pos 0) true ∷ Sent 0 report ∷ [])
      (example.identify ∷ []) (host 0x1406 (in_state group Joined))
  pub ipv6 : JoinsEgress (host_v6 0x1405 (in_state group_v6 Joining))
      (Asked (pos 0) true ∷ Sent 0 report_v6 ∷ []) (example.identify ∷ [])
      (host_v6 0x1406 (in_state group_v6 Joined))

-- a leave is reported, too, and the group is removed
abbrev pub LeaveIsReported : Type 0
LeaveIsReported = LeavesEgress (host 0x1405 (in_state group Leaving)) (Asked (pos 0) true ∷ Sent 0 leave ∷ [])
    (example.identify ∷ []) (host 0x1406 [])

-- three groups, and a general query with a response time of ten seconds: they are reported two and a half seconds
-- apart; for a query of version 1 a tenth of a second. A query for one group is answered after a quarter of the time
abbrev pub three : List Group
three =
    record { addr = group; state = Joined } ∷ record { addr = Ipv4 (record { bits = 0xef010204 }); state = Joined }
    ∷ record { addr = Ipv4 (record { bits = 0xef010205 }); state = Leaving } ∷ []

pub record QueriesAreAnswered : Type 0 where
  pub all : igmp_report_for (host 0x1405 three) (record { bits = 0xe0000001 }) 100 (record { bits = 0 })
      ≡ igmp.ToGeneralQuery Version2 (pos 2500000) 2500000 0
  pub version_one : igmp_report_for (host 0x1405 three) (record { bits = 0xe0000001 }) 0 (record { bits = 0 })
      ≡ igmp.ToGeneralQuery Version1 (pos 100000) 100000 0
  pub one : igmp_report_for (host 0x1405 three) (record { bits = 0xef010203 }) 100 (record { bits = 0xef010203 })
      ≡ igmp.ToSpecificQuery Version2 (pos 2500000) (record { bits = 0xef010203 })
  pub of_another : igmp_report_for (host 0x1405 three) (record { bits = 0xef010205 }) 100 (record { bits = 0xef010205 })
      ≡ igmp.Inactive
  pub without_groups : igmp_report_for (host 0x1405 []) (record { bits = 0xe0000001 }) 100 (record { bits = 0 })
      ≡ igmp.Inactive

-- with another address the group of the old one is left, and that of the new one joined; that of ::1 is left and joined
-- again, so that nothing is reported of it; and on a medium without hardware addresses there is none
abbrev pub network : ℕ → IpCidr
network bits = cidr.Ipv6 (record { address = record { bits = bits }; prefix_len = 64; in_range = lit≤ tt })

pub record GroupsFollowAddresses : Type 0 where
  pub moved : groups_for (host 0x1405 []).hardware_addr
      (network 0xfe80_0000_0000_0000_0000_0000_0000_0002 ∷ []) 8 (in_state group_v6 Joined)
      ≡ record { addr = group_v6; state = Leaving }
      ∷ in_state (Ipv6 (record { bits = 0xff02_0000_0000_0000_0000_0001_ff00_0002 })) Joining
  pub loopback : groups_for (host 0x1405 []).hardware_addr (network 1 ∷ []) 8 (in_state group_v6 Joined)
      ≡ in_state group_v6 Joined
  pub without_hardware : groups_for hardware.Ip (network 0xfe80_0000_0000_0000_0000_0000_0000_0002 ∷ []) 8 [] ≡ []

-- a host that has to solicit routers, to report a join and a leave, and has reports of both families due
abbrev pub busy_host : Host
busy_host = record (with_mld_report (with_igmp_report (host 0x1405 (record {
  addr = Ipv4 (record { bits = 0xef010204 });
  state = Joining;
} ∷ in_state group Leaving))
    (igmp.ToSpecificQuery Version2 (pos 0) (record { bits = 0xef010204 }))) (mld.ToGeneralQuery (pos 0))) {
      ip_addrs = (host 0x1405 []).ip_addrs ++ (host_v6 0x1405 []).ip_addrs;
      slaac_enabled = true;
    }

-- without transmit tokens, each part asks for its own: the solicitation, the join, the leave and the IGMP report stay
-- pending, and the MLD report is dropped
abbrev pub EachPartAsksForAToken : Type 0
EachPartAsksForAToken =
    Round false busy_host (Asked (pos 0) false ∷ Asked (pos 0) false ∷ Asked (pos 0) false ∷ Asked (pos 0) false
    ∷ Asked (pos 0) false ∷ []) [] (with_mld_report busy_host mld.Inactive)
