-- Queries for groups, over plain variables.
use Rattle.std.proofs.Common.{◌≡◌, ℕ, true, [], None, refl}
use Rattle.std.specs.Prelude.{pos, ◌+ℤ◌}
use Rattle.ip_address.specs.declared.ipv6.Ipv6Address.{Ipv6Address}
use Rattle.ip_wire.specs.declared.ipv6_packet.Ipv6Repr.{Ipv6Repr}
use Rattle.control_wire.specs.declared.mld.MldRepr.{MldRepr}
use Rattle.control_wire.specs.declared.mld.MldRepr.TheVariants.{Query}
use Rattle.host_machine.specs.Context.Host.{Host}
use Rattle.host_machine.specs.Multicast.Mld.{ProcessesMld, delay, random_after_draw, is_near, host_after_mld_query, mld_report_for}

-- a query of MLD is taken
pub mld_taken : (r : Ipv6Repr) (m : MldRepr) (code : ℕ) (group : Ipv6Address) (H K : Host) →
    m ≡ Query code group → K ≡ host_after_mld_query H r code group → ProcessesMld r m H None [] K
mld_taken r m code group H K is asked = rw is (refl, refl, asked)

-- it counts from near
pub from_near : (r : Ipv6Repr) (code : ℕ) (group : Ipv6Address) (H K : Host) → is_near r ≡ true →
    K
    ≡ record H { mld_report = mld_report_for H r.dst_addr (H.moment +ℤ pos (delay code H.random)) group; random = random_after_draw code H.random } →
    K ≡ host_after_mld_query H r code group
from_near r code group H K near is = rw near is
