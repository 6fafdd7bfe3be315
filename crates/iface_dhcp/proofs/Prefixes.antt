-- What a lease gives, whatever shows that its prefix is in range.
use Rattle.std.proofs.Common.{◌≡◌, ◌≤◌, ℕ, ap, subst}
use Rattle.std.proofs.Math.Bridge.{le_prop}
use Rattle.ip_address.specs.declared.cidr.Ipv4Cidr.{Ipv4Cidr}
use Rattle.dhcp_client.specs.declared.lease.DhcpLease.{DhcpLease}
use Rattle.dhcp_client.specs.declared.routes.DhcpRoute.{DhcpRoute}
use Rattle.iface_host.specs.declared.leased.Leased.{Leased}
use Rattle.iface_dhcp.specs.Apply.{leased_by, network_of, prefix_is_within, prefix_len_of, width_is_within, width_of}

abbrev pub leased_with : DhcpLease → (n : ℕ) → n ≤ 32 → Leased
leased_with l n p = record { network = record { address = l.address; prefix_len = n; in_range = p }; router = l.router }

abbrev pub network_with : DhcpRoute → (n : ℕ) → n ≤ 32 → Ipv4Cidr
network_with r n p = record { address = r.network; prefix_len = n; in_range = p }

pub network_same : (r : DhcpRoute) (n : ℕ) (p : n ≤ 32) → n ≡ width_of r → network_with r n p ≡ network_of r
network_same r n p is = subst (λ (m : ℕ). (q : m ≤ 32) → network_with r n p ≡ network_with r m q) is
    (λ q. ap (network_with r n) (le_prop p q)) (width_is_within r)

pub leased_same : (l : DhcpLease) (n : ℕ) (p : n ≤ 32) → n ≡ prefix_len_of l.subnet_mask → leased_with l n p ≡ leased_by l
leased_same l n p is = subst (λ (m : ℕ). (q : m ≤ 32) → leased_with l n p ≡ leased_with l m q) is
    (λ q. ap (leased_with l n) (le_prop p q)) (prefix_is_within l.subnet_mask)
