-- Names that are addresses in text (RFC 1123 2.1, RFC 4291 2.2).
use Rattle.std.specs.Prelude.{ℕ, ◌≡◌, List, [], ◌∷◌, slice_index, Option, Some, None}
use Rattle.std.specs.Net.Addr.{ipv4_octets, ipv6_segments}
use Rattle.std.specs.Net.Grammar.{IsIpText}
use Rattle.std.specs.declared.net.ip_addr.IpAddr.{IpAddr}
use Rattle.std.specs.declared.net.ip_addr.IpAddr.TheVariants as text
use Rattle.ip_address.specs.Ipv4 as ipv4
use Rattle.ip_address.specs.Ipv6 as ipv6
use Rattle.ip_address.specs.declared.ip.IpAddress.{IpAddress}
use Rattle.ip_address.specs.declared.ip.IpAddress.TheVariants.{Ipv4, Ipv6}
use Rattle.dns_client.specs.declared.message.DnsType.{DnsType}
use Rattle.dns_client.specs.declared.message.DnsType.TheVariants as type
use Rattle.dns_client.specs.declared.query.DnsFailure.TheVariants.{NoAddress}
use Rattle.dns_client.specs.declared.query.DnsResult.{DnsResult}
use Rattle.dns_client.specs.declared.query.DnsResult.TheVariants.{Addresses, Failed}
use Rattle.dns_client.specs.DnsResolver.Resolver.{after_answer}
use Rattle.iface_dns.specs.Dns.{with_resolver}
use Rattle.iface_dns.specs.declared.dns.Dns.{Dns}

-- the address of these octets, or of these groups
abbrev pub ipv4_by : List ℕ → IpAddress
ipv4_by o = Ipv4 (ipv4.address_of (slice_index o 0) (slice_index o 1) (slice_index o 2) (slice_index o 3))

abbrev pub ipv6_by : List ℕ → IpAddress
ipv6_by s = Ipv6 (ipv6.address_of (slice_index s 0) (slice_index s 1) (slice_index s 2) (slice_index s 3) (slice_index s 4)
    (slice_index s 5) (slice_index s 6) (slice_index s 7))

-- one address alone
abbrev pub one : IpAddress → DnsResult
one a = Addresses (Some a ∷ None ∷ None ∷ None ∷ [])

-- an address is its own, for a query of its type
abbrev pub told : DnsType → IpAddr → DnsResult
told type.A (text.V4 a) = one (ipv4_by (ipv4_octets a))
told type.A (text.V6 a) = Failed NoAddress
told type.Aaaa (text.V4 a) = Failed NoAddress
told type.Aaaa (text.V6 a) = one (ipv6_by (ipv6_segments a))

-- a query of a text that is an address has this at once, and one of another text goes on
pub data AnswersText (name : List ℕ) (t : DnsType) (place : ℕ) (d d' : Dns) : Type 0 where
  IsAddress : (a : IpAddr) → IsIpText name a → d' ≡ with_resolver (after_answer place (told t a) d.resolver) d →
      AnswersText name t place d d'
  IsName : ((a : IpAddr) → IsIpText name a → ⊥) → d' ≡ d → AnswersText name t place d d'
