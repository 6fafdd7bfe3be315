-- Places and datagrams, one after another, over plain variables.
use Rattle.std.proofs.Common.{◌≡◌, ◌<◌, ◌≤◌, ◌+◌, ◌-◌, ℕ, zero, suc, arith, refl, sym, subst, List, Some}
use Rattle.sockets.specs.declared.endpoint.IpEndpoint.{IpEndpoint}
use Rattle.dns_client.specs.DnsResolver.Places.{Queries}
use Rattle.dns_client.specs.Details.Datagrams.{after_receiving}
use Rattle.dns_client.specs.DnsResolver.Resolver.{after_failure}
use Rattle.ip_address.specs.declared.ip.IpAddress.{IpAddress}
use Rattle.iface_host.specs.declared.host.IfaceHost.{IfaceHost}
use Rattle.iface_dns.specs.Dns as dns
use Rattle.iface_dns.specs.Dns.{ClosesAt, ClosesFrom}
use Rattle.iface_dns.specs.Errors as errors
use Rattle.iface_dns.specs.Errors.{TakesError, TakesErrors}
use Rattle.iface_dns.specs.Hear as hear
use Rattle.iface_dns.specs.Hear.{Hears, HearsAll, failed, handed}
use Rattle.iface_dns.specs.Poll as poll
use Rattle.iface_dns.specs.Poll.{PollsAt, PollsFrom}
use Rattle.iface_dns.specs.declared.dns.Dns.{Dns}

-- one less is left
one_less : (count at : ℕ) → at < count → suc (count - (at + 1)) ≡ count - at
one_less count at lt = omega arith

none_left : (count at : ℕ) → count ≤ at → zero ≡ count - at
none_left count at le = omega arith

pub heard_one : (n port count at : ℕ) (r between r' : Queries) (old mid new : IfaceHost) → at < count → Hears n port r between old mid →
    HearsAll n port (count - (at + 1)) between r' mid new → HearsAll n port (count - at) r r' old new
heard_one n port count at r between r' old mid new lt first rest =
    subst (λ (k : ℕ). HearsAll n port k r r' old new) (one_less count at lt) (hear.OneMore first rest)

pub heard_all : (n port count at : ℕ) (r : Queries) (host : IfaceHost) → count ≤ at → HearsAll n port (count - at) r r host host
heard_all n port count at r host le = subst (λ (k : ℕ). HearsAll n port k r r host host) (none_left count at le) hear.NoMore

pub handed_one : (from : IpEndpoint) (port : ℕ) (octets : List ℕ) (count at : ℕ) (r : Queries) → at < count →
    handed from port octets (count - (at + 1)) (at + 1) (after_receiving (Some (from, octets)) at port r)
    ≡ handed from port octets (count - at) at r
unfolding handed
handed_one from port octets count at r lt =
    let next : handed from port octets (suc (count - (at + 1))) at r
    ≡ handed from port octets (count - (at + 1)) (at + 1) (after_receiving (Some (from, octets)) at port r) = refl in
    subst (λ (k : ℕ). handed from port octets (count - (at + 1)) (at + 1) (after_receiving (Some (from, octets)) at port r)
    ≡ handed from port octets k at r) (one_less count at lt) (sym next)

pub handed_all : (from : IpEndpoint) (port : ℕ) (octets : List ℕ) (count at : ℕ) (r : Queries) → count ≤ at →
    r ≡ handed from port octets (count - at) at r
unfolding handed
handed_all from port octets count at r le =
    subst (λ (k : ℕ). r ≡ handed from port octets k at r) (none_left count at le) refl

pub failed_one : (server : IpAddress) (count at : ℕ) (r : Queries) → at < count →
    failed server (count - (at + 1)) (at + 1) (after_failure at server r) ≡ failed server (count - at) at r
unfolding failed
failed_one server count at r lt =
    let next : failed server (suc (count - (at + 1))) at r ≡ failed server (count - (at + 1)) (at + 1) (after_failure at server r) = refl in
    subst (λ (k : ℕ). failed server (count - (at + 1)) (at + 1) (after_failure at server r) ≡ failed server k at r) (one_less count at lt)
    (sym next)

pub failed_all : (server : IpAddress) (count at : ℕ) (r : Queries) → count ≤ at → r ≡ failed server (count - at) at r
unfolding failed
failed_all server count at r le = subst (λ (k : ℕ). r ≡ failed server k at r) (none_left count at le) refl

pub polled_one : (now count at : ℕ) (d between d' : Dns) (old mid new : IfaceHost) → at < count → PollsAt now at d between old mid →
    PollsFrom now (count - (at + 1)) (at + 1) between d' mid new → PollsFrom now (count - at) at d d' old new
polled_one now count at d between d' old mid new lt first rest =
    subst (λ (k : ℕ). PollsFrom now k at d d' old new) (one_less count at lt) (poll.OneMore first rest)

pub polled_all : (now count at : ℕ) (d : Dns) (host : IfaceHost) → count ≤ at → PollsFrom now (count - at) at d d host host
polled_all now count at d host le = subst (λ (k : ℕ). PollsFrom now k at d d host host) (none_left count at le) poll.NoMore

pub closed_one : (count at : ℕ) (d between d' : Dns) (old mid new : IfaceHost) → at < count → ClosesAt at d between old mid →
    ClosesFrom (count - (at + 1)) (at + 1) between d' mid new → ClosesFrom (count - at) at d d' old new
closed_one count at d between d' old mid new lt first rest =
    subst (λ (k : ℕ). ClosesFrom k at d d' old new) (one_less count at lt) (dns.OneMore first rest)

pub closed_all : (count at : ℕ) (d : Dns) (host : IfaceHost) → count ≤ at → ClosesFrom (count - at) at d d host host
closed_all count at d host le = subst (λ (k : ℕ). ClosesFrom k at d d host host) (none_left count at le) dns.NoMore

pub took_one : (port place count at : ℕ) (r between r' : Queries) (old mid new : IfaceHost) → at < count → TakesError port place r between old mid →
    TakesErrors port place (count - (at + 1)) between r' mid new → TakesErrors port place (count - at) r r' old new
took_one port place count at r between r' old mid new lt first rest =
    subst (λ (k : ℕ). TakesErrors port place k r r' old new) (one_less count at lt) (errors.OneMore first rest)

pub took_all : (port place count at : ℕ) (r : Queries) (host : IfaceHost) → count ≤ at → TakesErrors port place (count - at) r r host host
took_all port place count at r host le = subst (λ (k : ℕ). TakesErrors port place k r r host host) (none_left count at le) errors.NoMore
