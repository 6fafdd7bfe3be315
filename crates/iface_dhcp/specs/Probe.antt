-- How the address of a lease is tested before it is used, and announced (RFC 2131 4.4.1, RFC 5227 2.1.1, 2.3); and how a lease is given
-- back.
use Rattle.std.specs.Prelude.{ℕ, ◌≡◌, ◌&&◌, ◌||◌, not, is_some, Bool, true, false, Option, Some, None, if◌then◌else◌}
use Rattle.net_base.specs.Rand.{next}
use Rattle.ip_address.specs.declared.ipv4.Ipv4Address.{Ipv4Address}
use Rattle.dhcp_client.specs.Client as client
use Rattle.dhcp_client.specs.Probing.{after_request, announced_again, begun, is_tested, sender_at}
use Rattle.dhcp_client.specs.Returns.{after_decline, after_release, decline_at, release_at}
use Rattle.dhcp_client.specs.declared.client.DhcpClient.{DhcpClient}
use Rattle.dhcp_client.specs.declared.lease.DhcpLease.{DhcpLease}
use Rattle.dhcp_client.specs.declared.messages.DhcpMessage.{DhcpMessage}
use Rattle.dhcp_client.specs.declared.probing.Probing.{Probing}
use Rattle.iface_host.specs.Claims.{SendsRequest, watching_anew, watching_if}
use Rattle.iface_host.specs.declared.claims.Watched.{Watched}
use Rattle.iface_host.specs.declared.host.IfaceHost.{IfaceHost}
use Rattle.iface_host.specs.declared.refusal.Refusal.{Refusal}
use Rattle.iface_host.specs.declared.refusal.Refusal.TheVariants.{Empty}
use Rattle.iface_dhcp.specs.declared.dhcp.Dhcp.{Dhcp}
use Rattle.iface_dhcp.specs.Dhcp.{is_in_test, word}
use Rattle.iface_dhcp.specs.Apply.{is_same_router}
use Rattle.iface_dhcp.specs.Send.{Sends}

-- a message, if there is one, is queued
abbrev pub SendsIf : Option DhcpMessage → Dhcp → Dhcp → IfaceHost → IfaceHost → Type 0
SendsIf None d d' old new = (d' ≡ d) × (new ≡ old)
SendsIf (Some m) d d' old new = Sends m d d' old new

abbrev pub with_probing : Option Probing → Dhcp → Dhcp
with_probing p d = record d { probing = p }

-- with another client, for which a random number was drawn
abbrev pub drawn_for : DhcpClient → Dhcp → Dhcp
drawn_for c d = record d { client = c; random = next d.random }

-- What was seen of the address since the last poll.

abbrev pub is_seen : Option Watched → Bool
is_seen None = false
is_seen (Some w) = w.is_used || w.is_probed

abbrev pub is_probed : Option Watched → Bool
is_probed None = false
is_probed (Some w) = w.is_probed

-- until the address is in use, another host that uses it or probes for it has it
abbrev pub is_conflict : Probing → Option Watched → Bool
is_conflict p w = not (is_tested p) && is_seen w

-- then the lease is declined; else a probe of another host is answered by an announcement
abbrev pub Declines : ℕ → Dhcp → Dhcp → IfaceHost → IfaceHost → Type 0
Declines now d = SendsIf (decline_at (word d) d.client) (drawn_for (after_decline now (word d) d.client) d)

abbrev pub again_if : Bool → Probing → Probing
again_if true p = announced_again p
again_if false p = p

abbrev pub Judges : Bool → ℕ → Probing → Option Watched → Dhcp → Dhcp → IfaceHost → IfaceHost → Type 0
Judges true now p w d d' old new = Declines now d d' old new
Judges false now p w d d' old new = (d' ≡ with_probing (Some (again_if (is_probed w) p)) d) × (new ≡ old)

abbrev pub seen_anew : IfaceHost → IfaceHost
seen_anew host = record host { watched = watching_anew host.watched }

abbrev pub JudgesOf : Option Probing → ℕ → Dhcp → Dhcp → IfaceHost → IfaceHost → Type 0
JudgesOf None now d d' old new = (d' ≡ d) × (new ≡ old)
JudgesOf (Some p) now d d' old new = Judges (is_conflict p old.watched) now p old.watched d d' (seen_anew old) new

-- The address that is to be tested is that of the client's lease, unless that is switched off.

abbrev pub address_of : Option DhcpLease → Option Ipv4Address
address_of None = None
address_of (Some l) = Some l.address

abbrev pub address_to_test : Dhcp → Option Ipv4Address
address_to_test d = if d.probes then address_of (client.lease d.client) else None

abbrev pub address_in_test : Option Probing → Option Ipv4Address
address_in_test None = None
address_in_test (Some p) = Some p.address

abbrev pub is_followed : Dhcp → Bool
is_followed d = is_same_router (address_in_test d.probing) (address_to_test d)

-- a test of another one begins, and the host watches it; or of none
abbrev pub beginning : Option Ipv4Address → ℕ → Dhcp → Dhcp
beginning None now d = record d { probing = None }
beginning (Some a) now d = record d { probing = Some (begun a now (word d)); random = next d.random }

abbrev pub Follows : Bool → ℕ → Dhcp → Dhcp → IfaceHost → IfaceHost → Type 0
Follows true now d d' old new = (d' ≡ d) × (new ≡ old)
Follows false now d d' old new =
    (d' ≡ beginning (address_to_test d) now d) × (new ≡ record old { watched = watching_if (address_to_test d) })

-- The request that is due is sent, or lost for want of memory.

pub data Requests (sender target : Ipv4Address) (why : Option Refusal) (old new : IfaceHost) : Type 0 where
  Requested : why ≡ None → SendsRequest sender target old new → Requests sender target why old new
  NotRequested : (refusal : Refusal) → why ≡ Some refusal → new ≡ old → Requests sender target why old new

pub record AsksFrom (sender : Ipv4Address) (p : Probing) (now : ℕ) (d d' : Dhcp) (old new : IfaceHost) : Type 0 where
  pub why : Option Refusal
  pub requests : Requests sender p.address why old new
  pub after : d' ≡ record d { random = next d.random; probing = Some (after_request now (word d) p); lost = why }

abbrev pub AsksIf : Option Ipv4Address → Probing → ℕ → Dhcp → Dhcp → IfaceHost → IfaceHost → Type 0
AsksIf None p now d d' old new = (d' ≡ d) × (new ≡ old)
AsksIf (Some sender) p now d d' old new = AsksFrom sender p now d d' old new

abbrev pub AsksOf : Option Probing → ℕ → Dhcp → Dhcp → IfaceHost → IfaceHost → Type 0
AsksOf None now d d' old new = (d' ≡ d) × (new ≡ old)
AsksOf (Some p) now d d' old new = AsksIf (sender_at now p) p now d d' old new

-- first what was seen counts, then another address is tested, and then what is due is sent
pub record Tests (now : ℕ) (d d' : Dhcp) (old new : IfaceHost) : Type 0 where
  pub judged : Dhcp
  pub begun : Dhcp
  pub after_judging : IfaceHost
  pub after_beginning : IfaceHost
  pub judges : JudgesOf d.probing now d judged old after_judging
  pub follows : Follows (is_followed judged) now judged begun after_judging after_beginning
  pub asks : AsksOf begun.probing now begun d' after_beginning new

-- without a lease nothing is released
abbrev pub release_refusal : Dhcp → Option Refusal
release_refusal d = if is_some (client.lease d.client) then None else Some Empty

abbrev pub Releases : Dhcp → Dhcp → IfaceHost → IfaceHost → Type 0
Releases d = SendsIf (release_at (word d) d.client) (drawn_for (after_release (word d) d.client) d)

-- the address of a lease is tested from the next poll on, or none is
abbrev pub with_probes : Bool → Dhcp → Dhcp
with_probes on d = record d { probes = on }
