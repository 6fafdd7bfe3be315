-- The state of a client (RFC 2131 4.4), and when it does something. Instants are in microseconds.
use Rattle.std.specs.Prelude.{ℕ, ◌&&◌, nat_le, min, max, Bool, true, false, Option, Some, None, if◌then◌else◌}
use Rattle.ip_address.specs.declared.ipv4.Ipv4Address.{Ipv4Address}
use Rattle.ip_address.specs.declared.ethernet_address.EthernetAddress.{EthernetAddress}
use Rattle.dhcp_client.specs.declared.client.DhcpClient.{DhcpClient}
use Rattle.dhcp_client.specs.declared.client.DhcpPhase.{DhcpPhase}
use Rattle.dhcp_client.specs.declared.client.DhcpPhase.TheVariants.{Discovering, Requesting, Rebooting, Bound}
use Rattle.dhcp_client.specs.declared.lease.DhcpEvent.{DhcpEvent}
use Rattle.dhcp_client.specs.declared.lease.DhcpEvent.TheVariants.{Configured, Deconfigured}
use Rattle.dhcp_client.specs.declared.lease.DhcpLease.{DhcpLease}
use Rattle.dhcp_client.specs.declared.lease.LeaseTimes.{LeaseTimes}
use Rattle.dhcp_client.specs.Lease.{has_ended}

-- with an address that it had before a client asks for that one first (RFC 2131 3.2)
abbrev pub first_phase : Option Ipv4Address → DhcpPhase
first_phase None = Discovering
first_phase (Some address) = Rebooting address

abbrev pub new_client : EthernetAddress → Option Ipv4Address → DhcpClient
new_client hardware_addr known = record {
  hardware_addr = hardware_addr;
  phase = first_phase known;
  transaction_id = 0;
  asked = None;
  tries = 0;
  next_at = 0;
  discover_after = 0;
  request_after = 0;
  declined = 0;
  has_changed = false;
}

abbrev pub lease_in : DhcpPhase → Option DhcpLease
lease_in Discovering = None
lease_in (Requesting address server) = None
lease_in (Rebooting address) = None
lease_in (Bound lease) = Some lease

abbrev pub lease : DhcpClient → Option DhcpLease
lease c = lease_in c.phase

-- what the owner is told: what there is now
abbrev pub event_of : Option DhcpLease → DhcpEvent
event_of None = Deconfigured
event_of (Some lease) = Configured lease

abbrev pub event : DhcpClient → Option DhcpEvent
event c = if c.has_changed then Some (event_of (lease c)) else None

abbrev pub after_telling : DhcpClient → DhcpClient
after_telling c = record c { has_changed = false }

abbrev pub has_changed_by : Option DhcpLease → Bool → Bool
has_changed_by None before = before
has_changed_by (Some lease) before = true

-- the client begins a phase, without a lease; the distance to what was sent before stays
abbrev pub beginning : DhcpPhase → DhcpClient → DhcpClient
beginning phase c = record c {
  phase = phase;
  asked = None;
  tries = 0;
  next_at = 0;
  has_changed = has_changed_by (lease c) c.has_changed;
}

-- it asks for offers again
abbrev pub after_restart : DhcpClient → DhcpClient
after_restart c = beginning Discovering c

-- the address that it has, or asks for as one that it had
abbrev pub address_in : DhcpPhase → Option Ipv4Address
address_in Discovering = None
address_in (Requesting address server) = None
address_in (Rebooting address) = Some address
address_in (Bound lease) = Some lease.address

-- after a link came up again it asks for that address first, which another server may refuse (RFC 2131 3.2, 4.3.2)
abbrev pub after_reset : DhcpClient → DhcpClient
after_reset c = beginning (first_phase (address_in c.phase)) c

-- a request is sent four times, after 4, 8 and 16 seconds, and its last answer is waited for during 32: a minute in all (RFC 2131
-- 3.1 (5), 4.1)
abbrev pub is_exhausted : ℕ → DhcpClient → Bool
is_exhausted now c = nat_le 4 c.tries && nat_le c.next_at now

-- the lease has ended, or a request wasn't answered
abbrev pub must_give_up_in : DhcpPhase → ℕ → DhcpClient → Bool
must_give_up_in Discovering now c = false
must_give_up_in (Requesting address server) now c = is_exhausted now c
must_give_up_in (Rebooting address) now c = is_exhausted now c
must_give_up_in (Bound lease) now c = has_ended now lease

abbrev pub must_give_up : ℕ → DhcpClient → Bool
must_give_up now c = must_give_up_in c.phase now c

abbrev pub after_giving_up : ℕ → DhcpClient → DhcpClient
after_giving_up now c = if must_give_up now c then after_restart c else c

-- when the phase's message is sent next; never, for a lease without end
abbrev pub if_ending : Option LeaseTimes → ℕ → Option ℕ
if_ending None at = None
if_ending (Some times) at = Some at

abbrev pub send_in : DhcpPhase → DhcpClient → Option ℕ
send_in Discovering c = Some (max c.next_at c.discover_after)
send_in (Requesting address server) c = Some (max c.next_at c.request_after)
send_in (Rebooting address) c = Some (max c.next_at c.request_after)
send_in (Bound lease) c = if_ending lease.times (max c.next_at c.request_after)

abbrev pub send_at : DhcpClient → Option ℕ
send_at c = send_in c.phase c

abbrev pub has_come : ℕ → Option ℕ → Bool
has_come now None = false
has_come now (Some at) = nat_le at now

abbrev pub is_to_send : ℕ → DhcpClient → Bool
is_to_send now c = has_come now (send_at c)

-- when something is due: the message, the end of the lease, or the end of the patience for an answer
abbrev pub ends_or : Option LeaseTimes → ℕ → Option ℕ
ends_or None at = None
ends_or (Some times) at = Some (min times.expires_at at)

abbrev pub request_due : DhcpClient → ℕ
request_due c = if nat_le 4 c.tries then c.next_at else max c.next_at c.request_after

abbrev pub due_in : DhcpPhase → DhcpClient → Option ℕ
due_in Discovering c = Some (max c.next_at c.discover_after)
due_in (Requesting address server) c = Some (request_due c)
due_in (Rebooting address) c = Some (request_due c)
due_in (Bound lease) c = ends_or lease.times (max c.next_at c.request_after)

abbrev pub due_at : DhcpClient → Option ℕ
due_at c = due_in c.phase c

-- the same, as far as there are instants
abbrev pub as_instant : Option ℕ → Option ℕ
as_instant None = None
as_instant (Some at) = Some (min at 0xffff_ffff_ffff_ffff)

abbrev pub poll_at : DhcpClient → Option ℕ
poll_at c = as_instant (due_at c)
