-- What a client sends (RFC 2131 4.1, 4.4, table 5).
use Rattle.std.specs.Prelude.{ℕ, ◌+◌, ◌-◌, ◌*◌, ◌/◌, ◌%◌, ◌==◌, nat_le, min, max, Bool, true, false, Option, Some, None, if◌then◌else◌}
use Rattle.ip_address.specs.declared.ipv4.Ipv4Address.{Ipv4Address}
use Rattle.dhcp_client.specs.declared.message.DhcpRepr.{DhcpRepr}
use Rattle.dhcp_client.specs.declared.message.DhcpMessageType.{DhcpMessageType}
use Rattle.dhcp_client.specs.declared.message.DhcpMessageType.TheVariants.{Discover, Request}
use Rattle.dhcp_client.specs.declared.options.DhcpOptions.{DhcpOptions}
use Rattle.dhcp_client.specs.Options.{no_options}
use Rattle.dhcp_client.specs.declared.client.DhcpClient.{DhcpClient}
use Rattle.dhcp_client.specs.declared.client.DhcpPhase.{DhcpPhase}
use Rattle.dhcp_client.specs.declared.client.DhcpPhase.TheVariants.{Discovering, Requesting, Rebooting, Bound}
use Rattle.dhcp_client.specs.declared.lease.DhcpLease.{DhcpLease}
use Rattle.dhcp_client.specs.declared.lease.LeaseTimes.{LeaseTimes}
use Rattle.dhcp_client.specs.declared.messages.DhcpMessage.{DhcpMessage}
use Rattle.dhcp_client.specs.Client.{after_giving_up, is_to_send}

abbrev pub unspecified : Ipv4Address
unspecified = record { bits = 0 }

abbrev pub everybody : Ipv4Address
everybody = record { bits = 0xffff_ffff }

-- each has the client's identifier, and how long a message may be: 1,472 octets
abbrev pub options : Option Ipv4Address → Option Ipv4Address → DhcpClient → DhcpOptions
options requested_ip server c = record no_options {
  requested_ip = requested_ip;
  server_identifier = server;
  max_size = Some 1472;
  client_identifier = Some c.hardware_addr;
}

abbrev pub repr : DhcpMessageType → Bool → Ipv4Address → DhcpOptions → DhcpClient → DhcpRepr
repr type broadcast client_ip options c = record {
  message_type = type;
  transaction_id = c.transaction_id;
  secs = 0;
  broadcast = broadcast;
  client_ip = client_ip;
  your_ip = unspecified;
  server_ip = unspecified;
  relay_agent_ip = unspecified;
  client_hardware_address = c.hardware_addr;
  options = options;
}

-- a client without an address asks all servers, which are to broadcast the answer
abbrev pub broadcast : DhcpMessageType → Option Ipv4Address → Option Ipv4Address → DhcpClient → DhcpMessage
broadcast type requested_ip server c =
    record { repr = repr type true unspecified (options requested_ip server c) c; dst = everybody }

-- for a lease that it has, it asks by its address: its server, or all of them
abbrev pub renewal : Bool → DhcpLease → DhcpClient → DhcpMessage
renewal is_rebinding lease c = record {
  repr = repr Request false lease.address (options None None c) c;
  dst = if is_rebinding then everybody else lease.server;
}

abbrev pub are_rebinding : ℕ → Option LeaseTimes → Bool
are_rebinding now None = false
are_rebinding now (Some times) = nat_le times.rebind_at now

abbrev pub is_rebinding : ℕ → DhcpLease → Bool
is_rebinding now lease = are_rebinding now lease.times

-- the phase's message
abbrev pub message_in : DhcpPhase → ℕ → DhcpClient → DhcpMessage
message_in Discovering now c = broadcast Discover None None c
message_in (Requesting address server) now c = broadcast Request (Some address) (Some server) c
message_in (Rebooting address) now c = broadcast Request (Some address) None c
message_in (Bound lease) now c = renewal (is_rebinding now lease) lease c

abbrev pub message : ℕ → DhcpClient → DhcpMessage
message now c = message_in c.phase now c

-- the message has a number of its own, unless it is sent again, or asks for what was offered
abbrev pub begins_in : DhcpPhase → DhcpClient → Bool
begins_in Discovering c = c.tries == 0
begins_in (Requesting address server) c = false
begins_in (Rebooting address) c = c.tries == 0
begins_in (Bound lease) c = true

abbrev pub begins_exchange : DhcpClient → Bool
begins_exchange c = begins_in c.phase c

abbrev pub numbered : ℕ → DhcpClient → DhcpClient
numbered random c = record c { transaction_id = if begins_exchange c then random else c.transaction_id }

-- whom it asks: a server, or any
abbrev pub asked_server : ℕ → DhcpPhase → Option Ipv4Address
asked_server now Discovering = None
asked_server now (Requesting address server) = Some server
asked_server now (Rebooting address) = None
asked_server now (Bound lease) = if is_rebinding now lease then None else Some lease.server

-- 4 seconds at first, then twice as long each time up to 64; less a second, and a random part of two seconds (RFC 2131 4.1)
abbrev pub seconds : ℕ → ℕ
seconds tries = if tries == 0 then 4 else if tries == 1 then 8 else if tries == 2 then 16 else if tries == 3 then 32 else 64

abbrev pub delay : ℕ → ℕ → ℕ
delay random tries = seconds tries * 1000000 - 1000000 + random % 2000001

-- half of the time that is left, but a minute at least (RFC 2131 4.4.5)
abbrev pub half_until : ℕ → ℕ → ℕ
half_until now end = max ((end - now) / 2) 60000000

abbrev pub next_renewal : ℕ → LeaseTimes → ℕ
next_renewal now times = if nat_le times.rebind_at now
    then now + half_until now times.expires_at
    else min times.rebind_at (now + half_until now times.rebind_at)

abbrev pub renewal_after : ℕ → Option LeaseTimes → ℕ
renewal_after now None = now
renewal_after now (Some times) = next_renewal now times

-- when it is sent again
abbrev pub next_at : ℕ → ℕ → ℕ → DhcpPhase → ℕ
next_at now random tries Discovering = now + delay random tries
next_at now random tries (Requesting address server) = now + delay random tries
next_at now random tries (Rebooting address) = now + delay random tries
next_at now random tries (Bound lease) = renewal_after now lease.times

abbrev pub is_discover : DhcpPhase → Bool
is_discover Discovering = true
is_discover (Requesting address server) = false
is_discover (Rebooting address) = false
is_discover (Bound lease) = false

-- a message of a kind isn't sent again for three seconds
abbrev pub after_sending : ℕ → ℕ → DhcpClient → DhcpClient
after_sending now random c = record c {
  asked = Some (record { at = now; server = asked_server now c.phase });
  next_at = next_at now random c.tries c.phase;
  tries = min 255 (c.tries + 1);
  discover_after = if is_discover c.phase then now + 3000000 else c.discover_after;
  request_after = if is_discover c.phase then c.request_after else now + 3000000;
}

-- first what has ended is given up, then the phase's message is sent, if it is time
abbrev pub message_at : ℕ → ℕ → DhcpClient → Option DhcpMessage
message_at now random c = if is_to_send now (after_giving_up now c)
    then Some (message now (numbered random (after_giving_up now c))) else None

abbrev pub after_asking : ℕ → ℕ → DhcpClient → DhcpClient
after_asking now random c = if is_to_send now (after_giving_up now c)
    then after_sending now random (numbered random (after_giving_up now c)) else after_giving_up now c
