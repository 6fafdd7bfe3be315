-- What a client makes of the messages that it receives (RFC 2131 4.4.1 to 4.4.5).
use Rattle.std.specs.Prelude.{ℕ, ◌==◌, ◌&&◌, Bool, true, false, is_some, Option, Some, None, if◌then◌else◌}
use Rattle.ip_address.specs.declared.ipv4.Ipv4Address.{Ipv4Address}
use Rattle.ip_address.specs.EthernetAddress.{is_same}
use Rattle.dhcp_client.specs.declared.message.DhcpRepr.{DhcpRepr}
use Rattle.dhcp_client.specs.declared.message.DhcpMessageType.{DhcpMessageType}
use Rattle.dhcp_client.specs.declared.message.DhcpMessageType.TheVariants.{Discover, Offer, Request, Decline, Ack, Nak, Release, Inform}
use Rattle.dhcp_client.specs.declared.client.Asked.{Asked}
use Rattle.dhcp_client.specs.declared.client.DhcpClient.{DhcpClient}
use Rattle.dhcp_client.specs.declared.client.DhcpPhase.TheVariants.{Requesting, Bound}
use Rattle.dhcp_client.specs.declared.lease.DhcpLease.{DhcpLease}
use Rattle.dhcp_client.specs.declared.lease.LeaseTimes.{LeaseTimes}
use Rattle.dhcp_client.specs.Client.{after_restart}
use Rattle.dhcp_client.specs.Lease.{is_usable, lease_of}
use Rattle.dhcp_client.specs.Messages.{is_discover}

-- a server answers what this one, or any, was asked
abbrev pub is_asked : Option Ipv4Address → Ipv4Address → Bool
is_asked None by = true
is_asked (Some server) by = server.bits == by.bits

abbrev pub is_by : Option Asked → Option Ipv4Address → Bool
is_by (Some asked) (Some by) = is_asked asked.server by
is_by _ _ = false

abbrev pub is_by_asked : DhcpRepr → DhcpClient → Bool
is_by_asked m c = is_by c.asked m.options.server_identifier

-- a message has the number of the exchange, the client's hardware address, and is by a server that was asked
abbrev pub is_answer : DhcpRepr → DhcpClient → Bool
is_answer m c = (m.transaction_id == c.transaction_id) && is_same m.client_hardware_address c.hardware_addr && is_by_asked m c

abbrev pub is_discovering : DhcpClient → Bool
is_discovering c = is_discover c.phase

-- an offer that can be used is taken, by a client that asks for offers
abbrev pub requesting : DhcpRepr → Option Ipv4Address → DhcpClient → DhcpClient
requesting m None c = c
requesting m (Some server) c = if is_usable m server
    then record c { phase = Requesting m.your_ip server; asked = None; tries = 0; next_at = 0 } else c

abbrev pub after_offer : DhcpRepr → DhcpClient → DhcpClient
after_offer m c = if is_discovering c then requesting m m.options.server_identifier c else c

-- an agreement gives a lease, to a client that has asked for one
abbrev pub renewed_at : Option LeaseTimes → ℕ
renewed_at None = 0
renewed_at (Some times) = times.renew_at

abbrev pub leased : Option DhcpLease → DhcpClient → DhcpClient
leased None c = c
leased (Some lease) c =
    record c { phase = Bound lease; asked = None; tries = 0; next_at = renewed_at lease.times; has_changed = true }

abbrev pub after_ack : ℕ → DhcpRepr → DhcpClient → DhcpClient
after_ack sent_at m c = if is_discovering c then c else leased (lease_of sent_at m) c

-- a refusal lets it begin anew
abbrev pub after_nak : DhcpClient → DhcpClient
after_nak c = if is_discovering c then c else after_restart c

abbrev pub after_type : DhcpMessageType → ℕ → DhcpRepr → DhcpClient → DhcpClient
after_type Discover sent_at m c = c
after_type Offer sent_at m c = after_offer m c
after_type Request sent_at m c = c
after_type Decline sent_at m c = c
after_type Ack sent_at m c = after_ack sent_at m c
after_type Nak sent_at m c = after_nak c
after_type Release sent_at m c = c
after_type Inform sent_at m c = c

abbrev pub after_answer : Option Asked → DhcpRepr → DhcpClient → DhcpClient
after_answer None m c = c
after_answer (Some asked) m c = if is_answer m c then after_type m.message_type asked.at m c else c

abbrev pub after_receiving : DhcpRepr → DhcpClient → DhcpClient
after_receiving m c = after_answer c.asked m c

-- whether a message gives a lease: it is an agreement that does
abbrev pub is_agreed : ℕ → DhcpRepr → DhcpClient → Bool
is_agreed sent_at m c = if is_discovering c then false else is_some (lease_of sent_at m)

abbrev pub is_lease : DhcpMessageType → ℕ → DhcpRepr → DhcpClient → Bool
is_lease Discover sent_at m c = false
is_lease Offer sent_at m c = false
is_lease Request sent_at m c = false
is_lease Decline sent_at m c = false
is_lease Ack sent_at m c = is_agreed sent_at m c
is_lease Nak sent_at m c = false
is_lease Release sent_at m c = false
is_lease Inform sent_at m c = false

abbrev pub is_given : Option Asked → DhcpRepr → DhcpClient → Bool
is_given None m c = false
is_given (Some asked) m c = if is_answer m c then is_lease m.message_type asked.at m c else false

abbrev pub gives_lease : DhcpRepr → DhcpClient → Bool
gives_lease m c = is_given c.asked m c
