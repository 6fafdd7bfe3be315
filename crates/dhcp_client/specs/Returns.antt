-- How a client gives its lease back (RFC 2131 4.4.4, 4.4.6, table 5): as another host uses the address, or as it isn't needed any more.
use Rattle.std.specs.Prelude.{ℕ, ◌≡◌, ◌+◌, nat_lt, min, max, false, Option, Some, None, if◌then◌else◌, refl}
use Rattle.ip_address.specs.declared.ipv4.Ipv4Address.{Ipv4Address}
use Rattle.dhcp_client.specs.declared.message.DhcpMessageType.TheVariants.{Decline, Release}
use Rattle.dhcp_client.specs.declared.options.DhcpOptions.{DhcpOptions}
use Rattle.dhcp_client.specs.Options.{no_options}
use Rattle.dhcp_client.specs.declared.client.DhcpClient.{DhcpClient}
use Rattle.dhcp_client.specs.declared.lease.DhcpLease.{DhcpLease}
use Rattle.dhcp_client.specs.declared.messages.DhcpMessage.{DhcpMessage}
use Rattle.dhcp_client.specs.Client.{after_restart, lease}
use Rattle.dhcp_client.specs.Messages.{everybody, repr, unspecified}

-- both name the server and the client, and a DECLINE the address
abbrev pub options_back : Option Ipv4Address → DhcpLease → DhcpClient → DhcpOptions
options_back requested_ip l c = record no_options {
  requested_ip = requested_ip;
  server_identifier = Some l.server;
  client_identifier = Some c.hardware_addr;
}

-- a DECLINE goes from no address to all servers, a RELEASE from the lease's to the server
abbrev pub decline_of : DhcpLease → DhcpClient → DhcpMessage
decline_of l c = record { repr = repr Decline false unspecified (options_back (Some l.address) l c) c; dst = everybody }

abbrev pub release_of : DhcpLease → DhcpClient → DhcpMessage
release_of l c = record { repr = repr Release false l.address (options_back None l c) c; dst = l.server }

-- each has a number of its own
abbrev pub with_number : ℕ → DhcpClient → DhcpClient
with_number random c = record c { transaction_id = random }

abbrev pub declined_by : Option DhcpLease → DhcpClient → Option DhcpMessage
declined_by None c = None
declined_by (Some l) c = Some (decline_of l c)

abbrev pub decline_at : ℕ → DhcpClient → Option DhcpMessage
decline_at random c = declined_by (lease c) (with_number random c)

abbrev pub released_by : Option DhcpLease → DhcpClient → Option DhcpMessage
released_by None c = None
released_by (Some l) c = Some (release_of l c)

abbrev pub release_at : ℕ → DhcpClient → Option DhcpMessage
release_at random c = released_by (lease c) (with_number random c)

-- ten seconds pass before it asks for offers again (RFC 2131 3.1 (5)), and a minute from the tenth address on that it declines (RFC
-- 5227 2.1.1)
abbrev pub pause : ℕ → ℕ
pause declined = if nat_lt declined 10 then 10000000 else 60000000

abbrev pub paused : ℕ → DhcpClient → DhcpClient
paused now c = record c { discover_after = max c.discover_after (now + pause c.declined) }

abbrev pub counted : DhcpClient → DhcpClient
counted c = record c { declined = min 255 (c.declined + 1) }

-- without a lease nothing happens
abbrev pub declining : Option DhcpLease → ℕ → DhcpClient → DhcpClient
declining None now c = c
declining (Some l) now c = paused now (counted (after_restart c))

abbrev pub numbered_if : Option DhcpLease → ℕ → DhcpClient → DhcpClient
numbered_if None random c = c
numbered_if (Some l) random c = with_number random c

abbrev pub after_decline : ℕ → ℕ → DhcpClient → DhcpClient
after_decline now random c = declining (lease c) now (numbered_if (lease c) random c)

-- after a release the client begins anew, if it is asked for a message
abbrev pub releasing : Option DhcpLease → DhcpClient → DhcpClient
releasing None c = c
releasing (Some l) c = after_restart c

abbrev pub after_release : ℕ → DhcpClient → DhcpClient
after_release random c = releasing (lease c) (numbered_if (lease c) random c)

-- the ninth pause is short, the tenth long
pub ninth : pause 9 ≡ 10000000
ninth = refl

pub tenth : pause 10 ≡ 60000000
tenth = refl
