-- What a server leases to a client (RFC 2131 4.4.1, 4.4.5). Instants are in microseconds, durations in seconds.
use Rattle.std.specs.Prelude.{ℕ, ◌≡◌, ◌+◌, ◌*◌, ◌==◌, ◌&&◌, nat_lt, nat_le, Bool, false, Option, Some, None, if◌then◌else◌, refl}
use Rattle.ip_address.specs.declared.ipv4.Ipv4Address.{Ipv4Address}
use Rattle.dhcp_client.specs.declared.message.DhcpRepr.{DhcpRepr}
use Rattle.dhcp_client.specs.declared.options.DhcpOptions.{DhcpOptions}
use Rattle.dhcp_client.specs.declared.lease.DhcpLease.{DhcpLease}
use Rattle.dhcp_client.specs.declared.lease.LeaseTimes.{LeaseTimes}
use Rattle.dhcp_client.specs.Addresses.{is_host_address, is_leasable, mask_of, other_in, others_in}

-- T2 is the server's if that is before the end of the lease, else seven eighths of its duration; T1 is the server's if that is
-- before T2, else half of the duration; and where T1 would not be before T2, neither counts (RFC 2131 4.4.5)
abbrev pub rebind_span : ℕ → Option ℕ → ℕ
rebind_span duration None = duration * 875000
rebind_span duration (Some rebind) = if nat_lt rebind duration then rebind * 1000000 else duration * 875000

abbrev pub renew_span : ℕ → Option ℕ → ℕ → ℕ
renew_span duration None rebind = duration * 500000
renew_span duration (Some renew) rebind =
    if nat_lt 0 renew && nat_lt (renew * 1000000) rebind then renew * 1000000 else duration * 500000

abbrev pub in_order : ℕ → ℕ × ℕ → ℕ × ℕ
in_order duration spans = if nat_lt spans.0 spans.1 then spans else (duration * 500000, duration * 875000)

abbrev pub spans_of : ℕ → Option ℕ → Option ℕ → ℕ × ℕ
spans_of duration renew rebind =
    in_order duration (renew_span duration renew (rebind_span duration rebind), rebind_span duration rebind)

-- of 100 seconds: T1 alone, T2 alone, both, none, T1 behind T2, and a T2 before half of the time
pub one_alone : spans_of 100 (Some 40) None ≡ (40000000, 87500000)
one_alone = refl

pub two_alone : spans_of 100 None (Some 60) ≡ (50000000, 60000000)
two_alone = refl

pub both : spans_of 100 (Some 20) (Some 30) ≡ (20000000, 30000000)
both = refl

pub neither : spans_of 100 None None ≡ (50000000, 87500000)
neither = refl

pub not_behind : spans_of 100 (Some 70) (Some 60) ≡ (50000000, 60000000)
not_behind = refl

pub not_too_early : spans_of 100 None (Some 40) ≡ (50000000, 87500000)
not_too_early = refl

-- the times of a lease count from when its request was sent; a duration of all ones is without end (RFC 2131 3.3, 4.4.5)
abbrev pub times_of : ℕ → ℕ → DhcpOptions → Option LeaseTimes
times_of sent_at duration o = if duration == 0xffff_ffff then None else
    Some (record {
      renew_at = sent_at + (spans_of duration o.renew_duration o.rebind_duration).0;
      rebind_at = sent_at + (spans_of duration o.renew_duration o.rebind_duration).1;
      expires_at = sent_at + duration * 1000000;
    })

-- what a message gives can be used: an address that a host of its network can have, by a server at a host's address
abbrev pub is_usable : DhcpRepr → Ipv4Address → Bool
is_usable m server = is_host_address server && is_leasable m.your_ip m.options.subnet_mask

-- the longest packet has at least 68 octets (RFC 2132 5.1)
abbrev pub mtu_of : Option ℕ → Option ℕ
mtu_of None = None
mtu_of (Some octets) = if nat_le 68 octets then Some octets else None

-- what an agreement with a server and a duration leases; a router and servers of names are other hosts
abbrev pub lease_by : ℕ → DhcpRepr → Option Ipv4Address → Option ℕ → Option DhcpLease
lease_by sent_at ack (Some server) (Some duration) = if is_usable ack server
    then Some (record {
      address = ack.your_ip;
      subnet_mask = mask_of ack.options.subnet_mask;
      router = other_in ack.your_ip ack.options.router;
      dns_servers = others_in ack.your_ip ack.options.dns_servers;
      mtu = mtu_of ack.options.mtu;
      server = server;
      times = times_of sent_at duration ack.options;
    }) else None
lease_by sent_at ack _ _ = None

abbrev pub lease_of : ℕ → DhcpRepr → Option DhcpLease
lease_of sent_at ack = lease_by sent_at ack ack.options.server_identifier ack.options.lease_duration

abbrev pub are_over : ℕ → Option LeaseTimes → Bool
are_over now None = false
are_over now (Some times) = nat_le times.expires_at now

abbrev pub has_ended : ℕ → DhcpLease → Bool
has_ended now lease = are_over now lease.times
