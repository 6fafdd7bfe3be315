-- Which frames a host gets to see.
use Rattle.std.specs.Prelude.{ℕ, ◌+◌, ◌*◌, ◌==◌, ◌&&◌, ◌||◌, not, nat_le, nat_lt, length, Bool, true, false, ℤ, pos, negsuc, List, Option, Some, None, if◌then◌else◌}
use Rattle.std.specs.List.{list_any}
use Rattle.ip_address.specs.Cidr.{address_of, contains}
use Rattle.ip_address.specs.declared.ip.IpAddress.{IpAddress}
use Rattle.ip_address.specs.declared.cidr.IpCidr.{IpCidr}
use Rattle.ip_address.specs.declared.hardware.HardwareAddress.{HardwareAddress}
use Rattle.sockets.specs.Source.{is_same}
use Rattle.std.specs.FinMap as map
use Rattle.iface_tables.specs.Neighbor.{Neighbors, is_later}
use Rattle.net_base.specs.Bucket.{has_token, after_take}
use Rattle.net_base.specs.declared.bucket.Bucket.{Bucket}
use Rattle.guard.specs.declared.kind.Kind.{Kind}
use Rattle.guard.specs.declared.kind.Kind.TheVariants.{Arp, Neighbor, Packet, Other}
use Rattle.guard.specs.declared.kind.Sort.{Sort}
use Rattle.guard.specs.declared.kind.Sort.TheVariants.{Fragment, Loop, Transport, Plain}
use Rattle.guard.specs.declared.guard.Asked.{Asked}
use Rattle.guard.specs.declared.guard.Guard.{Guard}
use Rattle.guard.specs.declared.guard.Reason.{Reason}
use Rattle.guard.specs.declared.guard.Reason.TheVariants as reason
use Rattle.guard.specs.Claim.{comes_back, is_from_host}
use Rattle.guard.specs.Kind.{ipv4_at, is_echo, kind_of, sort_of_ipv4, sort_of_ipv6}
use Rattle.ip_wire.specs.Octets.{u16_at}
use Rattle.ip_wire.specs.Ipv6Packet.{address_at}
use Rattle.ip_address.specs.declared.ip.IpAddress.TheVariants.{Ipv6}
use Rattle.guard.specs.Pins.{is_forbidden, no_pins}

-- the microseconds of an instant; 0 before the origin
abbrev pub micros : ℤ → ℕ
micros (pos n) = n
micros (negsuc n) = 0

-- a neighbour that isn't confirmed is known for twenty seconds
abbrev pub new_guard : Guard
new_guard = record {
  keeps_own_addresses = true;
  drops_fragments = false;
  drops_loops = true;
  echo_requests = record { interval = 0; depth = 0; full_at = 0 };
  strangers_stay = 20000000;
  takes_turns = true;
  keeps_reports = true;
  keeps_neighbors = true;
  keeps_slots = true;
  pins = no_pins;
  asked = None;
}

abbrev pub is_own : List IpCidr → IpAddress → Bool
is_own own a = list_any (λ c. is_same (address_of c) a) own

abbrev pub is_one_own : List IpCidr → Option IpAddress → Bool
is_one_own own None = false
is_one_own own (Some a) = is_own own a

-- in a network of the host's
abbrev pub is_near : List IpCidr → IpAddress → Bool
is_near own a = list_any (λ c. contains c a) own

-- an instant is ahead by more than a minute, so that the clock has gone back since
abbrev pub is_ahead : ℕ → ℕ → Bool
is_ahead now t = nat_lt (now + 60000000) t

-- a request was sent at most three seconds ago
abbrev pub is_recent : ℤ → Asked → Bool
is_recent now asked = nat_le (micros now) (asked.at + 3000000) && not (is_ahead (micros now) asked.at)

-- the host asked for somebody last, and not long ago
abbrev pub was_asked : ℤ → IpAddress → Option Asked → Bool
was_asked now a None = false
was_asked now a (Some asked) = is_same asked.address a && is_recent now asked

-- the last request was in response to a frame, and not long ago, and who was asked for isn't known
abbrev pub was_response : ℤ → Neighbors → Option Asked → Bool
was_response now known None = false
was_response now known (Some asked) = asked.in_response && is_recent now asked && not (is_later now (map.get known.known asked.address))

-- so the next one is a socket's, if one waits
abbrev pub is_turn_of_sockets : ℤ → Neighbors → Guard → Bool
is_turn_of_sockets now known g = g.takes_turns && was_response now known g.asked

-- a bucket that an empty one would be behind by more than a minute is full: the clock has gone back
abbrev pub at_clock : ℕ → Bucket → Bucket
at_clock now b = if is_ahead (now + b.depth * b.interval) b.full_at then record b { full_at = now } else b

-- a rate whose interval is 0 bounds nothing
abbrev pub has_room : ℕ → Bucket → Bool
has_room now b = (b.interval == 0) || has_token now (at_clock now b)

abbrev pub after_passing : ℕ → Bucket → Bucket
after_passing now b = if b.interval == 0 then b else after_take now (at_clock now b)

abbrev pub reason_unless : {R : Type 0} → Bool → R → Option R
reason_unless passes why = if passes then None else Some why

-- why a packet is dropped by what it is; what the host itself sent may come back
abbrev pub refusal_of : (returned : Bool) → Sort → Guard → Option Reason
refusal_of returned Fragment g = if g.drops_fragments then Some reason.Fragment else None
refusal_of returned Loop g = if g.drops_loops && not returned then Some reason.Loop else None
refusal_of returned Transport g = None
refusal_of returned Plain g = None

-- the first of two reasons, if there is one
abbrev pub first_of : Option Reason → Option Reason → Option Reason
first_of None other = other
first_of (Some why) other = Some why

-- a message claims an own address, and isn't the host's own
abbrev pub is_stolen : (claimed mine : Bool) → Guard → Bool
is_stolen claimed mine g = g.keeps_own_addresses && claimed && not mine

-- or it tells another hardware address of a pinned neighbour than is pinned
abbrev pub refusal_of_claim : (claimed : Bool) → (sender : IpAddress) → Option HardwareAddress → List ℕ → Guard → Option Reason
refusal_of_claim claimed sender hardware frame g =
    first_of (if is_stolen claimed (is_from_host hardware frame) g then Some reason.OwnAddress else None)
    (if is_forbidden sender frame g.pins then Some reason.Pinned else None)

-- a neighbour's message claims an own address
abbrev pub claims : (sender : IpAddress) (target : Option IpAddress) → List IpCidr → Bool
claims sender target own = is_own own sender || is_one_own own target

-- the host itself sent a packet, which came back: from an own address, and from the own hardware address
abbrev pub is_returned : (sender : IpAddress) → Option HardwareAddress → List ℕ → List IpCidr → Bool
is_returned sender hardware frame own = is_own own sender && comes_back hardware frame

-- why a packet is dropped by its source, or by what it is
abbrev pub refusal_of_packet : (sender : IpAddress) → Sort → Option HardwareAddress → List ℕ → List IpCidr → Guard → Option Reason
refusal_of_packet sender sort hardware frame own g =
    first_of (if is_stolen (is_own own sender) (comes_back hardware frame) g then Some reason.OwnSource else None)
    (refusal_of (is_returned sender hardware frame own) sort g)

-- why the host doesn't get to see a frame of a kind; none: it does
abbrev pub reason_of_kind : Kind → Option HardwareAddress → List ℕ → List IpCidr → Guard → Option Reason
reason_of_kind (Arp sender) hardware frame own g = refusal_of_claim (is_own own sender) sender hardware frame g
reason_of_kind (Neighbor sender target) hardware frame own g = refusal_of_claim (claims sender target own) sender hardware frame g
reason_of_kind (Packet sender sort) hardware frame own g = refusal_of_packet sender sort hardware frame own g
reason_of_kind Other hardware frame own g = None

-- of a frame
abbrev pub reason_of : List ℕ → Option HardwareAddress → List IpCidr → Guard → Option Reason
reason_of frame hardware own g = reason_of_kind (kind_of frame) hardware frame own g

-- a request for an echo, or a fragment that may belong to one, takes a token, and is dropped without one
abbrev pub refusal_of_echo : ℤ → List ℕ → Guard → Option Reason
refusal_of_echo now frame g = if is_echo frame then reason_unless (has_room (micros now) g.echo_requests) reason.EchoRequest else None

abbrev pub after_echo : ℤ → List ℕ → Guard → Guard
after_echo now frame g = if is_echo frame then record g { echo_requests = after_passing (micros now) g.echo_requests } else g

-- a datagram of UDP or a segment of TCP, of which nothing is asked but who sent it
abbrev pub is_ordinary_sort : Sort → Bool
is_ordinary_sort Fragment = false
is_ordinary_sort Loop = false
is_ordinary_sort Transport = true
is_ordinary_sort Plain = false

-- one from an address that isn't the host's
abbrev pub is_ordinary : List ℕ → List IpCidr → Bool
is_ordinary frame own =
    if nat_lt (length frame) 42 then false
    else if u16_at frame 12 == 0x0800 then is_ordinary_sort (sort_of_ipv4 frame) && not (is_own own (ipv4_at frame 26))
    else if u16_at frame 12 == 0x86dd then is_ordinary_sort (sort_of_ipv6 frame) && not (is_own own (Ipv6 (address_at frame 22)))
    else false

-- a request for a hardware address was sent, in response to a frame or not; or another frame was
abbrev pub after_asking : ℤ → Option IpAddress → (in_response : Bool) → Guard → Guard
after_asking now None in_response g = g
after_asking now (Some target) in_response g =
    record g { asked = Some (record { address = target; at = micros now; in_response = in_response }) }
