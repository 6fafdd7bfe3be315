-- Worked examples of what must not be: each kind of frame that does something in the other examples, turned in one
-- field. Then nothing is sent, and the host is as before, with its sockets and its fragments.
use Rattle.std.specs.Prelude.{ℕ, pos, List, [], ◌∷◌, ◌++◌}
use Rattle.net_base.specs.Device.{Received, Frame}
use Rattle.host_machine.specs.declared.results.PollIngressSingleResult.TheVariants as result
use Rattle.host_machine.specs.Context.Host.{Host}
use Rattle.host_machine.specs.Examples.ArpAndEcho.{host, no_neighbors, without_hardware}
use Rattle.host_machine.specs.Examples.Discovery as v6
use Rattle.host_machine.specs.Examples.Fragments.{waiting_host}
use Rattle.host_machine.specs.Examples.Sockets.{listening_raw_socket, listening_socket, with_raw, with_socket}
use Rattle.host_machine.specs.Interface.Ingress.{Ingress}

-- an ARP request to a hardware address, by the type of its hardware, for an address; its sender is at 02:00:00:00:00:02
abbrev pub request_to : ℕ → ℕ → List ℕ → List ℕ → List ℕ
request_to station type sender target =
    0x02 ∷ 0 ∷ 0 ∷ 0 ∷ 0 ∷ station ∷ 0x02 ∷ 0 ∷ 0 ∷ 0 ∷ 0 ∷ 0x02 ∷ 0x08 ∷ 0x06
    ∷ 0 ∷ type ∷ 0x08 ∷ 0 ∷ 6 ∷ 4 ∷ 0 ∷ 1
    ∷ 0x02 ∷ 0 ∷ 0 ∷ 0 ∷ 0 ∷ 0x02 ∷ sender ++ 0 ∷ 0 ∷ 0 ∷ 0 ∷ 0 ∷ 0 ∷ target

-- an echo request with `abcd`, by the checksum of its header, its addresses, and the checksum of its message
abbrev pub echo_with : ℕ → ℕ → List ℕ → List ℕ → ℕ → List ℕ
echo_with high low source destination sum =
    0x02 ∷ 0 ∷ 0 ∷ 0 ∷ 0 ∷ 0x01 ∷ 0x02 ∷ 0 ∷ 0 ∷ 0 ∷ 0 ∷ 0x02 ∷ 0x08 ∷ 0
    ∷ 0x45 ∷ 0 ∷ 0 ∷ 0x20 ∷ 0 ∷ 0 ∷ 0x40 ∷ 0 ∷ 0x40 ∷ 0x01 ∷ high ∷ low ∷ source ++ destination
    ++ 0x08 ∷ 0 ∷ 0x21 ∷ sum ∷ 0x12 ∷ 0x34 ∷ 0 ∷ 0x01 ∷ 0x61 ∷ 0x62 ∷ 0x63 ∷ 0x64 ∷ []

-- an echo request whose length is an octet too long for its frame; an echo reply; and a packet of version 5
abbrev pub too_long : List ℕ
too_long =
    0x02 ∷ 0 ∷ 0 ∷ 0 ∷ 0 ∷ 0x01 ∷ 0x02 ∷ 0 ∷ 0 ∷ 0 ∷ 0 ∷ 0x02 ∷ 0x08 ∷ 0
    ∷ 0x45 ∷ 0 ∷ 0 ∷ 0x21 ∷ 0 ∷ 0 ∷ 0x40 ∷ 0 ∷ 0x40 ∷ 0x01 ∷ 0x2f ∷ 0x26 ∷ 192 ∷ 168 ∷ 69 ∷ 100 ∷ 192 ∷ 168 ∷ 69 ∷ 1
    ∷ 0x08 ∷ 0 ∷ 0x21 ∷ 0x04 ∷ 0x12 ∷ 0x34 ∷ 0 ∷ 0x01 ∷ 0x61 ∷ 0x62 ∷ 0x63 ∷ 0x64 ∷ []

abbrev pub a_reply : List ℕ
a_reply =
    0x02 ∷ 0 ∷ 0 ∷ 0 ∷ 0 ∷ 0x01 ∷ 0x02 ∷ 0 ∷ 0 ∷ 0 ∷ 0 ∷ 0x02 ∷ 0x08 ∷ 0
    ∷ 0x45 ∷ 0 ∷ 0 ∷ 0x20 ∷ 0 ∷ 0 ∷ 0x40 ∷ 0 ∷ 0x40 ∷ 0x01 ∷ 0x2f ∷ 0x27 ∷ 192 ∷ 168 ∷ 69 ∷ 100 ∷ 192 ∷ 168 ∷ 69 ∷ 1
    ∷ 0 ∷ 0 ∷ 0x29 ∷ 0x04 ∷ 0x12 ∷ 0x34 ∷ 0 ∷ 0x01 ∷ 0x61 ∷ 0x62 ∷ 0x63 ∷ 0x64 ∷ []

abbrev pub version_five : List ℕ
version_five =
    0x55 ∷ 0 ∷ 0 ∷ 0x20 ∷ 0 ∷ 0 ∷ 0x40 ∷ 0 ∷ 0x40 ∷ 0x01 ∷ 0x1f ∷ 0x27 ∷ 192 ∷ 168 ∷ 69 ∷ 100 ∷ 192 ∷ 168 ∷ 69 ∷ 1
    ∷ 0x08 ∷ 0 ∷ 0x21 ∷ 0x04 ∷ 0x12 ∷ 0x34 ∷ 0 ∷ 0x01 ∷ 0x61 ∷ 0x62 ∷ 0x63 ∷ 0x64 ∷ []

-- `hi` for port 6969, by the low octets of its header's checksum, its destination, and its checksum
abbrev pub datagram_with : ℕ → ℕ → ℕ → List ℕ
datagram_with low destination sum =
    0x02 ∷ 0 ∷ 0 ∷ 0 ∷ 0 ∷ 0x01 ∷ 0x02 ∷ 0 ∷ 0 ∷ 0 ∷ 0 ∷ 0x02 ∷ 0x08 ∷ 0
    ∷ 0x45 ∷ 0 ∷ 0 ∷ 0x1e ∷ 0 ∷ 0 ∷ 0x40 ∷ 0 ∷ 0x40 ∷ 0x11 ∷ 0x2f ∷ low ∷ 192 ∷ 168 ∷ 69 ∷ 100 ∷ 192 ∷ 168 ∷ 69
    ∷ destination ∷ 0x13 ∷ 0x88 ∷ 0x1b ∷ 0x39 ∷ 0 ∷ 0x0a ∷ 0x5c ∷ sum ∷ 0x68 ∷ 0x69 ∷ []

-- the same over IPv6, for fe80::1, by the low octets of its destination and of its checksum
abbrev pub datagram_v6_with : ℕ → ℕ → List ℕ
datagram_v6_with destination sum =
    0x02 ∷ 0 ∷ 0 ∷ 0 ∷ 0 ∷ 0x01 ∷ 0x02 ∷ 0 ∷ 0 ∷ 0 ∷ 0 ∷ 0x02 ∷ 0x86 ∷ 0xdd
    ∷ 0x60 ∷ 0 ∷ 0 ∷ 0 ∷ 0 ∷ 0x0a ∷ 0x11 ∷ 0x40
    ∷ 0xfe ∷ 0x80 ∷ 0 ∷ 0 ∷ 0 ∷ 0 ∷ 0 ∷ 0 ∷ 0 ∷ 0 ∷ 0 ∷ 0 ∷ 0 ∷ 0 ∷ 0 ∷ 0x02
    ∷ 0xfe ∷ 0x80 ∷ 0 ∷ 0 ∷ 0 ∷ 0 ∷ 0 ∷ 0 ∷ 0 ∷ 0 ∷ 0 ∷ 0 ∷ 0 ∷ 0 ∷ 0 ∷ destination
    ∷ 0x13 ∷ 0x88 ∷ 0x1b ∷ 0x39 ∷ 0 ∷ 0x0a ∷ 0x6b ∷ sum ∷ 0x68 ∷ 0x69 ∷ []

-- `abcd` by protocol 99, by the checksum of its header, and the low octet of its destination
abbrev pub unknown_with : ℕ → ℕ → ℕ → List ℕ
unknown_with high low destination =
    0x02 ∷ 0 ∷ 0 ∷ 0 ∷ 0 ∷ 0x01 ∷ 0x02 ∷ 0 ∷ 0 ∷ 0 ∷ 0 ∷ 0x02 ∷ 0x08 ∷ 0
    ∷ 0x45 ∷ 0 ∷ 0 ∷ 0x18 ∷ 0 ∷ 0 ∷ 0x40 ∷ 0 ∷ 0x40 ∷ 0x63 ∷ high ∷ low ∷ 192 ∷ 168 ∷ 69 ∷ 100 ∷ 192 ∷ 168 ∷ 69
    ∷ destination ∷ 0x61 ∷ 0x62 ∷ 0x63 ∷ 0x64 ∷ []

-- the first and the last fragment of ten octets, by the low octet of the checksum of its header
abbrev pub first_with : ℕ → List ℕ
first_with low =
    0x02 ∷ 0 ∷ 0 ∷ 0 ∷ 0 ∷ 0x01 ∷ 0x02 ∷ 0 ∷ 0 ∷ 0 ∷ 0 ∷ 0x02 ∷ 0x08 ∷ 0
    ∷ 0x45 ∷ 0 ∷ 0 ∷ 0x1c ∷ 0 ∷ 0x07 ∷ 0x20 ∷ 0 ∷ 0x40 ∷ 0x02 ∷ 0x4f ∷ low ∷ 192 ∷ 168 ∷ 69 ∷ 100 ∷ 192 ∷ 168 ∷ 69 ∷ 1
    ∷ 1 ∷ 2 ∷ 3 ∷ 4 ∷ 5 ∷ 6 ∷ 7 ∷ 8 ∷ []

abbrev pub last_with : ℕ → List ℕ
last_with low =
    0x02 ∷ 0 ∷ 0 ∷ 0 ∷ 0 ∷ 0x01 ∷ 0x02 ∷ 0 ∷ 0 ∷ 0 ∷ 0 ∷ 0x02 ∷ 0x08 ∷ 0
    ∷ 0x45 ∷ 0 ∷ 0 ∷ 0x16 ∷ 0 ∷ 0x07 ∷ 0 ∷ 0x01 ∷ 0x40 ∷ 0x02 ∷ 0x6f ∷ low ∷ 192 ∷ 168 ∷ 69 ∷ 100 ∷ 192 ∷ 168 ∷ 69 ∷ 1
    ∷ 9 ∷ 10 ∷ []

-- a segment for port 80, by its control bits and the low octet of its checksum
abbrev pub segment_with : ℕ → ℕ → List ℕ
segment_with control sum =
    0x02 ∷ 0 ∷ 0 ∷ 0 ∷ 0 ∷ 0x01 ∷ 0x02 ∷ 0 ∷ 0 ∷ 0 ∷ 0 ∷ 0x02 ∷ 0x08 ∷ 0
    ∷ 0x45 ∷ 0 ∷ 0 ∷ 0x28 ∷ 0 ∷ 0 ∷ 0x40 ∷ 0 ∷ 0x40 ∷ 0x06 ∷ 0x2f ∷ 0x1a ∷ 192 ∷ 168 ∷ 69 ∷ 100 ∷ 192 ∷ 168 ∷ 69 ∷ 1
    ∷ 0x13 ∷ 0x88 ∷ 0 ∷ 0x50 ∷ 0x01 ∷ 0x02 ∷ 0x03 ∷ 0x04 ∷ 0 ∷ 0 ∷ 0 ∷ 0 ∷ 0x50 ∷ control
    ∷ 0x03 ∷ 0xe8 ∷ 0x88 ∷ sum ∷ 0 ∷ 0 ∷ []

-- a solicitation of fe80::1 by fe80::2, by its hop limit, the first octet of its source, and the octets of its
-- checksum
abbrev pub solicitation_with : ℕ → ℕ → ℕ → ℕ → List ℕ
solicitation_with hop_limit source high low =
    0x33 ∷ 0x33 ∷ 0xff ∷ 0 ∷ 0 ∷ 0x01 ∷ 0x02 ∷ 0 ∷ 0 ∷ 0 ∷ 0 ∷ 0x02 ∷ 0x86 ∷ 0xdd
    ∷ 0x60 ∷ 0 ∷ 0 ∷ 0 ∷ 0 ∷ 0x20 ∷ 0x3a ∷ hop_limit
    ∷ source ∷ 0x80 ∷ 0 ∷ 0 ∷ 0 ∷ 0 ∷ 0 ∷ 0 ∷ 0 ∷ 0 ∷ 0 ∷ 0 ∷ 0 ∷ 0 ∷ 0 ∷ 0x02
    ∷ 0xff ∷ 0x02 ∷ 0 ∷ 0 ∷ 0 ∷ 0 ∷ 0 ∷ 0 ∷ 0 ∷ 0 ∷ 0 ∷ 0x01 ∷ 0xff ∷ 0 ∷ 0 ∷ 0x01
    ∷ 0x87 ∷ 0 ∷ high ∷ low ∷ 0 ∷ 0 ∷ 0 ∷ 0
    ∷ 0xfe ∷ 0x80 ∷ 0 ∷ 0 ∷ 0 ∷ 0 ∷ 0 ∷ 0 ∷ 0 ∷ 0 ∷ 0 ∷ 0 ∷ 0 ∷ 0 ∷ 0 ∷ 0x01
    ∷ 0x01 ∷ 0x01 ∷ 0x02 ∷ 0 ∷ 0 ∷ 0 ∷ 0 ∷ 0x02 ∷ []

-- the host's own address, and another; those of its neighbour and of a host elsewhere; and the broadcast address of its
-- network
abbrev pub own : List ℕ
own = 192 ∷ 168 ∷ 69 ∷ 1 ∷ []

abbrev pub other : List ℕ
other = 192 ∷ 168 ∷ 69 ∷ 2 ∷ []

abbrev pub near : List ℕ
near = 192 ∷ 168 ∷ 69 ∷ 100 ∷ []

abbrev pub far : List ℕ
far = 192 ∷ 168 ∷ 70 ∷ 100 ∷ []

abbrev pub all : List ℕ
all = 192 ∷ 168 ∷ 69 ∷ 255 ∷ []

-- the hosts that receive them: of 192.168.69.1/24; of fe80::1; without hardware addresses; with a UDP socket at port
-- 6969, over IPv4 and IPv6; with a raw socket for UDP; and with the first fragment
abbrev pub plain_host : Host
plain_host = host 0x1405 (no_neighbors (pos 0))

abbrev pub host_v6 : Host
host_v6 = v6.host 0x1405 (no_neighbors (pos 0))

abbrev pub host_without : Host
host_without = without_hardware 0x1405

abbrev pub listening_host : Host
listening_host = with_socket listening_socket plain_host

abbrev pub listening_host_v6 : Host
listening_host_v6 = with_socket listening_socket host_v6

abbrev pub raw_host : Host
raw_host = with_raw listening_raw_socket plain_host

-- the call of a host that receives a frame changes nothing and sends nothing
abbrev pub IsIgnored : Host → List ℕ → Type 0
IsIgnored H frame = Ingress (pos 0) result.SocketStateChanged H (Received (pos 0) (Frame frame) ∷ []) [] H

pub record TurnedFramesAreIgnored : Type 0 where
  -- the request is to another hardware address
  pub to_another : IsIgnored plain_host (request_to 0x03 1 near own)
  -- it is for another address
  pub for_another : IsIgnored plain_host (request_to 0x01 1 near other)
  -- its sender is in no network of the host's
  pub from_afar : IsIgnored plain_host (request_to 0x01 1 far own)
  -- it is for hardware of another type
  pub other_hardware : IsIgnored plain_host (request_to 0x01 2 near own)
  -- the echo request has a wrong checksum in its header, or in its message
  pub wrong_header : IsIgnored plain_host (echo_with 0x2f 0x28 near own 0x04)
  pub wrong_message : IsIgnored plain_host (echo_with 0x2f 0x27 near own 0x05)
  -- it is from the broadcast address of the host's network
  pub from_all : IsIgnored plain_host (echo_with 0x2e 0x8c all own 0x04)
  -- it is to another address
  pub to_other : IsIgnored plain_host (echo_with 0x2f 0x26 near other 0x04)
  -- it is longer than its frame; it is a reply; or, on a medium without hardware addresses, it is of another version
  pub longer : IsIgnored plain_host too_long
  pub replied : IsIgnored plain_host a_reply
  pub other_version : IsIgnored host_without version_five
  -- the datagram, for a port at which no socket listens, has a wrong checksum: no error is sent
  pub wrong_datagram : IsIgnored plain_host (datagram_with 0x19 1 0xf8)
  -- for one at which a socket listens it has a wrong checksum, or is to another address, over either family: it isn't
  -- delivered. A raw socket doesn't receive it if its header has a wrong checksum
  pub undelivered : IsIgnored listening_host (datagram_with 0x19 1 0xf8)
  pub undelivered_elsewhere : IsIgnored listening_host (datagram_with 0x18 2 0xf9)
  pub undelivered_v6 : IsIgnored listening_host_v6 (datagram_v6_with 1 0xac)
  pub undelivered_elsewhere_v6 : IsIgnored listening_host_v6 (datagram_v6_with 3 0xab)
  pub raw_unheard : IsIgnored raw_host (datagram_with 0x1a 1 0xf9)
  -- the packet of an unknown protocol has a wrong checksum in its header, or is to all hosts: no error is sent
  pub wrong_unknown : IsIgnored plain_host (unknown_with 0x2e 0xce 1)
  pub unknown_to_all : IsIgnored plain_host (unknown_with 0x2d 0xcf 255)
  -- a fragment has a wrong checksum in its header: it takes no slot, and completes no datagram
  pub wrong_fragment : IsIgnored plain_host (first_with 0x24)
  pub wrong_last_fragment : IsIgnored waiting_host (last_with 0x29)
  -- the segment, for a port at which no socket listens, is a reset, or its checksum is wrong: no reset is sent (RFC 9293
  -- 3.5.2)
  pub a_reset : IsIgnored plain_host (segment_with 0x04 0x64)
  pub wrong_segment : IsIgnored plain_host (segment_with 0x02 0x67)
  -- the solicitation was forwarded by a router, or its checksum is wrong, or it is from a group
  pub forwarded : IsIgnored host_v6 (solicitation_with 0xfe 0xfe 0x7a 0x97)
  pub wrong_solicitation : IsIgnored host_v6 (solicitation_with 0xff 0xfe 0x7a 0x98)
  pub from_group : IsIgnored host_v6 (solicitation_with 0xff 0xff 0x79 0x97)
