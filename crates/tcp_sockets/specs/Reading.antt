-- A segment's packet is read as that segment, with its ends exchanged.
use Rattle.std.specs.Prelude.{◌≡◌, ◌≢◌, ℕ, ◌<◌, ◌≤◌, ◌^◌, Bool, true, false, ◌||◌, List, [], ◌∷◌, ◌++◌, length, Option, Some, None}
use Rattle.ip_address.specs.declared.ip.IpAddress.{IpAddress}
use Rattle.ip_address.specs.declared.ip.IpAddress.TheVariants.{Ipv4, Ipv6}
use Rattle.ip_address.specs.declared.cidr.IpCidr.{IpCidr}
use Rattle.ip_address.specs.declared.protocol.IpVersion.{IpVersion}
use Rattle.sockets.specs.Raw.{Sent, packet_in, stored_packet}
use Rattle.tcp_wire.specs.Options.{AreOptions}
use Rattle.tcp_machine.specs.declared.sack.SackBlock.{SackBlock}
use Rattle.tcp_connection.specs.declared.outgoing.Header.{Header}
use Rattle.tcp_host.specs.declared.iss.Endpoints.{Endpoints}
use Rattle.tcp_sockets.specs.Arrivals.{Arrived, HasSegment, arrived_in, is_for_host}
use Rattle.tcp_sockets.specs.Packets.{Segment, repr_of, packet_text}
use Rattle.tcp_sockets.specs.Sending.{version_of}

-- the ends as the peer has them
abbrev pub reversed : Endpoints → Endpoints
reversed e = record {
  local_addr = e.remote_addr;
  local_port = e.remote_port;
  remote_addr = e.local_addr;
  remote_port = e.local_port;
}

-- the options that are read of a segment, its blocks in four places
pub record ReadOptions : Type 0 where
  pub mss : Option ℕ
  pub scale : Option ℕ
  pub sack_permitted : Bool
  pub blocks : List (Option SackBlock)

-- A segment as its receiver takes it: between the ends reversed, with its numbers, its window and its octets, and with
-- these options. It isn't read whether octets are pushed.
abbrev pub arrived_as : ReadOptions → Segment → Arrived
arrived_as options s = record {
  endpoints = reversed s.endpoints;
  segment = record {
    number = s.header.number;
    ack = s.header.ack;
    window = s.header.window;
    syn = s.header.syn;
    fin = s.header.fin;
    rst = s.header.rst;
    mss = options.mss;
    scale = options.scale;
    sack_permitted = options.sack_permitted;
    blocks = options.blocks;
  };
  octets = s.octets;
}

-- its own options; a SYN permits selective acknowledgements
abbrev pub options_of : Segment → ReadOptions
options_of s = record { mss = s.mss; scale = s.scale; sack_permitted = s.header.syn; blocks = s.blocks ++ None ∷ [] }

-- numbers that an address has
abbrev pub IsAddress : IpAddress → Type 0
IsAddress (Ipv4 a) = a.bits < 2 ^ 32
IsAddress (Ipv6 a) = a.bits < 2 ^ 128

-- ends that a packet can name
pub record AreEnds (e : Endpoints) : Type 0 where
  pub local_addr : IsAddress e.local_addr
  pub remote_addr : IsAddress e.remote_addr
  pub local_port : e.local_port < 2 ^ 16
  pub remote_port : e.remote_port < 2 ^ 16
  pub some_local : e.local_port ≢ 0
  pub some_remote : e.remote_port ≢ 0

-- numbers and a window that fit the fields of a header
pub record FitFields (h : Header) : Type 0 where
  pub number : h.number < 2 ^ 32
  pub ack : (n : ℕ) → h.ack ≡ Some n → n < 2 ^ 32
  pub window : h.window < 2 ^ 16

-- a segment says one thing at most: it begins a connection, ends a direction, or resets
pub record SaysOne (h : Header) : Type 0 where
  pub no_end : h.syn || h.rst ≡ true → h.fin ≡ false
  pub no_reset : h.syn ≡ true → h.rst ≡ false

-- a segment whose values fit the fields of a packet, but for its options
pub record Fits (s : Segment) : Type 0 where
  pub ends : AreEnds s.endpoints
  pub fields : FitFields s.header
  pub says_one : SaysOne s.header
  pub octets : length s.octets ≤ 65455

-- Its packet, at the sender's socket, is read as this one; a socket that stores this one has it again; and in this one
-- the segment arrives at the host to which it goes, checksum and all. Its options are its own, if they are such.
pub record IsReadAgain (s : Segment) (version : IpVersion) (p : Sent) : Type 0 where
  pub queued : packet_in version (packet_text true s) ≡ Some p
  pub stored : (summed : Bool) → packet_in version (stored_packet summed p.header p.payload) ≡ Some p
  pub taken : (checked : Bool) (own : List IpCidr) →
      is_for_host own s.endpoints.local_addr s.endpoints.remote_addr ≡ true → HasSegment checked own p
  pub options : ReadOptions
  pub arrives : arrived_in p ≡ arrived_as options s
  pub own_options : AreOptions (repr_of s).options → options ≡ options_of s

abbrev pub SegmentsAreReadAgain : Type 0
SegmentsAreReadAgain =
    (s : Segment) (version : IpVersion) → Fits s →
    version_of s.endpoints.local_addr s.endpoints.remote_addr ≡ Some version →
    (p : Sent) × IsReadAgain s version p

-- a reset, whatever its number and its ends are
pub record IsReset (s : Segment) : Type 0 where
  pub rst : s.header.rst ≡ true
  pub no_syn : s.header.syn ≡ false
  pub octets : length s.octets ≤ 65455

-- its packet, at the sender's socket and at one that stores it, is read as one with a reset
pub record IsReadAsReset (s : Segment) (version : IpVersion) (p : Sent) : Type 0 where
  pub queued : packet_in version (packet_text true s) ≡ Some p
  pub stored : (summed : Bool) → packet_in version (stored_packet summed p.header p.payload) ≡ Some p
  pub resets : (arrived_in p).segment.rst ≡ true

abbrev pub ResetsAreReadAgain : Type 0
ResetsAreReadAgain =
    (s : Segment) (version : IpVersion) → IsReset s →
    version_of s.endpoints.local_addr s.endpoints.remote_addr ≡ Some version →
    (p : Sent) × IsReadAsReset s version p
