-- What was sent in lives, as it is read.
use Rattle.std.specs.Prelude.{◌≡◌, ℕ, Bool, true, List, Some}
use Rattle.std.specs.List.{Contains}
use Rattle.ip_address.specs.declared.protocol.IpVersion.{IpVersion}
use Rattle.sockets.specs.Raw.{Sent as Packet, packet_in, stored_packet}
use Rattle.tcp_machine.specs.Segments.{Options}
use Rattle.tcp_connection.specs.Segments.{segment_of}
use Rattle.tcp_sockets.specs.Reading.{AreEnds, reversed}
use Rattle.tcp_sockets.specs.Arrivals.{arrived_in}
use Rattle.tcp_laws.specs.Machines.{Sent, arrived}
use Rattle.tcp_host_laws.specs.Lives.{Life, side_of}
use Rattle.tcp_host_laws.specs.Turns.{WasSent}

-- a packet brings a segment that a connection sent in its life: between its ends reversed, and with any options
pub record BringsSent (l : Life) (p : Packet) : Type 0 where
  pub one : Sent
  pub options : Options
  pub was_sent : Contains (side_of l).sent one
  pub ends : (arrived_in p).endpoints ≡ reversed l.ends
  pub is : segment_of (arrived_in p).segment (arrived_in p).octets ≡ arrived one.segment options

-- one of these lives, or a reset
pub data Brings (ls : List Life) (p : Packet) : Type 0 where
  OfLife : (l : Life) → Contains ls l → BringsSent l p → Brings ls p
  OfAnyone : (arrived_in p).segment.rst ≡ true → Brings ls p

-- a packet that brings it, and is read again where it was stored
pub record IsReadAsSent (ls : List Life) (version : IpVersion) (p : Packet) : Type 0 where
  pub brings : Brings ls p
  pub stored : (summed : Bool) → packet_in version (stored_packet summed p.header p.payload) ≡ Some p

-- What was sent in lives whose ends a packet can name is read so
abbrev pub WhatWasSentIsRead : Type 0
WhatWasSentIsRead =
    (ls : List Life) (octets : List ℕ) (version : IpVersion) (p : Packet) →
    ((l : Life) → Contains ls l → AreEnds l.ends) → WasSent true ls octets → packet_in version octets ≡ Some p →
    IsReadAsSent ls version p
