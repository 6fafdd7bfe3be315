-- Raw sockets, which get every packet of their version and protocol.
use Rattle.std.specs.Prelude.{ℕ, Bool, List}
use Rattle.net_base.specs.Checksum.{is_tx}
use Rattle.ip_wire.specs.declared.ip_packet.IpRepr.{IpRepr}
use Rattle.ip_wire.specs.IpPacket.{next_header, version_of}
use Rattle.ip_address.specs.declared.protocol.IpProtocol.{IpProtocol}
use Rattle.ip_address.specs.declared.protocol.IpVersion.{IpVersion}
use Rattle.sockets.specs.Kinds.{down_raw, up_raw}
use Rattle.sockets.specs.Raw as socket
use Rattle.host_machine.specs.Context.Host.{Host, Storage, with_places}
use Rattle.host_machine.specs.Sockets.Delivery.{changed, holds, some_accepts, to_each}

-- an entry whose socket accepts packets of a version and a protocol
abbrev pub accepts : IpVersion → IpProtocol → Storage → Bool
accepts version protocol place = holds down_raw (λ s. socket.accepts s version protocol) place

-- an entry whose socket accepts a packet with this header
abbrev pub takes : IpRepr → Storage → Bool
takes r place = accepts (version_of r) (next_header r) place

-- the entry after its socket got a packet, with its header as it is emitted
abbrev pub storage_after_delivery : Bool → IpRepr → List ℕ → Storage → Storage
storage_after_delivery summed r payload place =
    changed down_raw up_raw (socket.socket_after_delivery summed r payload) place

-- some raw socket accepts the packet
abbrev pub is_taken : IpRepr → Host → Bool
is_taken r H = some_accepts (takes r) H.sockets.places

-- each raw socket that accepts the packet gets it
abbrev pub host_after_raw_delivery : IpRepr → List ℕ → Host → Host
host_after_raw_delivery r payload H = with_places H
    (to_each (takes r) (storage_after_delivery (is_tx H.capabilities.checksum.ipv4) r payload) H.sockets.places)
