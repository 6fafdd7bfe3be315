-- Delivery of ICMP messages of either family to sockets (RFC 792, RFC 4443).
use Rattle.std.specs.Prelude.{ℕ, Bool, List}
use Rattle.ip_address.specs.declared.ip.IpAddress.{IpAddress}
use Rattle.control_wire.specs.declared.icmp.IcmpRepr.{IcmpRepr}
use Rattle.sockets.specs.Kinds.{down_icmp, up_icmp}
use Rattle.sockets.specs.Icmp as socket
use Rattle.host_machine.specs.Context.Host.{Host, Storage, with_places}
use Rattle.host_machine.specs.Sockets.Delivery.{changed, holds, to_each}

-- an entry whose socket accepts a message, by its values and its contents
abbrev pub accepts : IcmpRepr → List ℕ → Storage → Bool
accepts message contents place = holds down_icmp (λ s. socket.accepts s message contents) place

-- the entry after its socket got a whole message, from an address
abbrev pub storage_after_delivery : IpAddress → List ℕ → Storage → Storage
storage_after_delivery remote octets place =
    changed down_icmp up_icmp (socket.socket_after_delivery remote octets) place

-- each ICMP socket that accepts the message gets it
abbrev pub host_after_delivery : IcmpRepr → List ℕ → IpAddress → List ℕ → Host → Host
host_after_delivery message contents remote octets H =
    with_places H (to_each (accepts message contents) (storage_after_delivery remote octets) H.sockets.places)
