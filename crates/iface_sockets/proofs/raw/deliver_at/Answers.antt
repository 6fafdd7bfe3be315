use Rattle.ip_wire.specs.IpPacket.{next_header, version_of}
use Rattle.sockets.specs.Kinds.{down_raw}
use Rattle.sockets.specs.Raw as raw
use Rattle.host_machine.specs.Sockets.Raw.{storage_after_delivery}
use Rattle.host_machine.proofs.Sockets.SocketIteration.{not_accepted}
use Rattle.iface_sockets.proofs.raw.deliver_at.Goals as goal

pub returns-in_default-clause-heard : goal.returns-in_default-clause-heard
returns-in_default-clause-heard c =
    not_accepted down_raw (λ s. raw.accepts s (version_of c.args.header.now) (next_header c.args.header.now))
    (storage_after_delivery c.args.summed c.args.header.now c.args.payload.now)
    c.args.sockets.now c.args.index c.in_default.ensures.value
