use Rattle.std.proofs.Common.{slice_get, Some, sym, ap, ◌∙◌}
use Rattle.std.specs.Option.{option_and_then, option_map}
use Rattle.sockets.specs.declared.endpoint.IpEndpoint.{IpEndpoint}
use Rattle.sockets.specs.Queue.{Queued}
use Rattle.sockets.proofs.QueueLemmas.{told_by_meta}
use Rattle.sockets.proofs.udp.SocketOf.destination_at.Goals as goal

pub returns-in-None : goal.returns-in-None
returns-in-None g c =
    ap (option_and_then (λ (m : IpEndpoint). Some m.addr))
    (c.in-None.ensures ∙ ap (λ (q : Queued IpEndpoint). option_map (λ p. p.0) (slice_get q.packets c.args.index)) c.tx.ensures)
    ∙ sym (told_by_meta (λ (m : IpEndpoint). Some m.addr) c.args.self.now.tx.packets c.args.index)
