use Rattle.std.proofs.Common.{◌≡◌, pos, refl, rules}
use Rattle.host_machine.specs.Context.Host.{no_sockets}
use Rattle.tcp_sockets.specs.Polls.{state}
use Rattle.tcp_sockets.proofs.PollLemmas.{polls_as}
use Rattle.iface_host.specs.Calls.{addresses_of}
use Rattle.iface_host.specs.Streams.{IsKnownAt}
use Rattle.iface_host.proofs.host.IfaceHost.poll_streams.Goals as goal

pub returns-clause-polled : goal.returns-clause-polled
returns-clause-polled c =
    let own : c.ip_addrs.result.now ≡ addresses_of c.args.self.now = rw c.deref-interface.ensures at (c.ip_addrs.ensures.value no_sockets) in
    let now : pos c.in_ok-micros.micros ≡ c.args.now = search rules in
    let known =
    polls_as _ (IsKnownAt c.args.self.now.interface.value) c.in_ok-micros.micros c.ip_addrs.result.now
    (state c.args.carrier.now c.args.connections.now c.args.self.now.sockets)
    (state c.poll_with_neighbors.new.self c.poll_with_neighbors.new.host c.poll_with_neighbors.new.sockets)
    c.poll_with_neighbors.ensures (λ a k is. rw c.deref-interface.ensures at is.1) in
    record { micros = c.in_ok-micros.micros; is_now = now; polls = rw own at known; rest = refl }
