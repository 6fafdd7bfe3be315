use Rattle.std.proofs.Common.{ap, ◌∙◌, refl}
use Rattle.net_base.specs.Checksum.{is_rx}
use Rattle.socket_set.specs.SocketSet.{Sockets}
use Rattle.iface_context.specs.Stands.{host_in}
use Rattle.iface_context.proofs.Processing.{answered, unanswered}
use Rattle.iface_receive.proofs.UdpRules.{udp_delivered, udp_malformed, udp_not_accepted}
use Rattle.iface_receive.proofs.udp.process_udp.Goals as goal

pub returns-in_default : goal.returns-in_default
returns-in_default c =
    unanswered c.requires.empty (λ slots. udp_malformed c.args.handled_by_raw_socket (host_in c.args.context.now slots c.args.sockets.now)
    c.args.header.now c.args.octets.now c.rx-checked.result (c.rx-checked.ensures ∙ ap (λ x. is_rx x.checksum.udp) c.capabilities.ensures)
    (rw (c.src_addr-source.ensures, c.dst_addr-destination.ensures) at c.in_default.ensures))

pub returns-else-not-deliver : goal.returns-else-not-deliver
returns-else-not-deliver c = rw c.deliver.ensures.waits (
    unanswered c.requires.empty (λ slots. udp_delivered c.args.handled_by_raw_socket (host_in c.args.context.now slots c.args.sockets.now)
    c.args.header.now c.args.octets.now c.in-Some.payload.now c.in-Some.ports c.rx-checked.result
    c.deliver.new.sockets.places (c.rx-checked.ensures ∙ ap (λ x. is_rx x.checksum.udp) c.capabilities.ensures)
    (rw (c.src_addr-source.ensures, c.dst_addr-destination.ensures) at c.in-Some.ensures) (c.deliver.ensures.delivered c.if-not-deliver.false)))

pub returns-then-not-deliver : goal.returns-then-not-deliver
returns-then-not-deliver c = rw c.deliver.ensures.waits (
    answered _ _ (λ slots. udp_not_accepted c.args.handled_by_raw_socket (host_in c.args.context.now slots c.args.sockets.now)
    c.args.header.now c.args.octets.now c.in-Some.payload.now c.in-Some.ports c.rx-checked.result
    c.deliver.new.sockets.places _ (c.rx-checked.ensures ∙ ap (λ x. is_rx x.checksum.udp) c.capabilities.ensures)
    (rw (c.src_addr-source.ensures, c.dst_addr-destination.ensures) at c.in-Some.ensures) (c.deliver.ensures.nobody c.if-not-deliver.true)
    (ap (λ (s : Sockets _). s.places) (c.deliver.ensures.kept c.if-not-deliver.true)) refl) c.refuse_by_copy.ensures)
