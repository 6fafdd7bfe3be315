use Rattle.std.proofs.Common.{ap, sym, ◌∙◌, refl}
use Rattle.net_base.specs.Checksum.{is_rx}
use Rattle.socket_set.specs.SocketSet.{Sockets}
use Rattle.ip_wire.specs.Tcp.{tcp_in}
use Rattle.host_machine.specs.Sockets.Tcp.{BetweenUnspecified}
use Rattle.iface_context.specs.Stands.{host_in}
use Rattle.iface_context.proofs.Processing.{answered, dropped, unanswered}
use Rattle.iface_sockets.proofs.PayloadRules.{tcp_delivered, tcp_left, tcp_malformed, tcp_not_accepted}
use Rattle.iface_sockets.proofs.tcp.process_tcp.Goals as goal

pub returns-then-is_between_unspecified : goal.returns-then-is_between_unspecified
returns-then-is_between_unspecified c = unanswered c.requires.empty (λ slots. BetweenUnspecified
    (sym c.is_between_unspecified.ensures ∙ c.if-is_between_unspecified.true) (dropped (host_in c.args.context.now slots c.args.sockets.now)))

pub returns-then-is_for_nobody : goal.returns-then-is_for_nobody
returns-then-is_for_nobody c = rw c.if-handled_by_raw_socket.true (unanswered c.requires.empty (λ slots. tcp_left (host_in c.args.context.now slots c.args.sockets.now)
    c.args.header.now c.args.octets.now (sym c.is_between_unspecified.ensures ∙ c.if-is_between_unspecified.false)
    (c.is_for_nobody.ensures c.if-is_for_nobody.true c.args.header.now (tcp_in c.args.octets.now).0 refl)))

pub returns-in_default : goal.returns-in_default
returns-in_default c =
    unanswered c.requires.empty (λ slots. tcp_malformed c.args.handled_by_raw_socket
    (host_in c.args.context.now slots c.args.sockets.now) c.args.header.now c.args.octets.now c.rx-checked.result
    (sym c.is_between_unspecified.ensures ∙ c.if-is_between_unspecified.false)
    (c.rx-checked.ensures ∙ ap (λ x. is_rx x.checksum.tcp) c.capabilities.ensures)
    (λ is. (rw (c.src_addr-source.ensures, c.dst_addr-destination.ensures) at c.in_default.ensures) (c.requires.short, is)))

pub returns-then-taken : goal.returns-then-taken
returns-then-taken c = rw c.deliver-taken.ensures.waits (
    answered _ _ (λ slots. tcp_delivered c.args.handled_by_raw_socket (host_in c.args.context.now slots c.args.sockets.now)
    c.args.header.now c.args.octets.now c.in-Some.payload.now c.in-Some.repr c.rx-checked.result
    c.deliver-taken.new.sockets.places c.deliver-taken.result.1 _ (sym c.is_between_unspecified.ensures ∙ c.if-is_between_unspecified.false)
    (c.rx-checked.ensures ∙ ap (λ x. is_rx x.checksum.tcp) c.capabilities.ensures) (
      rw (c.src_addr-source.ensures, c.dst_addr-destination.ensures) at c.in-Some.ensures.0.1,
      c.in-Some.ensures.1,
    ) (c.deliver-taken.ensures.taken c.if-taken.true) refl) c.answer_by_copy.ensures)

pub returns : goal.returns
returns c = rw c.deliver-taken.ensures.waits (
    answered _ _ (λ slots. tcp_not_accepted c.args.handled_by_raw_socket (host_in c.args.context.now slots c.args.sockets.now)
    c.args.header.now c.args.octets.now c.in-Some.payload.now c.in-Some.repr c.rx-checked.result
    c.deliver-taken.new.sockets.places _ _ (sym c.is_between_unspecified.ensures ∙ c.if-is_between_unspecified.false)
    (c.rx-checked.ensures ∙ ap (λ x. is_rx x.checksum.tcp) c.capabilities.ensures) (
      rw (c.src_addr-source.ensures, c.dst_addr-destination.ensures) at c.in-Some.ensures.0.1,
      c.in-Some.ensures.1,
    ) (c.deliver-taken.ensures.nobody c.if-taken.false)
    (ap (λ (s : Sockets _). s.places) (c.deliver-taken.ensures.kept c.if-taken.false)) refl refl) c.refuse.ensures)
