use Rattle.std.proofs.Common.{refl, sym, ◌∙◌}
use Rattle.host_machine.specs.Receive.Ipv6.{FromNoHost, WithOptions}
use Rattle.iface_context.specs.Stands.{host_in}
use Rattle.iface_context.proofs.Processing.{by_rule, dropped, unanswered}
use Rattle.iface_receive.proofs.PacketRulesV6.{begun, ipv6_malformed, ipv6_read}
use Rattle.iface_receive.proofs.ipv6.process_ipv6.Goals as goal

pub returns-in_default : goal.returns-in_default
returns-in_default c = unanswered c.requires
    (λ slots. ipv6_malformed c.args.source (host_in c.args.context.now slots c.args.sockets.now) c.args.octets.now c.in_default.ensures)

pub returns-then-not-is_unicast : goal.returns-then-not-is_unicast
returns-then-not-is_unicast c = unanswered c.requires (λ slots.
    ipv6_read c.args.source (host_in c.args.context.now slots c.args.sockets.now) _ c.args.octets.now c.in-Some.payload.now c.in-Some.header _ _
    c.in-Some.ensures
    (FromNoHost (sym c.is_unicast.ensures ∙ c.if-not-is_unicast.true) (dropped (host_in c.args.context.now slots c.args.sockets.now))))

pub returns-in_default-payload_of : goal.returns-in_default-payload_of
returns-in_default-payload_of c = by_rule (c.in_default-payload_of.ensures.ended refl c.args.sockets.now) (λ slots reply notes taken ends.
    ipv6_read c.args.source
    (host_in c.args.context.now slots c.args.sockets.now) taken c.args.octets.now c.in-Some.payload.now c.in-Some.header reply notes c.in-Some.ensures
    (WithOptions (sym c.is_unicast.ensures ∙ c.if-not-is_unicast.false) ends.has_options (ends.ends c.args.source)))

pub returns : goal.returns
returns c = by_rule c.process_datagram_v6.ensures (λ slots reply notes taken takes.
    ipv6_read c.args.source
    (host_in c.args.context.now slots c.args.sockets.now) taken c.args.octets.now c.in-Some.payload.now c.in-Some.header reply notes c.in-Some.ensures
    (begun c.args.source (host_in c.args.context.now slots c.args.sockets.now) taken c.in-Some.header c.in-Some.payload.now
    c.in-Some-payload_of.rest.now c.in-Some-payload_of.protocol reply notes (sym c.is_unicast.ensures ∙ c.if-not-is_unicast.false)
    c.in-Some-payload_of.ensures.begins (rw (c.in-Some-payload_of.ensures.kept refl) at takes)))
