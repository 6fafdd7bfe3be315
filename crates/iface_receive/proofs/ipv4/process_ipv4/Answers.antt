use Rattle.std.proofs.Common.{ap, sym, ◌∙◌}
use Rattle.net_base.specs.Checksum.{is_rx}
use Rattle.std.specs.Prelude.{option_map}
use Rattle.host_machine.specs.Receive.Ipv4.{FromNoHost}
use Rattle.iface_context.specs.Stands.{host_in}
use Rattle.iface_context.proofs.Processing.{by_law, dropped, in_place, unanswered}
use Rattle.iface_receive.proofs.FragmentHandling.{a_datagram, no_datagram, own_header}
use Rattle.iface_receive.proofs.PacketRules.{ipv4_malformed, ipv4_read}
use Rattle.iface_receive.proofs.ipv4.process_ipv4.Goals as goal

pub returns-in_default : goal.returns-in_default
returns-in_default c =
    in_place (unanswered c.requires (λ slots. ipv4_malformed c.args.source (host_in c.args.context.now slots c.args.sockets.now)
    c.args.octets.now c.rx-checked.result (c.rx-checked.ensures ∙ ap (λ x. is_rx x.checksum.ipv4) c.capabilities.ensures) c.in_default.ensures))

pub returns-then-not-may_be_source : goal.returns-then-not-may_be_source
returns-then-not-may_be_source c =
    in_place (unanswered c.requires (λ slots. ipv4_read c.args.source (host_in c.args.context.now slots c.args.sockets.now) _ c.args.octets.now
    c.in-Some.payload.now c.in-Some.header c.in-Some.fragment c.rx-checked.result _ _
    (c.rx-checked.ensures ∙ ap (λ x. is_rx x.checksum.ipv4) c.capabilities.ensures) c.in-Some.ensures
    (FromNoHost (sym c.may_be_source.ensures ∙ c.if-not-may_be_source.true) (dropped (host_in c.args.context.now slots c.args.sockets.now)))))

-- what was taken of the packet is taken of the octets
pub returns-in_default-datagram : goal.returns-in_default-datagram
returns-in_default-datagram c = by_law (no_datagram c.args.context.now c.args.fragments.now _ c.args.sockets.now c.args.source c.in-Some.header
    c.in-Some.fragment c.in-Some.payload.now _ c.args.out.now
    (sym c.may_be_source.ensures ∙ c.if-not-may_be_source.false) c.datagram.follows.holds-at-none
    (ap (option_map (λ b. b.now)) c.in_default-datagram.is) c.requires) (λ H stands reply notes taken takes.
    ipv4_read c.args.source H taken c.args.octets.now c.in-Some.payload.now c.in-Some.header c.in-Some.fragment c.rx-checked.result reply notes
    (c.rx-checked.ensures ∙ ap (λ x. is_rx x.checksum.ipv4) c.capabilities.ensures ∙ ap (λ K. is_rx K.capabilities.checksum.ipv4) (sym stands.same))
    c.in-Some.ensures takes)

pub returns : goal.returns
returns c = by_law (a_datagram c.args.context.now c.args.fragments.now _ c.args.sockets.now c.args.source c.in-Some.header c.in-Some.fragment
    c.in-Some.payload.now _ c.process_datagram.new.out
    (sym c.may_be_source.ensures ∙ c.if-not-may_be_source.false) c.datagram.follows.holds-at-none
    (own_header c.rx-checked.result c.args.octets.now c.in-Some.payload.now c.in-Some.header c.in-Some.fragment c.in-Some.ensures)
    c.process_datagram.new.context c.process_datagram.new.sockets c.in-Some-datagram.payload.now _
    (ap (option_map (λ b. b.now)) c.in-Some-datagram.is) c.header_of_datagram-header.ensures c.process_datagram.ensures)
    (λ H stands reply notes taken takes.
    ipv4_read c.args.source H taken c.args.octets.now c.in-Some.payload.now c.in-Some.header c.in-Some.fragment c.rx-checked.result reply notes
    (c.rx-checked.ensures ∙ ap (λ x. is_rx x.checksum.ipv4) c.capabilities.ensures ∙ ap (λ K. is_rx K.capabilities.checksum.ipv4) (sym stands.same))
    c.in-Some.ensures takes)
