use Rattle.std.proofs.Common.{sym, ◌∙◌, subst}
use Rattle.ip_address.specs.declared.hardware.HardwareAddress.{HardwareAddress}
use Rattle.fragmentation.specs.declared.key.FragKey.{FragKey}
use Rattle.iface_context.specs.Stands.{host_of}
use Rattle.host_machine.specs.Context.Host.{no_sockets}
use Rattle.iface_receive.specs.FragmentKey.{CarriesOn, IsFound}
use Rattle.iface_receive.proofs.FragmentKeys.{no_frame, no_part}
use Rattle.iface_receive.proofs.fragment_key.fragment_key.Goals as goal

pub returns-then-not-may_be_framed : goal.returns-then-not-may_be_framed
returns-then-not-may_be_framed c = λ key carried.
    no_frame c.in-Ethernet.own key (host_of c.args.context.now no_sockets) c.args.frame.now
    (sym c.may_be_framed.ensures ∙ c.if-not-may_be_framed.true)
    (subst (λ (medium : HardwareAddress). CarriesOn medium key (host_of c.args.context.now no_sockets) c.args.frame.now)
    (sym c.hardware_addr.ensures ∙ c.in-Ethernet.is) carried)

pub returns-else-not-may_be_framed : goal.returns-else-not-may_be_framed
returns-else-not-may_be_framed c =
    subst (λ (medium : HardwareAddress). IsFound (λ key. CarriesOn medium key (host_of c.args.context.now no_sockets) c.args.frame.now) c.framed_key.result)
    (sym c.in-Ethernet.is ∙ c.hardware_addr.ensures) c.framed_key.ensures

pub returns-then-not-may_be_part : goal.returns-then-not-may_be_part
returns-then-not-may_be_part c = λ key carried.
    no_part key (host_of c.args.context.now no_sockets) c.args.frame.now (sym c.may_be_part.ensures ∙ c.if-not-may_be_part.true)
    (subst (λ (medium : HardwareAddress). CarriesOn medium key (host_of c.args.context.now no_sockets) c.args.frame.now)
    (sym c.hardware_addr.ensures ∙ c.in-Ip.is) carried)

pub returns-else-not-may_be_part : goal.returns-else-not-may_be_part
returns-else-not-may_be_part c =
    subst (λ (medium : HardwareAddress). IsFound (λ key. CarriesOn medium key (host_of c.args.context.now no_sockets) c.args.frame.now) c.packet_key.result)
    (sym c.in-Ip.is ∙ c.hardware_addr.ensures) c.packet_key.ensures
