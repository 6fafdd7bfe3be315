use Rattle.std.proofs.Common.{refl}
use Rattle.iface_context.specs.Stands.{host_in}
use Rattle.iface_context.proofs.Processing.{answered, unanswered}
use Rattle.iface_receive.proofs.Messages.{echoed, of_groups, of_routers, unheeded}
use Rattle.iface_receive.proofs.icmpv6.process_message.Goals as goal

pub returns-in-EchoRequest : goal.returns-in-EchoRequest
returns-in-EchoRequest c = λ sockets.
    answered sockets _ (λ slots. echoed c.args.header.now c.args.message.now c.args.contents.now _ _
    (host_in c.args.context.now slots sockets) _ c.in-EchoRequest.is refl) c.send_message.ensures

pub returns-in-Router : goal.returns-in-Router
returns-in-Router c = λ sockets.
    unanswered c.requires.empty (λ slots. of_routers c.args.header.now c.args.message.now c.args.contents.now _
    (host_in c.args.context.now slots sockets) (host_in c.process_router.new.context slots sockets)
    c.in-Router.is (c.process_router.ensures slots sockets))

pub returns-in-Mld : goal.returns-in-Mld
returns-in-Mld c = λ sockets.
    unanswered c.requires.empty (λ slots. of_groups c.args.header.now c.args.message.now c.args.contents.now _
    (host_in c.args.context.now slots sockets) (host_in c.process_mld.new.context slots sockets) _ _
    c.in-Mld.is (c.process_mld.ensures slots sockets))

pub returns-in_default : goal.returns-in_default
returns-in_default c = λ sockets.
    unanswered c.requires.empty (λ slots. unheeded c.args.header.now c.args.message.now c.args.contents.now
    (host_in c.args.context.now slots sockets) c.in_default.not-EchoRequest c.requires.no_neighbor c.in_default.not-Router c.in_default.not-Mld)
