use Rattle.std.proofs.Common.{sym, ◌∙◌, ap, refl, Some, None}
use Rattle.iface_tables.specs.Neighbor.{is_found}
use Rattle.host_machine.specs.Send.Hops.{OfHost}
use Rattle.iface_send.proofs.hops.has_neighbor.Goals as goal

pub returns-in-Some : goal.returns-in-Some
returns-in-Some c = λ slots sockets.
    OfHost (Some c.in-Some.hop) (sym c.is_unicast.ensures ∙ c.if-not-is_unicast.false) (rw c.in-Some.is at (c.next_hop.ensures.hop slots sockets))
    (c.found.ensures ∙ ap is_found c.lookup.ensures)

pub returns-in-None : goal.returns-in-None
returns-in-None c = λ slots sockets.
    OfHost None (sym c.is_unicast.ensures ∙ c.if-not-is_unicast.false) (rw c.in-None.is at (c.next_hop.ensures.hop slots sockets)) refl
