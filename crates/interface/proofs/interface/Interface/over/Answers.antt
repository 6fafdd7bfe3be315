use Rattle.interface.proofs.NewInterface.{made, medium_is}
use Rattle.interface.proofs.interface.Interface.over.Goals as goal

pub new-requires-clause-of_medium : goal.new-requires-clause-of_medium
new-requires-clause-of_medium c = medium_is c.args.capabilities.medium c.args.config.hardware_addr c.requires.own

pub returns : goal.returns
returns c =
    made c.args.capabilities c.args.config.hardware_addr c.args.config.random_seed c.first_id-ipv4_id.result c.first_id-ipv4_id.new.rand
    c.args.config.slaac c.args.now c.new.result c.new-2.result (rw c.new-rand.ensures at c.first_id-ipv4_id.ensures.value)
    (rw c.new-rand.ensures at c.first_id-ipv4_id.ensures.drawn) (c.new-2.ensures.stands (λ k. k)) c.new.ensures
