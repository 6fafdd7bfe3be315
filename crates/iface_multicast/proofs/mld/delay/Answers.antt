use Rattle.std.proofs.lemmas.Bool.{ne_eqb}
use Rattle.iface_multicast.proofs.mld.delay.Goals as goal

pub returns-clause-drawn : goal.returns-clause-drawn
returns-clause-drawn c = λ sockets. rw (ne_eqb c.args.max_resp_code 0 c.if-max_resp_code-eq0.false) (c.rand_u16-word.ensures.drawn sockets)
