use Rattle.interface.proofs.interface.Interface.is_on_its_medium.Goals as goal

pub returns : goal.returns
returns c = λ sockets H stands. rw stands.same
    (let k = c.args.self.now.context in record { real = record { own = k.own; neighbors = k.neighbors }; mtu = k.long; left = k.pending })
