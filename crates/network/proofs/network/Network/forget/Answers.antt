use Rattle.std.proofs.Common.{refl, length, min}
use Rattle.network.specs.Kept.{wire_of}
use Rattle.network.specs.Network.{network_of}
use Rattle.network.proofs.NetworkSteps.{forgot}
use Rattle.network.proofs.network.Network.forget.Goals as goal

pub returns : goal.returns
returns g c =
    forgot g.O.Owner.did (network_of c.args.self.now) (network_of (record { hosts = c.args.self.now.hosts; kept = c.forget.new.self }))
    (min c.args.count (length (wire_of c.args.self.now.kept))) refl c.forget.ensures.forgotten c.forget.ensures.rest
