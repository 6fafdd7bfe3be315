use Rattle.std.proofs.Common.{◌≡◌, ap, ◌∙◌}
use Rattle.fragmentation.specs.Details.Place.{slots_at}
use Rattle.fragmentation.specs.Details.Holders.{released_at}
use Rattle.fragmentation.proofs.HolderLemmas.{stands_released}
use Rattle.fragmentation.proofs.reassembly.PacketAssemblerSet+FragKey.release.Goals as goal

pub returns-clause-stands : goal.returns-clause-stands
returns-clause-stands c =
    let left : slots_at c.release.new.self ≡ released_at c.args.index c.args.self.now =
    c.release.ensures ∙ ap (released_at c.args.index) c.self.view_is in
    rw left (stands_released c.args.index c.args.self.now)
