use borrow.Follows.Closed.{read_of}
use Rattle.std.specs.Borrow.{MutBor, name_if_ok}
use Rattle.fragmentation.specs.Assembly.{Assembly, slot_for, with_key}
use Rattle.fragmentation.specs.Details.Lending.{key_of}
use Rattle.fragmentation.specs.Details.Place.{slots_at}
use Rattle.fragmentation.proofs.PlacesLemmas.{slots_at-with_slot_at}
use Rattle.fragmentation.proofs.reassembly.PacketAssemblerSet.get.Goals as goal

pub returns : goal.returns
returns g c =
    let place = c.self.inside.place in
    let i = slot_for g.K.PartialEq.eq c.args.key.now (slots_at place) in
    rw (← c.self.view_is) (
      λ t. read_of (name_if_ok (λ (x : MutBor (Assembly g.row.K.Denot)). x.ghost_name) c.get.result)
          (λ (w : Assembly g.row.K.Denot). slots_at-with_slot_at place i (with_key (key_of c.get.result) w) t) (slots_at place),
      c.get.ensures,
    )
