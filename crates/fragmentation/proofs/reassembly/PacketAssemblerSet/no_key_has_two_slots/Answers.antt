use Rattle.fragmentation.proofs.reassembly.PacketAssemblerSet.no_key_has_two_slots.Goals as goal

pub returns : goal.returns
returns g c = rw (← c.self.view_is) c.are_kept.ensures.apart
