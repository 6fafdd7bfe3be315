use Rattle.fragmentation.proofs.HolderLemmas.{slot_is_held}
use Rattle.fragmentation.proofs.reassembly.PacketAssemblerSet+FragKey.holds_slots.Goals as goal

pub returns : goal.returns
returns c = λ i. slot_is_held i c.args.self.now
