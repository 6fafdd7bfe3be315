use Rattle.net_base.specs.Device.{Sent}
use Rattle.net_base.proofs.MemoryMoves.{told_one}
use Rattle.net_base.proofs.memory_device.MemoryDeviceDevice.send.Goals as goal

pub returns : goal.returns
returns c = told_one (Sent _ _) (record { room = c.requires.permission; after = c.keep.ensures })
