use Rattle.std.proofs.Common.{◌∙◌}
use Rattle.ip_address.proofs.SixOctets.{same}
use Rattle.ip_address.proofs.ethernet_address.are_same.Goals as goal

-- src/ethernet_address.rt:13:1
pub returns-then-from_le_bytes : goal.returns-then-from_le_bytes
returns-then-from_le_bytes c = same c.args.a.now c.args.b.now _ _ _ c.told-a c.told-b c.fits-a c.fits-b c.from_le_bytes.ensures
    (c.if-from_le_bytes.true ∙ c.from_le_bytes-2.ensures) c.from_le_bytes-then-from_le_bytes.ensures c.from_le_bytes-then-from_le_bytes-2.ensures
