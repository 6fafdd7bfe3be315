-- What a place ends as, where its entries are lent. No public clause cites this module.
use Rattle.std.specs.Prelude.{List}
use Rattle.std.specs.Borrow.{Lends, Fml, RattleType, MutBor, Array}
use Rattle.iface_tables.specs.Details.Place.{place_with_items}
use Rattle.iface_tables.specs.contracts.store.Place.{the_row}

abbrev pub place_lends_slice : (T N : RattleType) → MutBor (the_row T N).Denot → MutBor (List T.Denot) → Fml
place_lends_slice T N p r = Lends (the_row T N) (Array T 0) p r (place_with_items p.now)
