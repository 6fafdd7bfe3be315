-- What a table's entries end as, where they are lent for writing.
use Rattle.std.specs.Prelude.{List}
use Rattle.std.specs.Borrow.{Lends, Fml, RattleType, MutBor, Array}
use Rattle.iface_tables.specs.Store.{Stored, with_items}
use Rattle.iface_tables.specs.contracts.store.Store.{the_row}

-- once the borrow r ends, the entries are those that r shows last
abbrev pub lends_slice : (T N : RattleType) → MutBor (Stored T.Denot) → MutBor (List T.Denot) → Fml
lends_slice T N s r = Lends (the_row T N) (Array T 0) s r (with_items s.now)
