-- Where the entries of a table lie. No public clause cites this module.
use Rattle.std.specs.Prelude.{ℕ, List, vec_capacity}
use Rattle.std.specs.Vec as vec
use Rattle.arrayvec.specs.ArrayVec as own
use Rattle.iface_tables.specs.Store.{Stored}
use Rattle.iface_tables.specs.declared.store.Place.{Place}
use Rattle.iface_tables.specs.declared.store.Place.TheVariants.{Own, Lent}

module _ {T : Type 0} {N : ℕ} where
  -- those in the table itself, which has N places, or in storage that was handed over
  abbrev pub stored_at : Place T N → Stored T
  stored_at (Own v) = record { items = v.items; room = N }
  stored_at (Lent v) = record { items = v.items; room = vec_capacity v }

  -- a place after a write through its slice
  abbrev pub place_with_items : Place T N → List T → Place T N
  place_with_items (Own v) xs = Own (own.with_items v xs)
  place_with_items (Lent v) xs = Lent (vec.with_items v xs)
