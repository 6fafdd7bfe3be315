-- How places are found: a row of cells, of which each is empty or has a place. The search for ends begins at their home, and
-- goes on to where any with that home were put.
use Rattle.std.specs.Prelude.{◌≡◌, ◌≤◌, ◌<◌, ℕ, ◌+◌, ◌^◌, nat_lt, Bool, List, length, get_or, Option, Some, is_some}
use Rattle.std.specs.List.{count_by}
use Rattle.tcp_host.specs.declared.iss.Endpoints.{Endpoints}
use Rattle.tcp_host.specs.declared.sip_hash.SipKey.{SipKey}
use Rattle.tcp_host.specs.Homes.{home}
use Rattle.tcp_host.specs.Table.{ends_at, AreDistinct}

-- a cell with 0 is empty, and one with p + 1 has the place p
abbrev pub is_used : ℕ → Bool
is_used cell = nat_lt 0 cell

-- a place is found within the reach of its home
pub record IsFound (place h : ℕ) (cells reaches : List ℕ) : Type 0 where
  pub offset : ℕ
  pub near : offset < get_or reaches h 0
  pub cell : get_or cells (h + offset) 0 ≡ place + 1

-- there is a cell more for each place than there are homes, so there is always an empty one after any home
pub record Stands (key : SipKey) (table : List (Option Endpoints)) (cells reaches : List ℕ) : Type 0 where
  pub homes : 1 ≤ length reaches
  pub cells_len : length cells ≡ length reaches + length table
  pub few : length table ≤ 2 ^ 30
  pub few_homes : length reaches ≤ 2 ^ 31 + 1
  pub used : count_by is_used cells ≡ count_by is_some table
  pub within : (h : ℕ) → h < length reaches → h + get_or reaches h 0 ≤ length cells
  pub places : (c : ℕ) → get_or cells c 0 ≤ length table
  pub found : (e : Endpoints) (place : ℕ) → ends_at table place ≡ Some e → IsFound place (home key (length reaches) e) cells reaches
  pub distinct : AreDistinct table
