-- The three examples of RFC 2018 7: eight segments of 500 octets, of which the first begins at 5000, in the ring of a connection.
use Rattle.std.specs.Prelude.{◌≡◌, ℕ, Bool, true, false, List, [], ◌∷◌, replicate, Option, Some, None}
use Rattle.std.specs.Option.{option_map}
use Rattle.tcp_machine.specs.declared.sack.SackBlock.{SackBlock}
use Rattle.tcp_machine.specs.Connection.{Connection}
use Rattle.tcp_machine.specs.Segments.{Segment}
use Rattle.tcp_machine.specs.Receiving.{Receiver}
use Rattle.tcp_machine.specs.Sack.{Block, blocks_from, blocks_of}
use Rattle.tcp_machine.specs.Opening.{opened, accepted, after_arrival}
use Rattle.tcp_machine.specs.Outgoing.{Outgoing}
use Rattle.tcp_machine.specs.Calls.{after_writing}
use Rattle.tcp_machine.specs.Examples.Ends.{settings, no_options, ack_segment, syn_segment, fin_segment, text_segment, sends, after_sending, after_segment}

-- a peer whose first octet has the number 5000, and a ring of 5,000 octets
abbrev pub offering : Bool → Segment
offering permitted = record (syn_segment 4999 None) { options = record no_options { sack_permitted = permitted } }

abbrev pub answering : Bool → Connection
answering permitted = accepted 0 99 20 5000 536 100 settings (offering permitted)

abbrev pub connected_by : Bool → Connection
connected_by permitted = after_segment 0 (ack_segment 5000 100) (after_sending 0 (answering permitted))

abbrev pub connected : Connection
connected = connected_by true

abbrev pub opened_by_this : Connection
opened_by_this =
    after_segment 0 (record (offering true) { ack = Some 100 }) (after_sending 0 (opened 0 99 20 5000 100 settings))

-- a segment of 500 octets arrives, and is answered
abbrev pub arrives : ℕ → Connection → Connection
arrives number c = after_segment 1 (text_segment number 100 (replicate 500 7)) (after_sending 1 c)

-- what an answer acknowledges, and its blocks
pub record Told : Type 0 where
  pub ack : Option ℕ
  pub blocks : List SackBlock

abbrev pub answer : Connection → Option Told
answer c = option_map (λ (s : Outgoing). record { ack = s.ack; blocks = s.blocks }) (sends 1 c)

abbrev pub told : ℕ → List SackBlock → Option Told
told ack blocks = Some (record { ack = Some ack; blocks = blocks })

abbrev pub block : ℕ → ℕ → SackBlock
block left right = record { left = left; right = right }

-- 1: the first four segments arrive, and the last four are lost
abbrev pub four : Connection
four = arrives 6500 (arrives 6000 (arrives 5500 (arrives 5000 connected)))

-- 2: the first segment is lost, and the others arrive
abbrev pub two : Connection
two = arrives 5500 connected

abbrev pub three : Connection
three = arrives 6000 two

abbrev pub eight : Connection
eight = arrives 8500 (arrives 8000 (arrives 7500 (arrives 7000 (arrives 6500 three))))

-- 3: the second, the fourth, the sixth and the eighth segment are lost
abbrev pub third : Connection
third = arrives 6000 (arrives 5000 connected)

abbrev pub fifth : Connection
fifth = arrives 7000 third

abbrev pub seventh : Connection
seventh = arrives 8000 fifth

-- then the fourth one arrives, and then the second
abbrev pub fourth : Connection
fourth = arrives 6500 seventh

abbrev pub second : Connection
second = arrives 5500 fourth

pub record Rfc2018 : Type 0 where
  pub case_1 : answer four ≡ told 7000 []
  pub case_2_second : answer two ≡ told 5000 (block 5500 6000 ∷ [])
  pub case_2_third : answer three ≡ told 5000 (block 5500 6500 ∷ [])
  pub case_2_eighth : answer eight ≡ told 5000 (block 5500 9000 ∷ [])
  pub case_3_third : answer third ≡ told 5500 (block 6000 6500 ∷ [])
  pub case_3_fifth : answer fifth ≡ told 5500 (block 7000 7500 ∷ block 6000 6500 ∷ [])
  pub case_3_seventh : answer seventh ≡ told 5500 (block 8000 8500 ∷ block 7000 7500 ∷ block 6000 6500 ∷ [])
  pub case_3_fourth : answer fourth ≡ told 5500 (block 6000 7500 ∷ block 8000 8500 ∷ [])
  pub case_3_second : answer second ≡ told 7500 (block 8000 8500 ∷ [])

-- Beside them: a segment that comes once more is told first, in its block. One in order leaves the first block where it is. The end is no
-- octet, nor is one that isn't kept
abbrev pub left_out : Connection
left_out = after_arrival 536 100 1 false (text_segment 9000 100 (replicate 500 7)) (after_sending 1 seventh)

-- only the option of a SYN permits blocks
abbrev pub permitting_late : Segment
permitting_late = record (text_segment 5500 100 (replicate 500 7)) { options = record no_options { sack_permitted = true } }

pub record MoreSack : Type 0 where
  pub again : answer (arrives 6000 seventh) ≡ told 5500 (block 6000 6500 ∷ block 8000 8500 ∷ block 7000 7500 ∷ [])
  pub in_order : answer (arrives 5000 (arrives 6000 (arrives 8000 connected))) ≡ told 5500 (block 6000 6500 ∷ block 8000 8500 ∷ [])
  pub end : answer (after_segment 1 (fin_segment 8000 100) fifth) ≡ told 5500 (block 7000 7500 ∷ block 6000 6500 ∷ [])
  pub not_kept : answer left_out ≡ told 5500 (block 8000 8500 ∷ block 7000 7500 ∷ block 6000 6500 ∷ [])
  -- octets take the place of blocks
  pub beside_octets : answer (after_writing (1 ∷ []) two) ≡ told 5000 []
  pub not_permitted : answer (arrives 5500 (connected_by false)) ≡ told 5000 []
  pub permitted_late : answer (after_segment 1 permitting_late (connected_by false)) ≡ told 5000 []
  -- the side that opens is permitted by a SYN-ACK
  pub opener : answer (arrives 5500 opened_by_this) ≡ told 5000 (block 5500 6000 ∷ [])

-- A ring from position 10 on: two octets in order, a gap, two octets, a gap, and one
abbrev pub ring : Option ℕ → Receiver
ring stop = record {
  base = 10;
  cells = Some 1 ∷ Some 2 ∷ None ∷ Some 3 ∷ Some 4 ∷ None ∷ Some 5 ∷ None ∷ [];
  stop = stop;
}

abbrev pub part : ℕ → ℕ → Block
part left right = record { left = left; right = right }

pub record SackOfRing : Type 0 where
  -- octets side by side are in one block
  pub parts : blocks_from 10 (ring None).cells ≡ part 10 12 ∷ part 13 15 ∷ part 16 17 ∷ []
  -- the newest one is first, wherever in it the octets arrived; the octets in order are in none
  pub furthest : blocks_of 16 (ring None) ≡ part 16 17 ∷ part 13 15 ∷ []
  pub nearest : blocks_of 13 (ring None) ≡ part 13 15 ∷ part 16 17 ∷ []
  pub within : blocks_of 14 (ring None) ≡ part 13 15 ∷ part 16 17 ∷ []
  pub below : blocks_of 11 (ring None) ≡ part 16 17 ∷ part 13 15 ∷ []
  -- nor is what follows the end right away
  pub ended : blocks_of 13 (ring (Some 12)) ≡ part 16 17 ∷ []
  -- without a gap there is none
  pub no_gap : blocks_of 10 (record { base = 10; cells = Some 1 ∷ Some 2 ∷ None ∷ []; stop = None }) ≡ []
