-- Blocks that arrive (RFC 2018 5, RFC 6675): segments of 100 octets are on their way, from position 1 on.
use Rattle.std.specs.Prelude.{◌≡◌, ℕ, Bool, true, false, List, [], ◌∷◌, length, replicate, Some, None}
use Rattle.net_base.specs.declared.assembler.Range.{Range}
use Rattle.tcp_machine.specs.declared.state.State.TheVariants.{Established}
use Rattle.tcp_machine.specs.declared.timers.Pending.TheVariants.{Empty, Resend}
use Rattle.tcp_machine.specs.Congestion as congestion
use Rattle.tcp_machine.specs.Scoreboard as scoreboard
use Rattle.tcp_machine.specs.Sending.{open_sender}
use Rattle.tcp_machine.specs.Connection.{Connection}
use Rattle.tcp_machine.specs.Opening.{opened, no_transmission, no_reception}
use Rattle.tcp_machine.specs.Acknowledgements.{after_more, is_hole_due, is_more_told, pipe, shows_next_loss}
use Rattle.tcp_machine.specs.Outgoing.{again_from, most_again, beyond_window_of, again_sent}
use Rattle.tcp_machine.specs.Timers.{after_loss_of_all}
use Rattle.tcp_machine.specs.Examples.Ends.{settings}

abbrev pub range : ℕ → ℕ → Range
range start end = record { start = start; end = end }

-- so many octets are on their way, and this is told
abbrev pub sending : (top : ℕ) → List Range → Connection
sending top told = record (opened 0 99 2000 20 100 settings) {
  state = Established;
  transmission = record (no_transmission 2000 100) {
    sender = record (open_sender 2000 4000) { top = top };
    nxt = top;
    told_edge = 4001;
    largest_window = 4000;
    told = told;
  };
  reception = record (no_reception 20) { sack_permitted = true };
  congestion = congestion.new_congestion 100;
}

-- The first segment and the fourth are lost: the second, the third and the fifth are told
abbrev pub three : List Range
three = range 0 1 ∷ range 101 301 ∷ range 401 501 ∷ []

abbrev pub two : List Range
two = range 0 1 ∷ range 101 301 ∷ []

-- what follows where this is news, after so many were
abbrev pub after_news : (duplicates : ℕ) → Connection → Connection
after_news n c = after_more true false (record c { congestion = record c.congestion { duplicates = n } })

-- in the recovery of twelve segments, after the first was sent again
abbrev pub recovering : (resent : ℕ) → List Range → Connection
recovering resent told =
    let c = sending 1201 told in
    record c {
      transmission = record c.transmission { resent = resent };
      congestion = congestion.after_loss_told 100 1000 1201;
    }

-- up to the eighth segment, up to the ninth, and up to the tenth
abbrev pub up_to : ℕ → List Range
up_to end = range 0 1 ∷ range 101 301 ∷ range 401 end ∷ []

pub record Recovers : Type 0 where
  -- the third news begins a recovery, the second doesn't: half of what is on its way is its window, and the first segment goes again
  pub third : (after_news 2 (sending 1001 two)).pending ≡ Resend
  pub window : (after_news 2 (sending 1001 three)).congestion.window ≡ 500
  pub first : again_from (after_news 2 (sending 1001 three)) ≡ 1
  pub up_to_told : most_again (after_news 2 (sending 1001 (range 0 1 ∷ range 61 301 ∷ []))) ≡ 60
  pub second : (after_news 1 (sending 1001 two)).pending ≡ Empty
  pub counted : (after_news 1 (sending 1001 two)).congestion.duplicates ≡ 2
  -- what is told once more is no news, and without news no recovery begins
  pub twice : is_more_told (sending 1001 two).transmission (sending 1001 two).transmission ≡ false
  pub more : is_more_told (sending 1001 two).transmission (sending 1001 three).transmission ≡ true
  pub no_news : (after_more false false (sending 1001 three)).congestion.duplicates ≡ 0
  -- what was recovered already doesn't begin another one
  pub recovered : (after_news 2 (record (sending 1001 three) { congestion = congestion.after_timeout true 100 1000 1001 (congestion.new_congestion 100) })).pending ≡ Empty
  -- the fourth segment is lost once more than two behind it are told, and goes once half of what was on its way has room for it
  pub not_lost : is_hole_due (recovering 101 (up_to 601)) ≡ false
  pub on_way : pipe (recovering 101 (up_to 801)).transmission ≡ 500
  pub waits : is_hole_due (recovering 101 (up_to 801)) ≡ false
  pub has_room : is_hole_due (recovering 101 (up_to 901)) ≡ true
  pub fourth : again_from (recovering 101 (up_to 901)) ≡ 301
  pub fourth_alone : most_again (recovering 101 (up_to 901)) ≡ 100
  -- until then nothing new goes, and after that as much as is told has left the network
  pub holes_first : beyond_window_of (recovering 101 (up_to 901)) ≡ 0
  pub then_new : beyond_window_of (recovering 401 (up_to 901)) ≡ 700
  -- each goes once
  pub sent_up_to : (again_sent (record { start = 301; octets = replicate 100 7; ends = false }) (recovering 101 (up_to 901))).transmission.resent ≡ 401
  pub once : is_hole_due (recovering 401 (up_to 1001)) ≡ false
  pub on_way_again : pipe (recovering 401 (up_to 901)).transmission ≡ 500
  -- a part is acknowledged: the next segment goes, unless it was sent again already
  pub next : shows_next_loss 301 (recovering 101 three) ≡ true
  pub was_sent : shows_next_loss 301 (recovering 401 three) ≡ false
  pub stays : (congestion.after_progress true 100 300 301 900 (congestion.after_loss_told 100 1000 1201)).window ≡ 500
  pub ends : (congestion.after_progress true 100 1200 1201 0 (congestion.after_loss_told 100 1000 1201)).is_recovering ≡ false
  -- the time ran out: what was told is forgotten (RFC 2018 8)
  pub forgotten : (after_loss_of_all (recovering 401 three)).transmission.told ≡ []
  pub from_first : (after_loss_of_all (recovering 401 three)).transmission.nxt ≡ 1

pub record ShowsLoss : Type 0 where
  -- the first news suffices, if it tells more octets than two segments have, or three separate blocks (RFC 6675 4)
  pub octets : (after_news 0 (sending 1001 (range 0 1 ∷ range 101 302 ∷ []))).pending ≡ Resend
  pub blocks : (after_news 0 (sending 1001 (range 0 1 ∷ range 101 102 ∷ range 201 202 ∷ range 301 302 ∷ []))).pending ≡ Resend
  -- less doesn't
  pub two : (after_news 0 (sending 1001 (range 0 1 ∷ range 101 301 ∷ []))).pending ≡ Empty
  pub two_blocks : (after_news 0 (sending 1001 (range 0 1 ∷ range 101 201 ∷ range 301 401 ∷ []))).pending ≡ Empty
  -- what lies above the blocks isn't lost, nor what has one segment above it
  pub above : scoreboard.is_lost 100 601 (up_to 601) ≡ false
  pub one_above : scoreboard.is_lost 100 301 (up_to 501) ≡ false
  pub lost : scoreboard.lost_from 100 1 (up_to 801) ≡ 200
  pub of_next : scoreboard.lost_from 100 351 (up_to 801) ≡ 50

-- what a block tells, where positions from 1 up to 1001 were sent
abbrev pub told_by : ℕ → ℕ → List Range
told_by left right = scoreboard.after_block 1 1001 (Some left) (Some right) []

pub record Tells : Type 0 where
  pub block : told_by 101 201 ≡ range 0 1 ∷ range 101 201 ∷ []
  pub last : told_by 901 1001 ≡ range 0 1 ∷ range 901 1001 ∷ []
  -- Blocks of what wasn't sent, or is acknowledged, or backwards, or empty tell nothing
  pub beyond : told_by 901 1002 ≡ []
  pub unsent : told_by 1001 1101 ≡ []
  pub across : told_by 1 201 ≡ []
  pub backwards : told_by 301 201 ≡ []
  pub empty : told_by 201 201 ≡ []
  pub nowhere : scoreboard.after_block 1 1001 None (Some 201) [] ≡ []
  -- a block that overlaps others is one with them
  pub joined : scoreboard.after_block 1 1001 (Some 251) (Some 451) three ≡ range 0 1 ∷ range 101 501 ∷ []
  -- a fifth range finds no room, and one that touches another does
  pub fifth : scoreboard.after_block 1 1001 (Some 801) (Some 901) (range 0 1 ∷ range 101 201 ∷ range 301 401 ∷ range 501 601 ∷ [])
      ≡ range 0 1 ∷ range 101 201 ∷ range 301 401 ∷ range 501 601 ∷ []
  pub touching : scoreboard.after_block 1 1001 (Some 601) (Some 701) (range 0 1 ∷ range 101 201 ∷ range 301 401 ∷ range 501 601 ∷ [])
      ≡ range 0 1 ∷ range 101 201 ∷ range 301 401 ∷ range 501 701 ∷ []
  -- what is acknowledged needn't be told, and where nothing else is told nothing is kept
  pub acknowledged : scoreboard.after_acknowledged 351 three ≡ range 0 351 ∷ range 401 501 ∷ []
  pub all : scoreboard.after_acknowledged 501 three ≡ []
  pub none : scoreboard.after_acknowledged 501 [] ≡ []
