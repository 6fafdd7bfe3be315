-- What blocks tell, place by place, as code has them.
use Rattle.std.specs.Prelude.{ℕ, ◌&&◌, min, Bool, true, false, List, [], ◌∷◌, Option, Some, None}
use Rattle.net_base.specs.declared.assembler.Range.{Range}
use Rattle.tcp_machine.specs.declared.sack.SackBlock.{SackBlock}
use Rattle.tcp_machine.specs.Positions.{position_near}
use Rattle.tcp_machine.specs.Scoreboard.{is_empty, after_block}
use Rattle.tcp_machine.specs.Segments.{Segment}
use Rattle.tcp_machine.specs.Connection.{Connection}
use Rattle.tcp_machine.specs.Congestion.{after_loss_told}
use Rattle.tcp_machine.specs.Acknowledgements.{flight}
use Rattle.tcp_machine.specs.declared.timers.Pending.TheVariants.{Resend}

abbrev pub is_nil : List SackBlock → Bool
is_nil [] = true
is_nil (b ∷ bs) = false

-- nothing is told, and a segment tells nothing
abbrev pub is_nothing_told : Segment → Connection → Bool
is_nothing_told s c = is_nil s.options.blocks && is_empty c.transmission.told

-- a block in a place is told, if there is one
abbrev pub after_place : (initial una top : ℕ) → Option SackBlock → List Range → List Range
after_place initial una top None rs = rs
after_place initial una top (Some b) rs =
    after_block una top (position_near initial una b.left) (position_near initial una b.right) rs

abbrev pub after_places : (initial una top : ℕ) → List (Option SackBlock) → List Range → List Range
after_places initial una top [] rs = rs
after_places initial una top (b ∷ bs) rs = after_places initial una top bs (after_place initial una top b rs)

abbrev pub with_ranges : List Range → Connection → Connection
with_ranges rs c = record c { transmission = record c.transmission { told = rs } }

-- a recovery begins
abbrev pub with_recovery : Connection → Connection
with_recovery c =
    let t = c.transmission in
    record c {
      transmission = record t { resent = t.sender.una };
      congestion = after_loss_told t.mss (min (flight t) c.congestion.window) t.sender.top;
      pending = Resend;
    }

abbrev pub with_place : Option SackBlock → Connection → Connection
with_place b c =
    with_ranges (after_place c.local c.transmission.sender.una c.transmission.sender.top b c.transmission.told) c

abbrev pub with_places : List (Option SackBlock) → Connection → Connection
with_places bs c =
    with_ranges (after_places c.local c.transmission.sender.una c.transmission.sender.top bs c.transmission.told) c
