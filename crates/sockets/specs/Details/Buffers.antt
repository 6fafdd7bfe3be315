-- The packets that each socket holds: those received but not read, and those to send.
use Rattle.std.specs.Prelude.{Bool, cond, is_none, List, ℕ}
use Rattle.sockets.specs.Queue.{Queued, first_of, put, queue_after_pop, queue_brought_forward}
use Rattle.sockets.specs.declared.poll_at.PollAt.{PollAt}
use Rattle.sockets.specs.declared.poll_at.PollAt.TheVariants.{Ingress}

-- the packets received but not read, and the packets to send
pub record Buffered (M : Type 0) : Type 0 where
  pub rx : Queued M
  pub tx : Queued M

module _ {M : Type 0} where
  -- a packet is received
  abbrev pub buffers_after_delivery : M → List ℕ → Buffered M → Buffered M
  buffers_after_delivery m octets b = record b { rx = put b.rx m octets }

  -- the first packet received is read
  abbrev pub buffers_after_done : Buffered M → Buffered M
  buffers_after_done b = record b { rx = queue_after_pop b.rx }

  -- a packet is queued for sending
  abbrev pub buffers_after_send : M → List ℕ → Buffered M → Buffered M
  buffers_after_send m octets b = record b { tx = put b.tx m octets }

  -- the acknowledgement of the first packet to send: if it was sent or dropped, it is removed
  abbrev pub buffers_after_told : Bool → Buffered M → Buffered M
  buffers_after_told is_done b = cond is_done (record b { tx = queue_after_pop b.tx }) b

  -- the packet to send at an index comes to the front
  abbrev pub buffers_brought_forward : ℕ → Buffered M → Buffered M
  buffers_brought_forward index b = record b { tx = queue_brought_forward index b.tx }

  -- at the given moment, if there is something to send
  abbrev pub poll_at : PollAt → Buffered M → PollAt
  poll_at due b = cond (is_none (first_of b.tx.packets)) Ingress due
