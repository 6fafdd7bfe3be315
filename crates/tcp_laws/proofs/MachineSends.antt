-- What a connection sends stands in the stream.
use Rattle.std.proofs.Common.{◌≡◌, ◌<◌, ◌≤◌, ◌+◌, ◌-◌, ℕ, Bool, true, false, List, [], ◌∷◌, ◌++◌, length, take, drop}
use Rattle.std.proofs.Common.{refl, sym, ap, subst, ◌∙◌, arith, Option, Some, None, inl, inr}
use Rattle.std.specs.Prelude.{max, min, map, nat_le, ◌&&◌, ◌||◌, not}
use Rattle.std.specs.List.{All}
use Rattle.tcp_machine.specs.Sack.{Block}
use Rattle.tcp_machine.specs.Outgoing.{block_on_wire, blocks_told, blocks_on_wire, action_in_opening, is_challenge, is_syn_sent}
use Rattle.std.proofs.lemmas.Bool.Decides.{nat_tests}
use Rattle.std.proofs.lemmas.Option.{none-some}
use Rattle.std.proofs.lemmas.List.{length-take, length-drop, take-append-drop}
use Rattle.std.proofs.lemmas.List.Elements.{All-push, All-nil, All-same}
use Rattle.tcp_machine.specs.declared.state.State.{State}
use Rattle.tcp_machine.specs.declared.state.State.TheVariants.{Closed, Listen, SynSent, SynReceived, Established, FinWait1}
use Rattle.tcp_machine.specs.declared.state.State.TheVariants.{FinWait2, CloseWait, Closing, LastAck, TimeWait}
use Rattle.tcp_machine.specs.declared.timers.Pending.{Pending}
use Rattle.tcp_machine.specs.declared.timers.Pending.TheVariants.{Empty, Challenge, Resend, Probe, KeepAlive, Reset, SynAgain}
use Rattle.tcp_machine.specs.Positions.{number_at}
use Rattle.tcp_machine.specs.Pieces.{Piece, after_piece}
use Rattle.tcp_machine.specs.Sending.{Sender, after_send}
use Rattle.tcp_machine.specs.Receiving.{Receiver, expected}
use Rattle.tcp_machine.specs.States.{is_opening, is_synchronized, sends_octets}
use Rattle.tcp_machine.specs.Connection.{Connection}
use Rattle.tcp_machine.specs.Acknowledgements.{empty_position}
use Rattle.tcp_machine.specs.Outgoing.{Action, SendReset, SendSyn, SendNext, SendAgain, SendProbe, SendKeepAlive, SendAck}
use Rattle.tcp_machine.specs.Outgoing.{octets_from, piece_from, has_octets, next_piece, first_piece, again_from, again_piece, most_again, limit_of, is_worth_sending, ack_if}
use Rattle.tcp_machine.specs.Outgoing.{tells_something, action_pending, is_reset, is_syn_due, action, after_action}
use Rattle.tcp_laws.specs.Machines.{Sent, sent_as}
use Rattle.tcp_laws.proofs.SendingSteps.{IsSendable, sender_sends, piece_sent, le_max_left, le_max_right, max_le}
use Rattle.tcp_laws.proofs.ReceivingSteps.{false_true, is_at_some, first_of_two}
use Rattle.tcp_laws.proofs.HeldOctets.{told_stand, numbers_again}
use Rattle.tcp_laws.proofs.MachineStands.{BlockStands, BlocksStand, SentStands, Given, Streams, Known, is_quiet, Knows, Asks, IsGone, Good}
use Rattle.tcp_laws.proofs.MachineStreams.{sent_stands, top_near}
use Rattle.tcp_laws.proofs.Holes.{again_within}
use Rattle.tcp_laws.proofs.MachineArrivals.{either}
use Rattle.tcp_laws.proofs.MachineTimers.{not_sending}

-- one segment more was sent
abbrev pub with_sent : Sent → Given → Given
with_sent k g = record g { sent = g.sent ++ k ∷ [] }

-- that took nothing of the stream
pub sent_empty : (g : Given) (s : Sender) (r : Receiver) (k : Sent) → SentStands g.i g.j s g.written r k → Streams g s r → Streams (with_sent k g) s r
sent_empty g s r k new h = record {
  own = record {
    sender = h.own.sender;
    room = h.own.room;
    ring = h.own.ring;
    sent = All-push (SentStands g.i g.j s g.written r) g.sent k h.own.sent new;
  };
  there = h.there;
  here = h.here;
}

-- or a piece of it
pub sent_piece : (g : Given) (s : Sender) (r : Receiver) (p : Piece) (k : Sent) → IsSendable s p →
    SentStands g.i g.j (after_send p s) g.written r k → Streams g s r → Streams (with_sent k g) (after_send p s) r
sent_piece g s r p k may new h =
    let more = le_max_left s.top (after_piece p) in
    let o = h.own in
    let t = h.there.receiver in record {
      own = record {
        sender = sender_sends s g.written p may o.sender;
        room = o.room;
        ring = o.ring;
        sent = All-push (SentStands g.i g.j (after_send p s) g.written r) g.sent k
            (sent_stands g.i g.j s (after_send p s) g.written g.written r r
            (λ q l. record { octets = l.octets; last = l.last; sent = let e = l.sent in omega (arith, e, more) })
            (omega arith) (omega arith) (λ p l. l) g.sent o.sent)
            new;
      };
      there = record {
        receiver = record {
          places = t.places;
          cells = t.cells;
          held = λ i x e. let l = t.held i x e in omega (arith, l, more);
          base = t.base;
          read = t.read;
          within = t.within;
          base_top = omega (arith, t.base_top, more);
          stop = λ e at. let l = t.stop e at in let m = l.1 in (l.0, omega (arith, m, more));
        };
        acknowledged = h.there.acknowledged;
      };
      here = h.here;
    }

-- the piece from a position on may be sent
gap : (q u n len t : ℕ) → u ≤ q → q ≤ t → len ≤ n - (q - u) → q + len ≤ max t (u + n)
gap q u n len t a b c = by (nat_le (q - u) n) refl where
  by : (d : Bool) → nat_le (q - u) n ≡ d → q + len ≤ max t (u + n)
  by true e = let f : q - u ≤ n = grind (arith, nat_tests) in
      let l : q + len ≤ u + n = omega (arith, f, a, c) in omega (arith, l, le_max_right t (u + n))
  by false e = let f : n < q - u = grind (arith, nat_tests) in
      let l : q + len ≤ t = omega (arith, f, b, c) in omega (arith, l, le_max_left t (u + n))

short : (most : ℕ) (xs : List ℕ) → length (take most xs) ≤ length xs
short most xs = let e = length-take most xs in grind arith

pub from_sendable : (s : Sender) (q most : ℕ) → s.una ≤ q → q ≤ s.top → IsSendable s (piece_from q most s)
from_sendable s q most low high = record {
  unacknowledged = low;
  octets = (drop most (drop (q - s.una) s.ring), take-append-drop most (drop (q - s.una) s.ring));
  no_gap =
      let a = short most (drop (q - s.una) s.ring) in
      let b = length-drop (q - s.una) s.ring in
      gap q s.una (length s.ring) (length (octets_from q most s)) s.top low high (omega (arith, a, b));
  last = λ e. is_at_some s.stop (q + length (octets_from q most s)) e;
}

-- a segment without blocks
no_blocks : (j : ℕ) (r : Receiver) (k : Sent) → k.segment.blocks ≡ [] → k.blocks ≡ [] → BlocksStand j r k
no_blocks j r k wire none = record {
  numbers = wire ∙ sym (ap (map (λ (b : Block). record { left = number_at j b.left; right = number_at j b.right })) none);
  blocks = All-same (BlockStands r k.acknowledged) k.blocks [] none (All-nil (BlockStands r k.acknowledged));
  alone = inl none;
  none = λ _. none;
}

-- a segment that isn't plain
not_plain : {P : Type 0} → true ≡ false → P
not_plain e = cc

reset_stands : (i j : ℕ) (s : Sender) (w : List ℕ) (r : Receiver) (number : ℕ) (c : Connection) → SentStands i j s w r (sent_as (SendReset number) c)
reset_stands i j s w r number c = record { blocks = no_blocks j r (sent_as (SendReset number) c) refl refl; syn = λ e. false_true e; plain = λ is. not_plain is.no_reset }

syn_stands : (i j : ℕ) (s : Sender) (w : List ℕ) (r : Receiver) (c : Connection) → c.local ≡ i → SentStands i j s w r (sent_as SendSyn c)
syn_stands i j s w r c l = record { blocks = no_blocks j r (sent_as SendSyn c) refl refl; syn = λ e. ap (λ n. number_at n 0) l; plain = λ is. not_plain is.no_syn }

-- and one that is
module _ (g : Given) (c : Connection) (h : Knows g c) where
  told : Some (number_at c.remote (expected c.reception.receiver)) ≡ Some (number_at g.j (expected c.reception.receiver))
  told =
      let again : number_at (number_at g.j 0) (expected c.reception.receiver) ≡ number_at g.j (expected c.reception.receiver) = omega arith in
      ap (λ (n : ℕ). Some n) (ap (λ m. number_at m (expected c.reception.receiver)) h.0.remote ∙ again)

  low_enough : (q : ℕ) → q ≤ c.transmission.sender.top → q ≤ c.transmission.sender.una + c.transmission.sender.room + 1
  low_enough q high =
      let n = top_near c.transmission.sender g.written h.1.own.sender in
      let m = h.1.own.ring in
      let e = h.1.own.room in
      omega (arith, high, n, m, e)

  empty_high : empty_position c.transmission ≤ c.transmission.sender.top
  empty_high = max_le c.transmission.nxt (min c.transmission.sender.top c.transmission.sender.edge) c.transmission.sender.top h.0.nxt (grind arith)

  with_blocks : (k : Sent) → k.segment.blocks ≡ blocks_on_wire c → k.blocks ≡ blocks_told c.reception → k.segment.octets ≡ [] →
      k.segment.syn || k.segment.rst ≡ false → k.acknowledged ≡ expected c.reception.receiver → BlocksStand g.j c.reception.receiver k
  with_blocks k wire blocks octets plain known = record {
    numbers =
        wire ∙ ap (λ (n : ℕ). map (block_on_wire n) (blocks_told c.reception)) h.0.remote ∙ numbers_again g.j (blocks_told c.reception)
        ∙ ap (map (λ (b : Block). record { left = number_at g.j b.left; right = number_at g.j b.right })) (sym blocks);
    blocks = All-same (BlockStands c.reception.receiver k.acknowledged) k.blocks (blocks_told c.reception) blocks
        (subst (λ (n : ℕ). All (BlockStands c.reception.receiver n) (blocks_told c.reception)) (sym known) (told_stand c.reception));
    alone = inr octets;
    none = λ e. false_true (sym plain ∙ e);
  }

  -- without octets
  ack_stands : SentStands g.i g.j c.transmission.sender g.written c.reception.receiver (sent_as SendAck c)
  ack_stands =
      let high = empty_high in record {
        blocks = with_blocks (sent_as SendAck c) refl refl refl refl refl;
        syn = λ e. false_true e;
        plain = λ is. record {
          number = ap (λ n. number_at n (empty_position c.transmission)) h.0.local;
          ack = told;
          piece = record { octets = λ i x e. absurd (none-some x e); last = λ e. false_true e; sent = omega (arith, high) };
          near = low_enough (empty_position c.transmission) high;
          known = omega arith;
        };
      }

  keep_stands : SentStands g.i g.j c.transmission.sender g.written c.reception.receiver (sent_as SendKeepAlive c)
  keep_stands =
      let f = empty_high in
      let high : empty_position c.transmission - 1 ≤ c.transmission.sender.top = omega (arith, f) in record {
        blocks = with_blocks (sent_as SendKeepAlive c) refl refl refl refl refl;
        syn = λ e. false_true e;
        plain = λ is. record {
          number = ap (λ n. number_at n (empty_position c.transmission - 1)) h.0.local;
          ack = told;
          piece = record { octets = λ i x e. absurd (none-some x e); last = λ e. false_true e; sent = omega (arith, high) };
          near = low_enough (empty_position c.transmission - 1) high;
          known = omega arith;
        };
      }

  -- with a piece
  plain_piece : (p : Piece) → IsSendable c.transmission.sender p → p.start ≤ c.transmission.sender.top →
      SentStands g.i g.j (after_send p c.transmission.sender) g.written c.reception.receiver (sent_as (SendNext p) c)
  plain_piece p may high =
      let st = piece_sent c.transmission.sender g.written p may h.1.own.sender in record {
        blocks = no_blocks g.j c.reception.receiver (sent_as (SendNext p) c) refl refl;
        syn = λ e. false_true e;
        plain = λ is. record {
          number = ap (λ n. number_at n p.start) h.0.local;
          ack = told;
          piece = record { octets = st.octets; last = st.last; sent = st.sent };
          near = low_enough p.start high;
          known = omega arith;
        };
      }

  -- the connection after it
  piece_goes : (p : Piece) (k : Sent) (nxt : ℕ) → IsSendable c.transmission.sender p →
      SentStands g.i g.j (after_send p c.transmission.sender) g.written c.reception.receiver k →
      nxt ≤ max c.transmission.sender.top (after_piece p) → (is_synchronized c.state ≡ true → c.transmission.sender.una ≤ nxt) →
      Known g.i g.j c.local c.remote c.state nxt c.transmission.sender.una (max c.transmission.sender.top (after_piece p))
      × Streams (with_sent k g) (after_send p c.transmission.sender) c.reception.receiver
  piece_goes p k nxt may st high low =
      let k0 = h.0 in (
        record { local = k0.local; remote = k0.remote; nxt = high; una = low; opening = k0.opening; asks = k0.asks },
        sent_piece g c.transmission.sender c.reception.receiver p k may st h.1,
      )

-- what is sent stands, and so does the connection after it
abbrev pub IsSent : Given → ℕ → Connection → Option Action → Type 0
IsSent g now c None = Good g c
IsSent g now c (Some m) = Good (with_sent (sent_as m c) g) (after_action now m c)

not_both_states : {P : Type 0} (s : State) → is_opening s ≡ true → is_synchronized s ≡ true → P
not_both_states Closed h k = false_true h
not_both_states Listen h k = false_true h
not_both_states SynSent h k = false_true k
not_both_states SynReceived h k = false_true k
not_both_states Established h k = false_true h
not_both_states FinWait1 h k = false_true h
not_both_states FinWait2 h k = false_true h
not_both_states CloseWait h k = false_true h
not_both_states Closing h k = false_true h
not_both_states LastAck h k = false_true h
not_both_states TimeWait h k = false_true h

sends_synchronized : (s : State) → sends_octets s ≡ true → is_synchronized s ≡ true
sends_synchronized Closed h = h
sends_synchronized Listen h = h
sends_synchronized SynSent h = h
sends_synchronized SynReceived h = h
sends_synchronized Established h = refl
sends_synchronized FinWait1 h = refl
sends_synchronized FinWait2 h = refl
sends_synchronized CloseWait h = refl
sends_synchronized Closing h = refl
sends_synchronized LastAck h = refl
sends_synchronized TimeWait h = refl

start_before : (p : Piece) → p.start ≤ after_piece p
start_before p = omega arith

-- by a connection that knows its peer's initial number
module _ (g : Given) (now : ℕ) (c : Connection) (h : Knows g c) where
  known_reset : (number : ℕ) → IsSent g now c (Some (SendReset number))
  known_reset number =
      inl (
        h.0,
        sent_empty g c.transmission.sender c.reception.receiver (sent_as (SendReset number) c)
            (reset_stands g.i g.j c.transmission.sender g.written c.reception.receiver number c) h.1,
      )

  known_syn : is_opening c.state ≡ true → IsSent g now c (Some SendSyn)
  known_syn opened =
      let k = h.0 in
      let u = h.1.own.sender.una in
      let t = h.1.own.sender.una_top in
      inl (
        record {
          local = k.local;
          remote = k.remote;
          nxt = omega (arith, u, t);
          una = λ e. not_both_states c.state opened e;
          opening = k.opening;
          asks = k.asks;
        },
        sent_empty g c.transmission.sender c.reception.receiver (sent_as SendSyn c)
            (syn_stands g.i g.j c.transmission.sender g.written c.reception.receiver c k.local) h.1,
      )

  known_ack : IsSent g now c (Some SendAck)
  known_ack = inl (h.0, sent_empty g c.transmission.sender c.reception.receiver (sent_as SendAck c) (ack_stands g c h) h.1)

  known_keep : IsSent g now c (Some SendKeepAlive)
  known_keep = inl (h.0, sent_empty g c.transmission.sender c.reception.receiver (sent_as SendKeepAlive c) (keep_stands g c h) h.1)

  known_again : IsSent g now c (Some (SendAgain (again_piece c)))
  known_again =
      let s = c.transmission.sender in
      let p = again_piece c in
      let t = again_within c h.1.own.sender.una_top in
      let high = h.0.nxt in
      let may = from_sendable s (again_from c) (most_again c) t.0 t.1 in
      inl (piece_goes g c h p (sent_as (SendAgain p) c) c.transmission.nxt may (plain_piece g c h p may t.1)
      (omega (arith, high, le_max_left s.top (after_piece p))) h.0.una)

  known_probe : (most : ℕ) → IsSent g now c (Some (SendProbe (first_piece most c)))
  known_probe most =
      let s = c.transmission.sender in
      let p = first_piece most c in
      let t = h.1.own.sender.una_top in
      let high = h.0.nxt in
      let may = from_sendable s s.una most (omega arith) t in
      inl (piece_goes g c h p (sent_as (SendProbe p) c) c.transmission.nxt may (plain_piece g c h p may t)
      (omega (arith, high, le_max_left s.top (after_piece p))) h.0.una)

  known_next : is_synchronized c.state ≡ true → IsSent g now c (Some (SendNext (next_piece c)))
  known_next synchronized =
      let s = c.transmission.sender in
      let p = next_piece c in
      let high = h.0.nxt in
      let low = h.0.una synchronized in
      let may = from_sendable s c.transmission.nxt (min c.transmission.mss (limit_of c - c.transmission.nxt)) low high in
      inl (piece_goes g c h p (sent_as (SendNext p) c) (after_piece p) may (plain_piece g c h p may high)
      (le_max_right s.top (after_piece p)) (λ _. omega (arith, low, start_before p)))

  known_acks : (b : Bool) → IsSent g now c (ack_if b)
  known_acks true = known_ack
  known_acks false = inl h

  known_pending : (p : Pending) → IsSent g now c (action_pending p now c)
  known_pending Empty =
      either (IsSent g now c) (sends_octets c.state && is_worth_sending c (next_piece c)) (Some (SendNext (next_piece c)))
      (ack_if (is_synchronized c.state && tells_something now c))
      (λ e. known_next (sends_synchronized c.state (first_of_two (sends_octets c.state) (is_worth_sending c (next_piece c)) e)))
      (λ _. known_acks (is_synchronized c.state && tells_something now c))
  known_pending Challenge = known_acks (is_synchronized c.state)
  known_pending SynAgain = known_acks (is_synchronized c.state)
  known_pending KeepAlive = known_keep
  known_pending Probe =
      either (IsSent g now c) (sends_octets c.state && has_octets (next_piece c)) (Some (SendNext (next_piece c)))
      (Some (SendProbe (first_piece 1 c)))
      (λ e. known_next (sends_synchronized c.state (first_of_two (sends_octets c.state) (has_octets (next_piece c)) e)))
      (λ _. known_probe 1)
  known_pending Resend = known_again
  known_pending (Reset number) = known_reset number

  known_sends : IsSent g now c (action now c)
  known_sends =
      either (IsSent g now c) (is_opening c.state && not (is_reset c.pending)) (action_in_opening now c)
      (action_pending c.pending now c) (λ e.
      either (IsSent g now c) (is_syn_due now c) (Some SendSyn) (ack_if (is_challenge c.pending && not (is_syn_sent c.state)))
      (λ _. known_syn (first_of_two (is_opening c.state) (not (is_reset c.pending)) e))
      (λ _. known_acks (is_challenge c.pending && not (is_syn_sent c.state)))) (λ _. known_pending c.pending)

-- in SYN-SENT
module _ (g : Given) (now : ℕ) (c : Connection) (h : Asks g c) where
  asking_reset : (number : ℕ) → IsSent g now c (Some (SendReset number))
  asking_reset number =
      inr (inl (
        h.0,
        sent_empty g c.transmission.sender c.reception.receiver (sent_as (SendReset number) c)
            (reset_stands g.i g.j c.transmission.sender g.written c.reception.receiver number c) h.1,
      ))

  asking_syn : IsSent g now c (Some SendSyn)
  asking_syn =
      let k = h.0 in
      let u = h.1.own.sender.una in
      let t = h.1.own.sender.una_top in
      inr (inl (
        record { local = k.local; state = k.state; nxt = omega (arith, u, t); una = k.una },
        sent_empty g c.transmission.sender c.reception.receiver (sent_as SendSyn c)
            (syn_stands g.i g.j c.transmission.sender g.written c.reception.receiver c k.local) h.1,
      ))

  asking_ack : (b : Bool) → b ≡ false → IsSent g now c (ack_if b)
  asking_ack true e = false_true (sym e)
  asking_ack false e = inr (inl h)

  without : (a b : Bool) → b ≡ true → a && not b ≡ false
  without true b e = ap not e
  without false b e = refl

  asking_pending : (p : Pending) → not (is_reset p) ≡ false → IsSent g now c (action_pending p now c)
  asking_pending Empty e = false_true (sym e)
  asking_pending Challenge e = false_true (sym e)
  asking_pending SynAgain e = false_true (sym e)
  asking_pending KeepAlive e = false_true (sym e)
  asking_pending Probe e = false_true (sym e)
  asking_pending Resend e = false_true (sym e)
  asking_pending (Reset number) e = asking_reset number

  reset_only : (a b : Bool) → a ≡ true → a && b ≡ false → b ≡ false
  reset_only true b e f = f
  reset_only false b e f = false_true e

  asking_sends : IsSent g now c (action now c)
  asking_sends =
      either (IsSent g now c) (is_opening c.state && not (is_reset c.pending)) (action_in_opening now c)
      (action_pending c.pending now c)
      (λ _. either (IsSent g now c) (is_syn_due now c) (Some SendSyn) (ack_if (is_challenge c.pending && not (is_syn_sent c.state)))
      (λ _. asking_syn) (λ _. asking_ack (is_challenge c.pending && not (is_syn_sent c.state))
      (without (is_challenge c.pending) (is_syn_sent c.state) (ap is_syn_sent h.0.state))))
      (λ e. asking_pending c.pending (reset_only (is_opening c.state) (not (is_reset c.pending)) (ap is_opening h.0.state) e))

-- after the connection is gone
module _ (g : Given) (now : ℕ) (c : Connection) (h : IsGone g c) where
  gone_reset : (number : ℕ) → IsSent g now c (Some (SendReset number))
  gone_reset number =
      let k = h.0 in
      inr (inr (
        record { local = k.local; state = k.state; pending = refl; resend_at = k.resend_at },
        sent_empty g c.transmission.sender c.reception.receiver (sent_as (SendReset number) c)
            (reset_stands g.i g.j c.transmission.sender g.written c.reception.receiver number c) h.1,
      ))

  silent : (b : Bool) → b ≡ false → IsSent g now c (ack_if b)
  silent true e = not_plain e
  silent false e = inr (inr h)

  both : (a b : Bool) → a ≡ false → a && b ≡ false
  both true b e = not_plain e
  both false b e = refl

  gone_pending : (p : Pending) → is_quiet p ≡ true → IsSent g now c (action_pending p now c)
  gone_pending Empty e =
      either (IsSent g now c) (sends_octets c.state && is_worth_sending c (next_piece c)) (Some (SendNext (next_piece c)))
      (ack_if (is_synchronized c.state && tells_something now c))
      (λ e. not_sending c.state h.0.state (first_of_two (sends_octets c.state) (is_worth_sending c (next_piece c)) e))
      (λ _. silent (is_synchronized c.state && tells_something now c)
      (both (is_synchronized c.state) (tells_something now c) (ap is_synchronized h.0.state)))
  gone_pending Challenge e = false_true e
  gone_pending SynAgain e = false_true e
  gone_pending KeepAlive e = false_true e
  gone_pending Probe e = false_true e
  gone_pending Resend e = false_true e
  gone_pending (Reset number) e = gone_reset number

  gone_sends : IsSent g now c (action now c)
  gone_sends =
      either (IsSent g now c) (is_opening c.state && not (is_reset c.pending)) (action_in_opening now c)
      (action_pending c.pending now c)
      (λ e. false_true (sym (ap is_opening h.0.state) ∙ first_of_two (is_opening c.state) (not (is_reset c.pending)) e))
      (λ _. gone_pending c.pending h.0.pending)

pub sends_good : (g : Given) (now : ℕ) (c : Connection) → Good g c → IsSent g now c (action now c)
sends_good g now c (inl h) = known_sends g now c h
sends_good g now c (inr (inl h)) = asking_sends g now c h
sends_good g now c (inr (inr h)) = gone_sends g now c h
