-- What a connection sends is one of its pieces.
use Rattle.std.proofs.Common.{◌≡◌, ◌-◌, ℕ, List, length, take, drop, refl, sym, ap, ◌∙◌, subst, Bool, true, false, Option, Some, None, inl, inr}
use Rattle.std.specs.Option.{option_map}
use Rattle.std.specs.Prelude.{◌⊎◌, ◌&&◌, is_some, not, if◌then◌else◌, min}
use Rattle.std.proofs.lemmas.List.{length-take, take_min}
use Rattle.tcp_machine.specs.declared.timers.Pending.{Pending}
use Rattle.tcp_machine.specs.declared.timers.Pending.TheVariants.{Empty, Challenge, SynAgain, Resend, Probe, KeepAlive, Reset}
use Rattle.tcp_machine.specs.Pieces.{Piece, after_piece}
use Rattle.tcp_machine.specs.Sending.{Sender}
use Rattle.tcp_machine.specs.States.{sends_octets, is_synchronized, is_opening}
use Rattle.tcp_machine.specs.Connection.{Connection}
use Rattle.tcp_machine.specs.Outgoing as machine
use Rattle.tcp_machine.specs.Outgoing.{action, action_pending, action_in_opening, next_action, ack_if, is_reset, is_challenge, is_syn_due, is_syn_sent, is_worth_sending, tells_something}
use Rattle.tcp_machine.specs.Outgoing.{has_octets, next_piece, first_piece, again_from, again_piece, most_again, piece_from, octets_from, segment_for}
use Rattle.tcp_connection.specs.declared.transmission.Part.{Part}
use Rattle.tcp_connection.specs.declared.outgoing.Action.{Action}
use Rattle.tcp_connection.specs.declared.outgoing.Action.TheVariants.{SendNext, SendAgain, SendProbe, SendKeepAlive, SendAck}
use Rattle.tcp_connection.specs.Pieces.{part_of, IsPieceOf}
use Rattle.tcp_connection.specs.Actions.{action_of, after_sending, after_all_of, AreOctets}
use Rattle.tcp_connection.specs.Details.Sent.{octets_in}

-- which piece is sent
abbrev pub Fits : machine.Action → Connection → Type 0
Fits (machine.SendReset number) c = Unit {0}
Fits machine.SendSyn c = Unit {0}
Fits (machine.SendNext p) c = p ≡ next_piece c
Fits (machine.SendAgain p) c = p ≡ again_piece c
Fits (machine.SendProbe p) c = p ≡ first_piece 1 c
Fits machine.SendKeepAlive c = Unit {0}
Fits machine.SendAck c = Unit {0}

ack_fits : (b : Bool) (m : machine.Action) (c : Connection) → ack_if b ≡ Some m → Fits m c
ack_fits false m c e = absurd cc
ack_fits true (machine.SendReset n) c e = tt
ack_fits true machine.SendSyn c e = tt
ack_fits true (machine.SendNext p) c e = absurd cc
ack_fits true (machine.SendAgain p) c e = absurd cc
ack_fits true (machine.SendProbe p) c e = absurd cc
ack_fits true machine.SendKeepAlive c e = tt
ack_fits true machine.SendAck c e = tt

-- the constructors are one to one
some_of : (a b : machine.Action) (c : Connection) → Some a ≡ Some b → Fits a c → Fits b c
some_of a b c e f = let n : a ≡ b = cc in subst (λ (m : machine.Action). Fits m c) n f

next_fits : (b : Bool) (t : Bool) (m : machine.Action) (c : Connection) →
    (if b then Some (machine.SendNext (next_piece c)) else ack_if t) ≡ Some m → Fits m c
next_fits true t m c e = some_of (machine.SendNext (next_piece c)) m c e refl
next_fits false t m c e = ack_fits t m c e

challenge_fits : (b : Bool) (m : machine.Action) (c : Connection) → (if b then Some machine.SendAck else None) ≡ Some m → Fits m c
challenge_fits b m c e = ack_fits b m c e

probe_fits : (b : Bool) (m : machine.Action) (c : Connection) →
    (if b then Some (machine.SendNext (next_piece c)) else Some (machine.SendProbe (first_piece 1 c))) ≡ Some m → Fits m c
probe_fits true m c e = some_of (machine.SendNext (next_piece c)) m c e refl
probe_fits false m c e = some_of (machine.SendProbe (first_piece 1 c)) m c e refl

pending_fits : (p : Pending) (now : ℕ) (m : machine.Action) (c : Connection) → action_pending p now c ≡ Some m → Fits m c
pending_fits Empty now m c e =
    next_fits (sends_octets c.state && is_worth_sending c (next_piece c)) (is_synchronized c.state && tells_something now c) m c e
pending_fits Challenge now m c e = challenge_fits (is_synchronized c.state) m c e
pending_fits SynAgain now m c e = challenge_fits (is_synchronized c.state) m c e
pending_fits KeepAlive now m c e = some_of machine.SendKeepAlive m c e tt
pending_fits Probe now m c e = probe_fits (sends_octets c.state && has_octets (next_piece c)) m c e
pending_fits Resend now m c e = some_of (machine.SendAgain (again_piece c)) m c e refl
pending_fits (Reset n) now m c e = some_of (machine.SendReset n) m c e tt

syn_fits : (b t : Bool) (m : machine.Action) (c : Connection) → (if b then Some machine.SendSyn else ack_if t) ≡ Some m → Fits m c
syn_fits true t m c e = some_of machine.SendSyn m c e tt
syn_fits false t m c e = ack_fits t m c e

pub action_fits : (now : ℕ) (m : machine.Action) (c : Connection) → action now c ≡ Some m → Fits m c
action_fits now m c e = by (is_opening c.state && not (is_reset c.pending)) refl where
  by : (b : Bool) → (is_opening c.state && not (is_reset c.pending)) ≡ b → Fits m c
  by true t =
      syn_fits (is_syn_due now c) (is_challenge c.pending && not (is_syn_sent c.state)) m c
      (sym (ap (λ (b : Bool). if b then action_in_opening now c else action_pending c.pending now c) t) ∙ e)
  by false t =
      pending_fits c.pending now m c
      (sym (ap (λ (b : Bool). if b then action_in_opening now c else action_pending c.pending now c) t) ∙ e)

-- what is sent, of which code knows the parts
pub record Chosen (now : ℕ) (a : Action) (c : Connection) : Type 0 where
  pub chosen : machine.Action
  pub is : action now c ≡ Some chosen
  pub of : action_of chosen ≡ a
  pub fits : Fits chosen c

chosen_of : (o : Option machine.Action) (now : ℕ) (a : Action) (c : Connection) → action now c ≡ o → option_map action_of o ≡ Some a → Chosen now a c
chosen_of None now a c is e = absurd cc
chosen_of (Some m) now a c is e = record { chosen = m; is = is; of = (let n : action_of m ≡ a = cc in n); fits = action_fits now m c is }

pub chosen_is : (now : ℕ) (a : Action) (c : Connection) → option_map action_of (action now c) ≡ Some a → Chosen now a c
chosen_is now a c e = chosen_of (action now c) now a c refl e

-- after it was sent
pub after_is : (now : ℕ) (m : machine.Action) (c : Connection) → action now c ≡ Some m → after_sending now c ≡ machine.after_action now m c
after_is now m c e = ap (λ (o : Option machine.Action). after_all_of now o c) e

-- a piece is from its start on
pub is_piece : (start most : ℕ) (s : Sender) (part : Part) → part ≡ part_of (piece_from start most s) → IsPieceOf part s
is_piece start most s part e =
    let n : part.start ≡ start = ap (λ (q : Part). q.start) e in
    record { most = most; is = e ∙ ap (λ (k : ℕ). part_of (piece_from k most s)) (sym n) }

-- so many octets at most are so many exactly
octets_again : (start most : ℕ) (s : Sender) → octets_from start (length (octets_from start most s)) s ≡ octets_from start most s
octets_again start most s = take_length most (drop (start - s.una) s.ring) where
  take_length : (n : ℕ) (xs : List ℕ) → take (length (take n xs)) xs ≡ take n xs
  take_length n xs = ap (λ (k : ℕ). take k xs) (length-take n xs) ∙ take_min n xs

piece_octets : (start most : ℕ) (s : Sender) (p : Piece) → p ≡ piece_from start most s → octets_from p.start (length p.octets) s ≡ p.octets
piece_octets start most s p e =
    subst (λ (q : Piece). octets_from q.start (length q.octets) s ≡ q.octets) (sym e) (octets_again start most s)

octets_fit : (m : machine.Action) (c : Connection) → Fits m c → octets_in (action_of m) c ≡ (segment_for m c).octets
octets_fit (machine.SendReset n) c f = refl
octets_fit machine.SendSyn c f = refl
octets_fit (machine.SendNext p) c f =
    piece_octets c.transmission.nxt (min c.transmission.mss (machine.limit_of c - c.transmission.nxt)) c.transmission.sender p f
octets_fit (machine.SendAgain p) c f = piece_octets (again_from c) (most_again c) c.transmission.sender p f
octets_fit (machine.SendProbe p) c f = piece_octets c.transmission.sender.una 1 c.transmission.sender p f
octets_fit machine.SendKeepAlive c f = refl
octets_fit machine.SendAck c f = refl

-- the octets that are lent are those that are sent
pub are_octets : (a : Action) (c : Connection) (octets : List ℕ) → octets ≡ octets_in a c → AreOctets a c octets
are_octets a c octets is = λ now m e f.
    is ∙ subst (λ (b : Action). octets_in b c ≡ (segment_for m c).octets) f (octets_fit m c (action_fits now m c e))

-- what follows where a piece is sent: it is known which one
pub record IsSent (now : ℕ) (part : Part) (p : Piece) (c after : Connection) : Type 0 where
  pub is_part : part ≡ part_of p
  pub is_after : after_sending now c ≡ after

pub next_of : (now : ℕ) (part : Part) (c : Connection) → option_map action_of (action now c) ≡ Some (SendNext part) →
    IsSent now part (next_piece c) c (machine.piece_sent now (next_piece c) (after_piece (next_piece c)) c)
next_of now part c e = by (chosen_is now (SendNext part) c e).chosen (chosen_is now (SendNext part) c e).is
    (chosen_is now (SendNext part) c e).of (chosen_is now (SendNext part) c e).fits where
      by : (m : machine.Action) → action now c ≡ Some m → action_of m ≡ SendNext part → Fits m c →
          IsSent now part (next_piece c) c (machine.piece_sent now (next_piece c) (after_piece (next_piece c)) c)
      by (machine.SendReset n) is of f = absurd cc
      by machine.SendSyn is of f = absurd cc
      by (machine.SendNext p) is of f =
          let n : part_of p ≡ part = cc in
          record {
            is_part = sym n ∙ ap part_of f;
            is_after = after_is now (machine.SendNext p) c is ∙ ap (λ (q : Piece). machine.piece_sent now q (after_piece q) c) f;
          }
      by (machine.SendAgain p) is of f = absurd cc
      by (machine.SendProbe p) is of f = absurd cc
      by machine.SendKeepAlive is of f = absurd cc
      by machine.SendAck is of f = absurd cc

pub again_of : (now : ℕ) (part : Part) (c : Connection) → option_map action_of (action now c) ≡ Some (SendAgain part) →
    IsSent now part (again_piece c) c
    (machine.again_sent (again_piece c) (machine.piece_sent now (again_piece c) c.transmission.nxt c))
again_of now part c e = by (chosen_is now (SendAgain part) c e).chosen (chosen_is now (SendAgain part) c e).is
    (chosen_is now (SendAgain part) c e).of (chosen_is now (SendAgain part) c e).fits where
      by : (m : machine.Action) → action now c ≡ Some m → action_of m ≡ SendAgain part → Fits m c →
          IsSent now part (again_piece c) c
          (machine.again_sent (again_piece c) (machine.piece_sent now (again_piece c) c.transmission.nxt c))
      by (machine.SendReset n) is of f = absurd cc
      by machine.SendSyn is of f = absurd cc
      by (machine.SendNext p) is of f = absurd cc
      by (machine.SendAgain p) is of f =
          let n : part_of p ≡ part = cc in
          record {
            is_part = sym n ∙ ap part_of f;
            is_after = after_is now (machine.SendAgain p) c is ∙ ap (λ (q : Piece). machine.again_sent q (machine.piece_sent now q c.transmission.nxt c)) f;
          }
      by (machine.SendProbe p) is of f = absurd cc
      by machine.SendKeepAlive is of f = absurd cc
      by machine.SendAck is of f = absurd cc

pub probe_of : (now : ℕ) (part : Part) (c : Connection) → option_map action_of (action now c) ≡ Some (SendProbe part) →
    IsSent now part (first_piece 1 c) c (machine.probe_sent now (first_piece 1 c) c)
probe_of now part c e = by (chosen_is now (SendProbe part) c e).chosen (chosen_is now (SendProbe part) c e).is
    (chosen_is now (SendProbe part) c e).of (chosen_is now (SendProbe part) c e).fits where
      by : (m : machine.Action) → action now c ≡ Some m → action_of m ≡ SendProbe part → Fits m c →
          IsSent now part (first_piece 1 c) c (machine.probe_sent now (first_piece 1 c) c)
      by (machine.SendReset n) is of f = absurd cc
      by machine.SendSyn is of f = absurd cc
      by (machine.SendNext p) is of f = absurd cc
      by (machine.SendAgain p) is of f = absurd cc
      by (machine.SendProbe p) is of f =
          let n : part_of p ≡ part = cc in
          record {
            is_part = sym n ∙ ap part_of f;
            is_after = after_is now (machine.SendProbe p) c is ∙ ap (λ (q : Piece). machine.probe_sent now q c) f;
          }
      by machine.SendKeepAlive is of f = absurd cc
      by machine.SendAck is of f = absurd cc

keep_of : (now : ℕ) (c : Connection) → option_map action_of (action now c) ≡ Some SendKeepAlive →
    after_sending now c ≡ machine.told_to_peer c
keep_of now c e = by (chosen_is now SendKeepAlive c e).chosen (chosen_is now SendKeepAlive c e).is (chosen_is now SendKeepAlive c e).of where
  by : (m : machine.Action) → action now c ≡ Some m → action_of m ≡ SendKeepAlive → after_sending now c ≡ machine.told_to_peer c
  by (machine.SendReset n) is of = absurd cc
  by machine.SendSyn is of = absurd cc
  by (machine.SendNext p) is of = absurd cc
  by (machine.SendAgain p) is of = absurd cc
  by (machine.SendProbe p) is of = absurd cc
  by machine.SendKeepAlive is of = after_is now machine.SendKeepAlive c is
  by machine.SendAck is of = absurd cc

ack_of : (now : ℕ) (c : Connection) → option_map action_of (action now c) ≡ Some SendAck →
    after_sending now c ≡ machine.told_to_peer c
ack_of now c e = by (chosen_is now SendAck c e).chosen (chosen_is now SendAck c e).is (chosen_is now SendAck c e).of where
  by : (m : machine.Action) → action now c ≡ Some m → action_of m ≡ SendAck → after_sending now c ≡ machine.told_to_peer c
  by (machine.SendReset n) is of = absurd cc
  by machine.SendSyn is of = absurd cc
  by (machine.SendNext p) is of = absurd cc
  by (machine.SendAgain p) is of = absurd cc
  by (machine.SendProbe p) is of = absurd cc
  by machine.SendKeepAlive is of = absurd cc
  by machine.SendAck is of = after_is now machine.SendAck c is

-- an empty segment
pub told_of : (now : ℕ) (a : Action) (c : Connection) → (a ≡ SendKeepAlive) ⊎ (a ≡ SendAck) → option_map action_of (action now c) ≡ Some a →
    after_sending now c ≡ machine.told_to_peer c
told_of now a c (inl e) is = keep_of now c (is ∙ ap Some e)
told_of now a c (inr e) is = ack_of now c (is ∙ ap Some e)

-- whether something is sent
pub is_some_of : (o : Option machine.Action) → is_some (option_map action_of o) ≡ is_some o
is_some_of None = refl
is_some_of (Some m) = refl
