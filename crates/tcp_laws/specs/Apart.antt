-- The same of two runs apart, one of each side, such as hosts of a network have. Nothing is asked of who sends
-- acknowledgements; each segment that arrives has to stand for a piece near to what is expected.
use Rattle.std.specs.Prelude.{◌≡◌, ℕ, List, [], ◌∷◌, ◌++◌, length, Some, None}
use Rattle.std.specs.List.{Contains}
use Rattle.tcp_machine.specs.Positions.{IsNear}
use Rattle.tcp_machine.specs.Pieces.{IsBeginning, Piece, PieceOnWire, piece_on_wire, AckOnWire}
use Rattle.tcp_machine.specs.Sending.{Sender, open_sender, MayWrite, after_write, after_close, MaySend, after_send, after_ack}
use Rattle.tcp_machine.specs.Receiving.{Receiver, open_receiver, in_order, next, after_segment, after_read}

-- what the sending side does
pub data Sending : Type 0 where
  Write : (octets : List ℕ) → Sending
  Close : Sending
  Send : (piece : Piece) → Sending
  GetAck : (ack : AckOnWire) → Sending

abbrev pub MayDo : Sending → Sender → Type 0
MayDo (Write octets) s = MayWrite s octets
MayDo Close s = s.stop ≡ None
MayDo (Send p) s = MaySend s p
MayDo (GetAck ack) s = Unit {0}

abbrev pub sender_after : ℕ → Sending → Sender → Sender
sender_after initial (Write octets) s = after_write octets s
sender_after initial Close s = after_close s
sender_after initial (Send p) s = after_send p s
sender_after initial (GetAck ack) s = after_ack initial ack s

abbrev pub IsSenderRun : ℕ → Sender → List Sending → Type 0
IsSenderRun initial s [] = Unit {0}
IsSenderRun initial s (e ∷ es) = MayDo e s × IsSenderRun initial (sender_after initial e s) es

abbrev pub written : List Sending → List ℕ
written [] = []
written (Write octets ∷ es) = octets ++ written es
written (e ∷ es) = written es

abbrev pub sent : List Sending → List Piece
sent [] = []
sent (Send p ∷ es) = p ∷ sent es
sent (e ∷ es) = sent es

-- what the receiving side does
pub data Receiving : Type 0 where
  Get : (segment : PieceOnWire) → Receiving
  Read : (octets : List ℕ) → Receiving
  TellEnd : Receiving

-- a segment stands for one of these pieces, near to what is expected
abbrev pub StandsForOne : ℕ → List Piece → Receiver → PieceOnWire → Type 0
StandsForOne initial pieces r segment =
    (p : Piece) × Contains pieces p × (segment ≡ piece_on_wire initial p) × IsNear (next r) p.start

abbrev pub MayHappen : ℕ → List Piece → Receiving → Receiver → Type 0
MayHappen initial pieces (Get segment) r = StandsForOne initial pieces r segment
MayHappen initial pieces (Read octets) r = IsBeginning octets (in_order r.cells)
MayHappen initial pieces TellEnd r = r.stop ≡ Some r.base

abbrev pub receiver_after : ℕ → Receiving → Receiver → Receiver
receiver_after initial (Get segment) r = after_segment initial segment r
receiver_after initial (Read octets) r = after_read (length octets) r
receiver_after initial TellEnd r = r

abbrev pub IsReceiverRun : ℕ → List Piece → Receiver → List Receiving → Type 0
IsReceiverRun initial pieces r [] = Unit {0}
IsReceiverRun initial pieces r (e ∷ es) =
    MayHappen initial pieces e r × IsReceiverRun initial pieces (receiver_after initial e r) es

abbrev pub read : List Receiving → List ℕ
read [] = []
read (Read octets ∷ es) = octets ++ read es
read (e ∷ es) = read es

pub record ApartLaw (sends : List Sending) (reads : List Receiving) : Type 0 where
  pub prefix : IsBeginning (read reads) (written sends)
  pub finished : Contains reads TellEnd → read reads ≡ written sends

abbrev pub RunsApartKeep : Type 0
RunsApartKeep = (initial room size window : ℕ) (sends : List Sending) (reads : List Receiving) →
    IsSenderRun initial (open_sender room window) sends → IsReceiverRun initial (sent sends) (open_receiver size) reads →
    ApartLaw sends reads
