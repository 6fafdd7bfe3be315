-- What calls one after another are: a run that satisfies the laws.
use Rattle.std.specs.Prelude.{◌<◌, ◌^◌, List, length}
use Rattle.std.specs.List.{AllByRecursion}
use Rattle.net_base.specs.Device.{sent_frames}
use Rattle.host_machine.specs.Context.Note.{asks, identifications, slot_notes, cut_notes}
use Rattle.host_machine.specs.Context.Host.{Host}
use Rattle.host_machine.specs.Context.Pieces.{piece_size}
use Rattle.host_laws.specs.Laws.Rebuilding.{first_history, AreRebuilt}
use Rattle.host_laws.specs.Laws.Order.{IsBeginning, sent_of_this, AreBeginnings, AreCounted}
use Rattle.host_laws.specs.Laws.Order.{AreDistinctIfFew, cut_identifications, IsAmong}
use Rattle.host_machine.specs.Context.Real.{IsReal, IsRegular}
use Rattle.host_laws.specs.Laws.Frames.{ArrivesInFrames}
use Rattle.host_laws.specs.Laws.Lengths.{FramesFit, PiecesFit}
use Rattle.host_laws.specs.Laws.Wire.{Shows}
use Rattle.host_laws.specs.Laws.TwoHosts.{HaveOwnKeys, cuts_in}
use Rattle.host_laws.specs.Laws.Requests.{NoSocketSpeaks, requests_in}
use Rattle.host_laws.specs.Laws.Solicitations.{SolicitsSeldom}
use Rattle.host_machine.specs.Interface.Run.{Transition, AreSpaced, events_in, notes_in}
use Rattle.host_laws.specs.Laws.Quiet.{AreQuiet}
use Rattle.host_laws.specs.Laws.Calls.{IsMadeOfCalls}

-- the laws that hold of every run
pub record Laws (first : Host) (transitions : List Transition) : Type 0 where
  -- frames that request hardware addresses are at least a second apart
  pub requests_spaced : IsRegular first → AllByRecursion (λ p. NoSocketSpeaks p.before) transitions →
      AreSpaced first.neighbors.silent_until (requests_in first.capabilities.medium transitions)
  -- so are the requests noted
  pub asks_spaced : AreSpaced first.neighbors.silent_until (asks (notes_in transitions))
  -- routers are solicited three times at most, four seconds apart or more
  pub solicitations_few : SolicitsSeldom first transitions
  -- the fragments that arrive are those in the frames received
  pub arrivals_match_frames : AllByRecursion ArrivesInFrames transitions
  -- each reassembled datagram is what arrived under its key since its slot was taken
  pub rebuilt : AreRebuilt (first_history first) (slot_notes (notes_in transitions))
  -- what is sent of each fragmented packet is a prefix of its fragments
  pub ordered : AreBeginnings (piece_size first.capabilities) (cut_notes (notes_in transitions))
  -- so it is with the fragments pending when the run begins
  pub pieces_follow_first : IsBeginning (sent_of_this (cut_notes (notes_in transitions))) first.left
  -- the frames read as fragments are these fragments
  pub fragments_sent_are_pieces : IsReal first →
      Shows first.capabilities.medium (sent_frames (events_in transitions)) (cut_notes (notes_in transitions))
  -- identifications rise by one, modulo 2 ^ 16
  pub identifications_follow : AreCounted first.ipv4_id (identifications (notes_in transitions))
  -- fewer than 65,536 are distinct
  pub identifications_distinct : AreDistinctIfFew (identifications (notes_in transitions))
  -- each fragmented packet has one of its own
  pub cuts_take_identifications :
      IsAmong (cut_identifications (cut_notes (notes_in transitions))) (identifications (notes_in transitions))
  -- fewer than 65,536 dispatches fragment no two packets under one key
  pub own_keys : length (identifications (notes_in transitions)) < 2 ^ 16 → HaveOwnKeys (cuts_in transitions)
  -- from an answer of `poll_at` to its instant, polls that nothing disturbs send nothing and change no socket
  pub quiet : AreQuiet transitions
  -- no frame is longer than the device allows
  pub frames_fit : IsRegular first → PiecesFit first → FramesFit first transitions
  -- it is made of single calls, each of which serves others and is restrained
  pub calls : IsMadeOfCalls first transitions
