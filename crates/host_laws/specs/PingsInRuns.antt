-- Pings between two hosts, by the single calls of their runs: if a call of one sends the request, and both frames are
-- received, the reply is in the queue of a socket with the identifier.
use Rattle.std.specs.Prelude.{◌≡◌, ℕ, ℤ, true, List, [], ◌∷◌, slice_get, Some}
use Rattle.net_base.specs.Device.{handed_frames, sent_frames}
use Rattle.sockets.specs.Icmp.{IcmpSocket}
use Rattle.host_machine.specs.declared.command.Command.TheVariants.{PollEgress, PollIngressSingle}
use Rattle.host_machine.specs.Context.Host.{Host, at}
use Rattle.host_machine.specs.Interface.Run.{Transition}
use Rattle.host_laws.specs.Laws.Service.{HasFirstEcho, MayBeAsked, all_granted}
use Rattle.host_laws.specs.Laws.Ran.{Laws}
use Rattle.host_laws.specs.Pings.{AwaitsReply, Call, ComesBack, Echo, End, FitsBoth, Knows, frame_to, request_packet}

abbrev pub call_at : ℤ → Transition → Call
call_at t p = record { moment = t; before = p.before; told = p.told; after = p.after }

-- a ping of A, at the end a, to B, at the end b: a call p of A's run sends at t, a call q of B's run receives the
-- request at u, and a call r of A's run receives at v what B sent in q
pub record PingGoes (a b : End) (e : Echo) (t u v : ℤ) (i k : ℕ) (p q r : Transition) : Type 0 where
  pub sends : p.command ≡ PollEgress t
  pub b_receives : q.command ≡ PollIngressSingle u
  pub a_receives : r.command ≡ PollIngressSingle v
  pub a_knows : Knows (at p.before t) a b
  pub b_knows : Knows (at q.before u) b a
  pub c_knows : Knows (at r.before v) a b
  pub fits : FitsBoth e p.before q.before
  pub granted : all_granted p.told ≡ true
  pub asking : IcmpSocket
  pub first : HasFirstEcho (at p.before t) i asking a.addr b.addr e.ident e.seq_no e.octets
  pub may : MayBeAsked (at p.before t) i
  pub b_took : handed_frames q.told ≡ frame_to p.before b (request_packet a b asking.hop_limit e) ∷ []
  pub a_took : handed_frames r.told ≡ sent_frames q.told
  pub awaits : AwaitsReply k e r.before

-- such a ping comes back, whatever either host did in between
abbrev pub PingsReturn : List Transition → List Transition → Type 0
PingsReturn ps qs =
    (a b : End) (e : Echo) (t u v : ℤ) (i k x y z : ℕ) (p q r : Transition) →
    slice_get ps x ≡ Some p → slice_get qs y ≡ Some q → slice_get ps z ≡ Some r →
    (g : PingGoes a b e t u v i k p q r) →
    ComesBack a b g.asking.hop_limit e k (call_at t p) (call_at u q) (call_at v r) g.awaits.socket

-- so it is with the single calls that two runs are made of
abbrev pub RunsReturnPings : Type 0
RunsReturnPings =
    (A B : Host) (ps qs : List Transition) (a : Laws A ps) (b : Laws B qs) →
    PingsReturn a.calls.calls.singles b.calls.calls.singles
