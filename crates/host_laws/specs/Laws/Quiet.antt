-- Between an answer of `poll_at` and its instant there is no work: polls that nothing disturbs send nothing
-- and change no socket.
use Rattle.std.specs.Prelude.{◌≡◌, ℕ, ℤ, pos, ◌≤ℤ◌, ◌<ℤ◌, List, [], ◌∷◌, slice_get, Option, Some, None}
use Rattle.net_base.specs.Device.{handed_frames, sent_frames}
use Rattle.ip_address.specs.declared.ip.IpAddress.{IpAddress}
use Rattle.iface_tables.specs.declared.route.Route.{Route}
use Rattle.sockets.specs.Kinds.{offered_packet, socket_after_offer}
use Rattle.sockets.specs.Kinds as socket
use Rattle.host_machine.specs.declared.command.Command.{Command}
use Rattle.host_machine.specs.declared.command.Command.TheVariants.{PollIngressSingle, PollEgress}
use Rattle.host_machine.specs.declared.command.Command.TheVariants.{Poll, PollMaintenance, PollAt}
use Rattle.host_machine.specs.declared.command.Command.TheVariants.{PollDelay, SetReassemblyTimeout}
use Rattle.host_machine.specs.declared.command.Answer.{Answer}
use Rattle.host_machine.specs.declared.command.Answer.TheVariants as answer
use Rattle.host_machine.specs.declared.results.PollIngressSingleResult.TheVariants as ingress
use Rattle.host_machine.specs.declared.results.PollResult.TheVariants as result
use Rattle.host_machine.specs.Context.Host.{Socket}
use Rattle.host_machine.specs.Sockets.Polling.{instant_of}
use Rattle.host_machine.specs.Interface.Run.{Transition}
use Rattle.host_machine.specs.Sockets.Quiet.{IsBefore}

-- no route expires from t0 to before s
abbrev pub RoutesLast : List Route → (t0 s : ℤ) → Type 0
RoutesLast routes t0 s = (k : ℕ) (r : Route) (end : ℤ) →
    slice_get routes k ≡ Some r → r.expires_at ≡ Some end → t0 ≤ℤ end → s ≤ℤ end

-- a moment of a poll within the time from t0 to the end; it may be earlier than one before it
pub record IsWithin (t0 : ℤ) (end : Option ℤ) (routes : List Route) (s : ℤ) : Type 0 where
  pub from : t0 ≤ℤ s
  pub before : IsBefore s end
  pub routes_last : RoutesLast routes t0 s

-- a poll within that time, a query for when to poll, a new reassembly timeout, or a call that changes nothing
abbrev pub IsCalm : ℤ → Option ℤ → Command → Transition → Type 0
IsCalm t0 end (PollIngressSingle s) p = IsWithin t0 end p.before.routes s
IsCalm t0 end (PollEgress s) p = IsWithin t0 end p.before.routes s
IsCalm t0 end (Poll s budget) p = IsWithin t0 end p.before.routes s
IsCalm t0 end (PollMaintenance s) p = IsWithin t0 end p.before.routes s
IsCalm t0 end (PollAt s) p = Unit {0}
IsCalm t0 end (PollDelay s) p = Unit {0}
IsCalm t0 end (SetReassemblyTimeout timeout) p = Unit {0}
IsCalm t0 end other p = p.after ≡ p.before

-- nothing disturbs a transition: it is such a call, and no frame is received
pub record IsUndisturbed (t0 : ℤ) (end : Option ℤ) (p : Transition) : Type 0 where
  pub calm : IsCalm t0 end p.command p
  pub no_frame : handed_frames p.told ≡ []

-- a poll returns that nothing was done
abbrev pub AnswersNone : Answer → Type 0
AnswersNone (answer.PollIngressSingle r) = r ≡ ingress.None
AnswersNone (answer.PollEgress r) = r ≡ result.None
AnswersNone (answer.Poll r) = r ≡ result.None
AnswersNone other = Unit {0}

-- nothing is sent, a poll returns so, and each socket is unchanged; its wait may end
pub record IsQuiet (p : Transition) : Type 0 where
  pub sends_nothing : sent_frames p.told ≡ []
  pub answers : AnswersNone p.answer
  pub sockets : p.after.sockets.places ≡ p.before.sockets.places

-- the transitions of a run that nothing disturbs, up to the first one that something does, are quiet
abbrev pub QuietWhile : ℤ → Option ℤ → List Transition → Type 0
QuietWhile t0 end [] = Unit {0}
QuietWhile t0 end (p ∷ ps) = IsUndisturbed t0 end p → IsQuiet p × QuietWhile t0 end ps

-- what follows from an answer of `poll_at` at a moment from 0
abbrev pub QuietAfter : Command → Answer → List Transition → Type 0
QuietAfter (PollAt t0) (answer.PollAt end) ps = pos 0 ≤ℤ t0 → QuietWhile t0 end ps
QuietAfter command given ps = Unit {0}

-- in each transition of a run
abbrev pub AreQuiet : List Transition → Type 0
AreQuiet [] = Unit {0}
AreQuiet (p ∷ ps) = QuietAfter p.command p.answer ps × AreQuiet ps
