-- What goes to a peer that is near.
use Rattle.std.proofs.Common.{◌≡◌, ◌∙◌, ℕ, Bool, true, false, List, Option, Some, refl, ap}
use Rattle.std.specs.Prelude.{if◌then◌else◌}
use Rattle.ip_address.specs.declared.cidr.IpCidr.{IpCidr}
use Rattle.ip_address.specs.declared.protocol.IpVersion.{IpVersion}
use Rattle.tcp_machine.specs.Outgoing as machine
use Rattle.tcp_host.specs.declared.iss.Endpoints.{Endpoints}
use Rattle.tcp_host.specs.Table.{ends_at}
use Rattle.tcp_host.specs.Turns.{sent_if, postponed}
use Rattle.tcp_sockets.specs.Packets.{Segment}
use Rattle.tcp_sockets.specs.Sending.{version_between}
use Rattle.tcp_sockets.specs.Polls.{State, segment_at, later_by_pause, is_near_queued, near_queued, fate_if, fate_in, fate_of, after_in, after_queueing, after_fate, after_sending}

module _ {L : Type 0} (place now : ℕ) where
  near_host : (b : Bool) (v : IpVersion) (s : Segment) (st : State L) →
      (after_fate (fate_if b) place now (near_queued v s st)).host
      ≡ (if b then sent_if place now st.host else postponed place (later_by_pause now) st.host)
  near_host true v s st = refl
  near_host false v s st = refl

  pub near_waits : (own : List IpCidr) (m : machine.Action) (e : Endpoints) (v : IpVersion) (st : State L) →
      ends_at st.host.ends place ≡ Some e → version_between e own ≡ Some v →
      (after_sending true place now own m st).host
      ≡ (if is_near_queued v (segment_at e place m st.host) st then sent_if place now st.host else postponed place (later_by_pause now) st.host)
  near_waits own m e v st ends version =
      let s = segment_at e place m st.host in
      ap (λ (o : Option Endpoints). (after_fate (fate_of o true place own m st) place now (after_queueing o true place own m st)).host) ends
      ∙ ap (λ (o : Option IpVersion). (after_fate (fate_in o true s st) place now (after_in o true s st)).host) version
      ∙ near_host (is_near_queued v s st) v s st
