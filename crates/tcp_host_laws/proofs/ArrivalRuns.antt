-- What arrives was sent in a life.
use Rattle.std.proofs.Common.{◌≡◌, ◌∙◌, ℕ, Bool, true, false, List, [], ◌∷◌, Option, Some, None, refl, sym, ap, subst, arith, cond, inl, inr}
use Rattle.std.specs.Prelude.{◌==◌, ◌⊎◌}
use Rattle.std.specs.List.{AllByRecursion, Contains, slice_get}
use Rattle.std.specs.Option.{option_and_then}
use Rattle.std.proofs.lemmas.Bool.Decides.{Decides-eqb}
use Rattle.std.proofs.lemmas.List.Elements.{Contains-append_left}
use Rattle.net_base.specs.Checksum.{is_tx}
use Rattle.net_base.specs.declared.phy.Medium.{Medium}
use Rattle.ip_address.specs.Protocol.{number_of}
use Rattle.ip_wire.specs.IpPacket.{next_header}
use Rattle.sockets.specs.Raw.{RawSocket, Sent, packet_in, if_spoken}
use Rattle.host_machine.specs.Context.Host.{Host}
use Rattle.host_machine.specs.Interface.Run.{Transition}
use Rattle.host_laws.specs.Network.{Runs}
use Rattle.host_laws.specs.RawArrivals.{RawArrival}
use Rattle.host_laws.specs.RawPackets.{IsLeftToSockets, SendsByRaw, GetsRaw, WasSentIf, WasSentRawBySome}
use Rattle.host_laws.proofs.RawOrigin.{runs_get_raw_packets_sent}
use Rattle.tcp_host_laws.specs.Turns.{WasSent}
use Rattle.tcp_host_laws.proofs.Growing.{head_or_tail}
use Rattle.tcp_host_laws.specs.TcpNetworks.Stations.{Station}
use Rattle.tcp_host_laws.specs.TcpNetworks.Queues.{WaitAsSent}
use Rattle.tcp_host_laws.specs.TcpNetworks.Arrivals.{WasSentInLife, WasSentWhole, GetsFromLives, Drives, PacketsWereSentInLives}
use Rattle.tcp_host_laws.proofs.QueueRuns.{queues_hold_what_was_sent}

-- one of those of which all is true
one_by : {X : Type 0} (P : X → Type 0) (y : X) (ys : List X) (x : X) → AllByRecursion P (y ∷ ys) → (Contains ys x → P x) →
    (y ≡ x) ⊎ Contains ys x → P x
one_by P y ys x a rest (inl e) = subst P e a.0
one_by P y ys x a rest (inr c) = rest c

pub one_of : {X : Type 0} (P : X → Type 0) (xs : List X) (x : X) → AllByRecursion P xs → Contains xs x → P x
one_of P [] x a c = absurd (omega (arith, c.1))
one_of P (y ∷ ys) x a c = one_by P y ys x a (one_of P ys x a.1) (head_or_tail y x ys c)

-- octets that are read as a packet that a socket sends
record IsSpoken (s : RawSocket) (o : Option Sent) (x : Sent) : Type 0 where
  is : o ≡ Some x
  number : number_of s.protocol ≡ number_of (next_header x.header)

spoken_by : (s : RawSocket) (y x : Sent) (b : Bool) → (number_of s.protocol == number_of (next_header y.header)) ≡ b →
    cond b (Some y) None ≡ Some x → IsSpoken s (Some y) x
spoken_by s y x true t e =
    let same : y ≡ x = cc in record {
      is = e;
      number = (Decides-eqb (number_of s.protocol) (number_of (next_header y.header))).0 t ∙ ap (λ (z : Sent). number_of (next_header z.header)) same;
    }
spoken_by s y x false t e = absurd cc

spoken : (s : RawSocket) (o : Option Sent) (x : Sent) → option_and_then (if_spoken s) o ≡ Some x → IsSpoken s o x
spoken s None x e = absurd cc
spoken s (Some y) x e = spoken_by s y x (number_of s.protocol == number_of (next_header y.header)) refl e

-- only raw sockets speak TCP
left_to_sockets : IsLeftToSockets 6
left_to_sockets = record {
  no_options = λ e. omega (arith, e);
  no_icmp = λ e. omega (arith, e);
  no_igmp = λ e. omega (arith, e);
  no_udp = λ e. omega (arith, e);
  no_icmpv6 = λ e. omega (arith, e);
}

module _ (hosts : List Host) (runs : Runs) (first last : ℕ → Station) (m : Medium)
    (sends : (j : ℕ) (a : Host) → slice_get hosts j ≡ Some a → SendsByRaw 6 m a (runs j))
    (drives : (j : ℕ) (a : Host) → slice_get hosts j ≡ Some a → Drives hosts runs a (runs j) (first j) (last j)) where
  -- what waits at a host before each of its transitions
  waits : (j : ℕ) (a : Host) → slice_get hosts j ≡ Some a →
      AllByRecursion (λ p. WaitAsSent (is_tx (first j).carrier.checksum) (last j).lives p.before.sockets) (runs j)
  waits j a there =
      let x = sends j a there in
      let d = drives j a there in
      let others = subst (λ (k : Medium). (i : ℕ) (b : Host) → slice_get hosts i ≡ Some b → SendsByRaw 6 k b (runs i)) (sym x.one_medium) sends in
      let gets = runs_get_raw_packets_sent 6 hosts runs a x.last (runs j) left_to_sockets x.run x.regular.real others d.received in
      (queues_hold_what_was_sent hosts runs a x.last (runs j) (first j) (last j) x.run d.goes gets d.waits).0

  in_life : (K : Host) (a : RawArrival) → number_of (next_header a.header) ≡ 6 → WasSentRawBySome K hosts runs a → WasSentInLife hosts first last a
  in_life K a six w =
      let j = w.sender in
      let at = w.sent.2 in
      let s = at.socket in
      let summed = is_tx (first j).carrier.checksum in
      let x : Sent = record { header = a.header; payload = a.payload } in
      let read = spoken s (packet_in s.version at.octets) x at.is_read in
      let waiting = one_of (λ p. WaitAsSent summed (last j).lives p.before.sockets) (runs j) w.sent.0 (waits j w.is_host.0 w.is_host.1) w.sent.1 in
      let all = waiting at.index s at.there (read.number ∙ six) in
      let among : Contains s.tx.packets (tt, at.octets) =
      subst (λ (xs : List (Unit {0} × List ℕ)). Contains xs (tt, at.octets)) at.fronts.front
      (Contains-append_left at.fronts.left at.fronts.socket.tx.packets (tt, at.octets) at.has_left) in
      record {
        sender = j;
        is_host = w.is_host;
        octets = at.octets;
        sent = one_of (λ p. WasSent summed (last j).lives p.1) s.tx.packets (tt, at.octets) all among;
        version = s.version;
        is_read = read.is;
      }

  arrivals_sent : (K : Host) (cs : List RawArrival) → AllByRecursion (WasSentIf 6 K hosts runs) cs → AllByRecursion (WasSentWhole hosts first last) cs
  arrivals_sent K [] all = tt
  arrivals_sent K (a ∷ cs) all = ((λ whole six. in_life K a six (all.0 whole six)), arrivals_sent K cs all.1)

  each : (qs : List Transition) → AllByRecursion (GetsRaw 6 hosts runs) qs → AllByRecursion (GetsFromLives hosts runs first last) qs
  each [] all = tt
  each (q ∷ qs) all = (record { gets = all.0; sent = arrivals_sent _ all.0.arrivals all.0.sent }, each qs all.1)

pub packets_were_sent_in_lives : PacketsWereSentInLives
packets_were_sent_in_lives hosts runs first last b b' qs run real sends drives received =
    each hosts runs first last b.capabilities.medium sends drives qs
    (runs_get_raw_packets_sent 6 hosts runs b b' qs left_to_sockets run real sends received)
