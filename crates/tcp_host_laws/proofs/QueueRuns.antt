-- What waits to be sent was sent, in a run.
use Rattle.std.proofs.Common.{◌≡◌, ◌∙◌, ℕ, Bool, true, false, List, [], ◌∷◌, ◌++◌, Option, Some, None, refl, sym, ap, subst, option_map}
use Rattle.std.specs.Prelude.{if◌then◌else◌}
use Rattle.std.specs.List.{AllByRecursion}
use Rattle.net_base.specs.Checksum.{is_tx}
use Rattle.ip_address.specs.Protocol.{number_of}
use Rattle.ip_address.specs.declared.protocol.IpProtocol.{IpProtocol}
use Rattle.ip_wire.specs.IpPacket.{version_of, next_header}
use Rattle.sockets.specs.Raw.{RawSocket, accepts, socket_after_delivery}
use Rattle.host_machine.specs.Context.Host.{Host, SocketSet}
use Rattle.host_machine.specs.Interface.Run.{Transition, Run, Ends, Then}
use Rattle.host_laws.specs.Network.{Runs}
use Rattle.host_laws.specs.RawArrivals.{RawArrival, raw_at, receiver_at, without_sending, with_arrivals, socket_after_arrival}
use Rattle.host_laws.specs.RawPackets.{GetsRaw}
use Rattle.tcp_host_laws.specs.Lives.{Life, after_events}
use Rattle.tcp_host_laws.specs.Turns.{WasSent, MovesIf}
use Rattle.tcp_host_laws.proofs.Growing.{all_sent_after}
use Rattle.tcp_host_laws.specs.TcpNetworks.Stations.{Station, Turn, Polled, Called, Goes, Stops, Works, Acts}
use Rattle.tcp_host_laws.specs.TcpNetworks.Queues.{WaitAsSent, QueuesHoldWhatWasSent}

abbrev AllSent : Bool → List Life → List (Unit {0} × List ℕ) → Type 0
AllSent summed ls packets = AllByRecursion (λ p. WasSent summed ls p.1) packets

-- of a list, its end, and two lists together
of_end : (summed : Bool) (ls : List Life) (xs ys : List (Unit {0} × List ℕ)) → AllSent summed ls (xs ++ ys) → AllSent summed ls ys
of_end summed ls [] ys a = a
of_end summed ls (x ∷ xs) ys a = of_end summed ls xs ys a.1

together : (summed : Bool) (ls : List Life) (xs ys : List (Unit {0} × List ℕ)) → AllSent summed ls xs → AllSent summed ls ys →
    AllSent summed ls (xs ++ ys)
together summed ls [] ys a b = b
together summed ls (x ∷ xs) ys a b = (a.0, together summed ls xs ys a.1 b)

-- lives go on in turns
turn_sent : (summed : Bool) (old new : Station) (before after : SocketSet) → Turn old new before after → (xs : List (Unit {0} × List ℕ)) →
    AllSent summed old.lives xs → AllSent summed new.lives xs
turn_sent summed old new before after (Polled own lived is) xs a =
    subst (λ (ls : List Life). AllSent summed ls xs) (sym is) (all_sent_after summed lived.events old.lives xs a)
turn_sent summed old new before after (Called events call same is stays) xs a =
    subst (λ (ls : List Life). AllSent summed ls xs) (sym is) (all_sent_after summed events old.lives xs a)

goes_sent : (summed : Bool) (first last : Station) (ps : List Transition) → Goes first ps last → (xs : List (Unit {0} × List ℕ)) →
    AllSent summed first.lives xs → AllSent summed last.lives xs
goes_sent summed first last [] Stops xs a = a
goes_sent summed first last (p ∷ ps) (Works e g) xs a = goes_sent summed first last ps g xs a
goes_sent summed first last (p ∷ ps) (Acts {mid = mid} act e turn g) xs a =
    goes_sent summed mid last ps g xs (turn_sent summed first mid p.before.sockets p.after.sockets turn xs a)

-- a socket that is told of arrivals speaks the same protocol
delivered_protocol : (b summed : Bool) (a : RawArrival) (s : RawSocket) →
    (if b then socket_after_delivery summed a.header a.payload s else s).protocol ≡ s.protocol
delivered_protocol true summed a s = refl
delivered_protocol false summed a s = refl

arrivals_protocol : (summed : Bool) (cs : List RawArrival) (s : RawSocket) → (with_arrivals summed cs s).protocol ≡ s.protocol
arrivals_protocol summed [] s = refl
arrivals_protocol summed (a ∷ cs) s =
    arrivals_protocol summed cs (socket_after_arrival summed a s)
    ∙ delivered_protocol (accepts s (version_of a.header) (next_header a.header)) summed a s

-- while the interface works
module _ (summed : Bool) (ls : List Life) (hosts : List Host) (runs : Runs) (q : Transition) (gets : GetsRaw 6 hosts runs q) (none : q.acts ≡ [])
    (w : WaitAsSent summed ls q.before.sockets) where
  abbrev took : RawSocket → RawSocket
  took s = with_arrivals (is_tx q.before.capabilities.checksum.ipv4) gets.arrivals s

  from_by : (i : ℕ) (r : RawSocket) → raw_at q.after.sockets i ≡ Some r → number_of r.protocol ≡ 6 → (o : Option RawSocket) →
      raw_at q.before.sockets i ≡ o → AllSent summed ls r.tx.packets
  from_by i r there six None before =
      let one : option_map without_sending (raw_at q.after.sockets i) ≡ Some (without_sending r) =
      ap (λ (x : Option RawSocket). option_map without_sending x) there in
      let two : receiver_at q.after.sockets i ≡ None =
      gets.queues none i ∙ ap (λ (x : Option RawSocket). option_map took (option_map without_sending x)) before in
      absurd cc
  from_by i r there six (Some s) before =
      let f = gets.fronts none i s before in
      let at = f.there in
      let same : f.socket ≡ r = cc in
      let one : receiver_at q.after.sockets i ≡ Some (without_sending r) = ap (λ (x : Option RawSocket). option_map without_sending x) there in
      let two : receiver_at q.after.sockets i ≡ Some (took (without_sending s)) =
      gets.queues none i ∙ ap (λ (x : Option RawSocket). option_map took (option_map without_sending x)) before in
      let three : without_sending r ≡ took (without_sending s) = cc in
      let protocol : r.protocol ≡ s.protocol =
      ap (λ (x : RawSocket). x.protocol) three ∙ arrivals_protocol (is_tx q.before.capabilities.checksum.ipv4) gets.arrivals (without_sending s) in
      let sent = w i s before (ap (λ (p : IpProtocol). number_of p) (sym protocol) ∙ six) in
      of_end summed ls f.left r.tx.packets
      (subst (λ (x : RawSocket). AllSent summed ls (f.left ++ x.tx.packets)) same
      (subst (λ (xs : List (Unit {0} × List ℕ)). AllSent summed ls xs) (sym f.front) sent))

  works : WaitAsSent summed ls q.after.sockets
  works i r there six = from_by i r there six (raw_at q.before.sockets i) refl

-- where the owner acts
module _ (summed : Bool) (old new : Station) (before after : SocketSet) (is_summed : is_tx old.carrier.checksum ≡ summed)
    (w : WaitAsSent summed old.lives before) where
  moved_by : (ls : List Life) → ((xs : List (Unit {0} × List ℕ)) → AllSent summed old.lives xs → AllSent summed ls xs) →
      (i : ℕ) (r : RawSocket) → raw_at after i ≡ Some r → number_of r.protocol ≡ 6 → (o : Option RawSocket) →
      raw_at before i ≡ o → MovesIf summed ls o (raw_at after i) → AllSent summed ls r.tx.packets
  moved_by ls goes i r there six None at m = absurd cc
  moved_by ls goes i r there six (Some s) at m =
      let here = m.1 in
      let same : m.0 ≡ r = cc in
      let protocol : r.protocol ≡ s.protocol = sym (ap (λ (x : RawSocket). x.protocol) same) ∙ m.2.protocol in
      let sent = goes s.tx.packets (w i s at (ap (λ (p : IpProtocol). number_of p) (sym protocol) ∙ six)) in
      subst (λ (x : RawSocket). AllSent summed ls x.tx.packets) same
      (subst (λ (xs : List (Unit {0} × List ℕ)). AllSent summed ls xs) m.2.back (together summed ls s.tx.packets m.2.queued sent m.2.sent))

  turned : Turn old new before after → WaitAsSent summed new.lives after
  turned (Polled own lived is) =
      subst (λ (ls : List Life). WaitAsSent summed ls after) (sym is)
      (λ i r there six. moved_by (after_events lived.events old.lives) (λ xs a. all_sent_after summed lived.events old.lives xs a)
      i r there six (raw_at before i) refl
      (subst (λ (b : Bool). MovesIf b (after_events lived.events old.lives) (raw_at before i) (raw_at after i)) is_summed (lived.sockets i)))
  turned (Called events call same is stays) =
      subst (λ (ls : List Life). WaitAsSent summed ls after) (sym is)
      (λ i r there six. all_sent_after summed events old.lives r.tx.packets
      (w i r (ap (λ (x : SocketSet). raw_at x i) (sym stays) ∙ there) six))

  summed_after : Turn old new before after → is_tx new.carrier.checksum ≡ summed
  summed_after (Polled own lived is) = ap is_tx lived.checksum ∙ is_summed
  summed_after (Called events call same is stays) = ap (λ c. is_tx c.checksum) same ∙ is_summed

module _ (summed : Bool) (hosts : List Host) (runs : Runs) where
  walk : (a a' : Host) (ps : List Transition) (first last : Station) → Run a ps a' → Goes first ps last → AllByRecursion (GetsRaw 6 hosts runs) ps →
      is_tx first.carrier.checksum ≡ summed → WaitAsSent summed first.lives a.sockets →
      AllByRecursion (λ p. WaitAsSent summed last.lives p.before.sockets) ps × WaitAsSent summed last.lives a'.sockets
  walk a a' [] first last Ends Stops gets is w = (tt, w)
  walk a a' (q ∷ ps) first last (Then {mid = mid} step run) (Works none g) gets is w =
      let rest = walk mid a' ps first last run g gets.1 is (works summed first.lives hosts runs q gets.0 none w) in
      (((λ i r there six. goes_sent summed first last ps g r.tx.packets (w i r there six)), rest.0), rest.1)
  walk a a' (q ∷ ps) first last (Then {mid = mid} step run) (Acts {mid = station} act one turn g) gets is w =
      let rest = walk mid a' ps station last run g gets.1 (summed_after summed first station q.before.sockets q.after.sockets is w turn)
      (turned summed first station q.before.sockets q.after.sockets is w turn) in (
        (
          (λ i r there six. goes_sent summed station last ps g r.tx.packets
              (turn_sent summed first station q.before.sockets q.after.sockets turn r.tx.packets (w i r there six))),
          rest.0,
        ),
        rest.1,
      )

pub queues_hold_what_was_sent : QueuesHoldWhatWasSent
queues_hold_what_was_sent hosts runs a a' ps first last run goes gets w =
    walk (is_tx first.carrier.checksum) hosts runs a a' ps first last run goes gets refl w
