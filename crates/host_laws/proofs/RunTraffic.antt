-- What moves over a run.
use Rattle.std.proofs.Common.{◌≡◌, ℕ, List, [], ◌∷◌, ◌++◌, refl, sym, ◌∙◌, ap, subst, option_map}
use Rattle.std.proofs.lemmas.List.{append_assoc}
use Rattle.sockets.specs.Udp.{UdpSocket, socket_after_delivery, without_first_to_send}
use Rattle.host_machine.specs.Context.Host.{Host}
use Rattle.host_laws.specs.Laws.Order.{IsBeginning}
use Rattle.host_machine.specs.Interface.Run.{Transition, Run, Ends, Then, acts_in}
use Rattle.host_laws.specs.Deliveries.{Delivery, to_index, udp_at, with_deliveries}
use Rattle.host_laws.specs.Departures.{Departure, entries, from_index, without}
use Rattle.host_laws.specs.Datagrams.{KeepsQueues, OneTransition, RunsKeepDatagrams, RunsKeepQueues, Still, socket_after_run}
use Rattle.host_laws.proofs.StepTraffic.{step_moves}
use Rattle.host_laws.proofs.EgressDepartures.{rest_stays}
use Rattle.sockets.specs.declared.endpoint.IpEndpoint.{IpEndpoint}
use Rattle.host_laws.proofs.Lists.{entries-append, from_index-append, id_mapped, option_map_then}
use Rattle.host_laws.proofs.Lists.{to_index-append, tx_stays, with_deliveries-append, without-append}

none_before : {X : Type 0} (xs ys : List X) → xs ++ ys ≡ [] → xs ≡ []
none_before [] ys e = refl
none_before (x ∷ xs) ys e = absurd cc

none_after : {X : Type 0} (xs ys : List X) → xs ++ ys ≡ [] → ys ≡ []
none_after [] ys e = e
none_after (x ∷ xs) ys e = absurd cc

-- what is gained and what is lost don't touch
gone_late : (ds : List Delivery) (s : UdpSocket) → with_deliveries ds (without_first_to_send s) ≡ without_first_to_send (with_deliveries ds s)
gone_late [] s = refl
gone_late (d ∷ ds) s = gone_late ds (socket_after_delivery d.source d.payload s)

apart : (ds : List Delivery) (es : List Departure) (s : UdpSocket) → with_deliveries ds (without es s) ≡ without es (with_deliveries ds s)
apart ds [] s = refl
apart ds (e ∷ es) s = apart ds es (without_first_to_send s) ∙ ap (without es) (gone_late ds s)

moved_on : (ds ds' : List Delivery) (es es' : List Departure) (s : UdpSocket) →
    socket_after_run ds' es' (socket_after_run ds es s) ≡ socket_after_run (ds ++ ds') (es ++ es') s
moved_on ds ds' es es' s =
    ap (without es') (apart ds' es (with_deliveries ds s)) ∙ ap (λ x. without es' (without es x)) (sym (with_deliveries-append ds ds' s))
    ∙ sym (without-append es es' (with_deliveries (ds ++ ds') s))

moved_at : (i : ℕ) (ds ds' : List Delivery) (es es' : List Departure) (s : UdpSocket) →
    socket_after_run (to_index i ds') (from_index i es') (socket_after_run (to_index i ds) (from_index i es) s)
    ≡ socket_after_run (to_index i (ds ++ ds')) (from_index i (es ++ es')) s
moved_at i ds ds' es es' s = moved_on (to_index i ds) (to_index i ds') (from_index i es) (from_index i es') s
    ∙ rw (to_index-append, from_index-append) refl

-- the front of a queue behind what moved before
front_after : (ds : List Delivery) (es : List Departure) (rest : List (IpEndpoint × List ℕ)) (s : UdpSocket) →
    entries es ++ rest ≡ s.tx.packets → (socket_after_run ds es s).tx.packets ≡ rest
front_after ds es rest s e = rest_stays es (with_deliveries ds s) rest (e ∙ ap (λ q. q.packets) (sym (tx_stays ds s)))

fronts_then : (i : ℕ) (ds : List Delivery) (es es' : List Departure) (s : UdpSocket) → IsBeginning (entries (from_index i es)) s.tx.packets →
    IsBeginning (entries (from_index i es')) (socket_after_run (to_index i ds) (from_index i es) s).tx.packets →
    IsBeginning (entries (from_index i (es ++ es'))) s.tx.packets
fronts_then i ds es es' s x y =
    let rest : entries (from_index i es') ++ y.0 ≡ x.0 = y.1 ∙ front_after (to_index i ds) (from_index i es) x.0 s x.1 in
    let all : entries (from_index i (es ++ es')) ≡ entries (from_index i es) ++ entries (from_index i es') = ap entries (from_index-append i es es')
    ∙ entries-append (from_index i es) (from_index i es') in (
      y.0,
      ap (λ xs. xs ++ y.0) all ∙ append_assoc (entries (from_index i es)) (entries (from_index i es')) y.0
          ∙ ap (λ xs. entries (from_index i es) ++ xs) rest ∙ x.1,
    )

pub keeps_queues : {first last : Host} {transitions : List Transition} →
    Run first transitions last → acts_in transitions ≡ [] → KeepsQueues first last transitions
keeps_queues {first} Ends none = record {
  deliveries = [];
  departures = [];
  moves = Still;
  fronts = λ i s there. (s.tx.packets, refl);
  queues = λ i. id_mapped (udp_at first.sockets i);
}
keeps_queues {first} {last}
    (Then {mid = mid} {command = c} {answer = answer} {told = told} {acts = acts} {notes = notes} {transitions = transitions} s r) none =
    let x = step_moves s (none_before acts (acts_in transitions) none) in
    let y = keeps_queues r (none_after acts (acts_in transitions) none) in
    let p : Transition = record { command = c; answer = answer; told = told; acts = acts; notes = notes; before = first; after = mid } in record {
      deliveries = x.deliveries ++ y.deliveries;
      departures = x.departures ++ y.departures;
      moves = OneTransition p x.deliveries x.departures
          (record { came = x.came; heard = x.heard; left = x.left; went = x.went; cut = x.cut; only = x.only }) y.moves;
      fronts = λ i v there. fronts_then i x.deliveries x.departures y.departures v (x.fronts i v there)
          (y.fronts i (socket_after_run (to_index i x.deliveries) (from_index i x.departures) v)
          (x.queues i ∙ ap (option_map (socket_after_run (to_index i x.deliveries) (from_index i x.departures))) there));
      queues = λ i. y.queues i ∙ ap (option_map (socket_after_run (to_index i y.deliveries) (from_index i y.departures))) (x.queues i)
          ∙ option_map_then (socket_after_run (to_index i y.deliveries) (from_index i y.departures))
          (socket_after_run (to_index i x.deliveries) (from_index i x.departures))
          (socket_after_run (to_index i (x.deliveries ++ y.deliveries)) (from_index i (x.departures ++ y.departures)))
          (moved_at i x.deliveries y.deliveries x.departures y.departures) (udp_at first.sockets i);
    }

pub runs_keep_queues : RunsKeepQueues
runs_keep_queues first last transitions r none = keeps_queues r none

-- a run in two
record Splits (first last : Host) (before behind : List Transition) : Type 0 where
  mid : Host
  one : Run first before mid
  two : Run mid behind last

splits : {first last : Host} (before behind : List Transition) → Run first (before ++ behind) last → Splits first last before behind
splits {first} [] behind r = record { mid = first; one = Ends; two = r }
splits (p ∷ before) behind (Then s r) = let rest = splits before behind r in record { mid = rest.mid; one = Then s rest.one; two = rest.two }

pub runs_keep_datagrams : RunsKeepDatagrams
runs_keep_datagrams first last transitions r before between behind e =
    let x = splits before (between ++ behind) (subst (λ ps. Run first ps last) e r) in
    let y = splits between behind x.two in
    record { from = x.mid; to = y.mid; run_before = x.one; run_between = y.one; run_after = y.two; keeps = λ none. keeps_queues y.one none }
