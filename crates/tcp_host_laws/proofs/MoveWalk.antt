-- The acts of two lives on a network have an order: they have one before each of its moves.
use Rattle.std.proofs.Common.{◌≡◌, ◌∙◌, ℕ, Bool, true, false, List, [], ◌∷◌, ◌++◌, Option, Some, None, refl, sym, ap, subst}
use Rattle.std.specs.Prelude.{◌==◌, if◌then◌else◌}
use Rattle.std.specs.List.{AllByRecursion, slice_get}
use Rattle.std.proofs.lemmas.Bool.Decides.{Decides-eqb}
use Rattle.std.proofs.lemmas.List.{append_assoc, append-nil}
use Rattle.net_base.specs.declared.phy.Medium.{Medium}
use Rattle.host_machine.specs.Context.Host.{Host}
use Rattle.host_machine.specs.Interface.Run.{Transition}
use Rattle.tcp_laws.specs.Machines.{Move as Acted}
use Rattle.tcp_host_laws.specs.Lives.{Life}
use Rattle.tcp_host_laws.specs.Pairs.{IsOrder}
use Rattle.tcp_host_laws.specs.TcpNetworks.Stations.{Station, Goes, Stops, Works, Acts}
use Rattle.tcp_host_laws.specs.TcpNetworks.Networks.{Move, transitions_of, IsNetwork, AreBetween}
use Rattle.tcp_host_laws.specs.TcpNetworks.Orders.{began_as, NetworksOrder}
use Rattle.tcp_host_laws.proofs.Prefixes.{transitions-append, goes_parts}
use Rattle.tcp_host_laws.proofs.Progress.{Progress}
use Rattle.tcp_host_laws.proofs.PollProgress.{HasBegun}
use Rattle.tcp_host_laws.proofs.TurnProgress.{step_begun, step_goes_on}
use Rattle.tcp_host_laws.proofs.Exchange.{progress_exchanged}
use Rattle.tcp_host_laws.proofs.Peers.{ArePeers, peers_exchanged, is_earlier, comes_of_peer}

goes_then : (s t u : Station) (ps qs : List Transition) → Goes s ps t → Goes t qs u → Goes s (ps ++ qs) u
goes_then s t u [] qs Stops g = g
goes_then s t u (p ∷ ps) qs (Works none rest) g = Works none (goes_then s t u ps qs rest g)
goes_then s t u (p ∷ ps) qs (Acts {mid = mid} act one turn rest) g = Acts act one turn (goes_then mid t u ps qs rest g)

stopped : (s t : Station) → Goes s [] t → s ≡ t
stopped s t Stops = refl

abbrev with_station : ℕ → Station → (ℕ → Station) → ℕ → Station
with_station h s stations k = if h == k then s else stations k

is_eq : (a b : ℕ) → (a == b) ≡ true → a ≡ b
is_eq a b = (Decides-eqb a b).0

module _ (m : Medium) (hosts : List Host) (first last : ℕ → Station) (moves : List Move) (net : IsNetwork m hosts first last moves)
    (i n j o : ℕ) (x y : Life) (peers : ArePeers hosts last i n j o x y) where
  -- both lives between two parts of the moves
  record Reached (before after : List Move) (mid : ℕ → Station) : Type 0 where
    between : AreBetween hosts first last before after mid
    begun : (k : ℕ) (a : Host) → slice_get hosts k ≡ Some a → AllByRecursion HasBegun (mid k).lives
    progress : Progress x y (began_as n (mid i).lives) (began_as o (mid j).lives)

  -- a move; its host, if it is one, goes on to this station
  module _ (before after : List Move) (move : Move) (e : before ++ move ∷ after ≡ moves) (mid : ℕ → Station)
      (r : Reached before (move ∷ after) mid) (s : Station)
      (step : (a : Host) → slice_get hosts move.host ≡ Some a → Goes (mid move.host) (move.transition ∷ []) s)
      (rest : (a : Host) → slice_get hosts move.host ≡ Some a → Goes s (transitions_of after move.host) (last move.host)) where
    abbrev then_at : ℕ → Station
    then_at = with_station move.host s mid

    been_by : (k : ℕ) (a : Host) → slice_get hosts k ≡ Some a → (b : Bool) → (move.host == k) ≡ b →
        Goes (first k) (transitions_of before k ++ (if b then move.transition ∷ [] else [])) (if b then s else mid k)
    been_by k a there true is =
        let same = is_eq move.host k is in
        let host : slice_get hosts move.host ≡ Some a = ap (λ (h : ℕ). slice_get hosts h) same ∙ there in
        goes_then (first k) (mid k) s (transitions_of before k) (move.transition ∷ []) (r.between.been k a there)
        (subst (λ (h : ℕ). Goes (mid h) (move.transition ∷ []) s) same (step a host))
    been_by k a there false is =
        subst (λ (ts : List Transition). Goes (first k) ts (mid k)) (sym (append-nil (transitions_of before k))) (r.between.been k a there)

    to_go_by : (k : ℕ) (a : Host) → slice_get hosts k ≡ Some a → (b : Bool) → (move.host == k) ≡ b →
        Goes (mid k) (if b then move.transition ∷ transitions_of after k else transitions_of after k) (last k) →
        Goes (if b then s else mid k) (transitions_of after k) (last k)
    to_go_by k a there true is go =
        let same = is_eq move.host k is in
        let host : slice_get hosts move.host ≡ Some a = ap (λ (h : ℕ). slice_get hosts h) same ∙ there in
        subst (λ (h : ℕ). Goes s (transitions_of after h) (last h)) same (rest a host)
    to_go_by k a there false is go = go

    begun_by : (k : ℕ) (a : Host) → slice_get hosts k ≡ Some a → (b : Bool) → (move.host == k) ≡ b →
        AllByRecursion HasBegun (if b then s else mid k).lives
    begun_by k a there true is =
        let same = is_eq move.host k is in
        let host : slice_get hosts move.host ≡ Some a = ap (λ (h : ℕ). slice_get hosts h) same ∙ there in
        step_begun (mid move.host) s move.transition (step a host) (r.begun move.host a host)
    begun_by k a there false is = r.begun k a there

    -- a move of the host of one of two peers
    goes_on : (k q l t : ℕ) (v w : Life) → ArePeers hosts last k q l t v w → move.host ≡ k →
        Progress v w (began_as q (mid k).lives) (began_as t (mid l).lives) → Progress v w (began_as q s.lives) (began_as t (mid l).lives)
    goes_on k q l t v w p same progress =
        let at = p.of_x in
        let host : slice_get hosts move.host ≡ Some at.host = ap (λ (h : ℕ). slice_get hosts h) same ∙ at.is_host in
        let go : Goes s (transitions_of after k) (last k) =
        subst (λ (h : ℕ). Goes s (transitions_of after h) (last h)) same (rest at.host host) in
        step_goes_on v w q (began_as t (mid l).lives) (mid k) s move.transition
        (comes_of_peer m hosts first last moves net before after move e mid r.between at.host host k q l t v w p)
        (is_earlier q s (last k) (transitions_of after k) go v p.plain_x at.there) (r.begun k at.host at.is_host)
        (subst (λ (h : ℕ). Goes (mid h) (move.transition ∷ []) s) same (step at.host host)) progress

    progress_by : (b c : Bool) → (move.host == i) ≡ b → (move.host == j) ≡ c →
        Progress x y (began_as n (if b then s else mid i).lives) (began_as o (if c then s else mid j).lives)
    progress_by true true is also = absurd (peers.apart (sym (is_eq move.host i is) ∙ is_eq move.host j also))
    progress_by true false is other = goes_on i n j o x y peers (is_eq move.host i is) r.progress
    progress_by false true other is =
        let p = peers_exchanged hosts last i n j o x y peers in
        let old = progress_exchanged x y (began_as n (mid i).lives) (began_as o (mid j).lives) r.progress in
        progress_exchanged y x (began_as o s.lives) (began_as n (mid i).lives) (goes_on j o i n y x p (is_eq move.host j is) old)
    progress_by false false other also = r.progress

    reached_then : Reached (before ++ move ∷ []) after then_at
    reached_then = record {
      between = record {
        been = λ k a there. subst (λ (ts : List Transition). Goes (first k) ts (then_at k)) (sym (transitions-append before (move ∷ []) k))
            (been_by k a there (move.host == k) refl);
        to_go = λ k a there. to_go_by k a there (move.host == k) refl (r.between.to_go k a there);
      };
      begun = λ k a there. begun_by k a there (move.host == k) refl;
      progress = progress_by (move.host == i) (move.host == j) refl refl;
    }

  record ReachedThen (before after : List Move) : Type 0 where
    mid : ℕ → Station
    reached : Reached before after mid

  module _ (before after : List Move) (move : Move) (e : before ++ move ∷ after ≡ moves) (mid : ℕ → Station)
      (r : Reached before (move ∷ after) mid) where
    own_to_go : (a : Host) → slice_get hosts move.host ≡ Some a →
        Goes (mid move.host) (move.transition ∷ transitions_of after move.host) (last move.host)
    own_to_go a there =
        subst (λ (b : Bool). Goes (mid move.host) (if b then move.transition ∷ transitions_of after move.host else transitions_of after move.host)
        (last move.host)) ((Decides-eqb move.host move.host).1 refl) (r.between.to_go move.host a there)

    one_by : (h : Option Host) → slice_get hosts move.host ≡ h → ReachedThen (before ++ move ∷ []) after
    one_by None is = record {
      mid = with_station move.host (mid move.host) mid;
      reached = reached_then before after move e mid r (mid move.host) (λ a there. absurd cc) (λ a there. absurd cc);
    }
    one_by (Some h) is =
        let g = goes_parts (mid move.host) (last move.host) (move.transition ∷ []) (transitions_of after move.host) (own_to_go h is) in record {
          mid = with_station move.host g.mid mid;
          reached = reached_then before after move e mid r g.mid (λ a there. g.begins) (λ a there. g.ends);
        }

  walk : (before after : List Move) → before ++ after ≡ moves → (mid : ℕ → Station) → Reached before after mid →
      (acts : List Acted) × IsOrder x y acts
  walk before [] e mid r =
      let at_x = peers.of_x in
      let at_y = peers.of_y in
      let there_x : began_as n (mid i).lives ≡ Some x =
      ap (λ (s : Station). began_as n s.lives) (stopped (mid i) (last i) (r.between.to_go i at_x.host at_x.is_host)) ∙ at_x.there in
      let there_y : began_as o (mid j).lives ≡ Some y =
      ap (λ (s : Station). began_as o s.lives) (stopped (mid j) (last j) (r.between.to_go j at_y.host at_y.is_host)) ∙ at_y.there in
      let p : Progress x y (Some x) (Some y) =
      subst (λ (l : Option Life). Progress x y (Some x) l) there_y
      (subst (λ (l : Option Life). Progress x y l (began_as o (mid j).lives)) there_x r.progress) in
      (p.moves, record { of_x = p.of_x; of_y = p.of_y; moves = p.may })
  walk before (move ∷ after) e mid r =
      let next = one_by before after move e mid r (slice_get hosts move.host) refl in
      walk (before ++ move ∷ []) after (append_assoc before (move ∷ []) after ∙ e) next.mid next.reached

  -- at first there is no life
  new_lives : (k : ℕ) (a : Host) → slice_get hosts k ≡ Some a → (first k).lives ≡ []
  new_lives k a there = (net.new k a there).lives

  at_first : Reached [] moves first
  at_first =
      let at_x = peers.of_x in
      let at_y = peers.of_y in
      let none : Progress x y None None = record { moves = []; of_x = refl; of_y = refl; may = tt } in record {
        between = record { been = λ k a there. Stops; to_go = net.goes };
        begun = λ k a there. subst (λ (ls : List Life). AllByRecursion HasBegun ls) (sym (new_lives k a there)) tt;
        progress = subst (λ (ls : List Life). Progress x y (began_as n (first i).lives) (began_as o ls)) (sym (new_lives j at_y.host at_y.is_host))
            (subst (λ (ls : List Life). Progress x y (began_as n ls) None) (sym (new_lives i at_x.host at_x.is_host)) none);
      }

  pub in_order : (acts : List Acted) × IsOrder x y acts
  in_order = walk [] moves refl first at_first

pub networks_order : NetworksOrder
networks_order m hosts first last moves net i n j o x y apart of_x of_y ends plain_x plain_y only_x only_y =
    in_order m hosts first last moves net i n j o x y
    (record { apart = apart; of_x = of_x; of_y = of_y; ends = ends; plain_x = plain_x; plain_y = plain_y; only_x = only_x; only_y = only_y })
