-- Two lives of a network, one at each end of a connection: what comes to the one had been sent by the other.
use Rattle.std.proofs.Common.{◌≡◌, ◌∙◌, ℕ, false, List, ◌∷◌, ◌++◌, Option, Some, sym, ap, subst}
use Rattle.std.specs.List.{slice_get}
use Rattle.net_base.specs.declared.phy.Medium.{Medium}
use Rattle.host_machine.specs.Context.Host.{Host}
use Rattle.host_machine.specs.Interface.Run.{Transition}
use Rattle.tcp_machine.specs.Segments as machine
use Rattle.tcp_host.specs.declared.iss.Endpoints.{Endpoints}
use Rattle.tcp_sockets.specs.Reading.{reversed}
use Rattle.tcp_laws.specs.Machines.{Side}
use Rattle.tcp_host_laws.specs.Lives.{Life, side_of}
use Rattle.tcp_host_laws.specs.Pairs.{StandsFor, MayCome, OfPeer, OfAnyone}
use Rattle.tcp_host_laws.specs.TcpNetworks.Stations.{Station, Goes}
use Rattle.tcp_host_laws.specs.TcpNetworks.Networks.{Move, transitions_of, IsNetwork, AreBetween, ComesFromLife, OfSome}
use Rattle.tcp_host_laws.specs.TcpNetworks.Networks as networks
use Rattle.tcp_host_laws.specs.TcpNetworks.Orders.{began_as, IsLifeAt, IsOnly}
use Rattle.tcp_host_laws.proofs.Comings.{segments_come_from_lives}
use Rattle.tcp_host_laws.proofs.OnlyLives.{kept_goes, of_only}
use Rattle.tcp_host_laws.proofs.Progress.{side_so_far, same_side}
use Rattle.tcp_host_laws.proofs.TurnProgress.{ComesOfPeer, IsEarlier}

-- two lives of two hosts, each of which is the only one between its ends
pub record ArePeers (hosts : List Host) (last : ℕ → Station) (i n j o : ℕ) (x y : Life) : Type 0 where
  pub apart : i ≡ j → ⊥
  pub of_x : IsLifeAt hosts last i n x
  pub of_y : IsLifeAt hosts last j o y
  pub ends : y.ends ≡ reversed x.ends
  pub plain_x : x.is_of_cookie ≡ false
  pub plain_y : y.is_of_cookie ≡ false
  pub only_x : IsOnly hosts last i n x.ends
  pub only_y : IsOnly hosts last j o y.ends

pub peers_exchanged : (hosts : List Host) (last : ℕ → Station) (i n j o : ℕ) (x y : Life) → ArePeers hosts last i n j o x y →
    ArePeers hosts last j o i n y x
peers_exchanged hosts last i n j o x y p = record {
  apart = λ (e : j ≡ i). p.apart (sym e);
  of_x = p.of_y;
  of_y = p.of_x;
  ends = ap (λ (e : Endpoints). reversed e) (sym p.ends);
  plain_x = p.plain_y;
  plain_y = p.plain_x;
  only_x = p.only_y;
  only_y = p.only_x;
}

-- a life that is there at the end was so before, if it had begun
pub is_earlier : (n : ℕ) (s t : Station) (ts : List Transition) → Goes s ts t → (x : Life) → x.is_of_cookie ≡ false →
    began_as n t.lives ≡ Some x → IsEarlier x n s.lives
is_earlier n s t ts goes x plain there l is =
    let kept = kept_goes n s t ts goes l is in
    let there_then = kept.there in
    let same : kept.life ≡ x = cc in record {
      ends = sym kept.ends ∙ ap (λ (z : Life). z.ends) same;
      number = sym kept.number ∙ ap (λ (z : Life). z.number) same;
      room = sym kept.room ∙ ap (λ (z : Life). z.room) same;
      size = sym kept.size ∙ ap (λ (z : Life). z.size) same;
      is_plain = sym kept.is_of_cookie ∙ ap (λ (z : Life). z.is_of_cookie) same ∙ plain;
    }

-- what was sent in a life between the ends reversed was sent by the peer
of_peer : (hosts : List Host) (stations last : ℕ → Station) (later : ℕ → List Transition) →
    ((k : ℕ) (a : Host) → slice_get hosts k ≡ Some a → Goes (stations k) (later k) (last k)) →
    (i n j o : ℕ) (x y : Life) → ArePeers hosts last i n j o x y → (s : machine.Segment) → ComesFromLife hosts stations x.ends s →
    MayCome (side_so_far y (began_as o (stations j).lives)).sent s
of_peer hosts stations last later goes i n j o x y p s (OfSome w) =
    let sent = of_only hosts stations last later goes j o x.ends s (subst (λ (e : Endpoints). IsOnly hosts last j o e) p.ends p.only_y) w in
    let at = p.of_y in
    let like = is_earlier o (stations j) (last j) (later j) (goes j at.host at.is_host) y p.plain_y at.there sent.life sent.there in
    let same : side_of sent.life ≡ side_so_far y (began_as o (stations j).lives) =
    same_side y sent.life like ∙ ap (λ (l : Option Life). side_so_far y l) (sym sent.there) in
    OfPeer (subst (λ (q : Side). StandsFor q.sent s) same sent.stands)
of_peer hosts stations last later goes i n j o x y p s (networks.OfAnyone reset) = OfAnyone reset

pub comes_of_peer : (m : Medium) (hosts : List Host) (first last : ℕ → Station) (moves : List Move) → IsNetwork m hosts first last moves →
    (before after : List Move) (move : Move) → before ++ move ∷ after ≡ moves → (mid : ℕ → Station) →
    AreBetween hosts first last before (move ∷ after) mid → (a : Host) → slice_get hosts move.host ≡ Some a →
    (i n j o : ℕ) (x y : Life) → ArePeers hosts last i n j o x y →
    ComesOfPeer x y (began_as o (mid j).lives) move.transition.before.sockets
comes_of_peer m hosts first last moves net before after move e mid between a there i n j o x y p checked own s c =
    of_peer hosts mid last (transitions_of (move ∷ after)) between.to_go i n j o x y p s
    (segments_come_from_lives m hosts first last moves net before after move e mid between a there checked own x.ends s c)
