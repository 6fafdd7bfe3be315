-- A life keeps its number, and what comes to one of two was sent in the other one.
use Rattle.std.proofs.Common.{◌≡◌, ◌∙◌, ℕ, List, [], ◌∷◌, Some, refl, sym, ap, subst}
use Rattle.std.specs.List.{slice_get}
use Rattle.host_machine.specs.Context.Host.{Host, SocketSet}
use Rattle.host_machine.specs.Interface.Run.{Transition}
use Rattle.tcp_machine.specs.Segments as machine
use Rattle.tcp_host.specs.declared.iss.Endpoints.{Endpoints}
use Rattle.tcp_sockets.specs.Reading.{reversed}
use Rattle.tcp_host_laws.specs.Lives.{Life, Event, side_of, after_event, after_events}
use Rattle.tcp_host_laws.specs.Pairs.{StandsFor}
use Rattle.tcp_host_laws.specs.TcpNetworks.Stations.{Station, Turn, Polled, Called, Goes, Stops, Works, Acts}
use Rattle.tcp_host_laws.specs.TcpNetworks.Networks.{WasSentBetween}
use Rattle.tcp_host_laws.specs.TcpNetworks.Orders.{began_as, IsLifeAt, IsOnly}
use Rattle.tcp_host_laws.proofs.Numbers.{Steps, Stays, Opens, numbered, steps}
use Rattle.tcp_host_laws.proofs.Numbers as numbers

-- the life of a number later on: what it began with is as it was
pub record IsKept (k : ℕ) (ls : List Life) (l : Life) : Type 0 where
  pub life : Life
  pub there : began_as k ls ≡ Some life
  pub ends : life.ends ≡ l.ends
  pub number : life.number ≡ l.number
  pub room : life.room ≡ l.room
  pub size : life.size ≡ l.size
  pub is_of_cookie : life.is_of_cookie ≡ l.is_of_cookie

kept_then : (k : ℕ) (ls : List Life) (l x : Life) → x.ends ≡ l.ends → x.number ≡ l.number → x.room ≡ l.room → x.size ≡ l.size →
    x.is_of_cookie ≡ l.is_of_cookie → IsKept k ls x → IsKept k ls l
kept_then k ls l x e n r s c y = record {
  life = y.life;
  there = y.there;
  ends = y.ends ∙ e;
  number = y.number ∙ n;
  room = y.room ∙ r;
  size = y.size ∙ s;
  is_of_cookie = y.is_of_cookie ∙ c;
}

kept_by : (k : ℕ) (ls : List Life) (e : Event) (l : Life) → began_as k ls ≡ Some l → Steps k ls e → IsKept k (after_event e ls) l
kept_by k ls e l is (Stays same) =
    record { life = l; there = same ∙ is; ends = refl; number = refl; room = refl; size = refl; is_of_cookie = refl }
kept_by k ls _ l is (numbers.Acts place act x new old after) =
    let one : x ≡ l = cc in record {
      life = _;
      there = after;
      ends = ap (λ (y : Life). y.ends) one;
      number = ap (λ (y : Life). y.number) one;
      room = ap (λ (y : Life). y.room) one;
      size = ap (λ (y : Life). y.size) one;
      is_of_cookie = ap (λ (y : Life). y.is_of_cookie) one;
    }
kept_by k ls _ l is (Opens place e number room size act none now) = absurd cc

pub kept_events : (k : ℕ) (es : List Event) (ls : List Life) (l : Life) → began_as k ls ≡ Some l → IsKept k (after_events es ls) l
kept_events k [] ls l is = record { life = l; there = is; ends = refl; number = refl; room = refl; size = refl; is_of_cookie = refl }
kept_events k (e ∷ es) ls l is =
    let one = kept_by k ls e l is (steps k e ls) in
    kept_then k (after_events es (after_event e ls)) l one.life one.ends one.number one.room one.size one.is_of_cookie
    (kept_events k es (after_event e ls) one.life one.there)

kept_turn : (k : ℕ) (old new : Station) (before after : SocketSet) → Turn old new before after → (l : Life) → began_as k old.lives ≡ Some l →
    IsKept k new.lives l
kept_turn k old new before after (Polled own lived is) l at =
    subst (λ (ls : List Life). IsKept k ls l) (sym is) (kept_events k lived.events old.lives l at)
kept_turn k old new before after (Called events call same is stays) l at =
    subst (λ (ls : List Life). IsKept k ls l) (sym is) (kept_events k events old.lives l at)

pub kept_goes : (k : ℕ) (s t : Station) (ps : List Transition) → Goes s ps t → (l : Life) → began_as k s.lives ≡ Some l → IsKept k t.lives l
kept_goes k s t [] Stops l at = record { life = l; there = at; ends = refl; number = refl; room = refl; size = refl; is_of_cookie = refl }
kept_goes k s t (p ∷ ps) (Works none g) l at = kept_goes k s t ps g l at
kept_goes k s t (p ∷ ps) (Acts {mid = mid} act one turn g) l at =
    let first = kept_turn k s mid p.before.sockets p.after.sockets turn l at in
    kept_then k t.lives l first.life first.ends first.number first.room first.size first.is_of_cookie (kept_goes k mid t ps g first.life first.there)

-- what was sent between ends that only one life has was sent in that life
pub record IsOfOnly (stations : ℕ → Station) (j o : ℕ) (s : machine.Segment) : Type 0 where
  pub life : Life
  pub there : began_as o (stations j).lives ≡ Some life
  pub stands : StandsFor (side_of life).sent s

module _ (hosts : List Host) (stations last : ℕ → Station) (later : ℕ → List Transition)
    (goes : (j : ℕ) (a : Host) → slice_get hosts j ≡ Some a → Goes (stations j) (later j) (last j)) where
  pub of_only : (j o : ℕ) (e : Endpoints) (s : machine.Segment) → IsOnly hosts last j o (reversed e) → WasSentBetween hosts stations e s →
      IsOfOnly stations j o s
  of_only j o e s only w =
      let a = w.is_host.0 in
      let n = numbered (stations w.sender).lives w.life w.there in
      let kept = kept_goes n.number (stations w.sender) (last w.sender) (later w.sender) (goes w.sender a w.is_host.1) w.life n.is in
      let at : IsLifeAt hosts last w.sender n.number kept.life = record { host = a; is_host = w.is_host.1; there = kept.there } in
      let ends = kept.ends ∙ w.ends in
      let one = only.one_host w.sender n.number kept.life at ends in
      let two = only.one w.sender n.number kept.life at ends in record {
        life = w.life;
        there = subst (λ (i : ℕ). began_as o (stations i).lives ≡ Some w.life) one
            (subst (λ (k : ℕ). began_as k (stations w.sender).lives ≡ Some w.life) two n.is);
        stands = w.stands;
      }
