-- The acts of two lives so far, in an order, event by event of the one.
use Rattle.std.proofs.Common.{◌≡◌, ◌∙◌, ℕ, false, List, [], ◌∷◌, ◌++◌, Option, Some, None, refl, sym, ap, subst}
use Rattle.tcp_host.specs.Host.{no_settings}
use Rattle.tcp_host.specs.declared.iss.Endpoints.{Endpoints}
use Rattle.tcp_laws.specs.Machines.{Side, unopened, Act, Move, OfA, Pair, after_moves}
use Rattle.tcp_host_laws.specs.Lives.{Life, after_acts, side_of, Event, Does, Begins, newest, with_act, begins_by_cookie, begun, after_event}
use Rattle.tcp_host_laws.specs.Pairs.{MayDoAt, AreMovesAt, acts_of_a, acts_of_b, start_of}
use Rattle.tcp_host_laws.specs.TcpNetworks.Orders.{began_as}
use Rattle.tcp_host_laws.proofs.Numbers.{Steps, Stays, Acts, Opens, steps}
use Rattle.tcp_host_laws.proofs.ActLists.{moves_append, a_more, b_same, side_a, side_b}

-- what a life did so far, if it has begun
abbrev pub acts_in : Option Life → List Act
acts_in None = []
acts_in (Some l) = l.acts

abbrev pub side_so_far : Life → Option Life → Side
side_so_far x o = after_acts x.number (acts_in o) (unopened x.room x.size no_settings)

-- an order of the acts of both
pub record Progress (x y : Life) (a b : Option Life) : Type 0 where
  pub moves : List Move
  pub of_x : acts_of_a moves ≡ acts_in a
  pub of_y : acts_of_b moves ≡ acts_in b
  pub may : AreMovesAt x.number y.number (start_of x y) moves

module _ (x y : Life) (a b : Option Life) (p : Progress x y a b) where
  abbrev so_far : Pair
  so_far = after_moves x.number y.number (start_of x y) p.moves

  mine : so_far.a ≡ side_so_far x a
  mine = side_a x.number y.number (start_of x y) p.moves
      ∙ ap (λ (acts : List Act). after_acts x.number acts (unopened x.room x.size no_settings)) p.of_x

  peers : so_far.b ≡ side_so_far y b
  peers = side_b x.number y.number (start_of x y) p.moves
      ∙ ap (λ (acts : List Act). after_acts y.number acts (unopened y.room y.size no_settings)) p.of_y

  -- one act more
  pub one_act : (act : Act) (c : Option Life) → acts_in c ≡ acts_in a ++ act ∷ [] → MayDoAt act (side_so_far x a) (side_so_far y b) →
      Progress x y c b
  one_act act c is may = record {
    moves = p.moves ++ OfA act ∷ [];
    of_x = a_more p.moves act ∙ ap (λ (acts : List Act). acts ++ act ∷ []) p.of_x ∙ sym is;
    of_y = b_same p.moves act ∙ p.of_y;
    may = moves_append x.number y.number (start_of x y) p.moves (OfA act) p.may
        (subst (λ (s : Side). MayDoAt act s so_far.b) (sym mine) (subst (λ (s : Side). MayDoAt act (side_so_far x a) s) (sym peers) may));
  }

-- a life began as this one did, and not by a cookie
pub record IsLike (x l : Life) : Type 0 where
  pub ends : l.ends ≡ x.ends
  pub number : l.number ≡ x.number
  pub room : l.room ≡ x.room
  pub size : l.size ≡ x.size
  pub is_plain : l.is_of_cookie ≡ false

-- what happens is what a life between these ends may do, as its side is, and as its peer's is
abbrev pub MayGoOn : Endpoints → (peer : Side) → List Life → Event → Type 0
MayGoOn e peer ls (Does place act) = (l : Life) → newest place ls ≡ Some l → l.ends ≡ e → MayDoAt act (side_of l) peer
MayGoOn e peer ls (Begins place ends number room size act) = ends ≡ e → begins_by_cookie act ≡ false → MayDoAt act (unopened room size no_settings) peer

pub same_side : (x l : Life) → IsLike x l → side_of l ≡ side_so_far x (Some l)
same_side x l k =
    ap (λ (n : ℕ). after_acts n l.acts (unopened l.room l.size no_settings)) k.number
    ∙ ap (λ (n : ℕ). after_acts x.number l.acts (unopened n l.size no_settings)) k.room
    ∙ ap (λ (n : ℕ). after_acts x.number l.acts (unopened x.room n no_settings)) k.size

module _ (x y : Life) (n : ℕ) (b : Option Life) (ls : List Life) (p : Progress x y (began_as n ls) b) where
  by_step : (e : Event) → MayGoOn x.ends (side_so_far y b) ls e → ((l : Life) → began_as n (after_event e ls) ≡ Some l → IsLike x l) →
      Steps n ls e → Progress x y (began_as n (after_event e ls)) b
  by_step e may like (Stays same) = subst (λ (o : Option Life). Progress x y o b) (sym same) p
  by_step _ may like (Acts place act l new old after) =
      let k = like (with_act act l) after in
      let l_like : IsLike x l = record { ends = k.ends; number = k.number; room = k.room; size = k.size; is_plain = k.is_plain } in
      subst (λ (o : Option Life). Progress x y o b) (sym after)
      (one_act x y (Some l) b (subst (λ (o : Option Life). Progress x y o b) old p) act (Some (with_act act l)) refl
      (subst (λ (s : Side). MayDoAt act s (side_so_far y b)) (same_side x l l_like) (may l new l_like.ends)))
  by_step _ may like (Opens place e number room size act none now) =
      let k = like (begun place e number room size act) now in
      subst (λ (o : Option Life). Progress x y o b) (sym now)
      (one_act x y None b (subst (λ (o : Option Life). Progress x y o b) none p) act (Some (begun place e number room size act)) refl
      (subst (λ (r : ℕ). MayDoAt act (unopened r x.size no_settings) (side_so_far y b)) k.room
      (subst (λ (r : ℕ). MayDoAt act (unopened room r no_settings) (side_so_far y b)) k.size (may k.ends k.is_plain))))

  pub event_goes_on : (e : Event) → MayGoOn x.ends (side_so_far y b) ls e →
      ((l : Life) → began_as n (after_event e ls) ≡ Some l → IsLike x l) → Progress x y (began_as n (after_event e ls)) b
  event_goes_on e may like = by_step e may like (steps n e ls)
