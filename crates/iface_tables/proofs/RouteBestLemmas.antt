-- The best route of a list, found from its end on.
use Rattle.std.proofs.Common.{◌≡◌, ◌<◌, ◌≤◌, ℕ, zero, suc, Bool, true, false, List, [], ◌∷◌, refl, sym, ap, ◌∙◌, arith}
use Rattle.std.specs.Prelude.{ℤ, nat_le, Option, Some, None, slice_get, if◌then◌else◌}
use Rattle.std.proofs.lemmas.Bool.Decides.{nat_tests}
use Rattle.ip_address.specs.declared.ip.IpAddress.{IpAddress}
use Rattle.iface_tables.specs.declared.route.Route.{Route}
use Rattle.iface_tables.specs.Route.{BestIsFound, IsBest, IsRouter, best, matches, more_specific, prefix_len, router_of}
use Rattle.iface_tables.proofs.RouteLemmas.{routers_are_one, some_is}

-- a route in front that doesn't match changes nothing
behind : (r : Route) (rs : List Route) (a : IpAddress) (t : ℤ) (found : Option Route) →
    matches r a t ≡ false → IsBest rs a t found → IsBest (r ∷ rs) a t found
behind r rs a t None dead b = λ k. by k where
  by : (k : ℕ) (other : Route) → slice_get (r ∷ rs) k ≡ Some other → matches other a t ≡ false
  by zero other there = ap (λ x. matches x a t) (sym (some_is r other there)) ∙ dead
  by (suc k) other there = b k other there
behind r rs a t (Some found) dead b = (
  suc b.0,
  record {
    is_there = b.1.is_there;
    is_match = b.1.is_match;
    longest = longest;
    last = last;
  },
) where
  longest : (k : ℕ) (other : Route) → slice_get (r ∷ rs) k ≡ Some other → matches other a t ≡ true → prefix_len other ≤ prefix_len found
  longest zero other there m =
      absurd (let same = some_is r other there in let stays : matches other a t ≡ false = ap (λ x. matches x a t) (sym same) ∙ dead in cc)
  longest (suc k) other there m = b.1.longest k other there m

  last : (k : ℕ) (other : Route) → suc b.0 < k → slice_get (r ∷ rs) k ≡ Some other → matches other a t ≡ true → prefix_len other < prefix_len found
  last zero other after there m = absurd (omega (arith, after))
  last (suc k) other after there m = b.1.last k other (omega (arith, after)) there m

-- one in front that matches where none behind it does
alone : (r : Route) (rs : List Route) (a : IpAddress) (t : ℤ) → matches r a t ≡ true → IsBest rs a t None → IsBest (r ∷ rs) a t (Some r)
alone r rs a t yes' b = (0, record { is_there = refl; is_match = yes'; longest = longest; last = last }) where
  longest : (k : ℕ) (other : Route) → slice_get (r ∷ rs) k ≡ Some other → matches other a t ≡ true → prefix_len other ≤ prefix_len r
  longest zero other there m = let same : prefix_len r ≡ prefix_len other = ap prefix_len (some_is r other there) in omega (arith, same)
  longest (suc k) other there m = absurd (let stays : matches other a t ≡ false = b k other there in cc)

  last : (k : ℕ) (other : Route) → 0 < k → slice_get (r ∷ rs) k ≡ Some other → matches other a t ≡ true → prefix_len other < prefix_len r
  last zero other after there m = absurd (omega (arith, after))
  last (suc k) other after there m = absurd (let stays : matches other a t ≡ false = b k other there in cc)

-- one in front that is more specific than the best behind it
before : (r : Route) (rs : List Route) (a : IpAddress) (t : ℤ) (o : Route) →
    matches r a t ≡ true → prefix_len o < prefix_len r → IsBest rs a t (Some o) → IsBest (r ∷ rs) a t (Some r)
before r rs a t o yes' more b = (0, record { is_there = refl; is_match = yes'; longest = longest; last = last }) where
  longest : (k : ℕ) (other : Route) → slice_get (r ∷ rs) k ≡ Some other → matches other a t ≡ true → prefix_len other ≤ prefix_len r
  longest zero other there m = let same : prefix_len r ≡ prefix_len other = ap prefix_len (some_is r other there) in omega (arith, same)
  longest (suc k) other there m = let l = b.1.longest k other there m in omega (arith, l, more)

  last : (k : ℕ) (other : Route) → 0 < k → slice_get (r ∷ rs) k ≡ Some other → matches other a t ≡ true → prefix_len other < prefix_len r
  last zero other after there m = absurd (omega (arith, after))
  last (suc k) other after there m = let l = b.1.longest k other there m in omega (arith, l, more)

-- one in front that isn't
after : (r : Route) (rs : List Route) (a : IpAddress) (t : ℤ) (o : Route) →
    prefix_len r ≤ prefix_len o → IsBest rs a t (Some o) → IsBest (r ∷ rs) a t (Some o)
after r rs a t o less b = (
  suc b.0,
  record {
    is_there = b.1.is_there;
    is_match = b.1.is_match;
    longest = longest;
    last = last;
  },
) where
  longest : (k : ℕ) (other : Route) → slice_get (r ∷ rs) k ≡ Some other → matches other a t ≡ true → prefix_len other ≤ prefix_len o
  longest zero other there m = let same : prefix_len r ≡ prefix_len other = ap prefix_len (some_is r other there) in omega (arith, same, less)
  longest (suc k) other there m = b.1.longest k other there m

  last : (k : ℕ) (other : Route) → suc b.0 < k → slice_get (r ∷ rs) k ≡ Some other → matches other a t ≡ true → prefix_len other < prefix_len o
  last zero other after there m = absurd (omega (arith, after))
  last (suc k) other after there m = b.1.last k other (omega (arith, after)) there m

-- one in front that matches
in_front : (r : Route) (rs : List Route) (a : IpAddress) (t : ℤ) (found : Option Route) →
    matches r a t ≡ true → IsBest rs a t found → IsBest (r ∷ rs) a t (Some (more_specific r found))
in_front r rs a t None yes' b = alone r rs a t yes' b
in_front r rs a t (Some o) yes' b = by (nat_le (prefix_len r) (prefix_len o)) refl where
  by : (x : Bool) → nat_le (prefix_len r) (prefix_len o) ≡ x → IsBest (r ∷ rs) a t (Some (if x then o else r))
  by true is = after r rs a t o (grind (arith, nat_tests, is)) b
  by false is = before r rs a t o yes' (grind (arith, nat_tests, is)) b

-- one more in front
one_more : (r : Route) (rs : List Route) (a : IpAddress) (t : ℤ) (m : Bool) → matches r a t ≡ m → IsBest rs a t (best rs a t) →
    IsBest (r ∷ rs) a t (if m then Some (more_specific r (best rs a t)) else best rs a t)
one_more r rs a t true is b = in_front r rs a t (best rs a t) is b
one_more r rs a t false is b = behind r rs a t (best rs a t) is b

pub best_is_best : BestIsFound
best_is_best [] a t = λ k other there. absurd (let none : None ≡ Some other = there in cc)
best_is_best (r ∷ rs) a t = one_more r rs a t (matches r a t) refl (best_is_best rs a t)

-- what is known to be the router of an address is that of the best route
pub router_is : (rs : List Route) (a : IpAddress) (t : ℤ) (router : Option IpAddress) → IsRouter rs a t router → router ≡ router_of (best rs a t)
router_is rs a t router is = routers_are_one rs a t router (router_of (best rs a t)) is (best rs a t, best_is_best rs a t, refl)
