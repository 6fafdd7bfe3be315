-- Calls that set something, over plain variables.
use Rattle.std.proofs.Common.{◌≡◌, ℕ, Bool, true, false, List, Ok, Err, refl, ap, sym, ◌∙◌}
use Rattle.std.specs.Prelude.{Result}
use Rattle.ip_address.specs.declared.ip.IpAddress.{IpAddress}
use Rattle.iface_tables.specs.declared.groups.Group.{Group}
use Rattle.iface_tables.specs.declared.groups.GroupTableFull.{GroupTableFull}
use Rattle.iface_tables.specs.Groups.{done_or_full, is_refused}
use Rattle.iface_tables.specs.declared.route.Route.{Route}
use Rattle.iface_tables.specs.Store.{Stored}
use Rattle.fragmentation.specs.declared.key.FragKey.{FragKey}
use Rattle.fragmentation.specs.Assembly.{Assembly}
use Rattle.fragmentation.specs.Slots.{Slots}
use Rattle.host_machine.specs.Context.Host.{Host, SocketSet, with_slots}
use Rattle.iface_context.specs.declared.context.Context.{Context}
use Rattle.iface_context.specs.Stands.{host_of}
use Rattle.iface_context.specs.Refines.{StandsFor}
use Rattle.interface.specs.Stands as interface
use Rattle.interface.specs.Stands.{Refinement, with_routes}
use Rattle.interface.specs.declared.interface.Interface.{Interface}

module _ (c c' : Context) (places : List (Assembly FragKey)) (sockets : SocketSet) (H : Host) (h : StandsFor c places sockets H) where
  -- each host is changed so
  pub becomes : (change : Host → Host) → host_of c' sockets ≡ change (host_of c sockets) →
      ((K : Host) (slots : Slots) → with_slots (change K) slots ≡ change (with_slots K slots)) → StandsFor c' places sockets (change H)
  becomes change sets apart = record {
    slots = h.slots;
    stand = h.stand;
    same = ap change h.same ∙ sym (apart (host_of c sockets) h.slots) ∙ ap (λ K. with_slots K h.slots) (sym sets);
  }

  -- by a rule that allows the change
  pub led : {Rule : Host → Host → Type 0} (change : Host → Host) →
      host_of c' sockets ≡ change (host_of c sockets) → ((K : Host) (slots : Slots) → with_slots (change K) slots ≡ change (with_slots K slots)) →
      Rule H (change H) → Refinement Rule H (StandsFor c' places sockets)
  led change sets apart follows = record { host = change H; follows = follows; stands = becomes change sets apart }

-- nothing changes, by a rule that allows it
pub kept : {Rule : Host → Host → Type 0} {after : Host → Type 0} (H : Host) → after H → Rule H H → Refinement Rule H after
kept H stands follows = record { host = H; follows = follows; stands = stands }

-- a join that is answered so is taken, or finds no place
pub has_place : (room : ℕ) (groups : List Group) (a : IpAddress) (r : Result (Unit {0}) GroupTableFull) →
    r ≡ done_or_full room groups a → r ≡ Ok tt → is_refused room groups a ≡ false
has_place room groups a r answers ok = by (is_refused room groups a) refl where
  by : (b : Bool) → is_refused room groups a ≡ b → is_refused room groups a ≡ false
  by true is = absurd (let e = rw is at (sym answers ∙ ok) in cc)
  by false is = is

pub has_none : (room : ℕ) (groups : List Group) (a : IpAddress) (r : Result (Unit {0}) GroupTableFull) (error : GroupTableFull) →
    r ≡ done_or_full room groups a → r ≡ Err error → is_refused room groups a ≡ true
has_none room groups a r error answers err = by (is_refused room groups a) refl where
  by : (b : Bool) → is_refused room groups a ≡ b → is_refused room groups a ≡ true
  by true is = is
  by false is = absurd (let e = rw is at (sym answers ∙ err) in cc)

-- other routes, by a rule of how many there is room for and of those before
pub routes_become : (i : Interface) (w : Stored Route) (sockets : SocketSet) (H : Host) → interface.StandsFor i sockets H →
    (f : ℕ → List Route → List Route) → w.items ≡ f i.context.routes.room i.context.routes.items → w.room ≡ i.context.routes.room →
    interface.StandsFor (with_routes i w) sockets (record H { routes = f H.route_room H.routes })
routes_become i w sockets H h f items room =
    becomes i.context (with_routes i w).context i.fragments sockets H h (λ K. record K { routes = f K.route_room K.routes })
    (rw (items, room) refl) (λ K slots. refl)
