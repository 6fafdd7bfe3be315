-- The acts of two lives so far, call by call of the program of the one.
use Rattle.std.proofs.Common.{◌≡◌, ℕ, Bool, true, false, List, [], ◌∷◌, Option, Some, refl}
use Rattle.std.specs.Prelude.{if◌then◌else◌}
use Rattle.std.specs.List.{AllByRecursion}
use Rattle.tcp_host.specs.Host.{Host, connection_at}
use Rattle.tcp_host.specs.Handles.{ends_by_itself}
use Rattle.tcp_laws.specs.Machines.{Side, Act, Writes, Reads, Closes, Aborts, Chooses, Fits, Fails}
use Rattle.tcp_host_laws.specs.Lives.{Life, side_of, Event, Does, after_events}
use Rattle.tcp_host_laws.specs.Calls.{Calls, Connect, Send, Receive, Close, Abort, Choose, Limit, Release, Changed, Accept, Listen, CloseListener, opening, Shorten, Note, Lose}
use Rattle.tcp_host_laws.specs.Pairs.{MayDoAt}
use Rattle.tcp_host_laws.specs.TcpNetworks.Orders.{began_as}
use Rattle.tcp_host_laws.proofs.Progress.{Progress, side_so_far, IsLike, event_goes_on}
use Rattle.tcp_host_laws.proofs.PollProgress.{HasBegun, newest_begun, continued_begun}

-- all lives have begun after a call
released_begun : (b : Bool) (place : ℕ) (ls : List Life) → AllByRecursion HasBegun ls →
    AllByRecursion HasBegun (after_events (if b then [] else Does place Aborts ∷ []) ls)
released_begun true place ls all = all
released_begun false place ls all = continued_begun place Aborts ls all

pub call_begun : (old new : Host) (es : List Event) → Calls old es new → (ls : List Life) → AllByRecursion HasBegun ls →
    AllByRecursion HasBegun (after_events es ls)
call_begun old _ _ (Connect place now e ready lt found) ls all = (refl, all)
call_begun old _ _ (Send handle octets named) ls all = continued_begun handle.place (Writes octets) ls all
call_begun old _ _ (Receive handle count named) ls all = continued_begun handle.place (Reads count) ls all
call_begun old _ _ (Close handle named) ls all = continued_begun handle.place Closes ls all
call_begun old _ _ (Abort handle named) ls all = continued_begun handle.place Aborts ls all
call_begun old _ _ (Choose handle settings named) ls all = continued_begun handle.place (Chooses settings) ls all
call_begun old _ _ (Shorten place size within) ls all = continued_begun place (Fits size) ls all
call_begun old _ _ (Note now place within) ls all = all
call_begun old _ _ (Lose place within) ls all = continued_begun place Fails ls all
call_begun old _ _ (Limit handle hop_limit named) ls all = all
call_begun old _ _ (Release handle named) ls all =
    released_begun (ends_by_itself (connection_at handle.place old).state) handle.place ls all
call_begun old _ _ (Changed told new tells) ls all = all
call_begun old _ _ (Accept listener) ls all = all
call_begun old _ _ (Listen port address most) ls all = all
call_begun old _ _ (CloseListener listener) ls all = all

module _ (x y : Life) (n : ℕ) (b : Option Life) (ls : List Life) (all : AllByRecursion HasBegun ls) (p : Progress x y (began_as n ls) b) where
  abbrev GoesOn : List Event → Type 0
  GoesOn es = ((l : Life) → began_as n (after_events es ls) ≡ Some l → IsLike x l) → Progress x y (began_as n (after_events es ls)) b

  -- an act that any life may do that has begun
  does_goes_on : (place : ℕ) (act : Act) → ((mine peer : Side) → mine.is_begun ≡ true → MayDoAt act mine peer) → GoesOn (Does place act ∷ [])
  does_goes_on place act may like =
      event_goes_on x y n b ls p (Does place act) (λ l new is. may (side_of l) (side_so_far y b) (newest_begun place ls l all new)) like

  release_goes_on : (c : Bool) (place : ℕ) → GoesOn (if c then [] else Does place Aborts ∷ [])
  release_goes_on true place like = p
  release_goes_on false place like = does_goes_on place Aborts (λ mine peer is. is) like

  pub call_goes_on : (old new : Host) (es : List Event) → Calls old es new → GoesOn es
  call_goes_on old _ _ (Connect place now e ready lt found) like = event_goes_on x y n b ls p (opening place now e ready) (λ is plain. refl) like
  call_goes_on old _ _ (Send handle octets named) like = does_goes_on handle.place (Writes octets) (λ mine peer is. is) like
  call_goes_on old _ _ (Receive handle count named) like = does_goes_on handle.place (Reads count) (λ mine peer is. is) like
  call_goes_on old _ _ (Close handle named) like = does_goes_on handle.place Closes (λ mine peer is. is) like
  call_goes_on old _ _ (Abort handle named) like = does_goes_on handle.place Aborts (λ mine peer is. is) like
  call_goes_on old _ _ (Choose handle settings named) like = does_goes_on handle.place (Chooses settings) (λ mine peer is. is) like
  call_goes_on old _ _ (Shorten place size within) like = does_goes_on place (Fits size) (λ mine peer is. is) like
  call_goes_on old _ _ (Note now place within) like = p
  call_goes_on old _ _ (Lose place within) like = does_goes_on place Fails (λ mine peer is. is) like
  call_goes_on old _ _ (Limit handle hop_limit named) like = p
  call_goes_on old _ _ (Release handle named) like =
      release_goes_on (ends_by_itself (connection_at handle.place old).state) handle.place like
  call_goes_on old _ _ (Changed told new tells) like = p
  call_goes_on old _ _ (Accept listener) like = p
  call_goes_on old _ _ (Listen port address most) like = p
  call_goes_on old _ _ (CloseListener listener) like = p
