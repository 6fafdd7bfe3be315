-- Sets of sockets: places in order, each with a socket or free, and with the wait of its socket.
use Rattle.std.specs.Prelude.{ℕ, ◌+◌, nat_lt, Bool, true, false, cond, is_none, codes, List, [], ◌∷◌, ◌++◌}
use Rattle.std.specs.Prelude.{length, map, get_or, slice_get, slice_set, if◌then◌else◌, Option, Some, None}
use Rattle.std.specs.Fmt.{decimal}
use Rattle.std.specs.Option.{option_and_then}
use Rattle.sockets.specs.declared.socket.SocketOf.{SocketOf}
use Rattle.socket_set.specs.SocketMeta.{Wait}
use Rattle.socket_set.specs.declared.socket_set.AddError.{AddError}
use Rattle.socket_set.specs.declared.socket_set.AddError.TheVariants.{Full, NoMemory}

-- what stands at one place; the wait says nothing where it is free
pub record Storage (L : Type 0) : Type 0 where
  pub socket : Option (SocketOf L)
  pub wait : Wait

-- what stands at each place, the wait of each place's socket, whether more places may be made, and for how many of
-- them memory is reserved
pub record Sockets (L : Type 0) : Type 0 where
  pub places : List (Option (SocketOf L))
  pub waits : List Wait
  pub grows : Bool
  pub room : ℕ

module _ {L : Type 0} where
  -- a set over these places
  abbrev pub over : List (Storage L) → Bool → ℕ → Sockets L
  over stored grows room =
      record { places = map (λ p. p.socket) stored; waits = map (λ p. p.wait) stored; grows = grows; room = room }

  -- the socket at an index, if there is one
  abbrev pub socket_at : Sockets L → ℕ → Option (SocketOf L)
  socket_at s i = option_and_then (λ place. place) (slice_get s.places i)

  -- the least free index, or the number of places
  abbrev pub first_free : List (Option (SocketOf L)) → ℕ
  first_free [] = 0
  first_free (p ∷ ps) = cond (is_none p) 0 (first_free ps + 1)

  -- whether some place is free
  abbrev pub has_free : Sockets L → Bool
  has_free s = nat_lt (first_free s.places) (length s.places)

  -- the set with this at an index
  abbrev pub with_place : Sockets L → ℕ → Option (SocketOf L) → Sockets L
  with_place s i place = record s { places = slice_set s.places i place }

  -- the set with other sockets at its places; the waits stay
  abbrev pub with_places : Sockets L → List (Option (SocketOf L)) → Sockets L
  with_places s places = record s { places = places }

  -- the wait of the socket at an index
  abbrev pub wait_at : Sockets L → ℕ → Wait
  wait_at s i = get_or s.waits i None

  -- the wait of the socket at an index, if there is one
  abbrev pub wait_of : Sockets L → ℕ → Wait
  wait_of s i = option_and_then (λ socket. wait_at s i) (socket_at s i)

  -- the set with another wait for the socket at an index
  abbrev pub with_wait : Sockets L → ℕ → Wait → Sockets L
  with_wait s i wait = record s { waits = slice_set s.waits i wait }

  -- the set with a socket at the least free index, or at a new one behind all, for which memory may be
  -- reserved; it does not wait
  abbrev pub set_after_add : Sockets L → SocketOf L → (room : ℕ) → Sockets L
  set_after_add s socket room =
      if has_free s
      then with_wait (with_place s (first_free s.places) (Some socket)) (first_free s.places) None
      else record s { places = s.places ++ Some socket ∷ []; waits = s.waits ++ None ∷ []; room = room }

  -- the list with the socket of index i in front, if there is one
  abbrev pub with_pair : ℕ → Option (SocketOf L) → List (ℕ × SocketOf L) → List (ℕ × SocketOf L)
  with_pair i None ps = ps
  with_pair i (Some s) ps = (i, s) ∷ ps

  -- the sockets by rising index, where the first place has index i
  abbrev pub pairs_from : ℕ → List (Option (SocketOf L)) → List (ℕ × SocketOf L)
  pairs_from i [] = []
  pairs_from i (p ∷ ps) = with_pair i p (pairs_from (i + 1) ps)

  -- the sockets with their indices, rising
  abbrev pub pairs : Sockets L → List (ℕ × SocketOf L)
  pairs s = pairs_from 0 s.places

  -- the indices of the sockets, rising
  abbrev pub handles : Sockets L → List ℕ
  handles s = map (λ p. p.0) (pairs s)

-- the socket that found no place
abbrev pub given_back : {T : Type 0} → AddError T → T
given_back (Full t) = t
given_back (NoMemory t) = t

-- whether it was refused for want of a free place
abbrev pub is_full : {T : Type 0} → AddError T → Bool
is_full (Full t) = true
is_full (NoMemory t) = false

-- a handle as it prints: # and the index
abbrev pub handle_text : ℕ → List ℕ
handle_text n = codes "#" ++ decimal n

-- an error as it prints: its name
abbrev pub error_text : {T : Type 0} → AddError T → List ℕ
error_text (Full t) = codes "Full"
error_text (NoMemory t) = codes "NoMemory"
