-- What keys tell.
use Rattle.std.proofs.Common.{◌≡◌, ◌⊎◌, ℕ, ◌<◌, ◌≤◌, Bool, true, false, List, [], ◌∷◌, length, Option, Some, None, inl, inr, zero, suc, refl, ap, ◌∙◌}
use Rattle.std.specs.Prelude.{◌≢◌, ◌==◌, ◌||◌, IfSome, replicate, slice_set}
use Rattle.std.proofs.lemmas.Bool.{cases_lt, eqb-false}
use Rattle.std.proofs.lemmas.List.{get_or_past}
use Rattle.sockets.specs.Kinds.{own_port}
use Rattle.sockets.specs.declared.socket.SocketOf.{SocketOf}
use Rattle.socket_set.specs.Details.Keys.{AreKeysOf, is_candidate, key_at, key_of}
use Rattle.socket_set.specs.SocketSet.{Sockets, socket_at}

-- a key that was put down as 0, where the place has one
pub unknown_there : (keys : List ℕ) (i : ℕ) → key_at (slice_set keys i 0) i ≡ 0
unknown_there [] i = refl
unknown_there (k ∷ keys) zero = refl
unknown_there (k ∷ keys) (suc i) = unknown_there keys i

-- a key that was put down, where the place has one
pub known_there : (keys : List ℕ) (i key : ℕ) → key_at (slice_set keys i key) i ≢ 0 → key_at (slice_set keys i key) i ≡ key
known_there [] i key known = absurd (known refl)
known_there (k ∷ keys) zero key known = refl
known_there (k ∷ keys) (suc i) key known = known_there keys i key known

-- nothing is known by keys that are 0
pub all_unknown : (n i : ℕ) → key_at (replicate n 0) i ≡ 0
all_unknown zero i = refl
all_unknown (suc n) zero = refl
all_unknown (suc n) (suc i) = all_unknown n i

-- no candidate has a key, another one
neither : (this key : ℕ) → (this == 0) || (this == key) ≡ false → (this ≢ 0) × (this ≢ key)
neither this key isn_t = by (this == 0) refl isn_t where
  by : (b : Bool) → (this == 0) ≡ b → b || (this == key) ≡ false → (this ≢ 0) × (this ≢ key)
  by true is none = absurd cc
  by false is none = (eqb-false this 0 is, eqb-false this key none)

module _ {L : Type 0} where
  -- this key is that of the socket of a place, if there is one
  abbrev pub Tells : ℕ → Option (SocketOf L) → Type 0
  Tells key place = IfSome place (λ socket. key ≡ key_of (own_port socket))

  elsewhere : (key : ℕ) (port : Option ℕ) (place : Option (SocketOf L)) →
      key ≢ key_of port → Tells key place → IfSome place (λ socket. own_port socket ≢ port)
  elsewhere key port None other tells = tt
  elsewhere key port (Some socket) other tells = λ same. other (tells ∙ ap key_of same)

  -- a place that is no candidate has no socket at a port of the key
  pub passed_elsewhere : (keys : List ℕ) (set : Sockets L) (port : Option ℕ) (i : ℕ) →
      AreKeysOf keys set → is_candidate keys (key_of port) i ≡ false → IfSome (socket_at set i) (λ socket. own_port socket ≢ port)
  passed_elsewhere keys set port i holds isn_t =
      let is = neither (key_at keys i) (key_of port) isn_t in
      elsewhere (key_at keys i) port (socket_at set i) is.1 (holds i is.0)
