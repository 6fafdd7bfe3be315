-- What becomes of raw sockets.
use Rattle.std.proofs.Common.{◌≡◌, ℕ, zero, suc, Bool, true, false, List, [], ◌∷◌, ◌++◌, length, Option, Some, None, cond, inl, inr}
use Rattle.std.proofs.Common.{refl, sym, ap, subst, slice_get, slice_set, option_and_then}
use Rattle.std.specs.Prelude.{◌&&◌, ◌⊎◌, drop, if◌then◌else◌}
use Rattle.std.proofs.lemmas.Bool.{cases_eq}
use Rattle.std.proofs.lemmas.List.{append-nil}
use Rattle.ip_address.specs.declared.ip.IpAddress.{IpAddress}
use Rattle.sockets.specs.Raw.{RawSocket, socket_after_done, socket_after_send}
use Rattle.sockets.specs.Queue.{is_room}
use Rattle.sockets.specs.declared.socket.SocketOf.{SocketOf}
use Rattle.sockets.specs.declared.socket.SocketOf.TheVariants.{Raw}
use Rattle.sockets.specs.Kinds.{down_raw}
use Rattle.socket_set.specs.SocketSet.{Sockets}
use Rattle.tcp_sockets.specs.Packets.{Segment, packet_text}
use Rattle.tcp_sockets.specs.Sending.{is_packet, fits, socket_after, takes_far, socket_after_far}
use Rattle.tcp_sockets.specs.declared.tcp_sockets.SocketPair.{SocketPair}
use Rattle.tcp_sockets.specs.Polls.{raw_at, with_raw, with_segment, after_near, with_far_segment, after_far, fits_at, fits_near}
use Rattle.tcp_host_laws.specs.Lives.{Life}
use Rattle.tcp_host_laws.specs.Turns.{WasSent, Moves, MovesIf}

module _ {A : Type 0} where
  there : (xs : List A) (i : ℕ) (x y : A) → slice_get xs i ≡ Some x → slice_get (slice_set xs i y) i ≡ Some y
  there [] i x y e = absurd cc
  there (a ∷ xs) zero x y e = refl
  there (a ∷ xs) (suc i) x y e = there xs i x y e

  apart : (xs : List A) (i k : ℕ) (y : A) → (k ≡ i → ⊥) → slice_get (slice_set xs i y) k ≡ slice_get xs k
  apart [] i k y ne = refl
  apart (a ∷ xs) zero zero y ne = absurd (ne refl)
  apart (a ∷ xs) zero (suc k) y ne = refl
  apart (a ∷ xs) (suc i) zero y ne = refl
  apart (a ∷ xs) (suc i) (suc k) y ne = apart xs i k y (λ e. ne (ap suc e))

module _ {L : Type 0} where
  there_by : (set : Sockets L) (i : ℕ) (s t : RawSocket) (o : Option (Option (SocketOf L))) → slice_get set.places i ≡ o →
      option_and_then down_raw (option_and_then (λ (p : Option (SocketOf L)). p) o) ≡ Some s → raw_at i (with_raw i t set) ≡ Some t
  there_by set i s t None e is = absurd cc
  there_by set i s t (Some p) e is =
      ap (λ (o : Option (Option (SocketOf L))). option_and_then down_raw (option_and_then (λ (q : Option (SocketOf L)). q) o))
      (there set.places i p (Some (Raw t)) e)

  raw_there : (set : Sockets L) (i : ℕ) (s t : RawSocket) → raw_at i set ≡ Some s → raw_at i (with_raw i t set) ≡ Some t
  raw_there set i s t is = there_by set i s t (slice_get set.places i) refl is

  raw_apart : (set : Sockets L) (i k : ℕ) (t : RawSocket) → (k ≡ i → ⊥) → raw_at k (with_raw i t set) ≡ raw_at k set
  raw_apart set i k t ne =
      ap (λ (o : Option (Option (SocketOf L))). option_and_then down_raw (option_and_then (λ (q : Option (SocketOf L)). q) o))
      (apart set.places i k (Some (Raw t)) ne)

-- each socket of one set becomes that of another one
abbrev pub AllMove : {L : Type 0} → Bool → List Life → (old new : Sockets L) → Type 0
AllMove summed ks old new = (i : ℕ) → MovesIf summed ks (raw_at i old) (raw_at i new)

module _ (summed : Bool) (ks : List Life) where
  pub unmoved : (s : RawSocket) → Moves summed ks s s
  unmoved s = record {
    version = refl;
    protocol = refl;
    taken = [];
    front = refl;
    queued = [];
    back = append-nil s.tx.packets;
    sent = tt;
  }

  pub none_moves : (o : Option RawSocket) → MovesIf summed ks o o
  none_moves None = refl
  none_moves (Some s) = (s, refl, unmoved s)

  -- the first packet is received
  first_and_rest : (xs : List (Unit {0} × List ℕ)) → (taken : List (Unit {0} × List ℕ)) × (taken ++ drop 1 xs ≡ xs)
  first_and_rest [] = ([], refl)
  first_and_rest (x ∷ xs) = (x ∷ [], refl)

  pub done_moves : (s : RawSocket) → Moves summed ks s (socket_after_done s)
  done_moves s =
      let f = first_and_rest s.rx.packets in record {
        version = refl;
        protocol = refl;
        taken = f.0;
        front = f.1;
        queued = [];
        back = append-nil s.tx.packets;
        sent = tt;
      }

  -- a packet is queued, or none is
  queued_if : (b : Bool) (octets : List ℕ) (s : RawSocket) → (b ≡ true → WasSent summed ks octets) →
      Moves summed ks s (record s { tx = record s.tx { packets = cond b (s.tx.packets ++ (tt, octets) ∷ []) s.tx.packets } })
  queued_if true octets s w = record {
    version = refl;
    protocol = refl;
    taken = [];
    front = refl;
    queued = (tt, octets) ∷ [];
    back = refl;
    sent = (w refl, tt);
  }
  queued_if false octets s w = unmoved s

  -- if a packet can carry it, it was sent
  abbrev pub SentIf : Segment → Type 0
  SentIf x = is_packet x ≡ true → WasSent summed ks (packet_text summed x)

  packet_if : (b : Bool) (x : Segment) (s : RawSocket) → is_packet x ≡ b →
      (b && is_room s.tx (length (packet_text summed x)) ≡ true → SentIf x) →
      Moves summed ks s (if b then socket_after_send (packet_text summed x) s else s)
  packet_if true x s e w = queued_if (is_room s.tx (length (packet_text summed x))) (packet_text summed x) s (λ room. w room e)
  packet_if false x s e w = unmoved s

  pub segment_moves : (x : Segment) (s : RawSocket) → (fits summed x s ≡ true → SentIf x) →
      Moves summed ks s (socket_after summed x s)
  segment_moves x s w = packet_if (is_packet x) x s refl w

  far_if : (b : Bool) (x : Segment) (s : RawSocket) → SentIf x →
      Moves summed ks s (if b then socket_after summed x s else s)
  far_if true x s w = segment_moves x s (λ e. w)
  far_if false x s w = unmoved s

  module _ {L : Type 0} where
    one_by : (set : Sockets L) (i : ℕ) (s t : RawSocket) → raw_at i set ≡ Some s → Moves summed ks s t → (j : ℕ) →
        ((j ≡ i) ⊎ (j ≡ i → ⊥)) → MovesIf summed ks (raw_at j set) (raw_at j (with_raw i t set))
    one_by set i s t is m j (inl e) =
        subst (λ (n : ℕ). MovesIf summed ks (raw_at n set) (raw_at n (with_raw i t set))) (sym e)
        (subst (λ (o : Option RawSocket). MovesIf summed ks o (raw_at i (with_raw i t set))) (sym is) (t, raw_there set i s t is, m))
    one_by set i s t is m j (inr ne) =
        subst (λ (o : Option RawSocket). MovesIf summed ks (raw_at j set) o) (sym (raw_apart set i j t ne)) (none_moves (raw_at j set))

    pub one_moves : (set : Sockets L) (i : ℕ) (s t : RawSocket) → raw_at i set ≡ Some s → Moves summed ks s t → AllMove summed ks set (with_raw i t set)
    one_moves set i s t is m j = one_by set i s t is m j (cases_eq j i)

    pub still : (set : Sockets L) → AllMove summed ks set set
    still set i = none_moves (raw_at i set)

    near_by : (set : Sockets L) (x : Segment) (i : ℕ) (o : Option RawSocket) → raw_at i set ≡ o →
        (fits_at summed x o ≡ true → SentIf x) → AllMove summed ks set (with_segment summed x i o set)
    near_by set x i None is w = still set
    near_by set x i (Some s) is w = one_moves set i s (socket_after summed x s) is (segment_moves x s w)

    pub near_moves : (set : Sockets L) (x : Segment) (pair : Option SocketPair) →
        (fits_near summed x pair set ≡ true → SentIf x) → AllMove summed ks set (after_near summed x pair set)
    near_moves set x None w = still set
    near_moves set x (Some pair) w = near_by set x pair.near (raw_at pair.near set) refl w

    far_by : (set : Sockets L) (x : Segment) (waiting : List IpAddress) (i : ℕ) (o : Option RawSocket) → raw_at i set ≡ o →
        SentIf x → AllMove summed ks set (with_far_segment summed x waiting i o set)
    far_by set x waiting i None is w = still set
    far_by set x waiting i (Some s) is w =
        one_moves set i s (socket_after_far summed x waiting s) is (far_if (takes_far x s waiting) x s w)

    pub far_moves : (set : Sockets L) (x : Segment) (waiting : List IpAddress) (pair : Option SocketPair) →
        SentIf x → AllMove summed ks set (after_far summed x waiting pair set)
    far_moves set x waiting None w = still set
    far_moves set x waiting (Some pair) w = far_by set x waiting pair.far (raw_at pair.far set) refl w
