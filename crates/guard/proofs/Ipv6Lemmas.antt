-- What passes a guard over IPv6, and what doesn't.
use Rattle.std.proofs.Common.{◌≡◌, ◌≤◌, ◌+◌, ◌∙◌, ap, sym, ℕ, zero, suc, Bool, true, false, refl, inl, inr, arith, List, [], ◌∷◌, length}
use Rattle.std.specs.Prelude.{◌≢◌, ◌⊎◌, is_none, Option, not, ◌||◌, ◌&&◌, ◌==◌, nat_le, nat_lt, slice_get, Some, None, if◌then◌else◌}
use Rattle.std.specs.List.{list_any}
use Rattle.std.proofs.lemmas.Bool.Decides.{nat_tests}
use Rattle.std.proofs.lemmas.Slice.Eq.{bytes_eq-Decides}
use Rattle.ip_wire.specs.Octets.{u16_at}
use Rattle.ip_wire.specs.Ipv6Packet.{address_at}
use Rattle.ip_address.specs.Cidr.{address_of}
use Rattle.ip_address.specs.EthernetAddress.{is_same as is_same_hardware}
use Rattle.ip_address.specs.declared.cidr.IpCidr.{IpCidr}
use Rattle.ip_address.specs.declared.ethernet_address.EthernetAddress.{EthernetAddress}
use Rattle.ip_address.specs.declared.hardware.HardwareAddress.TheVariants.{Ethernet}
use Rattle.ip_address.specs.declared.ip.IpAddress.{IpAddress}
use Rattle.ip_address.specs.declared.ip.IpAddress.TheVariants.{Ipv4, Ipv6}
use Rattle.sockets.specs.Source.{is_same}
use Rattle.guard.specs.declared.guard.Guard.{Guard}
use Rattle.guard.specs.declared.guard.Reason.{Reason}
use Rattle.guard.specs.declared.guard.Reason.TheVariants as reason
use Rattle.guard.specs.declared.kind.Kind.TheVariants.{Neighbor, Packet}
use Rattle.guard.specs.declared.kind.Sort.TheVariants.{Loop, Plain, Transport}
use Rattle.guard.specs.declared.pins.Pinned.{Pinned}
use Rattle.guard.specs.Kind.{is_loop, is_small_service, kind_of, kind_of_message, message_of, octet_at, sort_of_ipv6, target_at}
use Rattle.guard.specs.Claim.{comes_back, hardware_at, is_from, is_from_host, message_tells, tells_only}
use Rattle.guard.specs.Pins.{forbids, is_forbidden}
use Rattle.guard.specs.Guard.{claims, is_one_own, is_ordinary, is_own, is_returned}
use Rattle.guard.specs.Guard.{is_stolen, refusal_of_claim}
use Rattle.guard.specs.Laws.{Arrival, passes}
use Rattle.guard.specs.Ipv6.{AsSource, AsTarget, Behind, BehindOptions, ClaimsOwn, GoesToAndFro, HasMessage, IsAmong, IsIpv6, IsNeighborMessage}
use Rattle.guard.specs.Ipv6.{IsSentBy, TellsNoOther, source_of}
use Rattle.guard.specs.Ipv6Laws.{Ipv6LoopsEnd, MessagesPass, OtherMessagesPass, OwnMessagesStay, PinnedMessagesStay, StreamsPass}
use Rattle.guard.proofs.PassLemmas.{any_forbids, both, kind_v6, looping, not_stolen, or_true}
use Rattle.guard.proofs.PassLemmas.{ordinary_reason, pinned_by, refused_by_none, same_refl, stolen_by}

-- a test that is false can't be true
differ : (b : Bool) → b ≡ true → b ≡ false → ⊥
differ b t f = absurd cc

-- addresses that are the same are equal
same_is : (a b : IpAddress) → is_same a b ≡ true → a ≡ b
same_is (Ipv4 a) (Ipv4 b) e = ap (λ (n : ℕ). Ipv4 (record { bits = n })) (grind (arith, nat_tests))
same_is (Ipv4 a) (Ipv6 b) e = absurd cc
same_is (Ipv6 a) (Ipv4 b) e = absurd cc
same_is (Ipv6 a) (Ipv6 b) e = ap (λ (n : ℕ). Ipv6 (record { bits = n })) (grind (arith, nat_tests))

same_hardware : (a b : EthernetAddress) → is_same_hardware a b ≡ true → a ≡ b
same_hardware a b e = ap (λ (o : List ℕ). record { 0 = o }) ((bytes_eq-Decides a.0 b.0).0 e)

hardware_same : (a b : EthernetAddress) → a ≡ b → is_same_hardware a b ≡ true
hardware_same a b e = (bytes_eq-Decides a.0 b.0).1 (ap (λ (h : EthernetAddress). h.0) e)

-- an address is among those of the host where a test says so
own_at : (own : List IpCidr) (a : IpAddress) (k : ℕ) (c : IpCidr) → slice_get own k ≡ Some c → address_of c ≡ a → is_own own a ≡ true
own_at [] a k c there is = absurd cc
own_at (d ∷ ds) a zero c there is = let same : d ≡ c = cc in rw (same, is, same_refl a) refl
own_at (d ∷ ds) a (suc k) c there is = or_true (is_same (address_of d) a) (is_own ds a) (own_at ds a k c there is)

own_if : (own : List IpCidr) (a : IpAddress) → IsAmong own a → is_own own a ≡ true
own_if own a among = own_at own a among.place among.cidr among.is_there among.is

pub among_if : (own : List IpCidr) (a : IpAddress) → is_own own a ≡ true → IsAmong own a
among_if [] a e = absurd cc
among_if (c ∷ cs) a e = by (is_same (address_of c) a) refl e (λ rest. among_if cs a rest) where
  later : IsAmong cs a → IsAmong (c ∷ cs) a
  later among = record { place = suc among.place; cidr = among.cidr; is_there = among.is_there; is = among.is }

  by : (here : Bool) → is_same (address_of c) a ≡ here → (here || is_own cs a) ≡ true → (is_own cs a ≡ true → IsAmong cs a) → IsAmong (c ∷ cs) a
  by true h e kept = record { place = 0; cidr = c; is_there = refl; is = same_is (address_of c) a h }
  by false h e kept = later (kept e)

not_own : (own : List IpCidr) (a : IpAddress) → (IsAmong own a → ⊥) → is_own own a ≡ false
not_own own a none = by (is_own own a) refl where
  by : (b : Bool) → is_own own a ≡ b → b ≡ false
  by true e = absurd (none (among_if own a e))
  by false e = refl

-- where the message is, the guard finds it
message_is : (frame : List ℕ) (at : ℕ) → HasMessage frame at → message_of frame ≡ Some at
message_is frame at (Behind protocol is) =
    let p : (octet_at frame 20 == 58) ≡ true = rw protocol refl in
    rw (p, is) refl
message_is frame at (BehindOptions options protocol is) =
    let o : (octet_at frame 20 == 58) ≡ false = rw options refl in
    let z : (octet_at frame 20 == 0) ≡ true = rw options refl in
    let p : (octet_at frame 54 == 58) ≡ true = rw protocol refl in
    rw (o, z, p, is) refl

kind_by_message : (frame : List ℕ) (at : ℕ) → IsIpv6 frame → HasMessage frame at →
    kind_of frame ≡ kind_of_message (octet_at frame at) at (source_of frame) frame
kind_by_message frame at header message =
    kind_v6 frame (omega (arith, header.whole)) header.type ∙ rw (message_is frame at message) refl

-- what a message of two types is about
abbrev target_in : List ℕ → ℕ → Option IpAddress
target_in frame at = if octet_at frame at == 136 then target_at frame (at + 8) else None

neighbor_is : (frame : List ℕ) (at : ℕ) → IsNeighborMessage frame at → kind_of frame ≡ Neighbor (source_of frame) (target_in frame at)
neighbor_is frame at message = kind_by_message frame at message.header message.message ∙ by message.type where
  by : (octet_at frame at ≡ 135) ⊎ (octet_at frame at ≡ 136) →
      kind_of_message (octet_at frame at) at (source_of frame) frame ≡ Neighbor (source_of frame) (target_in frame at)
  by (inl type) = rw type refl
  by (inr type) = rw type refl

-- what a guard tests of an own address is so
claims_if : (own : List IpCidr) (frame : List ℕ) (at : ℕ) → ClaimsOwn own frame at → claims (source_of frame) (target_in frame at) own ≡ true
claims_if own frame at (AsSource among) = rw (own_if own (source_of frame) among) refl
claims_if own frame at (AsTarget type long among) =
    let t : (octet_at frame at == 136) ≡ true = rw type refl in
    let l : nat_lt (length frame) (at + 8 + 16) ≡ false = grind (arith, nat_tests) in
    or_true (is_own own (source_of frame)) (is_one_own own (target_in frame at))
    (rw (t, l) (own_if own (Ipv6 (address_at frame (at + 8))) among))

claims_then : (own : List IpCidr) (frame : List ℕ) (at : ℕ) → claims (source_of frame) (target_in frame at) own ≡ true → ClaimsOwn own frame at
claims_then own frame at e =
    by (is_own own (source_of frame)) (octet_at frame at == 136) (nat_lt (length frame) (at + 8 + 16)) refl refl refl e where
      by : (source advert short : Bool) → is_own own (source_of frame) ≡ source → (octet_at frame at == 136) ≡ advert →
          nat_lt (length frame) (at + 8 + 16) ≡ short →
          (source || is_one_own own (if advert then (if short then None else Some (Ipv6 (address_at frame (at + 8)))) else None)) ≡ true →
          ClaimsOwn own frame at
      by true advert short s t l e = AsSource (among_if own (source_of frame) s)
      by false false short s t l e = absurd cc
      by false true true s t l e = absurd cc
      by false true false s t l e =
          AsTarget (grind (arith, nat_tests)) (grind (arith, nat_tests)) (among_if own (Ipv6 (address_at frame (at + 8))) e)

-- and of a hardware address
module _ (h : EthernetAddress) (frame : List ℕ) (at : ℕ) (message : IsNeighborMessage frame at) where
  tells_is : tells_only h frame ≡ message_tells h frame (Some at)
  tells_is =
      let long : 54 ≤ length frame = message.header.whole in
      let s : nat_lt (length frame) 42 ≡ false = grind (arith, nat_tests) in
      let r : (u16_at frame 12 == 0x0806) ≡ false = rw message.header.type refl in
      rw (s, r, message_is frame at message.message) refl

  tells_then : tells_only h frame ≡ true → TellsNoOther h frame at
  tells_then e =
      by (nat_le (length frame) (at + 24)) (nat_le (length frame) (at + 32)) (is_same_hardware (hardware_at frame (at + 26)) h) refl refl refl
      (sym tells_is ∙ e) where
        by : (none one same : Bool) → nat_le (length frame) (at + 24) ≡ none → nat_le (length frame) (at + 32) ≡ one →
            is_same_hardware (hardware_at frame (at + 26)) h ≡ same → (none || (one && same)) ≡ true → TellsNoOther h frame at
        by true one same n o s e = inl (grind (arith, nat_tests))
        by false true true n o s e = inr (grind (arith, nat_tests), same_hardware (hardware_at frame (at + 26)) h s)
        by false true false n o s e = absurd cc
        by false false same n o s e = absurd cc

  tells_if : TellsNoOther h frame at → tells_only h frame ≡ true
  tells_if (inl short) = let n : nat_le (length frame) (at + 24) ≡ true = grind (arith, nat_tests) in tells_is ∙ rw n refl
  tells_if (inr (short, is)) =
      let o : nat_le (length frame) (at + 32) ≡ true = grind (arith, nat_tests) in
      let s : is_same_hardware (hardware_at frame (at + 26)) h ≡ true = hardware_same (hardware_at frame (at + 26)) h is in
      tells_is ∙ or_true (nat_le (length frame) (at + 24)) (nat_le (length frame) (at + 32) && is_same_hardware (hardware_at frame (at + 26)) h)
      (rw (o, s) refl)

-- a message that is refused doesn't pass, and one that isn't passes
module _ (a : Arrival) (g : Guard) (at : ℕ) (message : IsNeighborMessage a.frame at) where
  abbrev refusal : Option Reason
  refusal = refusal_of_claim (claims (source_of a.frame) (target_in a.frame at) a.own) (source_of a.frame) a.hardware a.frame g

  refused_message : (why : Reason) → refusal ≡ Some why → passes a g ≡ false
  refused_message why is = rw (neighbor_is a.frame at message, is) refl

  free_message : refusal ≡ None → passes a g ≡ true
  free_message is = rw (neighbor_is a.frame at message, is) refl

pub own_messages_stay : OwnMessagesStay
own_messages_stay a g own at keeps hardware message claimed pass = by (is_from_host (Some (Ethernet own)) a.frame) refl where
  by : (b : Bool) → is_from_host (Some (Ethernet own)) a.frame ≡ b → IsSentBy own a.frame × TellsNoOther own a.frame at
  by false e =
      let other : is_from_host a.hardware a.frame ≡ false = rw hardware e in
      let is = stolen_by g.keeps_own_addresses (claims (source_of a.frame) (target_in a.frame at) a.own) (is_from_host a.hardware a.frame)
      keeps (claims_if a.own a.frame at claimed) other (if is_forbidden (source_of a.frame) a.frame g.pins then Some reason.Pinned else None)
      reason.OwnAddress in
      absurd (differ (passes a g) pass (refused_message a g at message reason.OwnAddress is))
  by true e =
      let parts = both (is_from own a.frame) (tells_only own a.frame) e in
      (same_hardware (hardware_at a.frame 6) own parts.0, tells_then own a.frame at message parts.1)

pub pinned_messages_stay : PinnedMessagesStay
pinned_messages_stay a g h k at message there pass = by (tells_only h a.frame) refl where
  by : (b : Bool) → tells_only h a.frame ≡ b → TellsNoOther h a.frame at
  by true e = tells_then h a.frame at message e
  by false e =
      let forbidden : is_forbidden (source_of a.frame) a.frame g.pins ≡ true =
      any_forbids (source_of a.frame) a.frame h g.pins.pairs k there e in
      let is = pinned_by (is_stolen (claims (source_of a.frame) (target_in a.frame at) a.own) (is_from_host a.hardware a.frame) g)
      (is_forbidden (source_of a.frame) a.frame g.pins) forbidden reason.OwnAddress in
      absurd (differ (passes a g) pass (refused_message a g at message is.0 is.1))

-- where a frame is forbidden, an entry pins its sender to another hardware address
pub record IsForbiddenBy (pairs : List (Option Pinned)) (sender : IpAddress) (frame : List ℕ) : Type 0 where
  pub place : ℕ
  pub hardware : EthernetAddress
  pub is_there : slice_get pairs place ≡ Some (Some (record { address = sender; hardware = hardware }))
  pub tells : tells_only hardware frame ≡ false

forbidden_by : (pairs : List (Option Pinned)) (sender : IpAddress) (frame : List ℕ) → list_any (forbids sender frame) pairs ≡ true →
    IsForbiddenBy pairs sender frame
forbidden_by [] sender frame e = absurd cc
forbidden_by (None ∷ ps) sender frame e = later (forbidden_by ps sender frame e) where
  later : IsForbiddenBy ps sender frame → IsForbiddenBy (None ∷ ps) sender frame
  later b = record { place = suc b.place; hardware = b.hardware; is_there = b.is_there; tells = b.tells }
forbidden_by (Some p ∷ ps) sender frame e =
    by (is_same p.address sender) (tells_only p.hardware frame) refl refl e (λ rest. forbidden_by ps sender frame rest) where
      later : IsForbiddenBy ps sender frame → IsForbiddenBy (Some p ∷ ps) sender frame
      later b = record { place = suc b.place; hardware = b.hardware; is_there = b.is_there; tells = b.tells }

      by : (same tells : Bool) → is_same p.address sender ≡ same → tells_only p.hardware frame ≡ tells →
          ((same && not tells) || list_any (forbids sender frame) ps) ≡ true →
          (list_any (forbids sender frame) ps ≡ true → IsForbiddenBy ps sender frame) → IsForbiddenBy (Some p ∷ ps) sender frame
      by true false s t e kept = record {
        place = 0;
        hardware = p.hardware;
        is_there = ap (λ (x : IpAddress). Some (Some (record { address = x; hardware = p.hardware }))) (same_is p.address sender s);
        tells = t;
      }
      by true true s t e kept = later (kept e)
      by false tells s t e kept = later (kept e)

pub messages_pass : MessagesPass
messages_pass a g at message unclaimed pins =
    let none : (if is_forbidden (source_of a.frame) a.frame g.pins then Some reason.Pinned else None) ≡ None = rw allowed refl in
    let is = refused_by_none (is_stolen (claims (source_of a.frame) (target_in a.frame at) a.own) (is_from_host a.hardware a.frame) g)
    (if is_forbidden (source_of a.frame) a.frame g.pins then Some reason.Pinned else None) reason.OwnAddress
    (not_stolen g.keeps_own_addresses (claims (source_of a.frame) (target_in a.frame at) a.own) (is_from_host a.hardware a.frame)
    (inl no_claim)) none in
    free_message a g at message is where
      no_claim : claims (source_of a.frame) (target_in a.frame at) a.own ≡ false
      no_claim = by (claims (source_of a.frame) (target_in a.frame at) a.own) refl where
        by : (b : Bool) → claims (source_of a.frame) (target_in a.frame at) a.own ≡ b → b ≡ false
        by true e = absurd (unclaimed (claims_then a.own a.frame at e))
        by false e = refl

      refuted : IsForbiddenBy g.pins.pairs (source_of a.frame) a.frame → ⊥
      refuted b = differ (tells_only b.hardware a.frame) (tells_if b.hardware a.frame at message (pins b.place b.hardware b.is_there)) b.tells

      allowed : is_forbidden (source_of a.frame) a.frame g.pins ≡ false
      allowed = by (is_forbidden (source_of a.frame) a.frame g.pins) refl where
        by : (b : Bool) → is_forbidden (source_of a.frame) a.frame g.pins ≡ b → b ≡ false
        by true e = absurd (refuted (forbidden_by g.pins.pairs (source_of a.frame) a.frame e))
        by false e = refl

-- a datagram that goes to and fro, where a test says so
small_if : (n : ℕ) → (n ≡ 7) ⊎ (n ≡ 13) ⊎ (n ≡ 17) ⊎ (n ≡ 19) → is_small_service n ≡ true
small_if n (inl e) = rw e refl
small_if n (inr (inl e)) = rw e refl
small_if n (inr (inr (inl e))) = rw e refl
small_if n (inr (inr (inr e))) = rw e refl

small_then : (n : ℕ) → is_small_service n ≡ true → (n ≡ 7) ⊎ (n ≡ 13) ⊎ (n ≡ 17) ⊎ (n ≡ 19)
small_then n e = by (n == 7) (n == 13) (n == 17) (n == 19) refl refl refl refl e where
  by : (a b c d : Bool) → (n == 7) ≡ a → (n == 13) ≡ b → (n == 17) ≡ c → (n == 19) ≡ d → (a || b || c || d) ≡ true →
      (n ≡ 7) ⊎ (n ≡ 13) ⊎ (n ≡ 17) ⊎ (n ≡ 19)
  by true b c d ea eb ec ed e = inl (grind (arith, nat_tests))
  by false true c d ea eb ec ed e = inr (inl (grind (arith, nat_tests)))
  by false false true d ea eb ec ed e = inr (inr (inl (grind (arith, nat_tests))))
  by false false false true ea eb ec ed e = inr (inr (inr (grind (arith, nat_tests))))
  by false false false false ea eb ec ed e = absurd cc

loop_if : (frame : List ℕ) → GoesToAndFro frame → is_loop frame 54 ≡ true
loop_if frame goes =
    let h : (octet_at frame 54 == 0) ≡ true = rw goes.high refl in
    let t : nat_lt (octet_at frame 56) 4 ≡ true = let l = goes.to in grind (arith, nat_tests) in
    rw (h, small_if (octet_at frame 55) goes.low, t) refl

loop_then : (frame : List ℕ) → octet_at frame 20 ≡ 17 → is_loop frame 54 ≡ true → GoesToAndFro frame
loop_then frame udp e = by (octet_at frame 54 == 0) (is_small_service (octet_at frame 55)) (nat_lt (octet_at frame 56) 4) refl refl refl e where
  by : (h s t : Bool) → (octet_at frame 54 == 0) ≡ h → is_small_service (octet_at frame 55) ≡ s → nat_lt (octet_at frame 56) 4 ≡ t →
      (h && s && t) ≡ true → GoesToAndFro frame
  by true true true h s t e =
      record { is_udp = udp; high = grind (arith, nat_tests); low = small_then (octet_at frame 55) s; to = grind (arith, nat_tests) }
  by false s t h s' t' e = absurd cc
  by true false t h s t' e = absurd cc
  by true true false h s t e = absurd cc

no_loop : (frame : List ℕ) → octet_at frame 20 ≡ 17 → (GoesToAndFro frame → ⊥) → is_loop frame 54 ≡ false
no_loop frame udp none = by (is_loop frame 54) refl where
  by : (b : Bool) → is_loop frame 54 ≡ b → b ≡ false
  by true e = absurd (none (loop_then frame udp e))
  by false e = refl

transport_is : (frame : List ℕ) → (octet_at frame 20 ≡ 6) ⊎ (octet_at frame 20 ≡ 17) → (GoesToAndFro frame → ⊥) → sort_of_ipv6 frame ≡ Transport
transport_is frame (inl tcp) none = rw tcp refl
transport_is frame (inr udp) none =
    let f : (octet_at frame 20 == 44) ≡ false = rw udp refl in
    let u : (octet_at frame 20 == 17) ≡ true = rw udp refl in
    let t : (octet_at frame 20 == 6) ≡ false = rw udp refl in
    rw (f, u, no_loop frame udp none, t) refl

pub streams_pass : StreamsPass
streams_pass a g header protocol none other =
    let s : nat_lt (length a.frame) 42 ≡ false = let long = header.whole in grind (arith, nat_tests) in
    let four : (u16_at a.frame 12 == 0x0800) ≡ false = rw header.type refl in
    let six : (u16_at a.frame 12 == 0x86dd) ≡ true = rw header.type refl in
    let is : is_ordinary a.frame a.own ≡ true =
    rw (s, four, six, transport_is a.frame protocol none, not_own a.own (source_of a.frame) other) refl in
    ap is_none (sym (ordinary_reason a.frame a.hardware a.own g is))

loop_kind : (frame : List ℕ) → IsIpv6 frame → GoesToAndFro frame → kind_of frame ≡ Packet (source_of frame) Loop
loop_kind frame header goes =
    let m : (octet_at frame 20 == 58) ≡ false = rw goes.is_udp refl in
    let z : (octet_at frame 20 == 0) ≡ false = rw goes.is_udp refl in
    let f : (octet_at frame 20 == 44) ≡ false = rw goes.is_udp refl in
    let u : (octet_at frame 20 == 17) ≡ true = rw goes.is_udp refl in
    let l : nat_lt (length frame) 54 ≡ false = let long = header.whole in grind (arith, nat_tests) in
    let none : message_of frame ≡ None = rw (m, z) refl in
    let sort : sort_of_ipv6 frame ≡ Loop = rw (f, u, loop_if frame goes) refl in
    kind_v6 frame (let long = header.whole in omega (arith, long)) header.type ∙ rw (none, sort, l) refl

pub ipv6_loops_end : Ipv6LoopsEnd
ipv6_loops_end a g drops header goes other =
    let sender = source_of a.frame in
    let returned : is_returned sender a.hardware a.frame a.own ≡ false = rw (not_own a.own sender other) refl in
    let refusal = looping (is_stolen (is_own a.own sender) (comes_back a.hardware a.frame) g) g.drops_loops
    (is_returned sender a.hardware a.frame a.own) drops returned reason.OwnSource in
    rw (loop_kind a.frame header goes, refusal.1) refl

-- another message of ICMPv6 is a packet of no sort that is dropped
other_kind : (frame : List ℕ) (at : ℕ) → IsIpv6 frame → HasMessage frame at → octet_at frame at ≢ 135 → octet_at frame at ≢ 136 →
    kind_of frame ≡ Packet (source_of frame) Plain
other_kind frame at header message solicits advertises =
    let s : (octet_at frame at == 135) ≡ false = grind (arith, nat_tests) in
    let a : (octet_at frame at == 136) ≡ false = grind (arith, nat_tests) in
    let l : nat_lt (length frame) 54 ≡ false = let long = header.whole in grind (arith, nat_tests) in
    kind_by_message frame at header message ∙ rw (s, a, l) refl

pub other_messages_pass : OtherMessagesPass
other_messages_pass a g at header message solicits advertises other =
    let sender = source_of a.frame in
    let passed = refused_by_none (is_stolen (is_own a.own sender) (comes_back a.hardware a.frame) g) None reason.OwnSource
    (not_stolen g.keeps_own_addresses (is_own a.own sender) (comes_back a.hardware a.frame) (inl (not_own a.own sender other))) refl in
    rw (other_kind a.frame at header message solicits advertises, passed) refl
