-- What a neighbour message tells, by the octets of its frame, as the guard reads them.
use Rattle.std.proofs.Common.{◌≡◌, ◌≤◌, ◌<◌, ◌+◌, ◌-◌, ◌∙◌, ap, sym, subst, ℕ, zero, suc, Bool, true, false, refl, inl, inr, arith, List, [], ◌∷◌}
use Rattle.std.proofs.Common.{length, take, drop}
use Rattle.std.specs.Prelude.{◌==◌, ◌⊎◌, get_or, slice_index, Some, None, if◌then◌else◌}
use Rattle.std.specs.Option.{option_or}
use Rattle.std.proofs.lemmas.Bool.Decides.{nat_tests}
use Rattle.std.proofs.lemmas.List.Elements.{All-head}
use Rattle.std.proofs.lemmas.List.{drop-drop, drop-take, get_or-drop, get_or-take, length-drop, length-take}
use Rattle.ip_wire.specs.Octets.{u16_at, u32_at}
use Rattle.ip_address.specs.declared.ethernet_address.EthernetAddress.{EthernetAddress}
use Rattle.ip_wire.specs.Ipv6Packet.{quoted_in}
use Rattle.control_wire.specs.Mld.{mld_in}
use Rattle.control_wire.specs.Icmpv6.{error_in, icmpv6_in, problem_of, type_in}
use Rattle.control_wire.specs.Icmpv6.{unreachable_of, code_in}
use Rattle.control_wire.specs.Ndisc.{ndisc_in}
use Rattle.control_wire.specs.NdiscOption.{AreOptions, IsOption, address_in, after_option, lladdr_in, last_of, option_len, options_from}
use Rattle.control_wire.specs.Router.{router_in}
use Rattle.control_wire.specs.declared.icmpv6.Icmpv6Repr.TheVariants as message
use Rattle.control_wire.specs.declared.ndisc.NdiscRepr.{NdiscRepr}
use Rattle.guard.specs.Claim.{hardware_at}
use Rattle.guard.specs.Ipv6.{TellsNoOther}
use Rattle.guard.specs.Kind.{octet_at}

-- octets are those of a frame from an offset on, so many or fewer
pub record ArePart (frame : List ℕ) (at : ℕ) (octets : List ℕ) : Type 0 where
  pub most : ℕ
  pub is : octets ≡ take most (drop at frame)

few_of : (most at : ℕ) (frame : List ℕ) → length (take most (drop at frame)) ≤ length frame - at
few_of most at frame = let l = length-take most (drop at frame) in let d = length-drop at frame in omega (arith, l, d)

pub few_octets : (frame : List ℕ) (at : ℕ) (octets : List ℕ) → ArePart frame at octets → length octets ≤ length frame - at
few_octets frame at octets part = subst (λ (o : List ℕ). length o ≤ length frame - at) (sym part.is) (few_of part.most at frame)

read_of : (most at i : ℕ) (frame : List ℕ) → i < length (take most (drop at frame)) → get_or (take most (drop at frame)) i 0 ≡ octet_at frame (at + i)
read_of most at i frame l =
    let m : i < most = (let n = length-take most (drop at frame) in omega (arith, l, n)) in
    get_or-take most (drop at frame) i 0 m ∙ get_or-drop at frame i 0

pub octet_in : (frame : List ℕ) (at : ℕ) (octets : List ℕ) → ArePart frame at octets → (i : ℕ) → i < length octets →
    get_or octets i 0 ≡ octet_at frame (at + i)
octet_in frame at octets part i l =
    subst (λ (o : List ℕ). get_or o i 0 ≡ octet_at frame (at + i)) (sym part.is)
    (read_of part.most at i frame (subst (λ (o : List ℕ). i < length o) part.is l))

pub first_in : (frame : List ℕ) (at : ℕ) (octets : List ℕ) → ArePart frame at octets → 0 < length octets → get_or octets 0 0 ≡ octet_at frame at
first_in frame at octets part l =
    let same : at + 0 ≡ at = omega arith in
    subst (λ (i : ℕ). get_or octets 0 0 ≡ octet_at frame i) same (octet_in frame at octets part 0 l)

-- what is behind so many of them
drop_part : (k most at : ℕ) (frame : List ℕ) → k ≤ most → drop k (take most (drop at frame)) ≡ take (most - k) (drop (at + k) frame)
drop_part k most at frame l =
    let e : most ≡ k + (most - k) = omega (arith, l) in
    ap (λ (n : ℕ). drop k (take n (drop at frame))) e ∙ drop-take k (most - k) (drop at frame)
    ∙ ap (take (most - k)) (drop-drop k at frame ∙ ap (λ (n : ℕ). drop n frame) (omega arith))

pub rest_is_part : (frame : List ℕ) (at k : ℕ) (octets : List ℕ) → ArePart frame at octets → k ≤ length octets → ArePart frame (at + k) (drop k octets)
rest_is_part frame at k octets part l =
    let m : k ≤ part.most = (let n = length-take part.most (drop at frame) in omega (arith, subst (λ (o : List ℕ). k ≤ length o) part.is l, n)) in
    record { most = part.most - k; is = ap (drop k) part.is ∙ drop_part k part.most at frame m }

-- six of them are a hardware address
six : (octets : List ℕ) → 6 ≤ length octets →
    take 6 octets ≡ get_or octets 0 0 ∷ get_or octets 1 0 ∷ get_or octets 2 0 ∷ get_or octets 3 0 ∷ get_or octets 4 0 ∷ get_or octets 5 0 ∷ []
six [] l = absurd (omega (arith, l))
six (a ∷ []) l = absurd (omega (arith, l))
six (a ∷ b ∷ []) l = absurd (omega (arith, l))
six (a ∷ b ∷ c ∷ []) l = absurd (omega (arith, l))
six (a ∷ b ∷ c ∷ d ∷ []) l = absurd (omega (arith, l))
six (a ∷ b ∷ c ∷ d ∷ e ∷ []) l = absurd (omega (arith, l))
six (a ∷ b ∷ c ∷ d ∷ e ∷ f ∷ rest) l = refl

hardware_in : (frame : List ℕ) (at : ℕ) (octets : List ℕ) → ArePart frame at octets → 6 ≤ length octets →
    record { 0 = take 6 octets } ≡ hardware_at frame at
hardware_in frame at octets part l =
    let read = octet_in frame at octets part in
    let octets' : take 6 octets ≡ (hardware_at frame at).0 =
    six octets l
    ∙ rw (
      first_in frame at octets part (omega (arith, l)),
      read 1 (omega (arith, l)),
      read 2 (omega (arith, l)),
      read 3 (omega (arith, l)),
      read 4 (omega (arith, l)),
      read 5 (omega (arith, l)),
    ) refl in
    ap (λ (o : List ℕ). record { 0 = o }) octets'

-- no octets are no options, and of eight there is one
no_option : (type : ℕ) (octets : List ℕ) (h : EthernetAddress) → length octets ≤ 0 → lladdr_in type octets ≡ Some h → ⊥
unfolding options_from last_of
no_option type [] h l e = absurd cc
no_option type (x ∷ xs) h l e = omega (arith, l)

none_from : (n : ℕ) (octets : List ℕ) → length octets ≤ 0 → options_from n octets ≡ []
unfolding options_from
none_from zero octets l = refl
none_from (suc n) [] l = refl
none_from (suc n) (x ∷ xs) l = absurd (omega (arith, l))

if_type : (b : Bool) (a h : EthernetAddress) → (if b then Some a else None) ≡ Some h → a ≡ h
if_type true a h e = cc
if_type false a h e = absurd cc

first_option : (type : ℕ) (octets : List ℕ) (h : EthernetAddress) → length octets ≤ 8 → AreOptions octets → lladdr_in type octets ≡ Some h →
    (8 ≤ length octets) × (address_in octets ≡ h)
unfolding options_from last_of
first_option type [] h l are e = absurd cc
first_option type (x ∷ xs) h l are e = (whole, if_type (slice_index (x ∷ xs) 0 == type) (address_in (x ∷ xs)) h one) where
  is : IsOption (x ∷ xs)
  is = All-head IsOption (x ∷ xs) (options_from (length xs) (after_option (x ∷ xs))) are

  whole : 8 ≤ length (x ∷ xs)
  whole = let some = is.some in let fits = is.fits in omega (arith, some, fits)

  end_of : length (after_option (x ∷ xs)) ≤ 0
  end_of = let d = length-drop (option_len (x ∷ xs)) (x ∷ xs) in let some = is.some in omega (arith, d, some, l)

  one : (if slice_index (x ∷ xs) 0 == type then Some (address_in (x ∷ xs)) else None) ≡ Some h
  one =
      subst (λ (os : List (List ℕ)). option_or (last_of address_in type os) (if slice_index (x ∷ xs) 0 == type then Some (address_in (x ∷ xs)) else None) ≡ Some h)
      (none_from (length xs) (after_option (x ∷ xs)) end_of) e

-- a message that tells no other hardware address tells this one, if it tells any
pub told_one : (frame : List ℕ) (at : ℕ) (octets : List ℕ) (type : ℕ) (own h : EthernetAddress) → ArePart frame at octets → 24 ≤ length octets →
    AreOptions (drop 24 octets) → lladdr_in type (drop 24 octets) ≡ Some h → TellsNoOther own frame at → h ≡ own
told_one frame at octets type own h part long are e (inl short) =
    let d = length-drop 24 octets in
    let f = few_octets frame at octets part in
    absurd (no_option type (drop 24 octets) h (omega (arith, d, f, short)) e)
told_one frame at octets type own h part long are e (inr (short, is)) =
    let d = length-drop 24 octets in
    let f = few_octets frame at octets part in
    let first = first_option type (drop 24 octets) h (omega (arith, d, f, short)) are e in
    let whole : 26 ≤ length octets = omega (arith, d, first.0) in
    let d' = length-drop 26 octets in
    let six' : 6 ≤ length (drop 26 octets) = omega (arith, d, d', first.0) in
    let behind : drop 2 (drop 24 octets) ≡ drop 26 octets = drop-drop 2 24 octets in
    sym first.1 ∙ ap (λ (o : List ℕ). record { 0 = take 6 o }) behind
    ∙ hardware_in frame (at + 26) (drop 26 octets) (rest_is_part frame at 26 octets part whole) six' ∙ is

-- no error is a neighbour message
no_error : (a b c : Bool) (octets : List ℕ) (m : NdiscRepr) →
    (if a then message.DstUnreachable (unreachable_of (code_in octets)) (quoted_in (drop 8 octets)).0 else
    if b then message.PktTooBig (u32_at octets 4) (quoted_in (drop 8 octets)).0 else
    if c then message.TimeExceeded (code_in octets) (quoted_in (drop 8 octets)).0 else
    message.ParamProblem (problem_of (code_in octets)) (u32_at octets 4) (quoted_in (drop 8 octets)).0) ≡ message.Ndisc m → ⊥
no_error true b c octets m e = absurd cc
no_error false true c octets m e = absurd cc
no_error false false true octets m e = absurd cc
no_error false false false octets m e = absurd cc

same_message : (a b : NdiscRepr) → message.Ndisc a ≡ message.Ndisc b → a ≡ b
same_message a b e = cc

-- the type of a neighbour message, and its values
neighbor_if : (e r s a t u q v : Bool) (octets : List ℕ) (m : NdiscRepr) →
    (if e then (message.EchoRequest (u16_at octets 4) (u16_at octets 6), drop 8 octets) else
    if r then (message.EchoReply (u16_at octets 4) (u16_at octets 6), drop 8 octets) else
    if s then (message.Ndisc (ndisc_in octets), []) else
    if a then (message.Ndisc (ndisc_in octets), []) else
    if t then (message.Router (router_in octets), []) else
    if u then (message.Router (router_in octets), []) else
    if q then (message.Mld (mld_in octets).0, (mld_in octets).1) else
    if v then (message.Mld (mld_in octets).0, (mld_in octets).1) else
    error_in octets).0 ≡ message.Ndisc m → ((s ≡ true) ⊎ (a ≡ true)) × (ndisc_in octets ≡ m)
neighbor_if true r s a t u q v octets m e = absurd cc
neighbor_if false true s a t u q v octets m e = absurd cc
neighbor_if false false true a t u q v octets m e = (inl refl, same_message (ndisc_in octets) m e)
neighbor_if false false false true t u q v octets m e = (inr refl, same_message (ndisc_in octets) m e)
neighbor_if false false false false true u q v octets m e = absurd cc
neighbor_if false false false false false true q v octets m e = absurd cc
neighbor_if false false false false false false true v octets m e = absurd cc
neighbor_if false false false false false false false true octets m e = absurd cc
neighbor_if false false false false false false false false octets m e =
    absurd (no_error (type_in octets == 1) (type_in octets == 2) (type_in octets == 3) octets m e)

type_by : (n : ℕ) → ((n == 135) ≡ true) ⊎ ((n == 136) ≡ true) → (n ≡ 135) ⊎ (n ≡ 136)
type_by n (inl e) = inl (grind (arith, nat_tests))
type_by n (inr e) = inr (grind (arith, nat_tests))

pub neighbor_in : (octets : List ℕ) (m : NdiscRepr) → (icmpv6_in octets).0 ≡ message.Ndisc m →
    ((type_in octets ≡ 135) ⊎ (type_in octets ≡ 136)) × (ndisc_in octets ≡ m)
neighbor_in octets m e =
    let is = neighbor_if (type_in octets == 128) (type_in octets == 129) (type_in octets == 135) (type_in octets == 136) (type_in octets == 133)
    (type_in octets == 134) (type_in octets == 130) (type_in octets == 143) octets m e in
    (type_by (type_in octets) is.0, is.1)
