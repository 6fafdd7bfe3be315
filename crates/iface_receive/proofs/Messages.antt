-- What messages over IPv6 bring about, over plain variables.
use Rattle.std.proofs.Common.{◌≡◌, ◌≢◌, ℕ, ◌≤◌, ◌⊎◌, inl, inr, Bool, true, false, List, [], drop, Option, Some, None, refl, arith}
use Rattle.std.proofs.lemmas.Bool.{ne_eqb}
use Rattle.std.specs.Prelude.{◌==◌, if◌then◌else◌}
use Rattle.ip_wire.specs.declared.ipv6_packet.Ipv6Repr.{Ipv6Repr}
use Rattle.control_wire.specs.declared.icmpv6.Icmpv6Repr.{Icmpv6Repr}
use Rattle.control_wire.specs.declared.icmpv6.Icmpv6Repr.TheVariants.{EchoRequest, EchoReply, DstUnreachable, PktTooBig}
use Rattle.control_wire.specs.declared.icmpv6.Icmpv6Repr.TheVariants.{TimeExceeded, ParamProblem, Ndisc, Router, Mld}
use Rattle.control_wire.specs.declared.ndisc.NdiscRepr.{NdiscRepr}
use Rattle.control_wire.specs.declared.router.RouterRepr.{RouterRepr}
use Rattle.control_wire.specs.declared.mld.MldRepr.{MldRepr}
use Rattle.control_wire.specs.Icmpv6.{IsBody, Request, Reply as EchoedReply, Error, Neighbor, OfRouters, Listener}
use Rattle.control_wire.specs.Icmpv6.{code_in, echo_request_in, icmpv6_in, problem_of, type_in, unreachable_of}
use Rattle.control_wire.specs.Ndisc.{IsNdisc, ndisc_in}
use Rattle.control_wire.specs.Router.{Solicitation, Advertisement, router_in}
use Rattle.control_wire.specs.Mld.{IsQuery, IsReport, mld_in}
use Rattle.ip_wire.specs.Ipv6Packet.{quoted_in}
use Rattle.ip_wire.specs.Octets.{u16_at, u32_at}
use Rattle.host_machine.specs.Context.Note.{Note}
use Rattle.host_machine.specs.Context.Host.{Host, with_slaac}
use Rattle.host_machine.specs.Receive.Reply.{Reply}
use Rattle.host_machine.specs.Icmp.Icmpv6.{ProcessesMessage, message_back}
use Rattle.host_machine.specs.Multicast.Mld.{ProcessesMld}
use Rattle.host_machine.specs.Discovery.Router.{after_advertisement}
use Rattle.iface_context.proofs.Processing.{dropped}

-- an echo request is answered
pub echoed : (r : Ipv6Repr) (message : Icmpv6Repr) (contents : List ℕ) (ident seq_no : ℕ) (H : Host) (reply : Option Reply) →
    message ≡ EchoRequest ident seq_no →
    reply ≡ Some (message_back H.ip_addrs r (EchoReply ident seq_no) contents) → ProcessesMessage r message contents H reply [] H
echoed r message contents ident seq_no H reply is answers = rw is (answers, refl, refl)

-- one of routers may teach
pub of_routers : (r : Ipv6Repr) (message : Icmpv6Repr) (contents : List ℕ) (m : RouterRepr) (H K : Host) →
    message ≡ Router m → K ≡ with_slaac H (after_advertisement m H r) →
    ProcessesMessage r message contents H None [] K
of_routers r message contents m H K is teaches = rw is (refl, refl, teaches)

-- and one of groups
pub of_groups : (r : Ipv6Repr) (message : Icmpv6Repr) (contents : List ℕ) (m : MldRepr) (H K : Host) (reply : Option Reply) (notes : List Note) →
    message ≡ Mld m →
    ProcessesMld r m H reply notes K → ProcessesMessage r message contents H reply notes K
of_groups r message contents m H K reply notes is takes = rw is takes

-- nothing else does anything
pub unheeded : (r : Ipv6Repr) (message : Icmpv6Repr) (contents : List ℕ) (H : Host) → ((ident seq_no : ℕ) → message ≡ EchoRequest ident seq_no → ⊥) →
    ((m : NdiscRepr) → message ≡ Ndisc m → ⊥) → ((m : RouterRepr) → message ≡ Router m → ⊥) → ((m : MldRepr) → message ≡ Mld m → ⊥) →
    ProcessesMessage r message contents H None [] H
unheeded r (EchoRequest ident seq_no) contents H no_request no_neighbor no_routers no_groups = absurd (no_request ident seq_no refl)
unheeded r (Ndisc m) contents H no_request no_neighbor no_routers no_groups = absurd (no_neighbor m refl)
unheeded r (Router m) contents H no_request no_neighbor no_routers no_groups = absurd (no_routers m refl)
unheeded r (Mld m) contents H no_request no_neighbor no_routers no_groups = absurd (no_groups m refl)
unheeded r (EchoReply ident seq_no) contents H no_request no_neighbor no_routers no_groups = dropped H
unheeded r (DstUnreachable reason header) contents H no_request no_neighbor no_routers no_groups = dropped H
unheeded r (PktTooBig mtu header) contents H no_request no_neighbor no_routers no_groups = dropped H
unheeded r (TimeExceeded code header) contents H no_request no_neighbor no_routers no_groups = dropped H
unheeded r (ParamProblem reason pointer header) contents H no_request no_neighbor no_routers no_groups = dropped H

-- the values and the data of an echo request
pub of_request : (octets : List ℕ) → type_in octets ≡ 128 → ◌≡◌ {A = Icmpv6Repr × List ℕ} (echo_request_in octets, drop 8 octets) (icmpv6_in octets)
of_request octets type =
    let is : (type_in octets == 128) ≡ true = rw type refl in
    rw is refl

-- those of a message of neighbours, by its type
abbrev IsOfNeighbors : List ℕ → Type 0
IsOfNeighbors octets = (type_in octets ≡ 135) ⊎ (type_in octets ≡ 136)

pub of_neighbors : (octets : List ℕ) (m : NdiscRepr) →
    IsOfNeighbors octets → m ≡ ndisc_in octets → ◌≡◌ {A = Icmpv6Repr × List ℕ} (Ndisc m, []) (icmpv6_in octets)
of_neighbors octets m (inl type) is =
    let a : (type_in octets == 128) ≡ false = ne_eqb (type_in octets) 128 (λ e. omega (arith, e, type)) in
    let b : (type_in octets == 129) ≡ false = ne_eqb (type_in octets) 129 (λ e. omega (arith, e, type)) in
    let c : (type_in octets == 135) ≡ true = rw type refl in
    rw (is, a, b, c) refl
of_neighbors octets m (inr type) is =
    let a : (type_in octets == 128) ≡ false = ne_eqb (type_in octets) 128 (λ e. omega (arith, e, type)) in
    let b : (type_in octets == 129) ≡ false = ne_eqb (type_in octets) 129 (λ e. omega (arith, e, type)) in
    let c : (type_in octets == 135) ≡ false = ne_eqb (type_in octets) 135 (λ e. omega (arith, e, type)) in
    let d : (type_in octets == 136) ≡ true = rw type refl in
    rw (is, a, b, c, d) refl

-- which octets of its type are one
pub a_neighbor : (octets : List ℕ) → IsOfNeighbors octets → IsBody octets → IsNdisc octets
a_neighbor octets type (Request t c) = absurd (apart type t) where
  apart : IsOfNeighbors octets → type_in octets ≡ 128 → ⊥
  apart (inl is) t = omega (arith, is, t)
  apart (inr is) t = omega (arith, is, t)
a_neighbor octets type (EchoedReply t c) = absurd (apart type t) where
  apart : IsOfNeighbors octets → type_in octets ≡ 129 → ⊥
  apart (inl is) t = omega (arith, is, t)
  apart (inr is) t = omega (arith, is, t)
a_neighbor octets type (Error e) = absurd (apart type e.most) where
  apart : IsOfNeighbors octets → type_in octets ≤ 4 → ⊥
  apart (inl is) t = omega (arith, is, t)
  apart (inr is) t = omega (arith, is, t)
a_neighbor octets type (Neighbor n) = n
a_neighbor octets type (OfRouters (Solicitation s)) = absurd (apart type s.type) where
  apart : IsOfNeighbors octets → type_in octets ≡ 133 → ⊥
  apart (inl is) t = omega (arith, is, t)
  apart (inr is) t = omega (arith, is, t)
a_neighbor octets type (OfRouters (Advertisement a)) = absurd (apart type a.type) where
  apart : IsOfNeighbors octets → type_in octets ≡ 134 → ⊥
  apart (inl is) t = omega (arith, is, t)
  apart (inr is) t = omega (arith, is, t)
a_neighbor octets type (Listener (IsQuery t c l)) = absurd (apart type t) where
  apart : IsOfNeighbors octets → type_in octets ≡ 130 → ⊥
  apart (inl is) t = omega (arith, is, t)
  apart (inr is) t = omega (arith, is, t)
a_neighbor octets type (Listener (IsReport t c l)) = absurd (apart type t) where
  apart : IsOfNeighbors octets → type_in octets ≡ 143 → ⊥
  apart (inl is) t = omega (arith, is, t)
  apart (inr is) t = omega (arith, is, t)

-- octets of another type are read as another message
abbrev error_by : List ℕ → (i j k : Bool) → Icmpv6Repr
error_by octets i j k =
    if i then DstUnreachable (unreachable_of (code_in octets)) (quoted_in (drop 8 octets)).0 else
    if j then PktTooBig (u32_at octets 4) (quoted_in (drop 8 octets)).0 else
    if k then TimeExceeded (code_in octets) (quoted_in (drop 8 octets)).0 else
    ParamProblem (problem_of (code_in octets)) (u32_at octets 4) (quoted_in (drop 8 octets)).0

abbrev by_types : List ℕ → (a b c d e f g h i j k : Bool) → Icmpv6Repr × List ℕ
by_types octets a b c d e f g h i j k =
    if a then (EchoRequest (u16_at octets 4) (u16_at octets 6), drop 8 octets) else
    if b then (EchoReply (u16_at octets 4) (u16_at octets 6), drop 8 octets) else
    if c then (Ndisc (ndisc_in octets), []) else
    if d then (Ndisc (ndisc_in octets), []) else
    if e then (Router (router_in octets), []) else
    if f then (Router (router_in octets), []) else
    if g then (Mld (mld_in octets).0, (mld_in octets).1) else
    if h then (Mld (mld_in octets).0, (mld_in octets).1) else
    (error_by octets i j k, (quoted_in (drop 8 octets)).1)

by_another_type : (octets : List ℕ) (m : NdiscRepr) (a b c d e f g h i j k : Bool) →
    c ≡ false → d ≡ false → (by_types octets a b c d e f g h i j k).0 ≢ Ndisc m
by_another_type octets m true b c d e f g h i j k no_c no_d is = cc
by_another_type octets m false true c d e f g h i j k no_c no_d is = cc
by_another_type octets m false false true d e f g h i j k no_c no_d is = cc
by_another_type octets m false false false true e f g h i j k no_c no_d is = cc
by_another_type octets m false false false false true f g h i j k no_c no_d is = cc
by_another_type octets m false false false false false true g h i j k no_c no_d is = cc
by_another_type octets m false false false false false false true h i j k no_c no_d is = cc
by_another_type octets m false false false false false false false true i j k no_c no_d is = cc
by_another_type octets m false false false false false false false false true j k no_c no_d is = cc
by_another_type octets m false false false false false false false false false true k no_c no_d is = cc
by_another_type octets m false false false false false false false false false false true no_c no_d is = cc
by_another_type octets m false false false false false false false false false false false no_c no_d is = cc

pub no_neighbor : (octets : List ℕ) (m : NdiscRepr) → type_in octets ≢ 135 → type_in octets ≢ 136 → (icmpv6_in octets).0 ≢ Ndisc m
no_neighbor octets m no_solicitation no_advertisement is =
    let t = type_in octets in
    by_another_type octets m (t == 128) (t == 129) (t == 135) (t == 136) (t == 133) (t == 134) (t == 130) (t == 143) (t == 1) (t == 2) (t == 3)
    (ne_eqb t 135 no_solicitation) (ne_eqb t 136 no_advertisement) is
