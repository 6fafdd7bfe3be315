-- Messages of a type are three seconds apart.
use Rattle.std.proofs.Common.{◌≡◌, ℕ, ◌+◌, ◌≤◌, Bool, true, false, refl, sym, ap, subst, ◌∙◌, arith, List, [], ◌∷◌}
use Rattle.std.specs.Prelude.{Option, Some, None, max, if◌then◌else◌}
use Rattle.std.specs.Option.{option_map}
use Rattle.std.proofs.lemmas.Bool.Decides.{nat_tests}
use Rattle.ip_address.specs.declared.ipv4.Ipv4Address.{Ipv4Address}
use Rattle.dhcp_client.specs.declared.message.DhcpRepr.{DhcpRepr}
use Rattle.dhcp_client.specs.declared.message.DhcpMessageType.{DhcpMessageType}
use Rattle.dhcp_client.specs.declared.message.DhcpMessageType.TheVariants.{Discover, Offer, Request, Decline, Ack, Nak, Release, Inform}
use Rattle.dhcp_client.specs.declared.client.Asked.{Asked}
use Rattle.dhcp_client.specs.declared.client.DhcpClient.{DhcpClient}
use Rattle.dhcp_client.specs.declared.client.DhcpPhase.{DhcpPhase}
use Rattle.dhcp_client.specs.declared.client.DhcpPhase.TheVariants.{Discovering, Requesting, Rebooting, Bound}
use Rattle.dhcp_client.specs.declared.lease.DhcpLease.{DhcpLease}
use Rattle.dhcp_client.specs.declared.lease.LeaseTimes.{LeaseTimes}
use Rattle.dhcp_client.specs.Answers.{after_answer, after_type, requesting, leased, is_answer, is_discovering}
use Rattle.dhcp_client.specs.Lease.{is_usable, lease_of}
use Rattle.dhcp_client.specs.Returns.{declining, numbered_if, releasing}
use Rattle.dhcp_client.specs.Client.{after_restart, lease, after_giving_up, must_give_up, is_to_send, has_come, send_in, if_ending}
use Rattle.dhcp_client.specs.Messages.{after_asking, after_sending, message, message_in, numbered, is_discover}
use Rattle.dhcp_client.specs.Run.{Event, Receive, Ask, Tell, Reset, Claim, Leave, client_after, client_after_all}
use Rattle.dhcp_client.specs.Laws.{type_at, KindsAreSpaced}

-- the two instants before which nothing is sent
abbrev Gates : DhcpClient → DhcpClient → Type 0
Gates c d = (c.discover_after ≤ d.discover_after) × (c.request_after ≤ d.request_after)

same : (c : DhcpClient) → Gates c c
same c = (omega arith, omega arith)

by_reset : (t : Bool) (c : DhcpClient) → Gates c (if t then after_restart c else c)
by_reset true c = same c
by_reset false c = same c

if_usable : (t : Bool) (address server : Ipv4Address) (c : DhcpClient) →
    Gates c (if t then record c { phase = Requesting address server; asked = None; tries = 0; next_at = 0 } else c)
if_usable true address server c = same c
if_usable false address server c = same c

by_requesting : (m : DhcpRepr) (server : Option Ipv4Address) (c : DhcpClient) → Gates c (requesting m server c)
by_requesting m None c = same c
by_requesting m (Some server) c = if_usable (is_usable m server) m.your_ip server c

by_offer : (t : Bool) (m : DhcpRepr) (c : DhcpClient) → Gates c (if t then requesting m m.options.server_identifier c else c)
by_offer true m c = by_requesting m m.options.server_identifier c
by_offer false m c = same c

by_lease : (l : Option DhcpLease) (c : DhcpClient) → Gates c (leased l c)
by_lease None c = same c
by_lease (Some l) c = same c

by_ack : (t : Bool) (at : ℕ) (m : DhcpRepr) (c : DhcpClient) → Gates c (if t then c else leased (lease_of at m) c)
by_ack true at m c = same c
by_ack false at m c = by_lease (lease_of at m) c

by_nak : (t : Bool) (c : DhcpClient) → Gates c (if t then c else after_restart c)
by_nak true c = same c
by_nak false c = same c

by_type : (type : DhcpMessageType) (at : ℕ) (m : DhcpRepr) (c : DhcpClient) → Gates c (after_type type at m c)
by_type Discover at m c = same c
by_type Offer at m c = by_offer (is_discovering c) m c
by_type Request at m c = same c
by_type Decline at m c = same c
by_type Ack at m c = by_ack (is_discovering c) at m c
by_type Nak at m c = by_nak (is_discovering c) c
by_type Release at m c = same c
by_type Inform at m c = same c

if_answer : (t : Bool) (at : ℕ) (m : DhcpRepr) (c : DhcpClient) → Gates c (if t then after_type m.message_type at m c else c)
if_answer true at m c = by_type m.message_type at m c
if_answer false at m c = same c

by_answer : (a : Option Asked) (m : DhcpRepr) (c : DhcpClient) → Gates c (after_answer a m c)
by_answer None m c = same c
by_answer (Some a) m c = if_answer (is_answer m c) a.at m c

-- what is sent is not before its instant
abbrev gate : DhcpPhase → DhcpClient → ℕ
gate p c = if is_discover p then c.discover_after else c.request_after

passed : (now : ℕ) (c : DhcpClient) (p : DhcpPhase) → has_come now (send_in p c) ≡ true → gate p c ≤ now
passed now c Discovering h = grind (arith, nat_tests, h)
passed now c (Requesting address server) h = grind (arith, nat_tests, h)
passed now c (Rebooting address) h = grind (arith, nat_tests, h)
passed now c (Bound l) h = ended l.times h where
  ended : (t : Option LeaseTimes) → has_come now (if_ending t (max c.next_at c.request_after)) ≡ true → c.request_after ≤ now
  ended None h = absurd (cc)
  ended (Some t) h = grind (arith, nat_tests, h)

sent_gates : (t : Bool) (now : ℕ) (c : DhcpClient) → (if t then c.discover_after else c.request_after) ≤ now →
    (c.discover_after ≤ (if t then now + 3000000 else c.discover_after))
    × (c.request_after ≤ (if t then c.request_after else now + 3000000))
sent_gates true now c h = (omega (arith, h), omega arith)
sent_gates false now c h = (omega arith, omega (arith, h))

by_sending : (t : Bool) (now random : ℕ) (d : DhcpClient) → is_to_send now d ≡ t →
    Gates d (if t then after_sending now random (numbered random d) else d)
by_sending true now random d h = sent_gates (is_discover d.phase) now d (passed now d d.phase h)
by_sending false now random d h = same d

over : (c d e : DhcpClient) → Gates c d → Gates d e → Gates c e
over c d e f g =
    let f0 = f.0 in
    let f1 = f.1 in
    let g0 = g.0 in
    let g1 = g.1 in
    (omega (arith, f0, g0), omega (arith, f1, g1))

by_asking : (now random : ℕ) (c : DhcpClient) → Gates c (after_asking now random c)
by_asking now random c =
    let d = after_giving_up now c in
    over c d (after_asking now random c) (by_reset (must_give_up now c) c) (by_sending (is_to_send now d) now random d refl)

by_declining : (l : Option DhcpLease) (now random : ℕ) (c : DhcpClient) → Gates c (declining l now (numbered_if l random c))
by_declining None now random c = same c
by_declining (Some l) now random c = (omega arith, omega arith)

by_releasing : (l : Option DhcpLease) (random : ℕ) (c : DhcpClient) → Gates c (releasing l (numbered_if l random c))
by_releasing None random c = same c
by_releasing (Some l) random c = same c

by_event : (e : Event) (c : DhcpClient) → Gates c (client_after e c)
by_event (Receive m) c = by_answer c.asked m c
by_event (Ask now random) c = by_asking now random c
by_event Tell c = same c
by_event Reset c = same c
by_event (Claim now random) c = by_declining (lease c) now random c
by_event (Leave now random) c = by_releasing (lease c) random c

by_all : (es : List Event) (c : DhcpClient) → Gates c (client_after_all es c)
by_all [] c = same c
by_all (e ∷ es) c = over c (client_after e c) (client_after_all es (client_after e c)) (by_event e c) (by_all es (client_after e c))

-- the type of a phase's message
abbrev type_in : DhcpPhase → DhcpMessageType
type_in p = if is_discover p then Discover else Request

type_is : (p : DhcpPhase) (now : ℕ) (c : DhcpClient) → (message_in p now c).repr.message_type ≡ type_in p
type_is Discovering now c = refl
type_is (Requesting address server) now c = refl
type_is (Rebooting address) now c = refl
type_is (Bound l) now c = refl

-- a message of a type is sent
record Sends (now random : ℕ) (c : DhcpClient) (type : DhcpMessageType) : Type 0 where
  pub phase : DhcpPhase
  pub is_type : type_in phase ≡ type
  pub before : gate phase c ≤ now
  pub after : now + 3000000 ≤ gate phase (after_asking now random c)

abbrev got : DhcpMessageType → Option DhcpMessageType → DhcpMessageType
got d None = d
got d (Some t) = t

gate_after : (t : Bool) (now : ℕ) (c : DhcpClient) → now + 3000000
    ≤ (if t then (if t then now + 3000000 else c.discover_after) else (if t then c.request_after else now + 3000000))
gate_after true now c = omega arith
gate_after false now c = omega arith

gates_given_up : (t : Bool) (p : DhcpPhase) (c : DhcpClient) → gate p (if t then after_restart c else c) ≡ gate p c
gates_given_up true p c = refl
gates_given_up false p c = refl

if_sent : (t : Bool) (now random : ℕ) (c d : DhcpClient) (type : DhcpMessageType) → is_to_send now d ≡ t →
    ((p : DhcpPhase) → gate p d ≡ gate p c) →
    after_asking now random c ≡ (if t then after_sending now random (numbered random d) else d) →
    option_map (λ m. m.repr.message_type) (if t then Some (message now (numbered random d)) else None) ≡ Some type →
    Sends now random c type
if_sent false now random c d type h g ea e = absurd (cc)
if_sent true now random c d type h g ea e =
    let passes : gate d.phase d ≤ now = passed now d d.phase h in
    let gate_is : gate d.phase d ≡ gate d.phase c = g d.phase in
    let is : (message now (numbered random d)).repr.message_type ≡ type = ap (got Discover) e in
    record {
      phase = d.phase;
      is_type = sym (type_is d.phase now (numbered random d)) ∙ is;
      before = omega (arith, passes, gate_is);
      after = subst (λ (x : DhcpClient). now + 3000000 ≤ gate d.phase x) (sym ea) (gate_after (is_discover d.phase) now d);
    }

sends : (now random : ℕ) (c : DhcpClient) (type : DhcpMessageType) → type_at now random c ≡ Some type → Sends now random c type
sends now random c type e =
    let d = after_giving_up now c in
    if_sent (is_to_send now d) now random c d type refl (λ p. gates_given_up (must_give_up now c) p c) refl e

apart : (s t : Bool) (first second : ℕ) (c d : DhcpClient) →
    (if s then Discover else Request) ≡ (if t then Discover else Request) →
    first + 3000000 ≤ (if s then c.discover_after else c.request_after) → Gates c d →
    (if t then d.discover_after else d.request_after) ≤ second → first + 3000000 ≤ second
apart true true first second c d e f g h = let low = g.0 in omega (arith, f, low, h)
apart false false first second c d e f g h = let low = g.1 in omega (arith, f, low, h)
apart true false first second c d e f g h = absurd (cc)
apart false true first second c d e f g h = absurd (cc)

pub kinds_are_spaced : KindsAreSpaced
kinds_are_spaced first random second other c es type e f =
    let a = after_asking first random c in
    let b = client_after_all es a in
    let s = sends first random c type e in
    let t = sends second other b type f in
    apart (is_discover s.phase) (is_discover t.phase) first second a b (s.is_type ∙ sym t.is_type) s.after (by_all es a) t.before
