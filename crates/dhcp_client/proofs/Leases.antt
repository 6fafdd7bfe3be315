-- Leases come from agreements to what was sent last.
use Rattle.std.proofs.Common.{◌≡◌, ℕ, ◌+◌, ◌*◌, ◌==◌, Bool, true, false, not, get_or, refl, sym, ap, subst, ◌∙◌, List, [], ◌∷◌, inl, inr}
use Rattle.std.specs.Prelude.{◌⊎◌, Option, Some, None, IfSome, if◌then◌else◌}
use Rattle.std.specs.Option.{option_map, option_or}
use Rattle.std.proofs.lemmas.Bool.{and_parts, eqb-true}
use Rattle.ip_address.specs.declared.ipv4.Ipv4Address.{Ipv4Address}
use Rattle.ip_address.specs.declared.ethernet_address.EthernetAddress.{EthernetAddress}
use Rattle.ip_address.specs.EthernetAddress.{is_same}
use Rattle.dhcp_client.specs.declared.message.DhcpRepr.{DhcpRepr}
use Rattle.dhcp_client.specs.declared.message.DhcpMessageType.{DhcpMessageType}
use Rattle.dhcp_client.specs.declared.message.DhcpMessageType.TheVariants.{Discover, Offer, Request, Decline, Ack, Nak, Release, Inform}
use Rattle.dhcp_client.specs.declared.options.DhcpOptions.{DhcpOptions}
use Rattle.dhcp_client.specs.declared.client.Asked.{Asked}
use Rattle.dhcp_client.specs.declared.client.DhcpClient.{DhcpClient}
use Rattle.dhcp_client.specs.declared.client.DhcpPhase.{DhcpPhase}
use Rattle.dhcp_client.specs.declared.client.DhcpPhase.TheVariants.{Discovering, Requesting, Rebooting, Bound}
use Rattle.dhcp_client.specs.declared.lease.DhcpLease.{DhcpLease}
use Rattle.dhcp_client.specs.declared.lease.LeaseTimes.{LeaseTimes}
use Rattle.dhcp_client.specs.Answers.{after_answer, after_type, requesting, leased}
use Rattle.dhcp_client.specs.Answers.{is_answer, is_asked, is_by, is_discovering}
use Rattle.dhcp_client.specs.Lease.{is_usable, lease_by, lease_of, mtu_of, spans_of, times_of}
use Rattle.dhcp_client.specs.Addresses.{is_mask, is_networks, is_other, mask_of, other_in, others_in, without_gaps}
use Rattle.dhcp_client.specs.Client.{lease, lease_in, address_in, first_phase, after_reset, after_restart, after_giving_up, must_give_up, is_to_send}
use Rattle.dhcp_client.specs.Messages.{after_sending, message, message_in, numbered, is_discover, asked_server, is_rebinding}
use Rattle.dhcp_client.specs.Run.{Event, Receive, Ask, Tell, Reset, Claim, Leave, Sent, History, begun, after, after_all, sent_at}
use Rattle.dhcp_client.specs.Returns.{declined_by, declining, numbered_if, released_by, releasing, with_number}
use Rattle.dhcp_client.specs.Laws.{Agrees, IsAgreed, IsOther, AreOthers, IsUsable, Gives, LeasesAreAnswered, broadcast, end_of}
use Rattle.dhcp_client.proofs.Ends.{same_lease, kept}

-- What was sent last is what was asked.

record IsAskedBy (a : Asked) (id : ℕ) (phase : DhcpPhase) (s : Sent) : Type 0 where
  pub at : a.at ≡ s.at
  pub number : id ≡ s.message.repr.transaction_id
  pub named : IfSome s.message.repr.options.server_identifier (λ v. a.server ≡ Some v)
  pub went_to : (s.message.dst ≡ broadcast) ⊎ (a.server ≡ Some s.message.dst)
  pub request : is_discover phase ≡ false → s.message.repr.message_type ≡ Request

abbrev Matches : Option Asked → ℕ → DhcpPhase → Option Sent → Type 0
Matches None id phase last = Unit
Matches (Some a) id phase None = ⊥
Matches (Some a) id phase (Some s) = IsAskedBy a id phase s

record Known (hw : EthernetAddress) (last : Option Sent) (c : DhcpClient) : Type 0 where
  pub hardware : c.hardware_addr ≡ hw
  pub asked : Matches c.asked c.transaction_id c.phase last

module _ (hw : EthernetAddress) (last : Option Sent) where
  -- where nothing is asked any more
  by_reset : (t : Bool) (c : DhcpClient) → Known hw last c → Known hw last (if t then after_restart c else c)
  by_reset true c k = let is = k.hardware in record { hardware = is; asked = tt }
  by_reset false c k = k

  if_usable : (t : Bool) (address server : Ipv4Address) (c : DhcpClient) → Known hw last c →
      Known hw last (if t then record c { phase = Requesting address server; asked = None; tries = 0; next_at = 0 } else c)
  if_usable true address server c k = let is = k.hardware in record { hardware = is; asked = tt }
  if_usable false address server c k = k

  by_requesting : (m : DhcpRepr) (server : Option Ipv4Address) (c : DhcpClient) → Known hw last c →
      Known hw last (requesting m server c)
  by_requesting m None c k = k
  by_requesting m (Some server) c k = if_usable (is_usable m server) m.your_ip server c k

  by_offer : (t : Bool) (m : DhcpRepr) (c : DhcpClient) → Known hw last c →
      Known hw last (if t then requesting m m.options.server_identifier c else c)
  by_offer true m c k = by_requesting m m.options.server_identifier c k
  by_offer false m c k = k

  by_lease : (l : Option DhcpLease) (c : DhcpClient) → Known hw last c → Known hw last (leased l c)
  by_lease None c k = k
  by_lease (Some l) c k = let is = k.hardware in record { hardware = is; asked = tt }

  by_ack : (t : Bool) (at : ℕ) (m : DhcpRepr) (c : DhcpClient) → Known hw last c →
      Known hw last (if t then c else leased (lease_of at m) c)
  by_ack true at m c k = k
  by_ack false at m c k = by_lease (lease_of at m) c k

  by_nak : (t : Bool) (c : DhcpClient) → Known hw last c → Known hw last (if t then c else after_restart c)
  by_nak true c k = k
  by_nak false c k = let is = k.hardware in record { hardware = is; asked = tt }

  by_type : (type : DhcpMessageType) (at : ℕ) (m : DhcpRepr) (c : DhcpClient) → Known hw last c → Known hw last (after_type type at m c)
  by_type Discover at m c k = k
  by_type Offer at m c k = by_offer (is_discovering c) m c k
  by_type Request at m c k = k
  by_type Decline at m c k = k
  by_type Ack at m c k = by_ack (is_discovering c) at m c k
  by_type Nak at m c k = by_nak (is_discovering c) c k
  by_type Release at m c k = k
  by_type Inform at m c k = k

  if_answer : (t : Bool) (at : ℕ) (m : DhcpRepr) (c : DhcpClient) → Known hw last c →
      Known hw last (if t then after_type m.message_type at m c else c)
  if_answer true at m c k = by_type m.message_type at m c k
  if_answer false at m c k = k

  by_answer : (a : Option Asked) (m : DhcpRepr) (c : DhcpClient) → Known hw last c → Known hw last (after_answer a m c)
  by_answer None m c k = k
  by_answer (Some a) m c k = if_answer (is_answer m c) a.at m c k

-- what a phase's message asks
by_renewal : (t : Bool) (server : Ipv4Address) →
    ((if t then broadcast else server) ≡ broadcast) ⊎ ((if t then None else Some server) ≡ Some (if t then broadcast else server))
by_renewal true server = inl refl
by_renewal false server = inr refl

asked_by : (p : DhcpPhase) (now : ℕ) (c : DhcpClient) →
    IsAskedBy (record { at = now; server = asked_server now p }) c.transaction_id p (record { at = now; message = message_in p now c })
asked_by Discovering now c =
    record { at = refl; number = refl; named = tt; went_to = inl refl; request = λ e. absurd (cc) }
asked_by (Requesting address server) now c =
    record { at = refl; number = refl; named = refl; went_to = inl refl; request = λ e. refl }
asked_by (Rebooting address) now c =
    record { at = refl; number = refl; named = tt; went_to = inl refl; request = λ e. refl }
asked_by (Bound l) now c =
    record { at = refl; number = refl; named = tt; went_to = by_renewal (is_rebinding now l) l.server; request = λ e. refl }

by_sending : (hw : EthernetAddress) (last : Option Sent) (t : Bool) (now random : ℕ) (d : DhcpClient) → Known hw last d →
    Known hw
    (option_or (option_map (λ m. record { at = now; message = m }) (if t then Some (message now (numbered random d)) else None)) last)
    (if t then after_sending now random (numbered random d) else d)
by_sending hw last true now random d k =
    let is = k.hardware in record { hardware = is; asked = asked_by d.phase now (numbered random d) }
by_sending hw last false now random d k = k

by_declining : (hw : EthernetAddress) (last : Option Sent) (l : Option DhcpLease) (now random : ℕ) (c : DhcpClient) → Known hw last c →
    Known hw (option_or (sent_at now (declined_by l (with_number random c))) last) (declining l now (numbered_if l random c))
by_declining hw last None now random c k = k
by_declining hw last (Some l) now random c k = let is = k.hardware in record { hardware = is; asked = tt }

by_releasing : (hw : EthernetAddress) (last : Option Sent) (l : Option DhcpLease) (now random : ℕ) (c : DhcpClient) → Known hw last c →
    Known hw (option_or (sent_at now (released_by l (with_number random c))) last) (releasing l (numbered_if l random c))
by_releasing hw last None now random c k = k
by_releasing hw last (Some l) now random c k = let is = k.hardware in record { hardware = is; asked = tt }

by_event : (hw : EthernetAddress) (e : Event) (h : History) → Known hw h.last h.client → Known hw (after e h).last (after e h).client
by_event hw (Receive m) h k = by_answer hw h.last h.client.asked m h.client k
by_event hw (Ask now random) h k =
    let d = after_giving_up now h.client in
    by_sending hw h.last (is_to_send now d) now random d (by_reset hw h.last (must_give_up now h.client) h.client k)
by_event hw Tell h k = let is = k.hardware in let asked = k.asked in record { hardware = is; asked = asked }
by_event hw Reset h k = let is = k.hardware in record { hardware = is; asked = tt }
by_event hw (Claim now random) h k = by_declining hw h.last (lease h.client) now random h.client k
by_event hw (Leave now random) h k = by_releasing hw h.last (lease h.client) now random h.client k

by_all : (hw : EthernetAddress) (es : List Event) (h : History) → Known hw h.last h.client →
    Known hw (after_all es h).last (after_all es h).client
by_all hw [] h k = k
by_all hw (e ∷ es) h k = by_all hw es (after e h) (by_event hw e h k)

-- What an agreement gives.

abbrev got : DhcpLease → Option DhcpLease → DhcpLease
got d None = d
got d (Some l) = l

record IsFrom (at : ℕ) (m : DhcpRepr) (l : DhcpLease) : Type 0 where
  pub server : m.options.server_identifier ≡ Some l.server
  pub address : l.address ≡ m.your_ip
  pub usable : IsUsable l
  pub end : option_map (λ t. t.expires_at) l.times ≡ end_of at m.options.lease_duration

if_ending : (t : Bool) (renew rebind end : ℕ) → option_map (λ (x : LeaseTimes). x.expires_at)
    (if t then None else Some (record { renew_at = renew; rebind_at = rebind; expires_at = end })) ≡ (if t then None else Some end)
if_ending true renew rebind end = refl
if_ending false renew rebind end = refl

ending : (at d : ℕ) (o : DhcpOptions) → option_map (λ (x : LeaseTimes). x.expires_at) (times_of at d o) ≡ end_of at (Some d)
ending at d o =
    if_ending (d == 0xffff_ffff) (at + (spans_of d o.renew_duration o.rebind_duration).0)
    (at + (spans_of d o.renew_duration o.rebind_duration).1) (at + d * 1000000)

abbrev made : ℕ → DhcpRepr → Ipv4Address → ℕ → DhcpLease
made at m server d = record {
  address = m.your_ip;
  subnet_mask = mask_of m.options.subnet_mask;
  router = other_in m.your_ip m.options.router;
  dns_servers = others_in m.your_ip m.options.dns_servers;
  mtu = mtu_of m.options.mtu;
  server = server;
  times = times_of at d m.options;
}

not_true : (b : Bool) → not b ≡ true → b ≡ false
not_true true e = sym e
not_true false e = refl

other_is : (own : Ipv4Address) (t : Bool) (a : Ipv4Address) → is_other own a ≡ t → IsOther own (if t then Some a else None)
other_is own true a e =
    let both = and_parts _ _ e in
    (both.0, not_true (a.bits == own.bits) both.1)
other_is own false a e = tt

other_given : (own : Ipv4Address) (a : Option Ipv4Address) → IsOther own (other_in own a)
other_given own None = tt
other_given own (Some a) = other_is own (is_other own a) a refl

no_gaps : (own : Ipv4Address) (a b c : Option Ipv4Address) → IsOther own a → IsOther own b → IsOther own c →
    AreOthers own (without_gaps a b c)
no_gaps own (Some a) (Some b) c ia ib ic = (ia, (ib, (ic, tt)))
no_gaps own (Some a) None c ia ib ic = (ia, (ic, (tt, tt)))
no_gaps own None (Some b) c ia ib ic = (ib, (ic, (tt, tt)))
no_gaps own None None c ia ib ic = (ic, (tt, (tt, tt)))

mask_is : (t : Bool) (m : Ipv4Address) → is_mask m ≡ t → IfSome (if t then Some m else None) (λ n. is_mask n ≡ true)
mask_is true m e = e
mask_is false m e = tt

mask_given : (m : Option Ipv4Address) → IfSome (mask_of m) (λ n. is_mask n ≡ true)
mask_given None = tt
mask_given (Some m) = mask_is (is_mask m) m refl

if_made : (t : Bool) (at : ℕ) (m : DhcpRepr) (l : DhcpLease) (server : Ipv4Address) (d : ℕ) →
    is_usable m server ≡ t → m.options.server_identifier ≡ Some server → m.options.lease_duration ≡ Some d →
    (if t then Some (made at m server d) else None) ≡ Some l → IsFrom at m l
if_made false at m l server d u es ed e = absurd (cc)
if_made true at m l server d u es ed e =
    let own = m.your_ip in
    let both = and_parts _ _ u in
    let inside = and_parts _ _ both.1 in
    let list = m.options.dns_servers in
    subst (λ (x : DhcpLease). IsFrom at m x) (ap (got l) e)
    (record {
      server = es;
      address = refl;
      usable = record {
        by_host = both.0;
        host = inside.0;
        mask = mask_given m.options.subnet_mask;
        inside = not_true (is_networks own (mask_of m.options.subnet_mask)) inside.1;
        router = other_given own m.options.router;
        dns_servers = no_gaps own (other_in own (get_or list 0 None)) (other_in own (get_or list 1 None)) (other_in own (get_or list 2 None))
            (other_given own (get_or list 0 None)) (other_given own (get_or list 1 None)) (other_given own (get_or list 2 None));
      };
      end = ending at d m.options ∙ ap (end_of at) (sym ed);
    })

by_options : (at : ℕ) (m : DhcpRepr) (l : DhcpLease) (server : Option Ipv4Address) (d : Option ℕ) → m.options.server_identifier ≡ server →
    m.options.lease_duration ≡ d → lease_by at m server d ≡ Some l → IsFrom at m l
by_options at m l (Some server) (Some d) es ed e = if_made (is_usable m server) at m l server d refl es ed e
by_options at m l (Some server) None es ed e = absurd (cc)
by_options at m l None (Some d) es ed e = absurd (cc)
by_options at m l None None es ed e = absurd (cc)

from : (at : ℕ) (m : DhcpRepr) (l : DhcpLease) → lease_of at m ≡ Some l → IsFrom at m l
from at m l e = by_options at m l m.options.server_identifier m.options.lease_duration refl refl e

-- the server that was asked is the one that answers
same_server : (asked : Option Ipv4Address) (s by : Ipv4Address) → asked ≡ Some s → is_asked asked by ≡ true → s ≡ by
same_server asked s by e h =
    let bits : s.bits ≡ by.bits = eqb-true s.bits by.bits (ap (λ (x : Option Ipv4Address). is_asked x by) (sym e) ∙ h) in
    ap (λ (n : ℕ). record { bits = n }) bits

if_named : (asked named : Option Ipv4Address) (by : Ipv4Address) → is_asked asked by ≡ true → IfSome named (λ s. asked ≡ Some s) →
    IfSome named (λ s. s ≡ by)
if_named asked None by h n = tt
if_named asked (Some s) by h n = same_server asked s by n h

if_went : (asked : Option Ipv4Address) (dst by : Ipv4Address) → is_asked asked by ≡ true → (dst ≡ broadcast) ⊎ (asked ≡ Some dst) →
    (dst ≡ broadcast) ⊎ (dst ≡ by)
if_went asked dst by h (inl e) = inl e
if_went asked dst by h (inr e) = inr (same_server asked dst by e h)

agrees : (hw : EthernetAddress) (a : Asked) (c : DhcpClient) (m : DhcpRepr) (s : Sent) (l : DhcpLease) → c.hardware_addr ≡ hw →
    IsAskedBy a c.transaction_id c.phase s → c.asked ≡ Some a → is_answer m c ≡ true → is_discovering c ≡ false → m.message_type ≡ Ack →
    lease_of a.at m ≡ Some l → Agrees hw s m l
agrees hw a c m s l hardware asked ea answer phase ack e =
    let f = from a.at m l e in
    let both = and_parts _ _ answer in
    let first = and_parts _ _ both.0 in
    let asks : is_asked a.server l.server ≡ true =
    ap (λ (x : Option Ipv4Address). is_by (Some a) x) (sym f.server) ∙ ap (λ (x : Option Asked). is_by x m.options.server_identifier) (sym ea)
    ∙ both.1 in
    record {
      request = asked.request phase;
      agreement = ack;
      number = eqb-true m.transaction_id c.transaction_id first.0 ∙ asked.number;
      hardware = ap (λ (x : EthernetAddress). is_same m.client_hardware_address x) (sym hardware) ∙ first.1;
      server = f.server;
      named = if_named a.server s.message.repr.options.server_identifier l.server asks asked.named;
      went_to = if_went a.server s.message.dst l.server asks asked.went_to;
      address = f.address;
      usable = f.usable;
      end = f.end ∙ ap (λ (n : ℕ). end_of n m.options.lease_duration) asked.at;
    }

-- a lease is there before, or a message gives it
abbrev Comes : EthernetAddress → Option Sent → DhcpClient → DhcpRepr → DhcpLease → Type 0
Comes hw last c m l = (lease c ≡ Some l) ⊎ IsAgreed hw last m l

agreed : (hw : EthernetAddress) (last : Option Sent) (a : Asked) (c : DhcpClient) (m : DhcpRepr) (l : DhcpLease) → c.hardware_addr ≡ hw →
    Matches (Some a) c.transaction_id c.phase last → c.asked ≡ Some a → is_answer m c ≡ true → is_discovering c ≡ false →
    m.message_type ≡ Ack → lease_of a.at m ≡ Some l → IsAgreed hw last m l
agreed hw None a c m l hardware asked ea answer phase ack e = asked
agreed hw (Some s) a c m l hardware asked ea answer phase ack e = agrees hw a c m s l hardware asked ea answer phase ack e

module _ (hw : EthernetAddress) (last : Option Sent) (a : Asked) (c : DhcpClient) (m : DhcpRepr) (l : DhcpLease)
    (hardware : c.hardware_addr ≡ hw) (asked : Matches (Some a) c.transaction_id c.phase last) (ea : c.asked ≡ Some a)
    (answer : is_answer m c ≡ true) where
  give_usable : (t : Bool) (address server : Ipv4Address) →
      lease (if t then record c { phase = Requesting address server; asked = None; tries = 0; next_at = 0 } else c) ≡ Some l → lease c ≡ Some l
  give_usable true address server e = absurd (cc)
  give_usable false address server e = e

  give_requesting : (server : Option Ipv4Address) → lease (requesting m server c) ≡ Some l → lease c ≡ Some l
  give_requesting None e = e
  give_requesting (Some server) e = give_usable (is_usable m server) m.your_ip server e

  give_offer : (t : Bool) → lease (if t then requesting m m.options.server_identifier c else c) ≡ Some l → lease c ≡ Some l
  give_offer true e = give_requesting m.options.server_identifier e
  give_offer false e = e

  give_lease : (lo : Option DhcpLease) → is_discovering c ≡ false → m.message_type ≡ Ack → lease_of a.at m ≡ lo →
      lease (leased lo c) ≡ Some l → Comes hw last c m l
  give_lease None phase ack is e = inl e
  give_lease (Some k) phase ack is e = inr (agreed hw last a c m l hardware asked ea answer phase ack (is ∙ e))

  give_ack : (t : Bool) → is_discovering c ≡ t → m.message_type ≡ Ack → lease (if t then c else leased (lease_of a.at m) c) ≡ Some l →
      Comes hw last c m l
  give_ack true phase ack e = inl e
  give_ack false phase ack e = give_lease (lease_of a.at m) phase ack refl e

  give_nak : (t : Bool) → lease (if t then c else after_restart c) ≡ Some l → lease c ≡ Some l
  give_nak true e = e
  give_nak false e = absurd (cc)

  give_type : (type : DhcpMessageType) → m.message_type ≡ type → lease (after_type type a.at m c) ≡ Some l → Comes hw last c m l
  give_type Discover is e = inl e
  give_type Offer is e = inl (give_offer (is_discovering c) e)
  give_type Request is e = inl e
  give_type Decline is e = inl e
  give_type Ack is e = give_ack (is_discovering c) refl is e
  give_type Nak is e = inl (give_nak (is_discovering c) e)
  give_type Release is e = inl e
  give_type Inform is e = inl e

if_answers : (hw : EthernetAddress) (last : Option Sent) (a : Asked) (c : DhcpClient) (m : DhcpRepr) (l : DhcpLease) (t : Bool) →
    c.hardware_addr ≡ hw → Matches (Some a) c.transaction_id c.phase last → c.asked ≡ Some a → is_answer m c ≡ t →
    lease (if t then after_type m.message_type a.at m c else c) ≡ Some l → Comes hw last c m l
if_answers hw last a c m l true hardware asked ea answer e = give_type hw last a c m l hardware asked ea answer m.message_type refl e
if_answers hw last a c m l false hardware asked ea answer e = inl e

receives : (hw : EthernetAddress) (last : Option Sent) (o : Option Asked) (c : DhcpClient) (m : DhcpRepr) (l : DhcpLease) →
    c.hardware_addr ≡ hw → Matches o c.transaction_id c.phase last → c.asked ≡ o → lease (after_answer o m c) ≡ Some l → Comes hw last c m l
receives hw last None c m l hardware asked ea e = inl e
receives hw last (Some a) c m l hardware asked ea e = if_answers hw last a c m l (is_answer m c) hardware asked ea refl e

-- a client that begins anew has no lease
unleased : (known : Option Ipv4Address) (l : DhcpLease) → lease_in (first_phase known) ≡ Some l → ⊥
unleased None l e = cc
unleased (Some address) l e = cc

begun_unleased : (c : DhcpClient) (l : DhcpLease) → lease (after_reset c) ≡ Some l → ⊥
begun_unleased c l e = unleased (address_in c.phase) l e

-- nor one that gives its lease back
declined : (o : Option DhcpLease) (now random : ℕ) (c : DhcpClient) (l : DhcpLease) → lease c ≡ o →
    lease (declining o now (numbered_if o random c)) ≡ Some l → lease c ≡ Some l
declined None now random c l is e = e
declined (Some m) now random c l is e = absurd (cc)

left : (o : Option DhcpLease) (random : ℕ) (c : DhcpClient) (l : DhcpLease) → lease c ≡ o →
    lease (releasing o (numbered_if o random c)) ≡ Some l → lease c ≡ Some l
left None random c l is e = e
left (Some m) random c l is e = absurd (cc)

one_event : (hw : EthernetAddress) (h : History) (e : Event) (l : DhcpLease) → Known hw h.last h.client →
    lease (after e h).client ≡ Some l → (lease h.client ≡ Some l) ⊎ Gives hw h.last e l
one_event hw h (Receive m) l k e = receives hw h.last h.client.asked h.client m l k.hardware k.asked refl e
one_event hw h (Ask now random) l k e =
    let c = h.client in
    let d = after_giving_up now c in
    let there : lease d ≡ Some l = sym (same_lease (is_to_send now d) now random d) ∙ e in
    inl (kept now c l (must_give_up now c) refl there).1
one_event hw h Tell l k e = inl e
one_event hw h Reset l k e = absurd (begun_unleased h.client l e)
one_event hw h (Claim now random) l k e = inl (declined (lease h.client) now random h.client l refl e)
one_event hw h (Leave now random) l k e = inl (left (lease h.client) random h.client l refl e)

first : (hw : EthernetAddress) (known : Option Ipv4Address) → Known hw None (begun hw known).client
first hw known = record { hardware = refl; asked = tt }

pub leases_are_answered : LeasesAreAnswered
leases_are_answered hw known es e l is =
    one_event hw (after_all es (begun hw known)) e l (by_all hw es (begun hw known) (first hw known)) is
