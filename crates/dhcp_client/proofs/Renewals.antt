-- A lease is asked for again at T1 and at T2.
use Rattle.std.proofs.Common.{◌≡◌, ℕ, ◌+◌, ◌*◌, ◌<◌, ◌≤◌, ◌==◌, Bool, true, false, refl, sym, ap, subst, ◌∙◌, arith, List, [], ◌∷◌, inl, inr}
use Rattle.std.specs.Prelude.{Option, Some, None, max, min, nat_le, nat_lt, if◌then◌else◌}
use Rattle.std.specs.Option.{option_map, option_or}
use Rattle.std.proofs.lemmas.Bool.Decides.{nat_tests}
use Rattle.ip_address.specs.declared.ipv4.Ipv4Address.{Ipv4Address}
use Rattle.ip_address.specs.declared.ethernet_address.EthernetAddress.{EthernetAddress}
use Rattle.dhcp_client.specs.declared.message.DhcpRepr.{DhcpRepr}
use Rattle.dhcp_client.specs.declared.message.DhcpMessageType.{DhcpMessageType}
use Rattle.dhcp_client.specs.declared.message.DhcpMessageType.TheVariants.{Discover, Offer, Request, Decline, Ack, Nak, Release, Inform}
use Rattle.dhcp_client.specs.declared.client.Asked.{Asked}
use Rattle.dhcp_client.specs.declared.client.DhcpClient.{DhcpClient}
use Rattle.dhcp_client.specs.declared.client.DhcpPhase.{DhcpPhase}
use Rattle.dhcp_client.specs.declared.client.DhcpPhase.TheVariants.{Discovering, Requesting, Rebooting, Bound}
use Rattle.dhcp_client.specs.declared.lease.DhcpLease.{DhcpLease}
use Rattle.dhcp_client.specs.declared.lease.LeaseTimes.{LeaseTimes}
use Rattle.dhcp_client.specs.declared.messages.DhcpMessage.{DhcpMessage}
use Rattle.dhcp_client.specs.declared.options.DhcpOptions.{DhcpOptions}
use Rattle.dhcp_client.specs.Answers.{after_answer, after_type, requesting, leased}
use Rattle.dhcp_client.specs.Answers.{is_answer, is_discovering, renewed_at}
use Rattle.dhcp_client.specs.Lease.{is_usable, lease_by, lease_of, mtu_of, rebind_span, renew_span, spans_of, times_of}
use Rattle.dhcp_client.specs.Addresses.{mask_of, other_in, others_in}
use Rattle.dhcp_client.specs.Client.{lease, lease_in, address_in, first_phase, after_reset, after_restart, after_giving_up, must_give_up, is_to_send, has_come, send_in, if_ending}
use Rattle.dhcp_client.specs.Messages.{after_sending, message, message_in, message_at, next_at, half_until, numbered}
use Rattle.dhcp_client.specs.Messages.{are_rebinding, is_discover, renewal, renewal_after}
use Rattle.dhcp_client.specs.Run.{Event, Receive, Ask, Tell, Reset, Claim, Leave, Sent, History, begun, after, after_all, sent_at}
use Rattle.dhcp_client.specs.Returns.{declined_by, declining, numbered_if, released_by, releasing, with_number}
use Rattle.dhcp_client.specs.Laws.{AsksFor, IsDue, RenewalsAreInTime, RenewalsWait}

-- The instants of a client with a lease, by what it sent last.

record Timed (t : LeaseTimes) (s : Sent) (c : DhcpClient) : Type 0 where
  pub order : t.renew_at ≤ t.rebind_at
  pub waits : t.renew_at ≤ c.next_at
  pub silence : c.request_after ≡ s.at + 3000000
  pub renewed : s.at < t.renew_at → c.next_at ≤ t.renew_at
  pub rebound : s.at < t.rebind_at → c.next_at ≤ t.rebind_at

abbrev Bounds : Option LeaseTimes → Option Sent → DhcpClient → Type 0
Bounds None last c = Unit
Bounds (Some t) None c = ⊥
Bounds (Some t) (Some s) c = Timed t s c

abbrev InPhase : DhcpPhase → Option Sent → DhcpClient → Type 0
InPhase Discovering last c = Unit
InPhase (Requesting address server) last c = Unit
InPhase (Rebooting address) last c = Unit
InPhase (Bound l) last c = Bounds l.times last c

-- a request that may be answered was sent last
abbrev IsLast : Asked → Option Sent → DhcpClient → Type 0
IsLast a None c = ⊥
IsLast a (Some s) c = c.request_after ≡ s.at + 3000000

abbrev Waiting : Option Asked → DhcpPhase → Option Sent → DhcpClient → Type 0
Waiting None p last c = Unit
Waiting (Some a) p last c = is_discover p ≡ false → IsLast a last c

record Kept (last : Option Sent) (c : DhcpClient) : Type 0 where
  pub asked : Waiting c.asked c.phase last c
  pub phase : InPhase c.phase last c

-- T1 isn't behind T2.

sorted : (t : Bool) (d renew rebind : ℕ) (x : ℕ × ℕ) → nat_lt renew rebind ≡ t →
    x ≡ (if t then (renew, rebind) else (d * 500000, d * 875000)) → x.0 ≤ x.1
sorted true d renew rebind x h e =
    let one : x.0 ≡ renew = ap (λ (p : ℕ × ℕ). p.0) e in
    let two : x.1 ≡ rebind = ap (λ (p : ℕ × ℕ). p.1) e in
    let less : renew < rebind = grind (arith, nat_tests, h) in
    omega (arith, one, two, less)
sorted false d renew rebind x h e =
    let one : x.0 ≡ d * 500000 = ap (λ (p : ℕ × ℕ). p.0) e in
    let two : x.1 ≡ d * 875000 = ap (λ (p : ℕ × ℕ). p.1) e in
    omega (arith, one, two)

spans_sorted : (d : ℕ) (renew rebind : Option ℕ) → (spans_of d renew rebind).0 ≤ (spans_of d renew rebind).1
spans_sorted d renew rebind =
    let two = rebind_span d rebind in
    let one = renew_span d renew two in
    sorted (nat_lt one two) d one two (spans_of d renew rebind) refl refl

abbrev Sorted : Option LeaseTimes → Type 0
Sorted None = Unit
Sorted (Some t) = t.renew_at ≤ t.rebind_at

if_endless : (b : Bool) (renew rebind end : ℕ) → renew ≤ rebind →
    Sorted (if b then None else Some (record { renew_at = renew; rebind_at = rebind; expires_at = end }))
if_endless true renew rebind end h = tt
if_endless false renew rebind end h = h

times_sorted : (at d : ℕ) (o : DhcpOptions) → Sorted (times_of at d o)
times_sorted at d o =
    let spans = spans_of d o.renew_duration o.rebind_duration in
    let le : spans.0 ≤ spans.1 = spans_sorted d o.renew_duration o.rebind_duration in
    if_endless (d == 0xffff_ffff) (at + spans.0) (at + spans.1) (at + d * 1000000) (omega (arith, le))

abbrev made : ℕ → DhcpRepr → Ipv4Address → ℕ → DhcpLease
made at m server d = record {
  address = m.your_ip;
  subnet_mask = mask_of m.options.subnet_mask;
  router = other_in m.your_ip m.options.router;
  dns_servers = others_in m.your_ip m.options.dns_servers;
  mtu = mtu_of m.options.mtu;
  server = server;
  times = times_of at d m.options;
}

abbrev got : DhcpLease → Option DhcpLease → DhcpLease
got d None = d
got d (Some l) = l

if_made : (b : Bool) (at : ℕ) (m : DhcpRepr) (server : Ipv4Address) (d : ℕ) (l : DhcpLease) →
    (if b then Some (made at m server d) else None) ≡ Some l → Sorted l.times
if_made false at m server d l e = absurd (cc)
if_made true at m server d l e = subst (λ (x : DhcpLease). Sorted x.times) (ap (got l) e) (times_sorted at d m.options)

by_options : (at : ℕ) (m : DhcpRepr) (server : Option Ipv4Address) (d : Option ℕ) (l : DhcpLease) → lease_by at m server d ≡ Some l →
    Sorted l.times
by_options at m (Some server) (Some d) l e = if_made (is_usable m server) at m server d l e
by_options at m (Some server) None l e = absurd (cc)
by_options at m None (Some d) l e = absurd (cc)
by_options at m None None l e = absurd (cc)

lease_sorted : (at : ℕ) (m : DhcpRepr) (l : DhcpLease) → lease_of at m ≡ Some l → Sorted l.times
lease_sorted at m l e = by_options at m m.options.server_identifier m.options.lease_duration l e

-- What messages change.

begins : (a : Asked) (c : DhcpClient) (l : DhcpLease) (times : Option LeaseTimes) (last : Option Sent) → Sorted times → IsLast a last c →
    Bounds times last (record c { phase = Bound l; asked = None; tries = 0; next_at = renewed_at times; has_changed = true })
begins a c l None last sorted is = tt
begins a c l (Some t) None sorted is = absurd is
begins a c l (Some t) (Some s) sorted is = record {
  order = sorted;
  waits = omega arith;
  silence = is;
  renewed = λ lt. omega arith;
  rebound = λ lt. sorted;
}

module _ (last : Option Sent) where
  by_reset : (b : Bool) (c : DhcpClient) → Kept last c → Kept last (if b then after_restart c else c)
  by_reset true c k = record { asked = tt; phase = tt }
  by_reset false c k = k

  if_usable : (b : Bool) (address server : Ipv4Address) (c : DhcpClient) → Kept last c →
      Kept last (if b then record c { phase = Requesting address server; asked = None; tries = 0; next_at = 0 } else c)
  if_usable true address server c k = record { asked = tt; phase = tt }
  if_usable false address server c k = k

  by_requesting : (m : DhcpRepr) (server : Option Ipv4Address) (c : DhcpClient) → Kept last c → Kept last (requesting m server c)
  by_requesting m None c k = k
  by_requesting m (Some server) c k = if_usable (is_usable m server) m.your_ip server c k

  by_offer : (b : Bool) (m : DhcpRepr) (c : DhcpClient) → Kept last c →
      Kept last (if b then requesting m m.options.server_identifier c else c)
  by_offer true m c k = by_requesting m m.options.server_identifier c k
  by_offer false m c k = k

  by_lease : (a : Asked) (m : DhcpRepr) (l : Option DhcpLease) (c : DhcpClient) → Kept last c → IsLast a last c → lease_of a.at m ≡ l →
      Kept last (leased l c)
  by_lease a m None c k is e = k
  by_lease a m (Some l) c k is e = record { asked = tt; phase = begins a c l l.times last (lease_sorted a.at m l e) is }

  by_ack : (b : Bool) (a : Asked) (m : DhcpRepr) (c : DhcpClient) → Kept last c → c.asked ≡ Some a → is_discovering c ≡ b →
      Kept last (if b then c else leased (lease_of a.at m) c)
  by_ack true a m c k ea is = k
  by_ack false a m c k ea is =
      let waiting : Waiting (Some a) c.phase last c = subst (λ (o : Option Asked). Waiting o c.phase last c) ea k.asked in
      by_lease a m (lease_of a.at m) c k (waiting is) refl

  by_nak : (b : Bool) (c : DhcpClient) → Kept last c → Kept last (if b then c else after_restart c)
  by_nak true c k = k
  by_nak false c k = record { asked = tt; phase = tt }

  by_type : (type : DhcpMessageType) (a : Asked) (m : DhcpRepr) (c : DhcpClient) → Kept last c → c.asked ≡ Some a →
      Kept last (after_type type a.at m c)
  by_type Discover a m c k ea = k
  by_type Offer a m c k ea = by_offer (is_discovering c) m c k
  by_type Request a m c k ea = k
  by_type Decline a m c k ea = k
  by_type Ack a m c k ea = by_ack (is_discovering c) a m c k ea refl
  by_type Nak a m c k ea = by_nak (is_discovering c) c k
  by_type Release a m c k ea = k
  by_type Inform a m c k ea = k

  if_answer : (b : Bool) (a : Asked) (m : DhcpRepr) (c : DhcpClient) → Kept last c → c.asked ≡ Some a →
      Kept last (if b then after_type m.message_type a.at m c else c)
  if_answer true a m c k ea = by_type m.message_type a m c k ea
  if_answer false a m c k ea = k

  by_answer : (o : Option Asked) (m : DhcpRepr) (c : DhcpClient) → Kept last c → c.asked ≡ o → Kept last (after_answer o m c)
  by_answer None m c k ea = k
  by_answer (Some a) m c k ea = if_answer (is_answer m c) a m c k ea

-- What is sent.

sent_silence : (b : Bool) (now before : ℕ) → b ≡ false → (if b then before else now + 3000000) ≡ now + 3000000
sent_silence true now before e = absurd (cc)
sent_silence false now before e = refl

next_waits : (b : Bool) (now renew rebind end : ℕ) → renew ≤ rebind → renew ≤ now →
    renew ≤ (if b then now + half_until now end else min rebind (now + half_until now rebind))
next_waits true now renew rebind end order h = omega (arith, h)
next_waits false now renew rebind end order h = omega (arith, order, h)

next_rebinds : (b : Bool) (now rebind end : ℕ) → nat_le rebind now ≡ b → now < rebind →
    (if b then now + half_until now end else min rebind (now + half_until now rebind)) ≤ rebind
next_rebinds true now rebind end e h = absurd (grind (arith, nat_tests, e, h))
next_rebinds false now rebind end e h = omega arith

-- the lease was asked for, at its time
sent_times : (times : Option LeaseTimes) (last : Option Sent) (now random : ℕ) (d : DhcpClient) (l : DhcpLease) (m : DhcpMessage) →
    d.phase ≡ Bound l → l.times ≡ times → Bounds times last d → has_come now (if_ending times (max d.next_at d.request_after)) ≡ true →
    Bounds times (Some (record { at = now; message = m }))
    (record d { next_at = renewal_after now times; request_after = now + 3000000 })
sent_times None last now random d l m e et k h = tt
sent_times (Some t) None now random d l m e et k h = absurd k
sent_times (Some t) (Some s) now random d l m e et k h =
    let passed : d.next_at ≤ now = grind (arith, nat_tests, h) in
    let order : t.renew_at ≤ t.rebind_at = k.order in
    let waits : t.renew_at ≤ d.next_at = k.waits in
    let due : t.renew_at ≤ now = omega (arith, passed, waits) in
    record {
      order = order;
      waits = next_waits (nat_le t.rebind_at now) now t.renew_at t.rebind_at t.expires_at order due;
      silence = refl;
      renewed = λ lt. absurd (omega (arith, lt, due));
      rebound = λ lt. next_rebinds (nat_le t.rebind_at now) now t.rebind_at t.expires_at refl lt;
    }

-- the same, with the number that the exchange has
sent_phase : (p : DhcpPhase) (last : Option Sent) (now random id : ℕ) (d : DhcpClient) (m : DhcpMessage) → d.phase ≡ p → InPhase p last d →
    has_come now (send_in p d) ≡ true →
    InPhase p (Some (record { at = now; message = m })) (after_sending now random (record d { transaction_id = id }))
sent_phase Discovering last now random id d m e k h = tt
sent_phase (Requesting address server) last now random id d m e k h = tt
sent_phase (Rebooting address) last now random id d m e k h = tt
sent_phase (Bound l) last now random id d m e k h = of l.times refl (sent_times l.times last now random d l m e refl k h) where
  of : (times : Option LeaseTimes) → l.times ≡ times → Bounds times (Some (record { at = now; message = m }))
      (record d { next_at = renewal_after now times; request_after = now + 3000000 }) →
      Bounds times (Some (record { at = now; message = m })) (after_sending now random (record d { transaction_id = id }))
  of None et b = tt
  of (Some t) et b =
      let next : (after_sending now random (record d { transaction_id = id })).next_at ≡ renewal_after now (Some t) =
      ap (λ (p : DhcpPhase). next_at now random d.tries p) e ∙ ap (λ (o : Option LeaseTimes). renewal_after now o) et in
      let silence : (after_sending now random (record d { transaction_id = id })).request_after ≡ now + 3000000 =
      ap (λ (p : DhcpPhase). if is_discover p then d.request_after else now + 3000000) e in
      let order = b.order in
      let waits = b.waits in
      let renewed = b.renewed in
      let rebound = b.rebound in
      record {
        order = order;
        waits = subst (λ (n : ℕ). t.renew_at ≤ n) (sym next) waits;
        silence = silence;
        renewed = λ lt. subst (λ (n : ℕ). n ≤ t.renew_at) (sym next) (renewed lt);
        rebound = λ lt. subst (λ (n : ℕ). n ≤ t.rebind_at) (sym next) (rebound lt);
      }

by_sending : (b : Bool) (last : Option Sent) (now random : ℕ) (d : DhcpClient) → is_to_send now d ≡ b → Kept last d →
    Kept
    (option_or (option_map (λ m. record { at = now; message = m }) (if b then Some (message now (numbered random d)) else None)) last)
    (if b then after_sending now random (numbered random d) else d)
by_sending true last now random d h k =
    let e = numbered random d in
    record {
      asked = λ not_discover. sent_silence (is_discover d.phase) now d.request_after not_discover;
      phase = sent_phase d.phase last now random e.transaction_id d (message now e) refl k.phase h;
    }
by_sending false last now random d h k = k

told : (last : Option Sent) (c : DhcpClient) → Kept last c → Kept last (record c { has_changed = false })
told last c k = record { asked = waiting c.asked k.asked; phase = phase c.phase k.phase } where
  lasting : (a : Asked) (last : Option Sent) → IsLast a last c → IsLast a last (record c { has_changed = false })
  lasting a None i = absurd i
  lasting a (Some s) i = i

  waiting : (o : Option Asked) → Waiting o c.phase last c → Waiting o c.phase last (record c { has_changed = false })
  waiting None i = tt
  waiting (Some a) i = λ e. lasting a last (i e)

  times : (t : Option LeaseTimes) (last : Option Sent) → Bounds t last c → Bounds t last (record c { has_changed = false })
  times None last i = tt
  times (Some t) None i = absurd i
  times (Some t) (Some s) i = record { order = i.order; waits = i.waits; silence = i.silence; renewed = i.renewed; rebound = i.rebound }

  phase : (p : DhcpPhase) → InPhase p last c → InPhase p last (record c { has_changed = false })
  phase Discovering i = tt
  phase (Requesting address server) i = tt
  phase (Rebooting address) i = tt
  phase (Bound l) i = times l.times last i

-- a client that begins anew has no lease, so nothing is asked of its times
begun_in : (known : Option Ipv4Address) (last : Option Sent) (c : DhcpClient) → InPhase (first_phase known) last c
begun_in None last c = tt
begun_in (Some address) last c = tt

by_declining : (last : Option Sent) (l : Option DhcpLease) (now random : ℕ) (c : DhcpClient) → Kept last c →
    Kept (option_or (sent_at now (declined_by l (with_number random c))) last) (declining l now (numbered_if l random c))
by_declining last None now random c k = k
by_declining last (Some l) now random c k = record { asked = tt; phase = tt }

by_releasing : (last : Option Sent) (l : Option DhcpLease) (now random : ℕ) (c : DhcpClient) → Kept last c →
    Kept (option_or (sent_at now (released_by l (with_number random c))) last) (releasing l (numbered_if l random c))
by_releasing last None now random c k = k
by_releasing last (Some l) now random c k = record { asked = tt; phase = tt }

by_event : (e : Event) (h : History) → Kept h.last h.client → Kept (after e h).last (after e h).client
by_event (Receive m) h k = by_answer h.last h.client.asked m h.client k refl
by_event (Ask now random) h k =
    let d = after_giving_up now h.client in
    by_sending (is_to_send now d) h.last now random d refl (by_reset h.last (must_give_up now h.client) h.client k)
by_event Tell h k = told h.last h.client k
by_event Reset h k = record { asked = tt; phase = begun_in (address_in h.client.phase) h.last (after_reset h.client) }
by_event (Claim now random) h k = by_declining h.last (lease h.client) now random h.client k
by_event (Leave now random) h k = by_releasing h.last (lease h.client) now random h.client k

by_all : (es : List Event) (h : History) → Kept h.last h.client → Kept (after_all es h).last (after_all es h).client
by_all [] h k = k
by_all (e ∷ es) h k = by_all es (after e h) (by_event e h k)

first : (hw : EthernetAddress) (known : Option Ipv4Address) → Kept None (begun hw known).client
first hw None = record { asked = tt; phase = tt }
first hw (Some a) = record { asked = tt; phase = tt }

-- A client with a lease that has not ended.

in_phase : (p : DhcpPhase) (l : DhcpLease) → lease_in p ≡ Some l → p ≡ Bound l
in_phase Discovering l e = absurd (cc)
in_phase (Requesting address server) l e = absurd (cc)
in_phase (Rebooting address) l e = absurd (cc)
in_phase (Bound m) l e = ap (λ (x : DhcpLease). Bound x) (ap (got m) e)

module _ (now random : ℕ) (c : DhcpClient) (l : DhcpLease) (t : LeaseTimes) (e : c.phase ≡ Bound l) (et : l.times ≡ Some t)
    (before : now < t.expires_at) where
  stays : must_give_up now c ≡ false
  stays = rw (e, et) (grind (arith, nat_tests, before))

  is_same : after_giving_up now c ≡ c
  is_same = rw stays refl

  sends : max c.next_at c.request_after ≤ now → is_to_send now c ≡ true
  sends h = rw (e, et) (grind (arith, nat_tests, h))

  silent : now < c.next_at → is_to_send now c ≡ false
  silent h = rw (e, et) (grind (arith, nat_tests, h))

  as_before : message_at now random c ≡ (if is_to_send now c then Some (message now (numbered random c)) else None)
  as_before = ap (λ (x : DhcpClient). if is_to_send now x then Some (message now (numbered random x)) else None) is_same

  asks : max c.next_at c.request_after ≤ now → AsksFor now l t (message_at now random c)
  asks h =
      let n = numbered random c in
      let sent : message_at now random c ≡ Some (renewal (nat_le t.rebind_at now) l n) =
      as_before ∙ ap (λ (b : Bool). if b then Some (message now n) else None) (sends h)
      ∙ ap (λ (p : DhcpPhase). Some (message_in p now n)) e ∙ ap (λ (o : Option LeaseTimes). Some (renewal (are_rebinding now o) l n)) et in
      subst (AsksFor now l t) (sym sent) (refl, refl, refl)

  says_nothing : now < c.next_at → message_at now random c ≡ None
  says_nothing h = as_before ∙ ap (λ (b : Bool). if b then Some (message now (numbered random c)) else None) (silent h)

timed : (c : DhcpClient) (last : Option Sent) (l : DhcpLease) (t : LeaseTimes) (s : Sent) → c.phase ≡ Bound l → l.times ≡ Some t →
    last ≡ Some s → Kept last c → Timed t s c
timed c last l t s e et es k =
    let of_phase : InPhase (Bound l) last c = subst (λ (p : DhcpPhase). InPhase p last c) e k.phase in
    let of_times : Bounds (Some t) last c = subst (λ (o : Option LeaseTimes). Bounds o last c) et of_phase in
    subst (λ (o : Option Sent). Bounds (Some t) o c) es of_times

pub renewals_are_in_time : RenewalsAreInTime
renewals_are_in_time hw known es now random due l t s el et last is_due before come quiet end =
    let h = after_all es (begun hw known) in
    let e = in_phase h.client.phase l el in
    let k = timed h.client h.last l t s e et last (by_all es (begun hw known) (first hw known)) in
    asks now random h.client l t e et end (of h.client k is_due) where
      of : (c : DhcpClient) → Timed t s c → IsDue t due → max c.next_at c.request_after ≤ now
      of c k (inl is) =
          let silence = k.silence in
          let next : c.next_at ≤ t.renew_at = k.renewed (omega (arith, is, before)) in
          omega (arith, silence, next, is, come, quiet)
      of c k (inr is) =
          let silence = k.silence in
          let next : c.next_at ≤ t.rebind_at = k.rebound (omega (arith, is, before)) in
          omega (arith, silence, next, is, come, quiet)

pub renewals_wait : RenewalsWait
renewals_wait hw known es now random l t el et early end =
    let h = after_all es (begun hw known) in
    let e = in_phase h.client.phase l el in
    let kept = by_all es (begun hw known) (first hw known) in
    let of_phase : InPhase (Bound l) h.last h.client = subst (λ (p : DhcpPhase). InPhase p h.last h.client) e kept.phase in
    let of_times : Bounds (Some t) h.last h.client = subst (λ (o : Option LeaseTimes). Bounds o h.last h.client) et of_phase in
    let waits : t.renew_at ≤ h.client.next_at = bounded h.client h.last of_times in
    says_nothing now random h.client l t e et end (omega (arith, waits, early)) where
      bounded : (c : DhcpClient) (last : Option Sent) → Bounds (Some t) last c → t.renew_at ≤ c.next_at
      bounded c None k = absurd k
      bounded c (Some s) k = k.waits
