-- What was sent is read as it was.
use Rattle.std.proofs.Common.{◌≡◌, ◌∙◌, ℕ, ◌/◌, ◌%◌, ◌<◌, ◌≤◌, ◌^◌, Bool, true, false, List, [], ◌∷◌, length, Option, Some, None, inl, inr}
use Rattle.std.proofs.Common.{refl, sym, ap, subst, arith, min, cond}
use Rattle.std.specs.Prelude.{nat_le, ◌==◌, ◌&&◌, ◌⊎◌, if◌then◌else◌, slice_index}
use Rattle.std.specs.List.{Contains, filter_map}
use Rattle.std.proofs.lemmas.Bool.{false≢true}
use Rattle.std.proofs.lemmas.Bool.Decides.{nat_tests}
use Rattle.std.proofs.lemmas.List.Elements.{Contains-push_cases}
use Rattle.ip_address.specs.declared.ip.IpAddress.{IpAddress}
use Rattle.ip_address.specs.declared.ip.IpAddress.TheVariants as address
use Rattle.ip_address.specs.declared.protocol.IpVersion.{IpVersion}
use Rattle.ip_address.specs.declared.protocol.IpVersion.TheVariants.{Ipv4, Ipv6}
use Rattle.ip_wire.specs.Ipv4Packet as ipv4
use Rattle.sockets.specs.Raw.{Sent as Packet, packet_in, is_ipv4, is_ipv6}
use Rattle.tcp_machine.specs.Connection.{Connection}
use Rattle.tcp_machine.specs.Segments as machine
use Rattle.tcp_machine.specs.Segments.{Options}
use Rattle.tcp_machine.specs.Outgoing.{Action, SendReset, SendSyn, SendNext, SendAgain, SendProbe, SendKeepAlive, SendAck}
use Rattle.tcp_machine.specs.Outgoing.{Outgoing, action, is_syn_sent}
use Rattle.tcp_connection.specs.declared.outgoing.Header.{Header}
use Rattle.tcp_connection.specs.Actions.{header_of}
use Rattle.tcp_connection.specs.Segments.{segment_of}
use Rattle.tcp_host.specs.declared.iss.Endpoints.{Endpoints}
use Rattle.tcp_host.specs.Host.{no_settings}
use Rattle.tcp_sockets.specs.Reading.{ReadOptions, AreEnds, FitFields, SaysOne, Fits, IsReset, reversed}
use Rattle.tcp_sockets.specs.Arrivals.{Arrived}
use Rattle.tcp_sockets.specs.Packets.{Segment, packet_text, reset_between, is_one_family}
use Rattle.tcp_sockets.specs.Sending.{version_of, is_packet}
use Rattle.tcp_sockets.proofs.AgainLemmas.{segments_are_read_again}
use Rattle.tcp_sockets.proofs.ResetLemmas.{resets_are_read_again}
use Rattle.tcp_laws.specs.Machines.{Sent, Side, unopened, sent_as, arrived}
use Rattle.tcp_laws.specs.Machines.{Act, Opens, Accepts, Writes, Reads, Closes, Aborts, Chooses, Fits as Shortens, Fails, Gets, Expires, Sends, after_sending, after_act}
use Rattle.tcp_host_laws.specs.Lives.{Life, after_acts, side_of}
use Rattle.tcp_host_laws.specs.Turns.{WasSent, InLife, InNone, IsSegmentOf}
use Rattle.tcp_host_laws.specs.Readings.{OfLife, OfAnyone, IsReadAsSent, WhatWasSentIsRead}

-- what a connection sends fits the fields of a header, but for the number of a reset
record IsSendable (k : Outgoing) : Type 0 where
  fields : k.rst ≡ false → FitFields (header_of k)
  says_one : SaysOne (header_of k)

in_window : (n : ℕ) → min 65535 n < 2 ^ 16
in_window n = omega arith

in_numbers : (n : ℕ) → n % 2 ^ 32 < 2 ^ 32
in_numbers n = omega arith

acknowledged : (a n : ℕ) → Some (a % 2 ^ 32) ≡ Some n → n < 2 ^ 32
acknowledged a n e = let is : a % 2 ^ 32 ≡ n = cc in omega (arith, is)

acknowledged_if : (b : Bool) (a n : ℕ) → (if b then None else Some (a % 2 ^ 32)) ≡ Some n → n < 2 ^ 32
acknowledged_if true a n e = absurd cc
acknowledged_if false a n e = acknowledged a n e

sendable : (m : Action) (c : Connection) → IsSendable (sent_as m c).segment
sendable (SendReset number) c =
    record { fields = λ e. absurd cc; says_one = record { no_end = λ e. refl; no_reset = λ e. absurd cc } }
sendable SendSyn c = record {
  fields = λ e. record {
    number = in_numbers _;
    ack = λ n is. acknowledged_if (is_syn_sent c.state) _ n is;
    window = in_window _;
  };
  says_one = record { no_end = λ e. refl; no_reset = λ e. refl };
}
sendable (SendNext p) c = record {
  fields = λ e. record { number = in_numbers _; ack = λ n is. acknowledged _ n is; window = in_window _ };
  says_one = record { no_end = λ e. absurd cc; no_reset = λ e. refl };
}
sendable (SendAgain p) c = record {
  fields = λ e. record { number = in_numbers _; ack = λ n is. acknowledged _ n is; window = in_window _ };
  says_one = record { no_end = λ e. absurd cc; no_reset = λ e. refl };
}
sendable (SendProbe p) c = record {
  fields = λ e. record { number = in_numbers _; ack = λ n is. acknowledged _ n is; window = in_window _ };
  says_one = record { no_end = λ e. absurd cc; no_reset = λ e. refl };
}
sendable SendKeepAlive c = record {
  fields = λ e. record { number = in_numbers _; ack = λ n is. acknowledged _ n is; window = in_window _ };
  says_one = record { no_end = λ e. refl; no_reset = λ e. refl };
}
sendable SendAck c = record {
  fields = λ e. record { number = in_numbers _; ack = λ n is. acknowledged _ n is; window = in_window _ };
  says_one = record { no_end = λ e. refl; no_reset = λ e. refl };
}

-- so does all that was sent in a life
abbrev AllSendable : Side → Type 0
AllSendable x = (k : Sent) → Contains x.sent k → IsSendable k.segment

one_more_sendable : (m : Action) (x : Side) → AllSendable x → (k : Sent) → Contains x.sent k ⊎ (sent_as m x.connection ≡ k) → IsSendable k.segment
one_more_sendable m x all k (inl c) = all k c
one_more_sendable m x all k (inr e) = subst (λ (j : Sent). IsSendable j.segment) e (sendable m x.connection)

after_sending_sendable : (now : ℕ) (o : Option Action) (x : Side) → AllSendable x → AllSendable (after_sending now o x)
after_sending_sendable now None x all = all
after_sending_sendable now (Some m) x all =
    λ k c. one_more_sendable m x all k (Contains-push_cases x.sent (sent_as m x.connection) k c)

act_sendable : (number : ℕ) (act : Act) (x : Side) → AllSendable x → AllSendable (after_act number act x)
act_sendable number (Opens now mss settings) x all = all
act_sendable number (Accepts now default link settings j options) x all = all
act_sendable number (Writes octets) x all = all
act_sendable number (Reads count) x all = all
act_sendable number Closes x all = all
act_sendable number Aborts x all = all
act_sendable number (Chooses settings) x all = all
act_sendable number (Shortens size) x all = all
act_sendable number Fails x all = all
act_sendable number (Gets default link now keeps j options) x all = all
act_sendable number (Expires now) x all = all
act_sendable number (Sends now) x all = after_sending_sendable now (action now x.connection) x all

acts_sendable : (number : ℕ) (acts : List Act) (x : Side) → AllSendable x → AllSendable (after_acts number acts x)
acts_sendable number [] x all = all
acts_sendable number (act ∷ acts) x all = acts_sendable number acts (after_act number act x) (act_sendable number act x all)

life_sendable : (l : Life) → AllSendable (side_of l)
life_sendable l = acts_sendable l.number l.acts (unopened l.room l.size no_settings) (λ k c. absurd (omega (arith, c.1)))

-- octets are a packet of one version at most
no_both : (l v h t u : ℕ) → nat_le 20 l && (v == 4) && nat_le 20 h && nat_le h t && nat_le t l ≡ true →
    nat_le 40 l && (v == 6) && nat_le u l ≡ true → ⊥
no_both l v h t u a b = grind (arith, nat_tests)

some_by : {X : Type 0} (b : Bool) (x y : X) → cond b (Some x) None ≡ Some y → b ≡ true
some_by true x y e = refl
some_by false x y e = absurd cc

not_both : (octets : List ℕ) (p q : Packet) → packet_in Ipv4 octets ≡ Some p → packet_in Ipv6 octets ≡ Some q → ⊥
not_both octets p q a b =
    no_both (length octets) (slice_index octets 0 / 16) (ipv4.header_len octets) (ipv4.total_len octets) _
    (some_by (is_ipv4 octets) _ p a) (some_by (is_ipv6 octets) _ q b)

pub record IsOne (v w : IpVersion) (p q : Packet) : Type 0 where
  pub version : v ≡ w
  pub packet : p ≡ q

same_packet : (o : Option Packet) (p q : Packet) → o ≡ Some p → o ≡ Some q → p ≡ q
same_packet o p q a b = cc

pub is_one : (octets : List ℕ) (v w : IpVersion) (p q : Packet) → packet_in v octets ≡ Some p → packet_in w octets ≡ Some q → IsOne v w p q
is_one octets Ipv4 Ipv4 p q a b = record { version = refl; packet = same_packet (packet_in Ipv4 octets) p q a b }
is_one octets Ipv4 Ipv6 p q a b = absurd (not_both octets p q a b)
is_one octets Ipv6 Ipv4 p q a b = absurd (not_both octets q p b a)
is_one octets Ipv6 Ipv6 p q a b = record { version = refl; packet = same_packet (packet_in Ipv6 octets) p q a b }

-- a packet can carry it
record IsCarried (s : Segment) : Type 0 where
  version : IpVersion
  family : version_of s.endpoints.local_addr s.endpoints.remote_addr ≡ Some version
  octets : length s.octets ≤ 65455

few_octets : (n : ℕ) (b : Bool) → nat_le n 65455 && b ≡ true → n ≤ 65455
few_octets n b e = grind (arith, nat_tests)

of_family : (n : ℕ) (b : Bool) → nat_le n 65455 && b ≡ true → b ≡ true
of_family n true e = refl
of_family n false e = grind (arith, nat_tests)

one_version : (a b : IpAddress) → is_one_family a b ≡ true → (v : IpVersion) × (version_of a b ≡ Some v)
one_version (address.Ipv4 a) (address.Ipv4 b) e = (Ipv4, refl)
one_version (address.Ipv4 a) (address.Ipv6 b) e = absurd cc
one_version (address.Ipv6 a) (address.Ipv4 b) e = absurd cc
one_version (address.Ipv6 a) (address.Ipv6 b) e = (Ipv6, refl)

carried : (s : Segment) → is_packet s ≡ true → IsCarried s
carried s e =
    let n = length s.octets in
    let one = is_one_family s.endpoints.local_addr s.endpoints.remote_addr in
    let v = one_version s.endpoints.local_addr s.endpoints.remote_addr (of_family n one e) in
    record { version = v.0; family = v.1; octets = few_octets n one e }

-- the options that are read, as a connection has them
abbrev options_read : ReadOptions → Options
options_read o = record { mss = o.mss; scale = o.scale; sack_permitted = o.sack_permitted; blocks = filter_map (λ b. b) o.blocks }

-- a segment is the one that was sent
made : (h : Header) (octets : List ℕ) (k : Outgoing) (o : ReadOptions) → h ≡ header_of k → octets ≡ k.octets →
    ◌≡◌ {A = machine.Segment} (record {
      number = h.number;
      ack = h.ack;
      window = h.window;
      syn = h.syn;
      fin = h.fin;
      rst = h.rst;
      octets = octets;
      options = options_read o;
    }) (arrived k (options_read o))
made h octets k o eh eo = rw (eh, eo) refl

-- a reset is no SYN
no_syn_by : (syn rst : Bool) → (syn ≡ true → rst ≡ false) → rst ≡ true → syn ≡ false
no_syn_by true rst never is = absurd (false≢true (sym (never refl) ∙ is))
no_syn_by false rst never is = refl

module _ (ls : List Life) (octets : List ℕ) (version : IpVersion) (p : Packet) (read : packet_in version octets ≡ Some p) where
  -- it is a reset
  resets : (s : Segment) → IsReset s → is_packet s ≡ true → octets ≡ packet_text true s → IsReadAsSent ls version p
  resets s r fits text =
      let c = carried s fits in
      let a = resets_are_read_again s c.version r c.family in
      let one = is_one octets version c.version p a.0 read (ap (λ (os : List ℕ). packet_in c.version os) text ∙ a.1.queued) in
      subst (λ (q : Packet). IsReadAsSent ls version q) (sym one.packet)
      (subst (λ (v : IpVersion). IsReadAsSent ls v a.0) (sym one.version)
      (record { brings = OfAnyone a.1.resets; stored = a.1.stored }))

  -- or it is one that fits
  fitting : (l : Life) (k : Sent) (s : Segment) → Contains ls l → Contains (side_of l).sent k → IsSegmentOf l.ends k s → Fits s →
      is_packet s ≡ true → octets ≡ packet_text true s → IsReadAsSent ls version p
  fitting l k s there sent is fit fits text =
      let c = carried s fits in
      let a = segments_are_read_again s c.version fit c.family in
      let one = is_one octets version c.version p a.0 read (ap (λ (os : List ℕ). packet_in c.version os) text ∙ a.1.queued) in
      let o = a.1.options in
      subst (λ (q : Packet). IsReadAsSent ls version q) (sym one.packet)
      (subst (λ (v : IpVersion). IsReadAsSent ls v a.0) (sym one.version) (record {
        brings = OfLife l there (record {
          one = k;
          options = options_read o;
          was_sent = sent;
          ends = ap (λ (x : Arrived). x.endpoints) a.1.arrives ∙ ap (λ (e : Endpoints). reversed e) is.ends;
          is = ap (λ (x : Arrived). segment_of x.segment x.octets) a.1.arrives ∙ made s.header s.octets k.segment o is.header is.octets;
        });
        stored = a.1.stored;
      }))

  in_life : (l : Life) (k : Sent) (s : Segment) → Contains ls l → Contains (side_of l).sent k → IsSegmentOf l.ends k s → AreEnds l.ends →
      is_packet s ≡ true → octets ≡ packet_text true s → (b : Bool) → k.segment.rst ≡ b → IsReadAsSent ls version p
  in_life l k s there sent is ends fits text true reset =
      let one = (life_sendable l k sent).says_one in
      resets s (record {
        rst = ap (λ (h : Header). h.rst) is.header ∙ reset;
        no_syn = ap (λ (h : Header). h.syn) is.header ∙ no_syn_by k.segment.syn k.segment.rst one.no_reset reset;
        octets = (carried s fits).octets;
      }) fits text
  in_life l k s there sent is ends fits text false reset =
      let good = life_sendable l k sent in
      fitting l k s there sent is (record {
        ends = subst (λ (e : Endpoints). AreEnds e) (sym is.ends) ends;
        fields = subst (λ (h : Header). FitFields h) (sym is.header) (good.fields reset);
        says_one = subst (λ (h : Header). SaysOne h) (sym is.header) good.says_one;
        octets = (carried s fits).octets;
      }) fits text

  sent_is_read : ((l : Life) → Contains ls l → AreEnds l.ends) → WasSent true ls octets → IsReadAsSent ls version p
  sent_is_read ends (InLife l k s there sent is fits text) = in_life l k s there sent is (ends l there) fits text k.segment.rst refl
  sent_is_read ends (InNone e r fits text) =
      resets (reset_between e r) (record { rst = refl; no_syn = refl; octets = omega arith }) fits text

pub what_was_sent_is_read : WhatWasSentIsRead
what_was_sent_is_read ls octets version p ends sent read = sent_is_read ls octets version p read ends sent
