-- The turned frames, by the rule that drops each.
use Rattle.std.proofs.Common.{◌≡◌, ℕ, List, [], ◌∷◌, refl, sym, ◌∙◌, ap, subst, inl, None, lit≤, arith}
use Rattle.std.proofs.lemmas.List.Elements.{All-nil, All-cons}
use Rattle.std.specs.Prelude.{pos}
use Rattle.std.specs.FinMap as map
use Rattle.net_base.specs.Device.{Frame}
use Rattle.ip_wire.specs.Checksum.{word_sum}
use Rattle.ip_wire.specs.Pseudo.{pseudo}
use Rattle.ip_wire.specs.Tcp.{control_of}
use Rattle.ip_wire.specs.Ipv6Packet.{address_at}
use Rattle.control_wire.specs.Icmpv6.{Neighbor as Message}
use Rattle.control_wire.specs.NdiscOption.{IsOption, last_of, options_from}
use Rattle.control_wire.specs.Icmpv4.{Reply as EchoReplied}
use Rattle.fragmentation.specs.Slots.{held_at}
use Rattle.host_machine.specs.Context.Host.{Host, with_slots, without_expired}
use Rattle.host_machine.specs.Receive.Reply.{IsDropped}
use Rattle.host_machine.specs.Interface.Ingress.{Takes, answer_to}
use Rattle.host_machine.specs.declared.results.PollIngressSingleResult.TheVariants as result
use Rattle.host_machine.specs.Receive.Ethernet as ethernet
use Rattle.host_machine.specs.Discovery.Arp as arp
use Rattle.host_machine.specs.Receive.Ipv4 as ipv4
use Rattle.host_machine.specs.Icmp.Icmpv4 as icmpv4
use Rattle.host_machine.specs.Icmp.Icmpv6 as icmpv6
use Rattle.host_machine.specs.Receive.Ipv6 as ipv6
use Rattle.host_machine.specs.Discovery.Ndisc as ndisc
use Rattle.host_machine.specs.Sockets.Tcp as tcp
use Rattle.host_machine.specs.Sockets.Udp as udp
use Rattle.host_machine.specs.Examples.Fragments.{waiting_host}
use Rattle.host_machine.specs.Examples.Ignored as turned
use Rattle.host_machine.specs.Examples.Ignored.{IsIgnored, TurnedFramesAreIgnored}
use Rattle.host_machine.proofs.Examples.Exchange.{none_renewed, none_renewed_v6, none_held}
use Rattle.host_machine.proofs.Examples.Pair.{waits_on}

-- a frame that is dropped
ignored_by : (H : Host) (frame : List ℕ) → without_expired H (pos 0) ≡ H → Takes H (Frame frame) None [] H →
    answer_to (Frame frame) ≡ result.SocketStateChanged → IsIgnored H frame
ignored_by H frame same t whole = record {
  reception = Frame frame;
  frames = [];
  response = record {
    reply = None;
    taken = H;
    notes_taking = [];
    notes_responding = [];
    takes = subst (λ K. Takes K (Frame frame) None [] H) (sym same) t;
    responds = (refl, refl, refl);
    all_notes = refl;
  };
  events = refl;
  answers = sym whole;
}

-- where a host has no slot, or one that waits for 60 seconds, none is dropped
nothing_expired : (H : Host) → H.moment ≡ pos 0 → H.slots.held ≡ map.empty → without_expired H (pos 0) ≡ H
nothing_expired H now none = ap (λ held. record H { moment = pos 0; slots = record H.slots { held = held_at (pos 0) held } }) none
    ∙ ap (λ held. record H { moment = pos 0; slots = record H.slots { held = held } }) (none_held (pos 0) ∙ sym none) ∙ ap (λ m. record H { moment = m }) (sym now)

ignored : (H : Host) (frame : List ℕ) → H.moment ≡ pos 0 → H.slots.held ≡ map.empty → Takes H (Frame frame) None [] H →
    answer_to (Frame frame) ≡ result.SocketStateChanged → IsIgnored H frame
ignored H frame now none t whole = ignored_by H frame (nothing_expired H now none) t whole

nothing : IsDropped turned.plain_host None [] turned.plain_host
nothing = record { silent = refl; unnoted = refl; unchanged = refl }

on_plain : (frame : List ℕ) → Takes turned.plain_host (Frame frame) None [] turned.plain_host →
    answer_to (Frame frame) ≡ result.SocketStateChanged → IsIgnored turned.plain_host frame
on_plain frame t whole = ignored turned.plain_host frame refl refl t whole

pub turned_ignored : TurnedFramesAreIgnored
unfolding word_sum pseudo control_of address_at last_of options_from
turned_ignored = record {
  to_another = on_plain (turned.request_to 0x03 1 turned.near turned.own) (ethernet.NotForUs (lit≤ tt) refl nothing) refl;
  for_another = on_plain (turned.request_to 0x01 1 turned.near turned.other) (ethernet.Accepted (lit≤ tt) refl (arp.NotForUs
      (record { whole = lit≤ tt; hardware = refl; protocol = refl; hardware_len = refl; protocol_len = refl; operation = inl refl })
      refl nothing)) refl;
  from_afar = on_plain (turned.request_to 0x01 1 turned.far turned.own) (ethernet.Accepted (lit≤ tt) refl (arp.NotForUs
      (record { whole = lit≤ tt; hardware = refl; protocol = refl; hardware_len = refl; protocol_len = refl; operation = inl refl })
      refl nothing)) refl;
  other_hardware = on_plain (turned.request_to 0x01 2 turned.near turned.own) (ethernet.Accepted (lit≤ tt) refl (arp.Malformed
      (λ i. let bad = i.hardware in absurd cc) nothing)) refl;
  wrong_header = on_plain (turned.echo_with 0x2f 0x28 turned.near turned.own 0x04) (ethernet.Accepted (lit≤ tt) refl (ipv4.Malformed
      (λ i. let bad = i.sum refl in absurd cc) nothing)) refl;
  wrong_message = on_plain (turned.echo_with 0x2f 0x27 turned.near turned.own 0x05) (ethernet.Accepted (lit≤ tt) refl (ipv4.Read
      (record { whole = lit≤ tt; version = refl; header = lit≤ tt; header_fits = lit≤ tt; total_fits = lit≤ tt; sum = λ on. refl })
      (ipv4.Whole refl refl (ipv4.Accepted refl (icmpv4.Malformed (λ i. let bad = i.sum refl in absurd cc)
      (record { silent = refl; unnoted = refl; unchanged = rw none_renewed refl })))))) refl;
  from_all = on_plain (turned.echo_with 0x2e 0x8c turned.all turned.own 0x04) (ethernet.Accepted (lit≤ tt) refl (ipv4.Read
      (record { whole = lit≤ tt; version = refl; header = lit≤ tt; header_fits = lit≤ tt; total_fits = lit≤ tt; sum = λ on. refl })
      (ipv4.FromNoHost refl nothing))) refl;
  to_other = on_plain (turned.echo_with 0x2f 0x26 turned.near turned.other 0x04) (ethernet.Accepted (lit≤ tt) refl (ipv4.Read
      (record { whole = lit≤ tt; version = refl; header = lit≤ tt; header_fits = lit≤ tt; total_fits = lit≤ tt; sum = λ on. refl })
      (ipv4.Whole refl refl (ipv4.NotForUs refl nothing)))) refl;
  longer = on_plain turned.too_long (ethernet.Accepted (lit≤ tt) refl (ipv4.Malformed
      (λ i. let bad = i.total_fits in absurd (omega (arith, bad))) nothing)) refl;
  replied = on_plain turned.a_reply (ethernet.Accepted (lit≤ tt) refl (ipv4.Read
      (record { whole = lit≤ tt; version = refl; header = lit≤ tt; header_fits = lit≤ tt; total_fits = lit≤ tt; sum = λ on. refl })
      (ipv4.Whole refl refl (ipv4.Accepted refl (icmpv4.Taken
      (record { whole_header = lit≤ tt; sum = λ on. refl; body = EchoReplied refl refl }) refl refl (rw none_renewed refl)))))) refl;
  other_version = ignored turned.host_without turned.version_five refl refl (ethernet.OtherVersion (λ e. absurd cc) (λ e. absurd cc)
      (record { silent = refl; unnoted = refl; unchanged = refl })) refl;
  wrong_datagram = on_plain (turned.datagram_with 0x19 1 0xf8) (ethernet.Accepted (lit≤ tt) refl (ipv4.Read
      (record { whole = lit≤ tt; version = refl; header = lit≤ tt; header_fits = lit≤ tt; total_fits = lit≤ tt; sum = λ on. refl })
      (ipv4.Whole refl refl (ipv4.Accepted refl (udp.Malformed (λ i. let bad = i.sum refl refl in absurd (omega (arith, bad)))
      (record { silent = refl; unnoted = refl; unchanged = rw none_renewed refl })))))) refl;
  undelivered = ignored turned.listening_host (turned.datagram_with 0x19 1 0xf8) refl refl (ethernet.Accepted (lit≤ tt) refl (ipv4.Read
      (record { whole = lit≤ tt; version = refl; header = lit≤ tt; header_fits = lit≤ tt; total_fits = lit≤ tt; sum = λ on. refl })
      (ipv4.Whole refl refl (ipv4.Accepted refl (udp.Malformed (λ i. let bad = i.sum refl refl in absurd (omega (arith, bad)))
      (record { silent = refl; unnoted = refl; unchanged = rw none_renewed refl })))))) refl;
  undelivered_elsewhere =
      ignored turned.listening_host (turned.datagram_with 0x18 2 0xf9) refl refl (ethernet.Accepted (lit≤ tt) refl (ipv4.Read
      (record { whole = lit≤ tt; version = refl; header = lit≤ tt; header_fits = lit≤ tt; total_fits = lit≤ tt; sum = λ on. refl })
      (ipv4.Whole refl refl (ipv4.NotForUs refl (record { silent = refl; unnoted = refl; unchanged = refl }))))) refl;
  undelivered_v6 = ignored turned.listening_host_v6 (turned.datagram_v6_with 1 0xac) refl refl (ethernet.Accepted (lit≤ tt) refl (ipv6.Read
      (record { whole = lit≤ tt; version = refl; fits = lit≤ tt })
      (ipv6.Bare refl (λ e. absurd cc) (ipv6.Accepted refl (udp.Malformed (λ i. let bad = i.sum refl refl in absurd (omega (arith, bad)))
      (record { silent = refl; unnoted = refl; unchanged = rw none_renewed_v6 refl })))))) refl;
  undelivered_elsewhere_v6 =
      ignored turned.listening_host_v6 (turned.datagram_v6_with 3 0xab) refl refl (ethernet.Accepted (lit≤ tt) refl (ipv6.Read
      (record { whole = lit≤ tt; version = refl; fits = lit≤ tt })
      (ipv6.Bare refl (λ e. absurd cc) (ipv6.NotForUs refl (record { silent = refl; unnoted = refl; unchanged = refl }))))) refl;
  raw_unheard = ignored turned.raw_host (turned.datagram_with 0x1a 1 0xf9) refl refl (ethernet.Accepted (lit≤ tt) refl (ipv4.Malformed
      (λ i. let bad = i.sum refl in absurd cc) (record { silent = refl; unnoted = refl; unchanged = refl }))) refl;
  wrong_unknown = on_plain (turned.unknown_with 0x2e 0xce 1) (ethernet.Accepted (lit≤ tt) refl (ipv4.Malformed
      (λ i. let bad = i.sum refl in absurd cc) nothing)) refl;
  unknown_to_all = on_plain (turned.unknown_with 0x2d 0xcf 255) (ethernet.Accepted (lit≤ tt) refl (ipv4.Read
      (record { whole = lit≤ tt; version = refl; header = lit≤ tt; header_fits = lit≤ tt; total_fits = lit≤ tt; sum = λ on. refl })
      (ipv4.Whole refl refl (ipv4.Accepted refl (record { replied = refl; unnoted = refl; unchanged = refl }))))) refl;
  wrong_fragment = on_plain (turned.first_with 0x24) (ethernet.Accepted (lit≤ tt) refl (ipv4.Malformed
      (λ i. let bad = i.sum refl in absurd cc) nothing)) refl;
  wrong_last_fragment = ignored_by waiting_host (turned.last_with 0x29) (ap (with_slots waiting_host) waits_on)
      (ethernet.Accepted (lit≤ tt) refl (ipv4.Malformed
      (λ i. let bad = i.sum refl in absurd cc) (record { silent = refl; unnoted = refl; unchanged = refl }))) refl;
  a_reset = on_plain (turned.segment_with 0x04 0x64) (ethernet.Accepted (lit≤ tt) refl (ipv4.Read
      (record { whole = lit≤ tt; version = refl; header = lit≤ tt; header_fits = lit≤ tt; total_fits = lit≤ tt; sum = λ on. refl })
      (ipv4.Whole refl refl (ipv4.Accepted refl (tcp.NotAccepted refl
      (record {
        whole = lit≤ tt;
        header = lit≤ tt;
        header_fits = lit≤ tt;
        source = λ e. absurd (omega (arith, e));
        destination = λ e. absurd (omega (arith, e));
        flags = lit≤ tt;
        sum = λ on. refl;
      })
      (λ k other is. absurd cc) refl refl (rw none_renewed refl)))))) refl;
  wrong_segment = on_plain (turned.segment_with 0x02 0x67) (ethernet.Accepted (lit≤ tt) refl (ipv4.Read
      (record { whole = lit≤ tt; version = refl; header = lit≤ tt; header_fits = lit≤ tt; total_fits = lit≤ tt; sum = λ on. refl })
      (ipv4.Whole refl refl (ipv4.Accepted refl (tcp.Malformed refl (λ i. let bad = i.sum refl in absurd (omega (arith, bad)))
      (record { silent = refl; unnoted = refl; unchanged = rw none_renewed refl })))))) refl;
  forwarded = ignored turned.host_v6 (turned.solicitation_with 0xfe 0xfe 0x7a 0x97) refl refl (ethernet.Accepted (lit≤ tt) refl (ipv6.Read
      (record { whole = lit≤ tt; version = refl; fits = lit≤ tt })
      (ipv6.Bare refl (λ e. absurd cc) (ipv6.Accepted refl (icmpv6.Taken
      (record {
        whole_header = lit≤ tt;
        sum = λ on. refl;
        body = Message (record {
          whole = lit≤ tt;
          type = inl refl;
          code = refl;
          options = All-cons IsOption (1 ∷ 1 ∷ 2 ∷ 0 ∷ 0 ∷ 0 ∷ 0 ∷ 2 ∷ []) []
              (record { header = lit≤ tt; some = lit≤ tt; fits = lit≤ tt; allowed = refl }) (All-nil IsOption);
        });
      })
      (ndisc.FromAfar refl (record { silent = refl; unnoted = refl; unchanged = refl }))))))) refl;
  wrong_solicitation =
      ignored turned.host_v6 (turned.solicitation_with 0xff 0xfe 0x7a 0x98) refl refl (ethernet.Accepted (lit≤ tt) refl (ipv6.Read
      (record { whole = lit≤ tt; version = refl; fits = lit≤ tt })
      (ipv6.Bare refl (λ e. absurd cc) (ipv6.Accepted refl (icmpv6.Malformed (λ i. let bad = i.sum refl in absurd (omega (arith, bad)))
      (record { silent = refl; unnoted = refl; unchanged = refl })))))) refl;
  from_group = ignored turned.host_v6 (turned.solicitation_with 0xff 0xff 0x79 0x97) refl refl (ethernet.Accepted (lit≤ tt) refl (ipv6.Read
      (record { whole = lit≤ tt; version = refl; fits = lit≤ tt })
      (ipv6.FromNoHost refl (record { silent = refl; unnoted = refl; unchanged = refl })))) refl;
}
