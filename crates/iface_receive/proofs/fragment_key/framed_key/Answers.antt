use Rattle.std.proofs.Common.{◌≡◌, ℕ, List, Option, Some, None, true, drop, sym, ap, ◌∙◌, subst}
use Rattle.ip_wire.specs.declared.ethernet.EthernetRepr.{EthernetRepr}
use Rattle.ip_wire.specs.Ethernet.{header_in}
use Rattle.iface_context.specs.Stands.{host_of}
use Rattle.host_machine.specs.Context.Host.{no_sockets}
use Rattle.host_machine.specs.Receive.Ethernet.{is_for}
use Rattle.iface_receive.specs.FragmentKey.{IsFound, IsFragmentOf, IsFramed}
use Rattle.iface_receive.proofs.fragment_key.framed_key.Goals as goal

pub returns-in-Ipv4 : goal.returns-in-Ipv4
returns-in-Ipv4 c =
    let H = host_of c.args.context.now no_sockets in
    let header : c.in-Some.header ≡ header_in c.args.frame.now = ap (λ (p : EthernetRepr × List ℕ). p.0) c.in-Some.ensures.1 in
    let payload : c.in-Some.payload.now ≡ drop 14 c.args.frame.now = ap (λ (p : EthernetRepr × List ℕ). p.1) c.in-Some.ensures.1 in
    elim c.packet_key.result as (λ o. IsFound (λ key. IsFragmentOf key H c.in-Some.payload.now) o →
    IsFound (λ key. IsFramed c.args.own.now key H c.args.frame.now) o) [
      | None ↦ λ none key framed. none key (subst (IsFragmentOf key H) (sym payload) framed.fragment)
      | Some key ↦ λ carried. record {
        whole = c.in-Some.ensures.0;
        for_us = ap (λ (r : EthernetRepr). is_for c.args.own.now r.dst_addr) (sym header) ∙ sym c.is_for.ensures ∙ c.if-not-is_for.false;
        ipv4 = ap (λ (r : EthernetRepr). r.ethertype) (sym header) ∙ c.in-Ipv4.is;
        fragment = subst (IsFragmentOf key H) payload carried;
      }
    ] c.packet_key.ensures
