-- Reports of groups that are due, from their parts.
use Rattle.std.proofs.Common.{◌≡◌, Bool, true, false, List, [], refl, sym, ap, ◌∙◌, subst, Option, Some, None}
use Rattle.std.specs.Option.{option_map, option_and_then}
use Rattle.net_base.specs.Device.{Event}
use Rattle.ip_address.specs.declared.ipv4.Ipv4Address.{Ipv4Address}
use Rattle.control_wire.specs.declared.igmp.IgmpVersion.{IgmpVersion}
use Rattle.iface_tables.specs.declared.report.IgmpReportState.TheVariants as igmp
use Rattle.iface_tables.specs.declared.report.MldReportState.TheVariants as mld
use Rattle.fragmentation.specs.Slots.{Slots}
use Rattle.host_machine.specs.Context.Host.{Host, SocketSet, no_sockets, with_slots, with_igmp_report, with_mld_report}
use Rattle.host_machine.specs.Context.Addresses.{ipv4_addr}
use Rattle.host_machine.specs.Packet.Packet as value
use Rattle.host_machine.specs.Send.Dispatch.{Dispatches}
use Rattle.host_machine.specs.Multicast.Igmp.{igmp_report, IgmpEgress, igmp_timeout_of, next_group, next_report, igmp_report_after}
use Rattle.host_machine.specs.Multicast.Mld.{MldEgress, mld_timeout_of, next_mld_report}
use Rattle.host_machine.specs.Multicast.Timeout.{has_passed}
use Rattle.host_machine.specs.Multicast.Igmp as igmp_rules
use Rattle.host_machine.specs.Multicast.Mld as mld_rules
use Rattle.iface_context.specs.declared.context.Context.{Context}
use Rattle.iface_context.specs.declared.packet.Packet.{Packet}
use Rattle.iface_context.specs.Details.PacketValues as value_of
use Rattle.iface_context.specs.Stands.{host_in, host_of}
use Rattle.iface_send.specs.Offered.{HasPart, IsOffered, NoPacket, NotGranted, Goes}
use Rattle.iface_context.specs.Refines.{RefinesTelling}
use Rattle.iface_send.proofs.Offered.{none_is_some, true_is_false}

-- the packet of the next report
pub next_is : (H : Host) (n : Option (IgmpVersion × Ipv4Address)) (version : IgmpVersion) (group : Ipv4Address) (r : Option Packet) →
    n ≡ next_group H H.igmp_report → n ≡ Some (version, group) →
    option_map value_of.packet r ≡ igmp_report H.ip_addrs version group → next_report H ≡ option_map value_of.packet r
next_is H n version group r next is shows =
    ap (option_and_then (λ (n : IgmpVersion × Ipv4Address). igmp_report H.ip_addrs n.0 n.1)) (sym next ∙ is) ∙ sym shows

none_mapped : {A B : Type 0} (f : A → B) (o : Option A) → None ≡ option_map f o → o ≡ None
none_mapped f None e = refl
none_mapped f (Some a) e = absurd cc

-- no report can be made without an address
pub without_address : (H : Host) (version : IgmpVersion) (group : Ipv4Address) (r : Option Packet) →
    option_map value_of.packet r ≡ igmp_report H.ip_addrs version group → r ≡ None → ipv4_addr H.ip_addrs ≡ None
without_address H version group r shows none = none_mapped _ (ipv4_addr H.ip_addrs) (ap (option_map value_of.packet) (sym none) ∙ shows)

module _ {D : Type 0} {tells : D → List Event → D → Type 0} where
  -- IGMP
  pub not_due : {d : D} (c : Context) → tells d [] d → has_passed (igmp_timeout_of c.multicast.igmp_report) c.moment ≡ false →
      RefinesTelling tells d d (HasPart IgmpEgress c) c
  not_due c quiet due = record { told = []; notes = []; tells_it = quiet; follows = λ slots sockets. igmp_rules.NotDue due refl refl refl }

  pub no_further : {d : D} (c c' : Context) → tells d [] d → has_passed (igmp_timeout_of c.multicast.igmp_report) c.moment ≡ true →
      next_group (host_of c no_sockets) c.multicast.igmp_report ≡ None →
      ((sockets : SocketSet) → host_of c' sockets ≡ with_igmp_report (host_of c sockets) igmp.Inactive) →
      RefinesTelling tells d d (HasPart IgmpEgress c) c'
  no_further c c' quiet due none sets = record {
    told = [];
    notes = [];
    tells_it = quiet;
    follows = λ slots sockets. igmp_rules.NoFurtherGroup due none refl refl (ap (λ H. with_slots H slots) (sets sockets));
  }

  pub no_address : {d : D} (c : Context) (next : IgmpVersion × Ipv4Address) →
      tells d [] d → has_passed (igmp_timeout_of c.multicast.igmp_report) c.moment ≡ true →
      next_group (host_of c no_sockets) c.multicast.igmp_report ≡ Some next → ipv4_addr (host_of c no_sockets).ip_addrs ≡ None →
      RefinesTelling tells d d (HasPart IgmpEgress c) c
  no_address c next quiet due some none =
      record { told = []; notes = []; tells_it = quiet; follows = λ slots sockets. igmp_rules.NoAddress next due some none refl refl refl }

  pub report_waits : {d e : D} (c c' : Context) (p : value.Packet) (granted : Bool) →
      has_passed (igmp_timeout_of c.multicast.igmp_report) c.moment ≡ true → next_report (host_of c no_sockets) ≡ Some p → granted ≡ false →
      RefinesTelling tells d e (HasPart (IsOffered (Some p) granted) c) c' → RefinesTelling tells d e (HasPart IgmpEgress c) c'
  report_waits c c' p granted due next refused offered = record {
    told = offered.told;
    notes = offered.notes;
    tells_it = offered.tells_it;
    follows = λ slots sockets. by slots sockets (offered.follows slots sockets);
  } where
    by : (slots : Slots) (sockets : SocketSet) →
        IsOffered (Some p) granted (host_in c slots sockets) offered.told offered.notes (host_in c' slots sockets) →
        IgmpEgress (host_in c slots sockets) offered.told offered.notes (host_in c' slots sockets)
    by slots sockets (NoPacket none is silent unnoted unchanged) = none_is_some none
    by slots sockets (NotGranted q some is silent unnoted unchanged) = igmp_rules.NotGranted q due (next ∙ some) silent unnoted unchanged
    by slots sockets (Goes q outcome frames some is sends_it told_so) = true_is_false is refused

  pub report_goes : {d e : D} (c c' c'' : Context) (p : value.Packet) (granted : Bool) →
      has_passed (igmp_timeout_of c.multicast.igmp_report) c.moment ≡ true → next_report (host_of c no_sockets) ≡ Some p → granted ≡ true →
      RefinesTelling tells d e (HasPart (IsOffered (Some p) granted) c) c' →
      ((sockets : SocketSet) → host_of c'' sockets ≡ with_igmp_report (host_of c' sockets) (igmp_report_after c.multicast.igmp_report c.moment)) →
      RefinesTelling tells d e (HasPart IgmpEgress c) c''
  report_goes c c' c'' p granted due next gone offered sets = record {
    told = offered.told;
    notes = offered.notes;
    tells_it = offered.tells_it;
    follows = λ slots sockets. by slots sockets (offered.follows slots sockets);
  } where
    by : (slots : Slots) (sockets : SocketSet) →
        IsOffered (Some p) granted (host_in c slots sockets) offered.told offered.notes (host_in c' slots sockets) →
        IgmpEgress (host_in c slots sockets) offered.told offered.notes (host_in c'' slots sockets)
    by slots sockets (NoPacket none is silent unnoted unchanged) = none_is_some none
    by slots sockets (NotGranted q some is silent unnoted unchanged) = true_is_false gone is
    by slots sockets (Goes q outcome frames some is sends_it told_so) =
        igmp_rules.Sent q outcome frames (host_in c' slots sockets) due (next ∙ some) sends_it told_so (ap (λ H. with_slots H slots) (sets sockets))

  -- MLD
  pub not_yet : {d : D} (c : Context) → tells d [] d → has_passed (mld_timeout_of c.multicast.mld_report) c.moment ≡ false →
      RefinesTelling tells d d (HasPart MldEgress c) c
  not_yet c quiet due = record { told = []; notes = []; tells_it = quiet; follows = λ slots sockets. mld_rules.NotYet due refl refl refl }

  pub report_ends : {d e : D} (c c' c'' : Context) (p : value.Packet) (granted : Bool) →
      has_passed (mld_timeout_of c.multicast.mld_report) c.moment ≡ true → p ≡ next_mld_report (host_of c no_sockets) →
      RefinesTelling tells d e (HasPart (IsOffered (Some p) granted) c) c' →
      ((sockets : SocketSet) → host_of c'' sockets ≡ with_mld_report (host_of c' sockets) mld.Inactive) →
      RefinesTelling tells d e (HasPart MldEgress c) c''
  report_ends c c' c'' p granted due next offered sets = record {
    told = offered.told;
    notes = offered.notes;
    tells_it = offered.tells_it;
    follows = λ slots sockets. by slots sockets (offered.follows slots sockets);
  } where
    is_next : (q : value.Packet) → Some p ≡ Some q → q ≡ next_mld_report (host_of c no_sockets)
    is_next q some = rw (← next) (let same : p ≡ q = cc in sym same)

    by : (slots : Slots) (sockets : SocketSet) →
        IsOffered (Some p) granted (host_in c slots sockets) offered.told offered.notes (host_in c' slots sockets) →
        MldEgress (host_in c slots sockets) offered.told offered.notes (host_in c'' slots sockets)
    by slots sockets (NoPacket none is silent unnoted unchanged) = none_is_some none
    by slots sockets (NotGranted q some is silent unnoted unchanged) =
        mld_rules.GivenUp due silent unnoted (ap (λ H. with_slots H slots) (sets sockets) ∙ ap (λ (H : Host). with_mld_report H mld.Inactive) unchanged)
    by slots sockets (Goes q outcome frames some is sends_it told_so) =
        mld_rules.ReportGoes outcome frames (host_in c' slots sockets) due
        (subst (λ (r : value.Packet). Dispatches r outcome (host_in c slots sockets) frames offered.notes (host_in c' slots sockets))
        (is_next q some) sends_it) told_so (ap (λ H. with_slots H slots) (sets sockets))
