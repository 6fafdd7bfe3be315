-- Reports of joins and leaves, from their parts.
use Rattle.std.proofs.Common.{◌≡◌, Bool, true, false, List, [], ◌++◌, ap, ◌∙◌, Option, Some, None}
use Rattle.std.specs.Prelude.{if◌then◌else◌}
use Rattle.std.proofs.lemmas.List.{append-nil}
use Rattle.net_base.specs.Device.{Event}
use Rattle.ip_address.specs.declared.cidr.IpCidr.{IpCidr}
use Rattle.ip_address.specs.declared.ip.IpAddress.{IpAddress}
use Rattle.fragmentation.specs.Slots.{Slots}
use Rattle.iface_tables.specs.declared.groups.Group.{Group}
use Rattle.iface_tables.specs.declared.groups.GroupState.{GroupState}
use Rattle.iface_tables.specs.Groups.{first_in}
use Rattle.host_machine.specs.Context.Note.{Note}
use Rattle.host_machine.specs.Context.Host.{Host, SocketSet, with_groups, no_sockets}
use Rattle.host_machine.specs.Packet.Packet.{Packet}
use Rattle.host_machine.specs.Multicast.Joins.{ReportsEach, ReportsAll, Begins, Silently, Refused, Reported as ToldGroup, All, UpToRefusal}
use Rattle.host_machine.specs.Interface.Parts.{Part}
use Rattle.iface_context.specs.declared.context.Context.{Context}
use Rattle.iface_context.specs.Stands.{host_in, host_of}
use Rattle.iface_send.specs.Offered.{HasPart, IsOffered, NoPacket, NotGranted, Goes}
use Rattle.iface_multicast.specs.Joins.{IsReported}
use Rattle.iface_context.specs.Refines.{RefinesTelling}

-- the groups in a state, as far as they were told of
abbrev pub ReportsSo : GroupState → (List IpCidr → IpAddress → Option Packet) → (List Group → IpAddress → List Group) → Bool → Part
ReportsSo state packet_for after_report granted old told notes new = ReportsEach state packet_for after_report old granted told notes new

module _ (state : GroupState) (packet_for : List IpCidr → IpAddress → Option Packet) (after_report : List Group → IpAddress → List Group) where
  -- one group more
  one_more : (old mid new : Host) (a : IpAddress) (granted : Bool) (told more : List Event) (notes others : List Note) →
      ReportsEach state packet_for after_report old true told notes mid →
      first_in state mid.groups ≡ Some a → IsReported packet_for after_report a granted mid more others new →
      ReportsEach state packet_for after_report old granted (told ++ more) (notes ++ others) new
  one_more old mid new a granted told more notes others so first one = by one.offered where
    by : IsOffered (packet_for mid.ip_addrs a) granted mid more others one.mid →
        ReportsEach state packet_for after_report old granted (told ++ more) (notes ++ others) new
    by (NoPacket none is silent unnoted same) =
        let end : new ≡ with_groups mid (after_report mid.groups a) = one.counts
        ∙ ap (λ b. if b then with_groups one.mid (after_report one.mid.groups a) else one.mid) is
        ∙ ap (λ (H : Host). with_groups H (after_report H.groups a)) same in
        rw (end, is, silent, unnoted, append-nil told, append-nil notes) (Silently a so first none)
    by (NotGranted p some is refused unnoted same) =
        let end : new ≡ mid = one.counts ∙ ap (λ b. if b then with_groups one.mid (after_report one.mid.groups a) else one.mid) is ∙ same in
        rw (end, is, refused, unnoted, append-nil notes) (Refused a p so first some)
    by (Goes p outcome frames some is sends_it told_so) =
        let end : new ≡ with_groups one.mid (after_report one.mid.groups a) = one.counts
        ∙ ap (λ b. if b then with_groups one.mid (after_report one.mid.groups a) else one.mid) is in
        rw (end, is, told_so) (ToldGroup a p outcome frames others one.mid so first some sends_it)

  module _ {D : Type 0} {tells : D → List Event → D → Type 0} where
    pub none_told : {d : D} (c : Context) → tells d [] d → RefinesTelling tells d d (HasPart (ReportsSo state packet_for after_report true) c) c
    none_told c quiet = record { told = []; notes = []; tells_it = quiet; follows = λ slots sockets. Begins }

    pub one_reported : {d m e : D} (c c' c'' : Context) (granted : Bool) (a : IpAddress) →
        ((a b c : D) (xs ys : List Event) → tells a xs b → tells b ys c → tells a (xs ++ ys) c) →
        RefinesTelling tells d m (HasPart (ReportsSo state packet_for after_report true) c) c' →
        (first_in state (host_of c' no_sockets).groups ≡ Some a) →
        RefinesTelling tells m e (HasPart (IsReported packet_for after_report a granted) c') c'' →
        RefinesTelling tells d e (HasPart (ReportsSo state packet_for after_report granted) c) c''
    one_reported {d} {m} {e} c c' c'' granted a tells_on so first one = record {
      told = so.told ++ one.told;
      notes = so.notes ++ one.notes;
      tells_it = tells_on d m e so.told one.told so.tells_it one.tells_it;
      follows = λ slots sockets. one_more (host_in c slots sockets) (host_in c' slots sockets)
          (host_in c'' slots sockets) a granted so.told one.told so.notes one.notes (so.follows slots sockets) first (one.follows slots sockets);
    }

    pub all_reported : {d e : D} (c c' : Context) → RefinesTelling tells d e (HasPart (ReportsSo state packet_for after_report true) c) c' →
        first_in state (host_of c' no_sockets).groups ≡ None →
        RefinesTelling tells d e (HasPart (ReportsAll state packet_for after_report) c) c'
    all_reported c c' so none =
        record { told = so.told; notes = so.notes; tells_it = so.tells_it; follows = λ slots sockets. All (so.follows slots sockets) none }

    pub told_until : {d e : D} (c c' : Context) (granted : Bool) →
        granted ≡ false → RefinesTelling tells d e (HasPart (ReportsSo state packet_for after_report granted) c) c' →
        RefinesTelling tells d e (HasPart (ReportsAll state packet_for after_report) c) c'
    told_until c c' granted refused so = record {
      told = so.told;
      notes = so.notes;
      tells_it = so.tells_it;
      follows = λ slots sockets. UpToRefusal (rw refused at (so.follows slots sockets));
    }

module _ {D : Type 0} {tells : D → List Event → D → Type 0} where
  -- what was told of a group counts
  pub reported_it : {d e : D} (packet_for : List IpCidr → IpAddress → Option Packet) (after_report : List Group → IpAddress → List Group)
      (a : IpAddress) (granted : Bool) (c c' c'' : Context) →
      RefinesTelling tells d e (HasPart (IsOffered (packet_for (host_of c no_sockets).ip_addrs a) granted) c) c' →
      ((slots : Slots) (sockets : SocketSet) → host_in c'' slots sockets
      ≡ (if granted then with_groups (host_in c' slots sockets) (after_report (host_in c' slots sockets).groups a) else host_in c' slots sockets)) →
      RefinesTelling tells d e (HasPart (IsReported packet_for after_report a granted) c) c''
  reported_it packet_for after_report a granted c c' c'' offered counts = record {
    told = offered.told;
    notes = offered.notes;
    tells_it = offered.tells_it;
    follows = λ slots sockets. record { mid = host_in c' slots sockets; offered = offered.follows slots sockets; counts = counts slots sockets };
  }
