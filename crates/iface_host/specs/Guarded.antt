-- A host behind its guard: what it gets to see, and what is sent.
use Rattle.std.specs.Prelude.{ℕ, ℤ, pos, ◌+ℤ◌, ◌≡◌, ◌==◌, ◌&&◌, not, Bool, true, false, List, length, take, Option, Some, None, if◌then◌else◌}
use Rattle.ip_address.specs.EthernetAddress as ethernet
use Rattle.ip_address.specs.Ip.{is_unicast}
use Rattle.ip_address.specs.declared.ethernet_address.EthernetAddress.{EthernetAddress}
use Rattle.ip_address.specs.declared.hardware.HardwareAddress.{HardwareAddress}
use Rattle.ip_address.specs.declared.hardware.HardwareAddress.TheVariants.{Ethernet}
use Rattle.ip_address.specs.declared.ip.IpAddress.{IpAddress}
use Rattle.guard.specs.Defence.{announced}
use Rattle.guard.specs.Answers.{is_short}
use Rattle.guard.specs.Guard.{is_ordinary, is_turn_of_sockets, micros}
use Rattle.guard.specs.Pins as pins
use Rattle.guard.specs.Reports.{kept, kept_mld}
use Rattle.guard.specs.Strangers.{comes_from_known, limit_for, limited}
use Rattle.guard.specs.declared.strangers.Limit.{Limit}
use Rattle.host_machine.specs.Context.Host.{Host as Machine, with_igmp_report, with_mld_report, with_neighbors, with_slaac}
use Rattle.host_machine.specs.Interface.Config.{if_ethernet}
use Rattle.guard.specs.Watch as guard
use Rattle.iface_host.specs.Calls.{addresses_of}
use Rattle.iface_host.specs.Claims.{after_claim}
use Rattle.iface_host.specs.Counters.{after_handing}
use Rattle.iface_host.specs.Fragments.{MakesRoom}
use Rattle.iface_host.specs.Frames.{Gives, IsWritten, Takes}
use Rattle.iface_host.specs.LastErrors.{after_error}
use Rattle.iface_host.specs.Properties.{machine_of}
use Rattle.iface_host.specs.Stands.{Follows}
use Rattle.iface_host.specs.declared.guarded.Standing.{Standing}
use Rattle.iface_host.specs.declared.host.IfaceHost.{IfaceHost}
use Rattle.iface_host.specs.declared.refusal.Refusal.{Refusal}
use Rattle.iface_host.specs.declared.refusal.Refusal.TheVariants.{NotThere, NotUnicast, TableFull}

-- its hardware address, on a medium with such
abbrev pub hardware_addr_of : IfaceHost → Option HardwareAddress
hardware_addr_of host = if_ethernet (machine_of host).hardware_addr

-- whether the host gets to see a frame, and what the guard keeps afterwards
abbrev pub is_admitted : ℤ → List ℕ → IfaceHost → Bool
is_admitted t frame host = guard.admits t frame (hardware_addr_of host) (addresses_of host) host.watch

abbrev pub after_arrival : ℤ → List ℕ → IfaceHost → IfaceHost
after_arrival t frame host =
    record host { watch = guard.after_arrival t frame (hardware_addr_of host) (addresses_of host) host.watch }

-- the announcement of an own address that the guard owes, if it does, is written, and counted
pub record Defends (n : ℕ) (before after : List ℕ) (old new : IfaceHost) : Type 0 where
  pub written : IsWritten (announced (hardware_addr_of old) old.watch.defence.owed) n before after
  pub rest : new ≡ record old { watch = guard.after_defence old.watch; frames = after_handing n old.frames }

-- each host that it stood for is changed so, and nothing else
abbrev pub Changes : (Machine → Machine) → IfaceHost → IfaceHost → Type 0
Changes change = Follows (λ H H'. H' ≡ change H)

-- by a frame the host asks for nobody, as a socket waits for its neighbour, and it is the turn of sockets
abbrev pub is_silenced : ℤ → IfaceHost → Bool
is_silenced t host =
    host.watch.is_on && host.schedule.is_waiting && is_turn_of_sockets t (machine_of host).neighbors host.watch.guard

-- the neighbours in a silence until an instant
abbrev pub with_silence : ℤ → Machine → Machine
with_silence until H = with_neighbors H (record H.neighbors { silent_until = until })

-- while it takes a frame at t, the host is silent, or as it was
abbrev pub begun_at : ℤ → (silenced : Bool) → Machine → Machine
begun_at t true H = with_silence (t +ℤ pos 1) H
begun_at t false H = H

-- until when the entry of the frame's sender is to last
abbrev pub limit_on : ℤ → List ℕ → IfaceHost → Option Limit
limit_on t frame host =
    if host.watch.is_on then limit_for t frame (addresses_of host) (machine_of host).neighbors host.watch.guard else None

-- a frame comes from a neighbour that its guard knows well, and a rate of answers to whomever is used up
abbrev pub is_known_on : ℤ → List ℕ → IfaceHost → Bool
is_known_on t frame host =
    host.watch.is_on && is_short (micros t) host.watch.answers && comes_from_known t frame (machine_of host).neighbors host.watch.guard

-- nothing is asked of a frame but its source and its protocol
abbrev pub is_ordinary_to : List ℕ → IfaceHost → Bool
is_ordinary_to frame host = host.watch.is_on && is_ordinary frame (addresses_of host)

-- until when it is silent, if it asks for nobody meanwhile; and so it is again afterwards
abbrev pub silence_to_keep : ℤ → IfaceHost → Option ℤ
silence_to_keep t host = if is_silenced t host then Some (machine_of host).neighbors.silent_until else None

abbrev pub silence_back : Option ℤ → Machine → Machine
silence_back None H = H
silence_back (Some until) H = with_silence until H

-- the entry of the frame's sender doesn't outlast the limit
abbrev pub limit_kept : Option Limit → Machine → Machine
limit_kept limit H = with_neighbors H (limited limit H.neighbors)

-- a frame other than of UDP or TCP may tell of groups and routers
abbrev pub may_tell : List ℕ → IfaceHost → Bool
may_tell frame host = host.watch.is_on && not (is_ordinary frame (addresses_of host))

-- what the guard keeps of a host while it takes a frame at t
pub record IsStanding (t : ℤ) (frame : List ℕ) (host : IfaceHost) (s : Standing) : Type 0 where
  pub silence : s.silent_until ≡ silence_to_keep t host
  pub limit : s.limit ≡ limit_on t frame host
  pub reports : s.keeps_reports ≡ (may_tell frame host && host.watch.guard.keeps_reports)
  pub neighbors : s.keeps_neighbors ≡ (may_tell frame host && host.watch.guard.keeps_neighbors)
  pub igmp : s.igmp ≡ (machine_of host).igmp_report
  pub mld : s.mld ≡ (machine_of host).mld_report
  pub prefixes : s.prefixes ≡ length (machine_of host).slaac.prefixes
  pub routers : s.routers ≡ length (machine_of host).slaac.routers
  pub changed : s.changed ≡ (machine_of host).slaac.changed

-- answers that wait stay where a query would only put them off
abbrev pub reports_back : Standing → Machine → Machine
reports_back s H =
    if s.keeps_reports then with_mld_report (with_igmp_report H (kept s.igmp H.igmp_report)) (kept_mld s.mld H.mld_report) else H

-- where nothing was learnt of routers, as many prefixes and routers are known as before, and nothing that is known changed: what was
-- withdrawn has ended
abbrev pub is_nothing_learnt : Standing → Machine → Bool
is_nothing_learnt s H = (length H.slaac.prefixes == s.prefixes) && (length H.slaac.routers == s.routers)

abbrev pub update_back : Standing → Machine → Machine
update_back s H =
    if s.keeps_neighbors && is_nothing_learnt s H then with_slaac H (record H.slaac { changed = s.changed }) else H

-- what the guard leaves of what a frame changed
abbrev pub kept_by : Standing → Machine → Machine
kept_by s H = update_back s (reports_back s (limit_kept s.limit (silence_back s.silent_until H)))

-- a frame that the guard admits is taken as without a guard, in a silence if it is the turn of sockets; then less is left of what it
-- changed
pub record TakesGuarded (t : ℤ) (frame : List ℕ) (n : ℕ) (before after : List ℕ) (old new : IfaceHost) : Type 0 where
  pub standing : Standing
  pub is_standing : IsStanding t frame old standing
  pub begun : IfaceHost
  pub taken : IfaceHost
  pub begins : Changes (begun_at t (is_silenced t old)) old begun
  pub takes : Takes t frame (is_known_on t frame old) n before after begun taken
  pub keeps : Changes (kept_by standing) taken new

-- An ordinary frame is taken. Another one that is admitted may have taken a token of the guard's, and room is made for its fragment, if it
-- has one; one whose fragment is refused changes nothing else. What it says of a packet of the host is kept, and what it says of a watched address. One that isn't admitted changes nothing but what the guard keeps, and is
-- answered by an announcement if one is owed.
pub data Receives (t : ℤ) (frame : List ℕ) (n : ℕ) (before after : List ℕ) (old new : IfaceHost) : Type 0 where
  Ordinary : is_ordinary_to frame old ≡ true → TakesGuarded t frame n before after (after_arrival t frame old) new →
      Receives t frame n before after old new
  Admitted : is_admitted t frame old ≡ true → (roomy : IfaceHost) → MakesRoom t frame true (after_arrival t frame old) roomy →
      TakesGuarded t frame n before after (after_claim frame (after_error frame roomy)) new → Receives t frame n before after old new
  Refused : is_admitted t frame old ≡ true → MakesRoom t frame false (after_arrival t frame old) new → n ≡ 0 → after ≡ before →
      Receives t frame n before after old new
  Dropped : is_admitted t frame old ≡ false → Defends n before after (after_arrival t frame old) new →
      Receives t frame n before after old new

-- a frame was sent, and the guard noted it
abbrev pub after_sending : ℤ → List ℕ → IfaceHost → IfaceHost
after_sending t frame host = record host { watch = guard.after_sending t frame host.watch }

-- a frame is given as without a guard, and then it is noted
pub record NextIs (t : ℤ) (n : ℕ) (before after : List ℕ) (old new : IfaceHost) : Type 0 where
  pub given : IfaceHost
  pub gives : Gives t n before after old given
  pub noted : new ≡ after_sending t (take n after) given

-- the guard knows that a neighbour is pinned, or is no more
abbrev pub after_pin : IpAddress → EthernetAddress → IfaceHost → IfaceHost
after_pin address hardware host = record host { watch = guard.after_pin address hardware host.watch }

abbrev pub after_unpin : IpAddress → IfaceHost → IfaceHost
after_unpin address host = record host { watch = guard.after_unpin address host.watch }

-- an entry of a pinned neighbour with another hardware address expires at once
abbrev pub false_entry : IpAddress → EthernetAddress → Limit
false_entry address hardware = record { address = address; expires_at = pos 0; unless = Some (Ethernet hardware) }

-- a neighbour was pinned
abbrev pub Pins : IpAddress → EthernetAddress → IfaceHost → IfaceHost → Type 0
Pins address hardware old new = Changes (limit_kept (Some (false_entry address hardware))) (after_pin address hardware old) new

-- one of the two addresses isn't unicast; or eight others are pinned
abbrev pub pin_refusal : IfaceHost → IpAddress → EthernetAddress → Option Refusal
pin_refusal host address hardware =
    if is_unicast address && ethernet.is_unicast hardware
    then (if pins.is_there (pins.place_for address host.watch.guard.pins) host.watch.guard.pins then None else Some TableFull)
    else Some NotUnicast

-- it isn't pinned
abbrev pub unpin_refusal : IfaceHost → IpAddress → Option Refusal
unpin_refusal host address =
    if pins.is_there (pins.place_of address host.watch.guard.pins) host.watch.guard.pins then None else Some NotThere
