-- One command as one step.
use Rattle.std.specs.Prelude.{◌≡◌, ℕ, ◌≤◌, ◌<◌, ℤ, Bool, true, false}
use Rattle.std.specs.Prelude.{List, [], ◌∷◌, length, Option, Some, None, Result, Ok, Err}
use Rattle.arrayvec.specs.ArrayVec.{ArrayVec}
use Rattle.net_base.specs.Device.{Event}
use Rattle.net_base.specs.Time.{IsMoment}
use Rattle.ip_address.specs.declared.cidr.IpCidr.{IpCidr}
use Rattle.ip_address.specs.declared.hardware.HardwareAddress.{HardwareAddress}
use Rattle.ip_address.specs.declared.ipv4.Ipv4Address.{Ipv4Address}
use Rattle.ip_address.specs.declared.ipv6.Ipv6Address.{Ipv6Address}
use Rattle.ip_address.specs.Hardware.{IsOf}
use Rattle.iface_tables.specs.declared.route.Route.{Route}
use Rattle.iface_tables.specs.Route.{first, ipv4_gateway, ipv6_gateway, is_ipv4_gateway}
use Rattle.iface_tables.specs.Route.{is_ipv6_gateway, old_or_full, with_default, without_first}
use Rattle.host_machine.specs.declared.results.AddrError.{AddrError}
use Rattle.host_machine.specs.declared.results.AddrError.TheVariants.{NotUnicast}
use Rattle.host_machine.specs.declared.results.AddrListError.{AddrListError}
use Rattle.host_machine.specs.declared.results.AddrListError.TheVariants.{TooMany}
use Rattle.host_machine.specs.declared.results.AddrListError.TheVariants as list_error
use Rattle.host_machine.specs.declared.results.HardwareError.{HardwareError}
use Rattle.host_machine.specs.declared.results.PollIngressSingleResult.{PollIngressSingleResult}
use Rattle.host_machine.specs.declared.results.PollResult.{PollResult}
use Rattle.host_machine.specs.declared.results.TimeoutError.{TimeoutError}
use Rattle.host_machine.specs.declared.results.TimeoutError.TheVariants.{TimeoutTooLong}
use Rattle.host_machine.specs.declared.command.Command.{Command}
use Rattle.host_machine.specs.declared.command.Command.TheVariants.{UpdateIpAddrs, PollIngressSingle, PollEgress, Poll}
use Rattle.host_machine.specs.declared.command.Command.TheVariants.{PollMaintenance, PollAt, PollDelay, UpdateRoutes}
use Rattle.host_machine.specs.declared.command.Command.TheVariants.{AddDefaultIpv4Route, RemoveDefaultIpv4Route}
use Rattle.host_machine.specs.declared.command.Command.TheVariants.{AddDefaultIpv6Route, RemoveDefaultIpv6Route}
use Rattle.host_machine.specs.declared.command.Command.TheVariants.{JoinMulticastGroup, LeaveMulticastGroup, SetAnyIp}
use Rattle.host_machine.specs.declared.command.Command.TheVariants.{SetHardwareAddr, SetReassemblyTimeout, Owner}
use Rattle.host_machine.specs.declared.command.Answer.{Answer}
use Rattle.host_machine.specs.declared.command.Answer.TheVariants as answer
use Rattle.host_machine.specs.Context.Note.{Note}
use Rattle.host_machine.specs.Context.Host.{Host, SocketSet, at, are_assignable}
use Rattle.ip_address.specs.declared.ip.IpAddress.{IpAddress}
use Rattle.host_machine.specs.declared.results.MulticastError.{MulticastError}
use Rattle.host_machine.specs.Multicast.Joins.{JoinsGroup, LeavesGroup}
use Rattle.host_machine.specs.Context.Settings.{after_address_change}
use Rattle.host_machine.specs.Interface.Config.{hardware_refusal_of}
use Rattle.host_machine.specs.Interface.Ingress.{Ingress}
use Rattle.host_machine.specs.Interface.Egress.{Egress}
use Rattle.host_machine.specs.Interface.Polling.{Polls, after_maintenance}
use Rattle.host_machine.specs.Interface.Due.{Due, IsLeast, IsRest}

-- a command's moment, if it has one, is from 0 to 2 ^ 62 microseconds
abbrev pub IsTimely : Command → Type 0
IsTimely (PollIngressSingle t) = IsMoment t
IsTimely (PollEgress t) = IsMoment t
IsTimely (Poll t budget) = IsMoment t
IsTimely (PollMaintenance t) = IsMoment t
IsTimely (PollAt t) = IsMoment t
IsTimely (PollDelay t) = IsMoment t
IsTimely other = Unit {0}

-- what the owner of the sockets did in one turn
pub record Act : Type 0 where
  pub number : ℕ
  pub before : SocketSet
  pub after : SocketSet

-- the new addresses are accepted; or they are refused, and nothing changes
pub data UpdatesIpAddrs (list : List IpCidr) (answer : Result (Unit {0}) AddrError) (old new : Host) : Type 0 where
  Accepted : are_assignable list ≡ true → answer ≡ Ok tt → new ≡ after_address_change old list →
      UpdatesIpAddrs list answer old new
  Refused : are_assignable list ≡ false → answer ≡ Err NotUnicast → new ≡ old → UpdatesIpAddrs list answer old new

-- the same of a list of any length: it is refused too if there is no room for so many
pub data SetsIpAddrs (list : List IpCidr) (answer : Result (Unit {0}) AddrListError) (old new : Host) : Type 0 where
  Set : length list ≤ old.addr_room → are_assignable list ≡ true → answer ≡ Ok tt → new ≡ after_address_change old list →
      SetsIpAddrs list answer old new
  NoRoom : old.addr_room < length list → answer ≡ Err TooMany → new ≡ old → SetsIpAddrs list answer old new
  NoOwn : length list ≤ old.addr_room → are_assignable list ≡ false → answer ≡ Err list_error.NotUnicast → new ≡ old →
      SetsIpAddrs list answer old new

-- the hardware address is set, an address of the device's medium; or it is refused
pub data SetsHardwareAddr (h : HardwareAddress) (answer : Result (Unit {0}) HardwareError)
    (old new : Host) : Type 0 where
  Taken : hardware_refusal_of old.capabilities h ≡ None → IsOf old.capabilities.medium h → answer ≡ Ok tt →
      new ≡ record old { hardware_addr = h } → SetsHardwareAddr h answer old new
  NotTaken : (error : HardwareError) → hardware_refusal_of old.capabilities h ≡ Some error → answer ≡ Err error →
      new ≡ old → SetsHardwareAddr h answer old new

-- a reassembly timeout of at most a day is set, a longer one refused; a slot in use keeps its expiry
pub data SetsReassemblyTimeout (timeout : ℕ) (answer : Result (Unit {0}) TimeoutError) (old new : Host) : Type 0 where
  WithinDay : timeout ≤ 86_400_000_000 → answer ≡ Ok tt → new ≡ record old { reassembly_timeout = timeout } →
      SetsReassemblyTimeout timeout answer old new
  OverDay : 86_400_000_000 < timeout → answer ≡ Err TimeoutTooLong → new ≡ old →
      SetsReassemblyTimeout timeout answer old new

-- by the command: the device's events, what the owner did, the notes, and the host before and after
pub data Step : Command → Answer → Host → List Event → List Act → List Note → Host → Type 0 where
  UpdatedIpAddrs : {list : ArrayVec IpCidr} {result : Result (Unit {0}) AddrError} {old new : Host} →
      UpdatesIpAddrs list.items result old new →
      Step (UpdateIpAddrs list) (answer.UpdateIpAddrs result) old [] [] [] new
  PolledIngressSingle : {t : ℤ} {result : PollIngressSingleResult} {old new : Host}
      {told : List Event} {notes : List Note} →
      Ingress t result old told notes new →
      Step (PollIngressSingle t) (answer.PollIngressSingle result) old told [] notes new
  PolledEgress : {t : ℤ} {result : PollResult} {old new : Host} {told : List Event} {notes : List Note} →
      Egress t result old told notes new → Step (PollEgress t) (answer.PollEgress result) old told [] notes new
  Polled : {t : ℤ} {budget : ℕ} {result : PollResult} {old new : Host} {told : List Event} {notes : List Note} →
      Polls t budget result old told notes new → Step (Poll t budget) (answer.Poll result) old told [] notes new
  PolledMaintenance : {t : ℤ} {old : Host} →
      Step (PollMaintenance t) answer.PollMaintenance old [] [] [] (after_maintenance (at old t))
  PolledAt : {t : ℤ} {end : Option ℤ} {old : Host} →
      IsLeast (Due (at old t)) end → Step (PollAt t) (answer.PollAt end) old [] [] [] (at old t)
  PolledDelay : {t : ℤ} {rest : Option ℕ} {old : Host} (end : Option ℤ) →
      IsLeast (Due (at old t)) end → IsRest t end rest →
      Step (PollDelay t) (answer.PollDelay rest) old [] [] [] (at old t)
  UpdatedRoutes : {list : ArrayVec Route} {old : Host} →
      Step (UpdateRoutes list) answer.UpdateRoutes old [] [] [] (record old { routes = list.items })
  AddedDefaultIpv4Route : {gateway : Ipv4Address} {old : Host} →
      Step (AddDefaultIpv4Route gateway)
      (answer.AddDefaultIpv4Route (old_or_full old.route_room is_ipv4_gateway old.routes)) old [] [] []
      (record old { routes = with_default old.route_room is_ipv4_gateway old.routes (ipv4_gateway gateway) })
  RemovedDefaultIpv4Route : {old : Host} →
      Step RemoveDefaultIpv4Route (answer.RemoveDefaultIpv4Route (first is_ipv4_gateway old.routes)) old [] [] []
      (record old { routes = without_first is_ipv4_gateway old.routes })
  AddedDefaultIpv6Route : {gateway : Ipv6Address} {old : Host} →
      Step (AddDefaultIpv6Route gateway)
      (answer.AddDefaultIpv6Route (old_or_full old.route_room is_ipv6_gateway old.routes)) old [] [] []
      (record old { routes = with_default old.route_room is_ipv6_gateway old.routes (ipv6_gateway gateway) })
  RemovedDefaultIpv6Route : {old : Host} →
      Step RemoveDefaultIpv6Route (answer.RemoveDefaultIpv6Route (first is_ipv6_gateway old.routes)) old [] [] []
      (record old { routes = without_first is_ipv6_gateway old.routes })
  JoinedGroup : {group : IpAddress} {result : Result (Unit {0}) MulticastError} {old new : Host} →
      JoinsGroup group result old new →
      Step (JoinMulticastGroup group) (answer.JoinMulticastGroup result) old [] [] [] new
  LeftGroup : {group : IpAddress} {result : Result (Unit {0}) MulticastError} {old new : Host} →
      LeavesGroup group result old new →
      Step (LeaveMulticastGroup group) (answer.LeaveMulticastGroup result) old [] [] [] new
  TookAnyIp : {any_ip : Bool} {old : Host} →
      Step (SetAnyIp any_ip) answer.SetAnyIp old [] [] [] (record old { any_ip = any_ip })
  TookHardwareAddr : {h : HardwareAddress} {result : Result (Unit {0}) HardwareError} {old new : Host} →
      SetsHardwareAddr h result old new → Step (SetHardwareAddr h) (answer.SetHardwareAddr result) old [] [] [] new
  TookReassemblyTimeout : {timeout : ℕ} {result : Result (Unit {0}) TimeoutError} {old new : Host} →
      SetsReassemblyTimeout timeout result old new →
      Step (SetReassemblyTimeout timeout) (answer.SetReassemblyTimeout result) old [] [] [] new
  OwnerActed : {number : ℕ} {old : Host} (sockets : SocketSet) →
      Step (Owner number) answer.Owner old []
      (record { number = number; before = old.sockets; after = sockets } ∷ []) [] (record old { sockets = sockets })
