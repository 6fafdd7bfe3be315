-- Steps that receive no frame make no neighbour known, and those that set neither addresses nor routes keep them.
use Rattle.std.proofs.Common.{◌≡◌, Bool, true, false, List, refl, sym, ◌∙◌, ap, Some, None}
use Rattle.std.specs.Prelude.{ℤ, if◌then◌else◌}
use Rattle.std.specs.FinMap as map
use Rattle.std.specs.FinMap.{get-empty}
use Rattle.net_base.specs.Device.{Event}
use Rattle.ip_address.specs.Ip.{address_cmp}
use Rattle.ip_address.specs.declared.ip.IpAddress.{IpAddress}
use Rattle.iface_tables.specs.declared.neighbor.Neighbor.{Neighbor}
use Rattle.iface_tables.specs.Slaac.{sync_required}
use Rattle.host_machine.specs.declared.command.Command.{Command}
use Rattle.host_machine.specs.declared.command.Answer.{Answer}
use Rattle.host_machine.specs.Context.Note.{Note}
use Rattle.host_machine.specs.Context.Host.{Host, at, without_expired}
use Rattle.host_machine.specs.Context.Autoconfiguration.{with_slaac_applied}
use Rattle.host_machine.specs.Interface.Polling.{after_maintenance}
use Rattle.host_machine.specs.Interface.Step.{Act, Step, Accepted, Refused, Taken, NotTaken, WithinDay, OverDay}
use Rattle.host_machine.specs.Interface.Step as step
use Rattle.host_laws.specs.Laws.Restraint.Neighbors.{MayReceive, OtherStepsLearnNobody}
use Rattle.host_laws.specs.Laws.Restraint.Settings.{MaySet, OtherStepsKeepSettings}
use Rattle.host_laws.proofs.Receive.SettingChanges.{KeepsLists, ingress_lists}
use Rattle.host_laws.proofs.Multicast.GroupChanges.{join_groups, leave_groups}
use Rattle.host_laws.proofs.Interface.SettledFields.{Settings, round_settled}

-- who is known in a host is known in another one
record KnowsNoMore (old new : Host) : Type 0 where
  each : (a : IpAddress) (n : Neighbor) → map.get new.neighbors.known a ≡ Some n → map.get old.neighbors.known a ≡ Some n

knows_same : {old new : Host} → new.neighbors.known ≡ old.neighbors.known → KnowsNoMore old new
knows_same e = record { each = λ a n is. sym (ap (λ k. map.get k a) e) ∙ is }

nobody_known : (a : IpAddress) (n : Neighbor) → map.get {R = address_cmp} map.empty a ≡ Some n → ⊥
nobody_known a n is = let bad : None ≡ Some n = rw get-empty at is in cc

synced : (H : Host) (b : Bool) → KnowsNoMore H (if b then with_slaac_applied H else H)
synced H true = record { each = λ a n is. absurd (nobody_known a n is) }
synced H false = knows_same refl

maintained : (H : Host) (t : ℤ) → KnowsNoMore H (after_maintenance (at H t))
maintained H t = record { each = (synced (without_expired H t) (sync_required H.slaac t)).each }

stepped : {command : Command} {answer : Answer} {old new : Host} {told : List Event} {acts : List Act} {notes : List Note} →
    Step command answer old told acts notes new → (MayReceive command → ⊥) → KnowsNoMore old new
stepped (step.UpdatedIpAddrs (Accepted a r e)) other =
    record { each = λ b n is. absurd (nobody_known b n (sym (ap (λ (K : Host). map.get K.neighbors.known b) e) ∙ is)) }
stepped (step.UpdatedIpAddrs (Refused a r e)) other = knows_same (ap (λ (K : Host). K.neighbors.known) e)
stepped (step.PolledIngressSingle i) other = absurd (other tt)
stepped (step.PolledEgress e) other = knows_same (ap (λ (s : Settings). s.known) (round_settled e.round))
stepped (step.Polled p) other = absurd (other tt)
stepped (step.PolledMaintenance {t} {old}) other = maintained old t
stepped (step.JoinedGroup j) other = let g = join_groups j in knows_same (ap (λ (K : Host). K.neighbors.known) g.1)
stepped (step.LeftGroup j) other = let g = leave_groups j in knows_same (ap (λ (K : Host). K.neighbors.known) g.1)
stepped (step.TookHardwareAddr (Taken a of r e)) other = knows_same (ap (λ (K : Host). K.neighbors.known) e)
stepped (step.TookHardwareAddr (NotTaken error a r e)) other = knows_same (ap (λ (K : Host). K.neighbors.known) e)
stepped (step.TookReassemblyTimeout (WithinDay l r e)) other = knows_same (ap (λ (K : Host). K.neighbors.known) e)
stepped (step.TookReassemblyTimeout (OverDay l r e)) other = knows_same (ap (λ (K : Host). K.neighbors.known) e)
stepped others other = knows_same refl

pub learn_nobody : OtherStepsLearnNobody
learn_nobody command answer old new told acts notes s other a n is = (stepped s other).each a n is

-- and addresses and routes stay
kept_as : {old mid new : Host} → new ≡ mid → KeepsLists old mid → KeepsLists old new
kept_as e k = record { addresses = ap (λ (K : Host). K.ip_addrs) e ∙ k.addresses; routes = ap (λ (K : Host). K.routes) e ∙ k.routes }

settles : {command : Command} {answer : Answer} {old new : Host} {told : List Event} {acts : List Act} {notes : List Note} →
    Step command answer old told acts notes new → (MaySet command → ⊥) → KeepsLists old new
settles (step.UpdatedIpAddrs u) other = absurd (other tt)
settles (step.PolledIngressSingle i) other = ingress_lists i
settles (step.PolledEgress e) other = record {
  addresses = ap (λ (s : Settings). s.ip_addrs) (round_settled e.round);
  routes = ap (λ (s : Settings). s.routes) (round_settled e.round);
}
settles (step.Polled p) other = absurd (other tt)
settles step.PolledMaintenance other = absurd (other tt)
settles step.UpdatedRoutes other = absurd (other tt)
settles step.AddedDefaultIpv4Route other = absurd (other tt)
settles step.RemovedDefaultIpv4Route other = absurd (other tt)
settles step.AddedDefaultIpv6Route other = absurd (other tt)
settles step.RemovedDefaultIpv6Route other = absurd (other tt)
settles (step.JoinedGroup j) other = let g = join_groups j in kept_as g.1 (record { addresses = refl; routes = refl })
settles (step.LeftGroup j) other = let g = leave_groups j in kept_as g.1 (record { addresses = refl; routes = refl })
settles (step.TookHardwareAddr (Taken a of r e)) other = kept_as e (record { addresses = refl; routes = refl })
settles (step.TookHardwareAddr (NotTaken error a r e)) other = kept_as e (record { addresses = refl; routes = refl })
settles (step.TookReassemblyTimeout (WithinDay l r e)) other = kept_as e (record { addresses = refl; routes = refl })
settles (step.TookReassemblyTimeout (OverDay l r e)) other = kept_as e (record { addresses = refl; routes = refl })
settles others other = record { addresses = refl; routes = refl }

pub keep_settings : OtherStepsKeepSettings
keep_settings command answer old new told acts notes s other = let k = settles s other in (k.addresses, k.routes)
