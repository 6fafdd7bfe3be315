-- One call that sends.
use Rattle.std.proofs.Common.{◌≡◌, Bool, List, ◌++◌, refl, sym, subst}
use Rattle.std.specs.Prelude.{ℤ}
use Rattle.net_base.specs.Device.{Event}
use Rattle.fragmentation.specs.declared.key.FragKey.{FragKey}
use Rattle.fragmentation.specs.Assembly.{Assembly}
use Rattle.fragmentation.specs.Slots.{Slots}
use Rattle.fragmentation.specs.Stands.{StandForSlots}
use Rattle.host_machine.specs.declared.results.PollResult.{PollResult}
use Rattle.host_machine.specs.Context.Host.{Host, SocketSet, at}
use Rattle.host_machine.specs.Interface.Parts.{Part, Both}
use Rattle.host_machine.specs.Multicast.Joins.{JoinsEgress, LeavesEgress}
use Rattle.host_machine.specs.Multicast.Igmp.{IgmpEgress}
use Rattle.host_machine.specs.Multicast.Mld.{MldEgress}
use Rattle.host_machine.specs.Discovery.RouterSolicitation.{NdiscRsEgress}
use Rattle.host_machine.specs.Send.Fragments.{Ipv4Egress}
use Rattle.host_machine.specs.Sockets.Turns.{SocketEgress}
use Rattle.host_machine.specs.Interface.Egress.{Round, Egress, answer_of}
use Rattle.iface_context.specs.declared.context.Context.{Context}
use Rattle.iface_context.specs.Stands.{host_in}
use Rattle.iface_context.specs.Refines.{StandsFor, RefinesTelling}
use Rattle.iface_send.specs.Offered.{HasPart}
use Rattle.interface.specs.Details.Refines.{RefinementTelling}

module _ {D : Type 0} {tells : D → List Event → D → Type 0}
    (tells_on : (a b c : D) (xs ys : List Event) → tells a xs b → tells b ys c → tells a (xs ++ ys) c) where
  -- one part, and then the others
  both : {d m e : D} (first others : Part) (H mid new : Host) → RefinesTelling tells d m (first H) mid → RefinesTelling tells m e (others mid) new →
      RefinesTelling tells d e (Both first others H) new
  both {d} {m} {e} first others H mid new one two = record {
    told = one.told ++ two.told;
    notes = one.notes ++ two.notes;
    tells_it = tells_on d m e one.told two.told one.tells_it two.tells_it;
    follows = record {
      mid = mid;
      told_one = one.told;
      told_two = two.told;
      notes_one = one.notes;
      notes_two = two.notes;
      begins = one.follows;
      ends = two.follows;
      events = refl;
      all_notes = refl;
    };
  }

  -- a part over what an interface keeps, with these slots and sockets
  over : {d e : D} (part : Part) (c c' : Context) (slots : Slots) (s : SocketSet) →
      RefinesTelling tells d e (HasPart part c) c' → RefinesTelling tells d e (part (host_in c slots s)) (host_in c' slots s)
  over part c c' slots s one = record { told = one.told; notes = one.notes; tells_it = one.tells_it; follows = one.follows slots s }

  -- one call that sends at its moment: the pieces, what is asked of routers, the groups, the reports, and then the sockets
  pub egressed : {d d0 d1 d2 d3 d4 d5 e : D} (c c0 c1 c2 c3 c4 c5 c6 : Context) (places : List (Assembly FragKey)) (s s' : SocketSet) (t : ℤ)
      (H : Host) (slots : Slots) (changed : Bool) (answer : PollResult) →
      StandForSlots places slots → at H t ≡ host_in c slots s → RefinesTelling tells d d0 (HasPart Ipv4Egress c) c0 →
      RefinesTelling tells d0 d1 (HasPart NdiscRsEgress c0) c1 → RefinesTelling tells d1 d2 (HasPart JoinsEgress c1) c2 →
      RefinesTelling tells d2 d3 (HasPart LeavesEgress c2) c3 → RefinesTelling tells d3 d4 (HasPart IgmpEgress c3) c4 →
      RefinesTelling tells d4 d5 (HasPart MldEgress c4) c5 →
      RefinesTelling tells d5 e (SocketEgress (host_in c5 slots s) changed) (host_in c6 slots s') → answer ≡ answer_of changed →
      RefinementTelling tells d e (Egress t answer H) (StandsFor c6 places s')
  egressed c c0 c1 c2 c3 c4 c5 c6 places s s' t H slots changed answer stand same piece solicits joins leaves igmp mld served answers =
      let whole : Context → Host = λ c. host_in c slots s in
      let last : Part = λ old told notes new. SocketEgress old changed told notes new in
      let end : Host = host_in c6 slots s' in
      let reports = both MldEgress last (whole c4) (whole c5) end (over MldEgress c4 c5 slots s mld) served in
      let both_reports = both IgmpEgress (Both MldEgress last) (whole c3) (whole c4) end (over IgmpEgress c3 c4 slots s igmp) reports in
      let leaving =
      both LeavesEgress (Both IgmpEgress (Both MldEgress last)) (whole c2) (whole c3) end (over LeavesEgress c2 c3 slots s leaves) both_reports in
      let joining = both JoinsEgress (Both LeavesEgress (Both IgmpEgress (Both MldEgress last))) (whole c1)
      (whole c2) end (over JoinsEgress c1 c2 slots s joins) leaving in
      let soliciting = both NdiscRsEgress (Both JoinsEgress (Both LeavesEgress (Both IgmpEgress (Both MldEgress last)))) (whole c0)
      (whole c1) end (over NdiscRsEgress c0 c1 slots s solicits) joining in
      let round = both Ipv4Egress (Both NdiscRsEgress (Both JoinsEgress (Both LeavesEgress (Both IgmpEgress (Both MldEgress last))))) (whole c)
      (whole c0) end (over Ipv4Egress c c0 slots s piece) soliciting in record {
        told = round.told;
        notes = round.notes;
        host = host_in c6 slots s';
        tells_it = round.tells_it;
        steps = record {
          changed = changed;
          round = subst (λ M. Round changed M round.told round.notes (host_in c6 slots s')) (sym same) round.follows;
          answers = answers;
        };
        stands = record { slots = slots; stand = stand; same = refl };
      }
