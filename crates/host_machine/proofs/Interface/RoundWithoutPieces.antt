-- A round of a host that has no piece left.
use Rattle.std.proofs.Common.{◌≡◌, List, [], None, refl}
use Rattle.std.specs.Prelude.{Bool, false}
use Rattle.net_base.specs.Device.{Event}
use Rattle.host_machine.specs.Context.Note.{Note}
use Rattle.host_machine.specs.Context.Host.{Host}
use Rattle.iface_tables.specs.declared.groups.GroupState.TheVariants.{Joining, Leaving}
use Rattle.iface_tables.specs.Groups.{first_in}
use Rattle.host_machine.specs.Interface.Parts.{Part, Both}
use Rattle.host_machine.specs.Multicast.Joins.{All, Begins, JoinsEgress, LeavesEgress}
use Rattle.host_machine.specs.Multicast.Igmp.{IgmpEgress, NotDue, igmp_timeout_of}
use Rattle.host_machine.specs.Multicast.Mld.{MldEgress, NotYet, mld_timeout_of}
use Rattle.host_machine.specs.Multicast.Timeout.{has_passed}
use Rattle.host_machine.specs.Discovery.RouterSolicitation.{NdiscRsEgress, NotDue as NotAsked, due_solicitation}
use Rattle.host_machine.specs.Send.Fragments.{NoPiece}
use Rattle.host_machine.specs.Sockets.Turns.{SocketEgress}
use Rattle.host_machine.specs.Interface.Egress.{Round}

-- a part that has nothing to do, and then another
idle : {one two : Part} {old new : Host} {told : List Event} {notes : List Note} →
    one old [] [] old → two old told notes new → Both one two old told notes new
idle {old = old} {told = told} {notes = notes} first second = record {
  mid = old;
  told_one = [];
  told_two = told;
  notes_one = [];
  notes_two = notes;
  begins = first;
  ends = second;
  events = refl;
  all_notes = refl;
}

-- a round behind the piece, of a host that asks no routers and has nothing to tell them of groups
pub no_groups : {changed : Bool} {old new : Host} {told : List Event} {notes : List Note} →
    due_solicitation old ≡ None → first_in Joining old.groups ≡ None → first_in Leaving old.groups ≡ None →
    has_passed (igmp_timeout_of old.igmp_report) old.moment ≡ false → has_passed (mld_timeout_of old.mld_report) old.moment ≡ false →
    SocketEgress old changed told notes new →
    Both NdiscRsEgress (Both JoinsEgress
    (Both LeavesEgress (Both IgmpEgress (Both MldEgress (λ old told_it notes new. SocketEgress old changed told_it notes new))))) old told notes new
no_groups r j v i m s =
    idle (NotAsked r refl refl refl) (idle (All Begins j) (idle (All Begins v) (idle (NotDue i refl refl refl) (idle (NotYet m refl refl refl) s))))

pub no_piece : {changed : Bool} {old new : Host} {told : List Event} {notes : List Note} →
    old.left ≡ [] → due_solicitation old ≡ None → first_in Joining old.groups ≡ None → first_in Leaving old.groups ≡ None →
    has_passed (igmp_timeout_of old.igmp_report) old.moment ≡ false → has_passed (mld_timeout_of old.mld_report) old.moment ≡ false →
    SocketEgress old changed told notes new → Round changed old told notes new
no_piece l r j v i m s = idle (NoPiece l refl refl refl) (no_groups r j v i m s)
