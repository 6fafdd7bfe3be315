use Rattle.std.proofs.Common.{refl}
use Rattle.host_machine.specs.Send.Fragments.{NoPiece}
use Rattle.host_machine.specs.Sockets.Turns.{Begins, Whole}
use Rattle.host_machine.specs.Multicast.Joins as groups
use Rattle.host_machine.specs.Multicast.Igmp as igmp
use Rattle.host_machine.specs.Multicast.Mld as mld
use Rattle.host_machine.specs.Discovery.RouterSolicitation as slaac
use Rattle.host_machine.specs.Examples.Groups.{busy_host}
use Rattle.host_machine.proofs.worked_examples.each_part_asks_for_a_token.Goals as goal

pub returns : goal.returns
returns c = record {
  mid = busy_host;
  told_one = _;
  told_two = _;
  notes_one = _;
  notes_two = _;
  begins = NoPiece refl refl refl refl;
  ends = record {
    mid = busy_host;
    told_one = _;
    told_two = _;
    notes_one = _;
    notes_two = _;
    begins = slaac.NotGranted _ refl refl refl refl;
    ends = record {
      mid = busy_host;
      told_one = _;
      told_two = _;
      notes_one = _;
      notes_two = _;
      begins = groups.UpToRefusal (groups.Refused _ _ groups.Begins refl refl);
      ends = record {
        mid = busy_host;
        told_one = _;
        told_two = _;
        notes_one = _;
        notes_two = _;
        begins = groups.UpToRefusal (groups.Refused _ _ groups.Begins refl refl);
        ends = record {
          mid = busy_host;
          told_one = _;
          told_two = _;
          notes_one = _;
          notes_two = _;
          begins = igmp.NotGranted _ refl refl refl refl refl;
          ends = record {
            mid = _;
            told_one = _;
            told_two = _;
            notes_one = _;
            notes_two = _;
            begins = mld.GivenUp refl refl refl refl;
            ends = Whole Begins;
            events = refl;
            all_notes = refl;
          };
          events = refl;
          all_notes = refl;
        };
        events = refl;
        all_notes = refl;
      };
      events = refl;
      all_notes = refl;
    };
    events = refl;
    all_notes = refl;
  };
  events = refl;
  all_notes = refl;
}
