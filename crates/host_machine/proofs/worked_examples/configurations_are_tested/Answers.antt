use Rattle.std.proofs.Common.{refl}
use Rattle.host_machine.proofs.worked_examples.configurations_are_tested.Goals as goal

pub returns : goal.returns
returns c = record {
  without_address = refl;
  of_all = refl;
  of_575 = refl;
  of_576 = refl;
  of_1515 = refl;
  of_1514 = refl;
  address_of_all = refl;
  other_medium = refl;
  identification = refl;
}
