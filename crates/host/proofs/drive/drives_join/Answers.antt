use Rattle.host_laws.proofs.Interface.RunConcatenation.{ran_on}
use Rattle.interface.specs.Stands.{StandsFor}
use Rattle.host.proofs.drive.drives_join.Goals as goal

pub returns : goal.returns
returns g c = λ d e f o p q commands more_commands answers more_answers H i j s t one two.
    record {
      regular = one.regular;
      sound = one.sound;
      ran = ran_on g.D.Device.tells g.O.Owner.did g.met.D.Device.tells_on d e f o p q commands more_commands answers more_answers H (StandsFor i s)
          (StandsFor j t) one.ran (λ K stands. (two K stands).ran);
    }
