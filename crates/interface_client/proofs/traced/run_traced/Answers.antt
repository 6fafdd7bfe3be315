use Rattle.std.proofs.Common.{refl, ap}
use Rattle.net_base.specs.Details.TracedEvents.{traced_events}
use Rattle.interface.specs.Stands.{StandsFor}
use Rattle.interface_client.proofs.TracedRuns.{logs_run}
use Rattle.interface_client.proofs.traced.run_traced.Goals as goal

pub returns : goal.returns
returns g c = record {
  complete = refl;
  logged = λ H stands complete. logs_run _ g.O.Owner.did (λ t. traced_events t.log.items) (λ t. t.is_complete)
      (λ old new events told. told.1) c.args.device.now c.drive.new.device c.args.owner.now c.drive.new.owner
      c.args.commands.now c.drive.new.answers H (StandsFor c.drive.new.interface c.drive.new.sockets)
      c.runs_keep_laws.ensures c.runs_keep_queues.ensures (ap traced_events c.requires.empty) complete (c.drive.ensures H stands);
}
