use Rattle.iface_host.proofs.GuardCalls.{kept_all}
use Rattle.iface_host.proofs.host.IfaceHost.keep.Goals as goal

pub returns : goal.returns
returns c =
    kept_all c.args.self.now c.keep_silence.new.self c.keep_limit.new.self c.keep_reports.new.self c.keep_update.new.self c.args.standing.now
    c.keep_silence.ensures c.keep_limit.ensures c.keep_reports.ensures c.keep_update.ensures
