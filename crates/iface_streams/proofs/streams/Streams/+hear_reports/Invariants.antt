use Rattle.iface_streams.proofs.streams.Streams.+hear_reports.Given as goal

abbrev pub decreases-hear_reports : goal.decreases-hear_reports
decreases-hear_reports l = l.most
