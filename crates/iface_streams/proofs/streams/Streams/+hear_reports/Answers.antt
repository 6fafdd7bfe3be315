use Rattle.std.proofs.Common.{◌≡◌, ◌+◌, ◌-◌, Some, None, refl, arith, rules}
use Rattle.ip_address.specs.declared.protocol.IpProtocol.TheVariants.{Tcp}
use Rattle.iface_host.specs.LastErrors.{first_about}
use Rattle.iface_streams.specs.Reports.{Enough, Silent, Heard, without_report}
use Rattle.iface_streams.proofs.streams.Streams.+hear_reports.Goals as goal

pub returns-then-most-eq0 : goal.returns-then-most-eq0
returns-then-most-eq0 t c =
    let none : c.args.most ≡ 0 = search rules in
    Enough c.args.most c.args.self.now c.args.self.now c.args.host.now c.args.host.now none refl refl

pub returns-in-Some : goal.returns-in-Some
returns-in-Some t c =
    let more : c.args.most ≡ c.args.most - 1 + 1 = search rules in
    let first : first_about Tcp None c.args.host.now.errors ≡ Some c.in-Some.error = search rules in
    let rest : c.take_packet_error.new.self ≡ without_report c.args.host.now = search rules in
    Heard c.args.most (c.args.most - 1) c.in-Some.error c.args.self.now c.hear_report.new.self c.hear_reports.new.self c.args.host.now
    c.take_packet_error.new.self c.hear_reports.new.host more first c.hear_report.ensures rest c.hear_reports.ensures

pub returns-in_default : goal.returns-in_default
returns-in_default t c =
    let none : first_about Tcp None c.args.host.now.errors ≡ None = search rules in
    let same : c.take_packet_error.new.self ≡ c.args.host.now = search rules in
    Silent c.args.most c.args.self.now c.args.self.now c.args.host.now c.take_packet_error.new.self none refl same
