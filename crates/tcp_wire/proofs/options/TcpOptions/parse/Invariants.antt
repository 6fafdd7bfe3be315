use Rattle.std.proofs.Common.{◌≡◌, length}
use Rattle.tcp_wire.specs.Options.{options_after, options_in}
use Rattle.tcp_wire.proofs.Reading.{values_over}
use Rattle.tcp_wire.proofs.options.TcpOptions.parse.Given as goal

abbrev pub invariant-loop-len : goal.invariant-loop-len
invariant-loop-len l = values_over l.options (options_after 0 l.rest) ≡ options_in l.octets

abbrev pub decreases-loop-len : goal.decreases-loop-len
decreases-loop-len l = length l.rest
