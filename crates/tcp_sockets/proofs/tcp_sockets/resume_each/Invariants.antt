use Rattle.std.proofs.Common.{◌≡◌, drop}
use Rattle.tcp_sockets.specs.Polls.{resumed_in}
use Rattle.tcp_sockets.proofs.tcp_sockets.resume_each.Given as goal

abbrev pub invariant-loop-place : goal.invariant-loop-place
invariant-loop-place l = resumed_in l.now (drop l.place-index l.places) l.host ≡ resumed_in l.now l.places l.initial.host
