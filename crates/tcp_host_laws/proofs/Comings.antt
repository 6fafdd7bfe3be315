-- What comes to a connection on a network was sent in a life.
use Rattle.std.proofs.Common.{◌∙◌, ℕ, Bool, List, sym, ap}
use Rattle.ip_address.specs.declared.cidr.IpCidr.{IpCidr}
use Rattle.host_machine.specs.Context.Host.{Host, SocketSet}
use Rattle.tcp_machine.specs.Segments as machine
use Rattle.tcp_host.specs.declared.iss.Endpoints.{Endpoints}
use Rattle.tcp_sockets.specs.Reading.{reversed}
use Rattle.tcp_host_laws.specs.Readings.{Brings, OfLife}
use Rattle.tcp_host_laws.specs.Readings as readings
use Rattle.tcp_host_laws.specs.Turns.{Came}
use Rattle.tcp_host_laws.specs.TcpNetworks.Stations.{Station}
use Rattle.tcp_host_laws.specs.TcpNetworks.Receptions.{BringsOfSome, IsBrought, WaitAsBrought}
use Rattle.tcp_host_laws.specs.TcpNetworks.Networks.{ComesFromLife, OfSome, OfAnyone, SegmentsComeFromLives}
use Rattle.tcp_host_laws.proofs.ArrivalRuns.{one_of}
use Rattle.tcp_host_laws.proofs.Prefixes.{networks_bring}

module _ (hosts : List Host) (stations : ℕ → Station) (checked : Bool) (own : List IpCidr) (sockets : SocketSet) (e : Endpoints) (s : machine.Segment)
    (c : Came checked own sockets e s) where
  by : (b : BringsOfSome hosts stations c.packet) → Brings (stations b.sender).lives c.packet → ComesFromLife hosts stations e s
  by b (OfLife l there x) = OfSome (record {
    sender = b.sender;
    is_host = b.is_host;
    life = l;
    there = there;
    ends = ap (λ (d : Endpoints). reversed d) (sym x.ends ∙ c.ends);
    stands = record { one = x.one; options = x.options; was_sent = x.was_sent; is = sym x.is ∙ c.is };
  })
  by b (readings.OfAnyone reset) = OfAnyone (sym (ap (λ (t : machine.Segment). t.rst) c.is) ∙ reset)

  pub comes : WaitAsBrought hosts stations sockets → ComesFromLife hosts stations e s
  comes w =
      let all = w c.index c.socket c.there in
      let read = one_of (λ (p : Unit {0} × List ℕ). IsBrought hosts stations c.socket.version p.1) c.socket.rx.packets (tt, c.octets) all c.waits in
      let b = read c.packet c.is_read c.has_segment.of_tcp in
      by b b.brings

pub segments_come_from_lives : SegmentsComeFromLives
segments_come_from_lives m hosts first last moves n before after x is mid w a there checked own e s c =
    comes hosts mid checked own x.transition.before.sockets e s c (networks_bring m hosts first last moves n before after x is mid w a there)
