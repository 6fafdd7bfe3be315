use Rattle.std.proofs.Common.{ℕ, Option, is_some, refl, sym, ap, subst}
use Rattle.tcp_host.specs.Arrivals.{Answered, Resumed, Resumes}
use Rattle.tcp_host.proofs.host.TcpHost.receive_answer.Goals as goal

pub returns-in-None : goal.returns-in-None
returns-in-None c =
    Answered c.requires.new c.requires.proper c.args.index c.requires.listener (ap (λ (o : Option ℕ). is_some o) c.requires.ack)
    (sym c.in-None.ensures) c.refuse.ensures

pub returns-in-Some : goal.returns-in-Some
returns-in-Some c =
    Resumed c.requires.new c.requires.proper c.args.index c.requires.listener c.args.number c.in-Some.mss c.requires.ack (sym c.in-Some.ensures)
    refl
    (subst (λ (n : ℕ). Resumes n c.in-Some.mss c.args.index c.args.now c.args.endpoints.now c.args.segment.now c.args.octets.now c.args.self.now
    c.resume.new.self) c.before-in-Some.ensures c.resume.ensures)
