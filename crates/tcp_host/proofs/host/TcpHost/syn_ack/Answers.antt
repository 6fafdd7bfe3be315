use Rattle.std.proofs.Common.{◌≡◌, min, sym, subst}
use Rattle.tcp_host.specs.Arrivals.{cookie_for, syn_ack}
use Rattle.tcp_host.specs.Host.{Host}
use Rattle.tcp_host.proofs.CookieLemmas.{with_parts, syn_ack_is}
use Rattle.tcp_host.proofs.host.TcpHost.syn_ack.Goals as goal

pub returns : goal.returns
returns c =
    let now = c.args.now in
    let e = c.args.endpoints.now in
    let s = c.args.segment.now in
    rw (c.cookie.ensures, c.told_mss-mss.ensures, c.window_for.ensures, c.link_mss.ensures)
    (subst (λ (h : Host). with_parts e s (cookie_for now e s h) 0 (min 65535 h.config.receive_room) c.args.self.now ≡ syn_ack now e s c.args.self.now)
    (sym c.self.view_is) (syn_ack_is now e s c.args.self.now))
