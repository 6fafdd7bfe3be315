use Rattle.iface_dns.proofs.dns.Dns.poll_at_place.Goals as goal

pub returns : goal.returns
returns c = record {
  heard = c.hear.new.self;
  told = c.hear_errors.new.self;
  asked = c.ask.new.self;
  after_hearing = c.hear.new.host;
  after_telling = c.hear_errors.new.host;
  after_asking = c.ask.new.host;
  hears = c.hear.ensures;
  tells = c.hear_errors.ensures;
  asks = c.ask.ensures;
  closes = c.close_done.ensures;
}
