use Rattle.iface_streams.proofs.streams.Streams.lose_both.Goals as goal

pub returns : goal.returns
returns c = record {
  middle = c.lose_of.new.self;
  between = c.lose_of.new.host;
  v4 = rw c.requires at c.lose_of.ensures;
  v6 = c.lose_of-2.ensures;
}
