use Rattle.tcp_laws.proofs.Within as within
use Rattle.tcp_laws.proofs.nothing_beyond_the_window.Goals as goal

pub returns : goal.returns
returns c = within.nothing_beyond_the_window
