use Rattle.tcp_laws.proofs.WindowsTold as windows
use Rattle.tcp_laws.proofs.windows_stay.Goals as goal

pub returns : goal.returns
returns c = windows.windows_stay
