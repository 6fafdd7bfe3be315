-- What programs read on a network is what was written.
use Rattle.tcp_host_laws.proofs.PairLemmas.{lives_keep}
use Rattle.tcp_host_laws.specs.TcpNetworks.Readings.{NetworksKeep}
use Rattle.tcp_host_laws.proofs.MoveWalk.{networks_order}

pub networks_keep : NetworksKeep
networks_keep m hosts first last moves net i n j o x y apart of_x of_y ends plain_x plain_y only_x only_y small_x small_y =
    let found = networks_order m hosts first last moves net i n j o x y apart of_x of_y ends plain_x plain_y only_x only_y in record {
      acts = found.0;
      order = found.1;
      streams = λ given order recent. lives_keep x y given small_x small_y order recent;
    }
