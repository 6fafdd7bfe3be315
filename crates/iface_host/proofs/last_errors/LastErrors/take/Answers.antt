use Rattle.std.proofs.Common.{◌≡◌, ◌<◌, ◌≤◌, length, rules}
use Rattle.std.specs.Prelude.{slice_index_or}
use Rattle.std.specs.List.{position_or_len}
use Rattle.iface_host.specs.LastErrors.{is_about}
use Rattle.iface_host.proofs.ErrorCalls.{none_there, taken}
use Rattle.iface_host.proofs.last_errors.LastErrors.take.Goals as goal

pub returns-then-index-len-clause-first : goal.returns-then-index-len-clause-first
returns-then-index-len-clause-first c =
    let at : c.index_of-index.result ≡ position_or_len (is_about c.args.protocol c.args.port) c.args.self.now = search rules in
    let within : c.index_of-index.result < length c.args.self.now = search rules in
    let value : c.remove.result ≡ slice_index_or c.args.self.now c.index_of-index.result c.remove.result = search rules in
    taken c.args.protocol c.args.port c.args.self.now c.index_of-index.result c.remove.result at within value

pub returns-else-index-len-clause-first : goal.returns-else-index-len-clause-first
returns-else-index-len-clause-first c =
    let at : c.index_of-index.result ≡ position_or_len (is_about c.args.protocol c.args.port) c.args.self.now = search rules in
    let past : length c.args.self.now ≤ c.index_of-index.result = search rules in
    none_there c.args.protocol c.args.port c.args.self.now c.index_of-index.result at past
