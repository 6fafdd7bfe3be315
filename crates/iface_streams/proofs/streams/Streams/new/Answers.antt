use Rattle.std.proofs.Common.{◌≡◌, true, rules, sym}
use Rattle.std.specs.Option.{option_map}
use Rattle.ip_address.specs.declared.protocol.IpVersion.TheVariants.{Ipv4, Ipv6}
use Rattle.iface_host.specs.Streams.{has_room_for}
use Rattle.iface_streams.specs.Settings as setting
use Rattle.iface_streams.specs.Streams.{AreFirst, OpensIf, carrier_of, pair_for, sockets_of}
use Rattle.iface_streams.proofs.Shares.{second_share}
use Rattle.iface_streams.proofs.streams.Streams.new.Goals as goal

pub open-requires-2 : goal.open-requires-2
open-requires-2 c =
    let room : has_room_for (setting.sockets c.args.settings.now) c.args.host.now ≡ true = search rules in
    record {
      room = second_share c.args.settings.now (option_map sockets_of c.in_ok-v4.v4) (option_map sockets_of c.in_ok-v6.v6)
          c.args.host.now c.open.new.host room c.in_ok-v4.ensures.made c.in_ok-v6.ensures.made c.open.ensures.left;
    }

pub returns-clause-made : goal.returns-clause-made
returns-clause-made c =
    let v4 : c.carry.new.self.v4 ≡ c.in_ok-streams-2.field-0 = search rules in
    let v6 : c.carry.new.self.v6 ≡ c.in_ok-streams-3.field-0 = search rules in
    let same : c.carry.new.self.connections ≡ c.in_ok-streams.streams.value.connections = search rules in
    let carried : c.carry.new.self.carrier ≡ carrier_of c.args.host.now.outbox.capabilities.checksum.tcp c.carry.new.self = search rules in
    let zero : c.carry.new.self.given_up ≡ 0 = search rules in
    record {
      between = c.open.new.host;
      v4 = rw v4 (rw c.in_ok-v4.ensures.made at c.in_ok-streams-2.ensures.opened);
      v6 = rw v6 (rw c.in_ok-v6.ensures.made at c.in_ok-streams-3.ensures.opened);
      connections = rw same c.in_ok-streams.ensures.made;
      carrier = carried;
      given_up = zero;
    }
