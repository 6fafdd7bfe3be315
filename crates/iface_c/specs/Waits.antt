-- What C reads of packets that wait for a neighbour, and of those that were given up.
use Rattle.std.specs.Prelude.{ℕ, ℤ, ◌≡◌}
use Rattle.ip_address.specs.declared.ip.IpAddress.{IpAddress}
use Rattle.egress_schedule.specs.declared.watch.Waiting.{Waiting}
use Rattle.iface_host.specs.Waits.{TellsGivenUp, TellsWaiting}
use Rattle.iface_host.specs.declared.host.IfaceHost.{IfaceHost}
use Rattle.iface_c.specs.declared.addresses.IfaceAddress.{IfaceAddress}
use Rattle.iface_c.specs.Addresses.{address_for_c}

-- for whom the first packet of a socket waits was written, and since when, and nothing changed
pub record ShowsWaiting (n : ℕ) (address : IfaceAddress) (since : ℤ) (old new : IfaceHost) : Type 0 where
  pub waiting : Waiting
  pub is_waiting : TellsWaiting n waiting old
  pub address_is : address ≡ address_for_c waiting.neighbor
  pub since_is : since ≡ waiting.since
  pub same : new ≡ old

-- the destination of the packet that a socket gave up last was written
pub record ShowsGivenUp (n : ℕ) (address : IfaceAddress) (old new : IfaceHost) : Type 0 where
  pub given_up : IpAddress
  pub address_is : address ≡ address_for_c given_up
  pub told : TellsGivenUp n given_up old new

-- how many packets were given up was written, and nothing changed
pub record ShowsCount (count : ℕ) (old new : IfaceHost) : Type 0 where
  pub count_is : count ≡ old.schedule.given_up
  pub same : new ≡ old
