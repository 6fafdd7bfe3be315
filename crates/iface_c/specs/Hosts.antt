-- What C reads of a host's own addresses.
use Rattle.std.specs.Prelude.{ℕ, ◌≡◌, slice_get, Some}
use Rattle.ip_address.specs.Cidr.{address_of, prefix_len_of}
use Rattle.ip_address.specs.declared.cidr.IpCidr.{IpCidr}
use Rattle.iface_host.specs.Calls.{addresses_of}
use Rattle.iface_host.specs.declared.host.IfaceHost.{IfaceHost}
use Rattle.iface_c.specs.declared.addresses.IfaceAddress.{IfaceAddress}
use Rattle.iface_c.specs.Addresses.{address_for_c}

-- the own address at a place of their list was written, with its prefix, and nothing changed
pub record ShowsAddress (place : ℕ) (address : IfaceAddress) (prefix_len : ℕ) (old new : IfaceHost) : Type 0 where
  pub cidr : IpCidr
  pub is_there : slice_get (addresses_of old) place ≡ Some cidr
  pub address_is : address ≡ address_for_c (address_of cidr)
  pub prefix_len_is : prefix_len ≡ prefix_len_of cidr
  pub same : new ≡ old
