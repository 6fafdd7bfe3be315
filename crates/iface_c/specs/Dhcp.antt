-- Clients of DHCP: what their calls do, and what C reads of them.
use Rattle.std.specs.Prelude.{ℕ, ℤ, ◌≡◌, ◌≢◌, ◌==◌, ◌-◌, ◌^◌, pos, min, nat_lt, is_some, List, [], ◌∷◌, length, take, slice_index, slice_index_or}
use Rattle.std.specs.Prelude.{Option, Some, None, if◌then◌else◌}
use Rattle.ip_address.specs.Ipv4.{address_of}
use Rattle.ip_address.specs.declared.ip.IpAddress.TheVariants.{Ipv4}
use Rattle.ip_address.specs.declared.ipv4.Ipv4Address.{Ipv4Address}
use Rattle.dhcp_client.specs.Client.{after_reset}
use Rattle.dhcp_client.specs.declared.lease.DhcpEvent.{DhcpEvent}
use Rattle.dhcp_client.specs.declared.lease.DhcpEvent.TheVariants.{Configured, Deconfigured}
use Rattle.dhcp_client.specs.declared.lease.DhcpLease.{DhcpLease}
use Rattle.dhcp_client.specs.declared.lease.LeaseTimes.{LeaseTimes}
use Rattle.iface_host.specs.declared.host.IfaceHost.{IfaceHost}
use Rattle.iface_host.specs.declared.refusal.Refusal.{Refusal}
use Rattle.iface_host.specs.declared.refusal.Refusal.TheVariants.{Empty, NoRoom}
use Rattle.iface_dhcp.specs.Apply.{prefix_len_of}
use Rattle.iface_dhcp.specs.Dhcp as dhcp
use Rattle.iface_dhcp.specs.Dhcp.{IsNew, new_refusal}
use Rattle.iface_dhcp.specs.Poll.{Polls}
use Rattle.iface_dhcp.specs.declared.dhcp.Dhcp.{Dhcp}
use Rattle.iface_dhcp.specs.declared.dhcp.DhcpSettings.{DhcpSettings}
use Rattle.iface_c.specs.Addresses.{address_for_c}
use Rattle.iface_c.specs.Calls.{Keeps}
use Rattle.iface_c.specs.DhcpHandle.{dhcp_in}
use Rattle.iface_c.specs.Handle.{host_in}
use Rattle.iface_c.specs.Packets.{read_as}
use Rattle.iface_c.specs.Status.{code_by, code_if}
use Rattle.iface_c.specs.declared.addresses.IfaceAddress.{IfaceAddress}
use Rattle.iface_c.specs.declared.dhcp.IfaceLease.{IfaceLease}
use Rattle.iface_c.specs.declared.dhcp_handle.IfaceDhcp.{IfaceDhcp}
use Rattle.iface_c.specs.declared.handle.Iface.{Iface}

-- the code of a call of a client: 19 where the handle owns none
abbrev pub code_of_one : (Dhcp → Option Refusal) → Option Dhcp → ℕ
code_of_one why None = 19
code_of_one why (Some d) = code_if (why d)

-- of a call of a client and a host
abbrev pub code_of_both : (Dhcp → IfaceHost → Option Refusal) → Option Dhcp → Option IfaceHost → ℕ
code_of_both why None host = 19
code_of_both why (Some d) host = code_by (why d) host

-- of a call that makes a client: 20 where the handle owns one, 3 where the settings have no meaning
abbrev pub code_for_new : Option DhcpSettings → Option Dhcp → Option IfaceHost → ℕ
code_for_new settings (Some d) host = 20
code_for_new None None host = 3
code_for_new (Some settings) None host = code_by new_refusal host

-- there is a client before and after, and it was changed so
abbrev pub ChangedOne : (Dhcp → Dhcp → Type 0) → Option Dhcp → Option Dhcp → Type 0
ChangedOne Step (Some old) (Some new) = Step old new
ChangedOne Step (Some old) None = ⊥
ChangedOne Step None new = ⊥

-- 0: the call is done; else it is refused, and nothing changed
pub record DidOne (code : ℕ) (Step : Dhcp → Dhcp → Type 0) (old new : IfaceDhcp) : Type 0 where
  pub done : code ≡ 0 → ChangedOne Step (dhcp_in old) (dhcp_in new)
  pub refused : code ≢ 0 → dhcp_in new ≡ dhcp_in old

-- there are a client and a host before and after, and they were changed so
abbrev pub ChangedBoth : (Dhcp → Dhcp → IfaceHost → IfaceHost → Type 0) → Option Dhcp → Option Dhcp → Option IfaceHost → Option IfaceHost → Type 0
ChangedBoth Step d d' (Some old) (Some new) = ChangedOne (λ c c'. Step c c' old new) d d'
ChangedBoth Step d d' (Some old) None = ⊥
ChangedBoth Step d d' None new = ⊥

pub record DidBoth (code : ℕ) (Step : Dhcp → Dhcp → IfaceHost → IfaceHost → Type 0) (d d' : IfaceDhcp) (old new : Iface) : Type 0 where
  pub done : code ≡ 0 → ChangedBoth Step (dhcp_in d) (dhcp_in d') (host_in old) (host_in new)
  pub client : code ≢ 0 → dhcp_in d' ≡ dhcp_in d
  pub host : code ≢ 0 → host_in new ≡ host_in old

-- the same, where after a refusal the machine's host is the same that the host stands for
pub record RuledBoth (code : ℕ) (Step : Dhcp → Dhcp → IfaceHost → IfaceHost → Type 0) (d d' : IfaceDhcp) (old new : Iface) : Type 0 where
  pub done : code ≡ 0 → ChangedBoth Step (dhcp_in d) (dhcp_in d') (host_in old) (host_in new)
  pub client : code ≢ 0 → dhcp_in d' ≡ dhcp_in d
  pub host : code ≢ 0 → Keeps (host_in old) (host_in new)

-- a seed, and the address that the client had before, unless its version is 0
abbrev pub settings_in : ℕ → IfaceAddress → Option DhcpSettings
settings_in seed a =
    if a.version == 0 then Some (record { random_seed = seed; known = None })
    else (if a.version == 4 then Some (record {
      random_seed = seed;
      known = Some (address_of (slice_index a.octets 0) (slice_index a.octets 1) (slice_index a.octets 2) (slice_index a.octets 3));
    }) else None)

-- there was no client, and there is a new one of these settings, with a socket of the host
abbrev pub IsMade : Option DhcpSettings → Option Dhcp → Option Dhcp → Option IfaceHost → Option IfaceHost → Type 0
IsMade (Some settings) None (Some d) (Some old) (Some new) = IsNew settings d old new
IsMade (Some settings) None (Some d) (Some old) None = ⊥
IsMade (Some settings) None (Some d) None new = ⊥
IsMade (Some settings) None None old new = ⊥
IsMade (Some settings) (Some d) d' old new = ⊥
IsMade None d d' old new = ⊥

pub record Made (code seed : ℕ) (known : IfaceAddress) (d d' : IfaceDhcp) (old new : Iface) : Type 0 where
  pub done : code ≡ 0 → IsMade (settings_in seed known) (dhcp_in d) (dhcp_in d') (host_in old) (host_in new)
  pub client : code ≢ 0 → dhcp_in d' ≡ dhcp_in d
  pub host : code ≢ 0 → host_in new ≡ host_in old

-- what has become of a lease, as C reads it
abbrev pub number_of : Option DhcpEvent → ℕ
number_of None = 0
number_of (Some (Configured lease)) = 1
number_of (Some Deconfigured) = 2

-- a client was polled, and what has become of its lease was written
pub record ShowsEvent (now : ℤ) (number : ℕ) (d d' : Dhcp) (old new : IfaceHost) : Type 0 where
  pub event : Option DhcpEvent
  pub polled : Polls now event d d' old new
  pub written : number ≡ number_of event

-- an address as C reads it, of version 0 where there is none
abbrev pub address_for_c_if : Option Ipv4Address → IfaceAddress
address_for_c_if None =
    record { version = 0; octets = 0 ∷ 0 ∷ 0 ∷ 0 ∷ 0 ∷ 0 ∷ 0 ∷ 0 ∷ 0 ∷ 0 ∷ 0 ∷ 0 ∷ 0 ∷ 0 ∷ 0 ∷ 0 ∷ [] }
address_for_c_if (Some a) = address_for_c (Ipv4 a)

-- when a lease ends, the last number for never
abbrev pub end_of : Option LeaseTimes → ℤ
end_of None = pos (2 ^ 63 - 1)
end_of (Some times) = pos (min times.expires_at 0x7fff_ffff_ffff_ffff)

abbrev pub end_for_c : DhcpLease → ℤ
end_for_c l = end_of l.times

-- the server of names at a place
abbrev pub name_server : DhcpLease → ℕ → Option Ipv4Address
name_server l i = slice_index_or l.dns_servers i None

-- the longest packet, 0 where none was told
abbrev pub mtu_for_c : Option ℕ → ℕ
mtu_for_c None = 0
mtu_for_c (Some octets) = octets

abbrev pub lease_for_c : DhcpLease → IfaceLease
lease_for_c l = record {
  address = address_for_c (Ipv4 l.address);
  router = address_for_c_if l.router;
  server = address_for_c (Ipv4 l.server);
  dns_servers = address_for_c_if (name_server l 0) ∷ address_for_c_if (name_server l 1) ∷ address_for_c_if (name_server l 2) ∷ [];
  prefix_len = prefix_len_of l.subnet_mask;
  mtu = mtu_for_c l.mtu;
  expires_at = end_for_c l;
}

-- a client without a lease that can be used
abbrev pub lease_refusal : Dhcp → Option Refusal
lease_refusal d = if is_some (dhcp.lease d) then None else Some Empty

-- its lease was written, and nothing changed
pub record ShowsLease (shown : IfaceLease) (old new : Dhcp) : Type 0 where
  pub there : DhcpLease
  pub is_there : dhcp.lease old ≡ Some there
  pub written : shown ≡ lease_for_c there
  pub same : new ≡ old

-- when it does something next was written, and nothing changed
pub record ShowsPollAt (at : ℤ) (old new : Dhcp) : Type 0 where
  pub written : at ≡ read_as (dhcp.poll_at old)
  pub same : new ≡ old

-- the code for which the message that was due last is lost was written, and nothing changed
pub record ShowsLost (why : ℕ) (old new : Dhcp) : Type 0 where
  pub written : why ≡ code_if old.lost
  pub same : new ≡ old

-- how many leases were declined was written, and nothing changed
pub record ShowsDeclined (count : ℕ) (old new : Dhcp) : Type 0 where
  pub written : count ≡ old.client.declined
  pub same : new ≡ old

-- the data of an option are refused where there are none, and where there is no room for them
abbrev pub data_refusal : ℕ → List ℕ → Option Refusal
data_refusal room octets = if length octets == 0 then Some Empty else if nat_lt room (length octets) then Some NoRoom else None

abbrev pub code_of_data : ℕ → List ℕ → ℕ
code_of_data room octets = code_if (data_refusal room octets)

abbrev pub option_refusal : ℕ → ℕ → Dhcp → Option Refusal
option_refusal option room d = data_refusal room (dhcp.option option d)

-- they were written, and nothing changed
pub record ShowsOption (option len : ℕ) (out : List ℕ) (old new : Dhcp) : Type 0 where
  pub written : take len out ≡ dhcp.option option old
  pub counted : len ≡ length (dhcp.option option old)
  pub same : new ≡ old

-- the lease is given up
abbrev pub Resets : Dhcp → Dhcp → Type 0
Resets old new = new ≡ record old { client = after_reset old.client }

-- a client is freed, and a host that is there has its sockets no more
abbrev pub FreesOf : Dhcp → Option IfaceHost → Option IfaceHost → Type 0
FreesOf d None new = new ≡ None
FreesOf d (Some old) (Some new) = dhcp.Closes d old new
FreesOf d (Some old) None = ⊥

abbrev pub Frees : Option Dhcp → Option IfaceHost → Option IfaceHost → Type 0
Frees None old new = new ≡ old
Frees (Some d) old new = FreesOf d old new
