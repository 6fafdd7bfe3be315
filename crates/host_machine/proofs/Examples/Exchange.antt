-- Who is known in the worked examples.
use Rattle.std.proofs.Common.{◌≡◌, ◌∙◌, ap, refl, Some}
use Rattle.std.specs.Prelude.{ℤ, pos}
use Rattle.std.specs.FinMap as map
use Rattle.std.specs.FinMap.{get-insert, get-empty, same_map}
use Rattle.ip_address.specs.declared.hardware.HardwareAddress.TheVariants as hardware
use Rattle.iface_tables.specs.declared.neighbor.Neighbor.{Neighbor}
use Rattle.iface_tables.specs.declared.neighbor.Answer.TheVariants.{Found, NotFound, RateLimited}
use Rattle.iface_tables.specs.Neighbor.{answer_of, after_renewal}
use Rattle.iface_tables.proofs.NeighborLemmas.{address_total}
use Rattle.fragmentation.specs.Slots.{free_slots, held_at, live_at}
use Rattle.host_machine.proofs.Receive.Keys.{get-live_at, key_exact, key_total}
use Rattle.host_machine.specs.Examples.ArpAndEcho.{sender, sender_hardware, neighbors_with_sender, neighbors_after_renewal, no_neighbors}
use Rattle.host_machine.specs.Examples.Ipv6 as ipv6

abbrev entry : Neighbor
entry = record { hardware_addr = sender_hardware; expires_at = pos 60000000 }

is_learnt : map.get neighbors_with_sender.known sender ≡ Some entry
is_learnt = get-insert address_total map.empty sender entry sender

pub is_known : answer_of neighbors_after_renewal sender (pos 0) ≡ Found sender_hardware
is_known = rw (is_learnt, get-insert address_total (map.insert map.empty sender entry) sender entry sender) refl

pub is_learnt_v6 : answer_of ipv6.neighbors_with_sender ipv6.sender (pos 0) ≡ Found sender_hardware
is_learnt_v6 = rw (get-insert address_total map.empty ipv6.sender entry ipv6.sender) refl

pub is_unknown : answer_of (no_neighbors (pos 0)) sender (pos 0) ≡ NotFound
is_unknown = rw get-empty refl

-- a second later the silence has ended, and not before
pub is_silent : answer_of (no_neighbors (pos 1000000)) sender (pos 999999) ≡ RateLimited
is_silent = rw get-empty refl

pub is_unknown_later : answer_of (no_neighbors (pos 1000000)) sender (pos 1000000) ≡ NotFound
is_unknown_later = rw get-empty refl

pub none_renewed : after_renewal (no_neighbors (pos 0)) sender sender_hardware (pos 60000000) ≡ no_neighbors (pos 0)
none_renewed = rw get-empty refl

pub none_renewed_v6 : after_renewal (no_neighbors (pos 0)) ipv6.sender sender_hardware (pos 60000000) ≡ no_neighbors (pos 0)
none_renewed_v6 = rw get-empty refl

pub no_neighbor_renewed : after_renewal (no_neighbors (pos 0)) sender hardware.Ip (pos 60000000) ≡ no_neighbors (pos 0)
no_neighbor_renewed = rw get-empty refl

-- where no slot is taken, none is dropped
pub none_held : (t : ℤ) → held_at t map.empty ≡ map.empty
none_held t = same_map key_total key_exact (held_at t map.empty) map.empty (λ q. get-live_at t (free_slots 0) q ∙ rw get-empty refl)

pub no_slots : (t : ℤ) → live_at t (free_slots 2) ≡ free_slots 2
no_slots t = ap (λ held. record (free_slots 2) { held = held }) (none_held t)
