-- Whether other hosts use an address of IPv4, or probe for it, and the ARP requests by which this host probes and announces (RFC 5227).
use Rattle.std.specs.Prelude.{ℕ, ◌≡◌, ◌==◌, ◌&&◌, ◌||◌, not, nat_le, Bool, true, false, List, [], ◌∷◌, ◌++◌, length, Option, Some, None, if◌then◌else◌, refl}
use Rattle.std.specs.Int.{to_be_bytes, w32}
use Rattle.ip_address.specs.declared.ethernet_address.EthernetAddress.{EthernetAddress}
use Rattle.ip_address.specs.declared.ipv4.Ipv4Address.{Ipv4Address}
use Rattle.ip_address.specs.Ipv4.{address_of}
use Rattle.ip_wire.specs.Octets.{u16_at, u32_at}
use Rattle.guard.specs.Claim.{tells_only}
use Rattle.guard.specs.Defence.{first_four, first_six}
use Rattle.iface_host.specs.Properties.{hardware_of}
use Rattle.iface_host.specs.declared.claims.Watched.{Watched}
use Rattle.iface_host.specs.declared.host.IfaceHost.{IfaceHost}
use Rattle.iface_host.specs.declared.refusal.Refusal.{Refusal}
use Rattle.iface_host.specs.declared.refusal.Refusal.TheVariants.{NotThere}

-- an address is watched from now on, or none is
abbrev pub watching : Ipv4Address → Watched
watching a = record { address = a; is_used = false; is_probed = false }

abbrev pub watching_if : Option Ipv4Address → Option Watched
watching_if None = None
watching_if (Some a) = Some (watching a)

-- what was seen was told, and the address is watched anew
abbrev pub watching_anew : Option Watched → Option Watched
watching_anew None = None
watching_anew (Some w) = Some (watching w.address)

-- a frame of ARP tells another hardware address than the own (RFC 826)
abbrev pub is_others : EthernetAddress → List ℕ → Bool
is_others own frame = nat_le 42 (length frame) && (u16_at frame 12 == 0x0806) && not (tells_only own frame)

-- its sender has the address: octets 28 to 31
abbrev pub uses : Ipv4Address → List ℕ → Bool
uses a frame = u32_at frame 28 == a.bits

-- it is a request without a sender's address for the address: octets 20, 21 and 38 to 41
abbrev pub probes : Ipv4Address → List ℕ → Bool
probes a frame = (u16_at frame 20 == 1) && (u32_at frame 28 == 0) && (u32_at frame 38 == a.bits)

abbrev pub seen : List ℕ → Watched → Watched
seen frame w = record w { is_used = w.is_used || uses w.address frame; is_probed = w.is_probed || probes w.address frame }

abbrev pub seen_if : EthernetAddress → List ℕ → Watched → Watched
seen_if own frame w = if is_others own frame then seen frame w else w

-- without a hardware address there is no ARP
abbrev pub watched_by : Option EthernetAddress → List ℕ → Watched → Watched
watched_by None frame w = w
watched_by (Some own) frame w = seen_if own frame w

abbrev pub watched_after : Option EthernetAddress → List ℕ → Option Watched → Option Watched
watched_after hardware frame None = None
watched_after hardware frame (Some w) = Some (watched_by hardware frame w)

-- what a frame says of the address is kept; nothing else changes
abbrev pub after_claim : List ℕ → IfaceHost → IfaceHost
after_claim frame host = record host { watched = watched_after (hardware_of host) frame host.watched }

-- a request to all (RFC 826, RFC 894), of a sender for a target: without a sender's address it is a probe, with the target's own an
-- announcement (RFC 5227 1.1)
abbrev pub request_of : (hardware sender target : List ℕ) → List ℕ
request_of h s t =
    255 ∷ 255 ∷ 255 ∷ 255 ∷ 255 ∷ 255 ∷ first_six h (8 ∷ 6 ∷ 0 ∷ 1 ∷ 8 ∷ 0 ∷ 6 ∷ 4 ∷ 0 ∷ 1
    ∷ first_six h (first_four s (0 ∷ 0 ∷ 0 ∷ 0 ∷ 0 ∷ 0 ∷ first_four t [])))

abbrev pub request : EthernetAddress → Ipv4Address → Ipv4Address → List ℕ
request h sender target = request_of h.0 (to_be_bytes w32 sender.bits) (to_be_bytes w32 target.bits)

abbrev pub request_refusal : Option EthernetAddress → Option Refusal
request_refusal None = Some NotThere
request_refusal (Some hardware) = None

-- a request waits behind the frames that wait to be handed over
pub record SendsRequest (sender target : Ipv4Address) (old new : IfaceHost) : Type 0 where
  pub hardware : EthernetAddress
  pub is_own : hardware_of old ≡ Some hardware
  pub queued : new ≡ record old {
    outbox = record old.outbox { frames = old.outbox.frames ++ request hardware sender target ∷ []; has_room = false };
  }

-- Examples, and what must not be. Another host, 02-00-00-00-00-02, answers for 10.0.0.9, or probes for it.

abbrev own : EthernetAddress
own = record { 0 = 2 ∷ 0 ∷ 0 ∷ 0 ∷ 0 ∷ 1 ∷ [] }

abbrev other : EthernetAddress
other = record { 0 = 2 ∷ 0 ∷ 0 ∷ 0 ∷ 0 ∷ 2 ∷ [] }

abbrev nobody : Ipv4Address
nobody = address_of 0 0 0 0

abbrev nine : Ipv4Address
nine = address_of 10 0 0 9

abbrev before : Watched
before = watching nine

pub is_used_by_other : (seen_if own (request other nine (address_of 10 0 0 1)) before).is_used ≡ true
is_used_by_other = refl

pub is_probed_by_other : (seen_if own (request other nobody nine) before).is_probed ≡ true
is_probed_by_other = refl

-- what the host itself sent comes back
pub not_its_own : seen_if own (request own nine nine) before ≡ before
not_its_own = refl

-- another host asks for its hardware address
pub not_a_question : seen_if own (request other (address_of 10 0 0 1) nine) before ≡ before
not_a_question = refl

-- a probe, octet by octet
pub a_probe : request own nobody nine ≡ 255 ∷ 255 ∷ 255 ∷ 255 ∷ 255 ∷ 255 ∷ 2 ∷ 0 ∷ 0 ∷ 0 ∷ 0 ∷ 1 ∷ 8 ∷ 6 ∷ 0 ∷ 1 ∷ 8 ∷ 0 ∷ 6 ∷ 4 ∷ 0 ∷ 1
    ∷ 2 ∷ 0 ∷ 0 ∷ 0 ∷ 0 ∷ 1 ∷ 0 ∷ 0 ∷ 0 ∷ 0 ∷ 0 ∷ 0 ∷ 0 ∷ 0 ∷ 0 ∷ 0 ∷ 10 ∷ 0 ∷ 0 ∷ 9 ∷ []
a_probe = refl
