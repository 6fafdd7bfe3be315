-- What a client promises, whatever happens to it.
use Rattle.std.specs.Prelude.{◌≡◌, ℕ, ◌+◌, ◌*◌, ◌==◌, ◌≤◌, ◌<◌, ◌⊎◌, nat_le, true, false, List, [], ◌∷◌, Option, Some, None, IfSome, if◌then◌else◌}
use Rattle.std.specs.Option.{option_map}
use Rattle.ip_address.specs.declared.ipv4.Ipv4Address.{Ipv4Address}
use Rattle.ip_address.specs.declared.ethernet_address.EthernetAddress.{EthernetAddress}
use Rattle.ip_address.specs.EthernetAddress.{is_same}
use Rattle.dhcp_client.specs.declared.message.DhcpRepr.{DhcpRepr}
use Rattle.dhcp_client.specs.declared.message.DhcpMessageType.{DhcpMessageType}
use Rattle.dhcp_client.specs.declared.message.DhcpMessageType.TheVariants.{Discover, Offer, Request, Ack}
use Rattle.dhcp_client.specs.declared.client.DhcpClient.{DhcpClient}
use Rattle.dhcp_client.specs.declared.lease.DhcpLease.{DhcpLease}
use Rattle.dhcp_client.specs.declared.lease.LeaseTimes.{LeaseTimes}
use Rattle.dhcp_client.specs.declared.messages.DhcpMessage.{DhcpMessage}
use Rattle.dhcp_client.specs.declared.probing.Probing.{Probing}
use Rattle.dhcp_client.specs.Addresses.{is_host_address, is_mask, is_networks}
use Rattle.dhcp_client.specs.Answers.{after_receiving}
use Rattle.dhcp_client.specs.Client.{lease, poll_at}
use Rattle.dhcp_client.specs.Lease.{is_usable}
use Rattle.dhcp_client.specs.Messages.{after_asking, message_at}
use Rattle.dhcp_client.specs.Probing as probing
use Rattle.dhcp_client.specs.Probing.{after_request, is_tested}
use Rattle.dhcp_client.specs.Returns.{after_decline}
use Rattle.dhcp_client.specs.Run.{Event, Receive, Ask, Tell, Reset, Claim, Leave, Sent, begun, after, after_all, client_after, client_after_all}

abbrev pub broadcast : Ipv4Address
broadcast = record { bits = 0xffff_ffff }

-- the end of a lease of so many seconds from an instant on, in microseconds; all ones are without end (RFC 2131 3.3)
abbrev pub end_of : ℕ → Option ℕ → Option ℕ
end_of from None = None
end_of from (Some seconds) = if seconds == 0xffff_ffff then None else Some (from + seconds * 1000000)

-- another host's address
abbrev pub IsOther : Ipv4Address → Option Ipv4Address → Type 0
IsOther own None = Unit
IsOther own (Some a) = (is_host_address a ≡ true) × ((a.bits == own.bits) ≡ false)

abbrev pub AreOthers : Ipv4Address → List (Option Ipv4Address) → Type 0
AreOthers own [] = Unit
AreOthers own (a ∷ more) = IsOther own a × AreOthers own more

-- a host can use a lease: the client has an address that a host of its network can have, the server one of a host, and the
-- router and the servers of names those of other hosts
pub record IsUsable (l : DhcpLease) : Type 0 where
  pub by_host : is_host_address l.server ≡ true
  pub host : is_host_address l.address ≡ true
  pub mask : IfSome l.subnet_mask (λ m. is_mask m ≡ true)
  pub inside : is_networks l.address l.subnet_mask ≡ false
  pub router : IsOther l.address l.router
  pub dns_servers : AreOthers l.address l.dns_servers

-- a message agrees to a request that was sent, and gives this lease
pub record Agrees (hardware_addr : EthernetAddress) (sent : Sent) (m : DhcpRepr) (l : DhcpLease) : Type 0 where
  pub request : sent.message.repr.message_type ≡ Request
  pub agreement : m.message_type ≡ Ack
  pub number : m.transaction_id ≡ sent.message.repr.transaction_id
  pub hardware : is_same m.client_hardware_address hardware_addr ≡ true
  pub server : m.options.server_identifier ≡ Some l.server
  pub named : IfSome sent.message.repr.options.server_identifier (λ s. s ≡ l.server)
  pub went_to : (sent.message.dst ≡ broadcast) ⊎ (sent.message.dst ≡ l.server)
  pub address : l.address ≡ m.your_ip
  pub usable : IsUsable l
  pub end : option_map (λ t. t.expires_at) l.times ≡ end_of sent.at m.options.lease_duration

abbrev pub IsAgreed : EthernetAddress → Option Sent → DhcpRepr → DhcpLease → Type 0
IsAgreed hardware_addr None m l = ⊥
IsAgreed hardware_addr (Some sent) m l = Agrees hardware_addr sent m l

-- an event gives a lease
abbrev pub Gives : EthernetAddress → Option Sent → Event → DhcpLease → Type 0
Gives hardware_addr last (Receive m) l = IsAgreed hardware_addr last m l
Gives hardware_addr last (Ask now random) l = ⊥
Gives hardware_addr last Tell l = ⊥
Gives hardware_addr last Reset l = ⊥
Gives hardware_addr last (Claim now random) l = ⊥
Gives hardware_addr last (Leave now random) l = ⊥

-- a lease was there before an event, or the event is a message that agrees to what was sent last
abbrev pub LeasesAreAnswered : Type 0
LeasesAreAnswered =
    (hardware_addr : EthernetAddress) (known : Option Ipv4Address) (es : List Event) (e : Event) (l : DhcpLease) →
    lease (after e (after_all es (begun hardware_addr known))).client ≡ Some l →
    (lease (after_all es (begun hardware_addr known)).client ≡ Some l)
    ⊎ Gives hardware_addr (after_all es (begun hardware_addr known)).last e l

abbrev pub IsBefore : ℕ → Option LeaseTimes → Type 0
IsBefore now None = Unit
IsBefore now (Some times) = now < times.expires_at

-- after the next message was asked for, a lease that is still there has not ended
abbrev pub LeasesEnd : Type 0
LeasesEnd =
    (now random : ℕ) (c : DhcpClient) (l : DhcpLease) → lease (after_asking now random c) ≡ Some l → IsBefore now l.times

-- the type of the message that is sent at an instant, if one is
abbrev pub type_at : ℕ → ℕ → DhcpClient → Option DhcpMessageType
type_at now random c = option_map (λ m. m.repr.message_type) (message_at now random c)

-- two messages of a type are three seconds apart, whatever happens in between
abbrev pub KindsAreSpaced : Type 0
KindsAreSpaced =
    (first random second other : ℕ) (c : DhcpClient) (es : List Event) (type : DhcpMessageType) →
    type_at first random c ≡ Some type →
    type_at second other (client_after_all es (after_asking first random c)) ≡ Some type →
    first + 3000000 ≤ second

-- nothing is due only with a lease without end
abbrev pub IsForever : Option DhcpLease → Type 0
IsForever None = ⊥
IsForever (Some l) = l.times ≡ None

abbrev pub NeverStuck : Type 0
NeverStuck = (c : DhcpClient) → poll_at c ≡ None → IsForever (lease c)

-- before the instant nothing happens; at every instant what is due then is done, so that something is due only later
abbrev pub PollAtIsExact : Type 0
PollAtIsExact =
    (now random : ℕ) (c : DhcpClient) → now < 0xffff_ffff_ffff_ffff →
    IfSome (poll_at c) (λ at. now < at → (message_at now random c ≡ None) × (after_asking now random c ≡ c))
    × IfSome (poll_at (after_asking now random c)) (λ at. now < at)

-- after a DISCOVER the next one is due in time
abbrev pub DiscoveryGoesOn : Type 0
DiscoveryGoesOn =
    (now random : ℕ) (c : DhcpClient) → now + 65000000 < 0xffff_ffff_ffff_ffff → type_at now random c ≡ Some Discover →
    IfSome (poll_at (after_asking now random c)) (λ at. (now + 3000000 ≤ at) × (at ≤ now + 65000000))

-- What must come of it, so that no client keeps these laws by doing nothing.

-- a lease that has not ended stays, when the next message is asked for
abbrev pub LeasesStay : Type 0
LeasesStay =
    (now random : ℕ) (c : DhcpClient) (l : DhcpLease) → lease c ≡ Some l → IsBefore now l.times → lease (after_asking now random c) ≡ Some l

-- a message asks for a lease that the client has: its server, or all of them
abbrev pub IsRenewal : Option DhcpMessage → DhcpLease → Type 0
IsRenewal None l = ⊥
IsRenewal (Some m) l =
    (m.repr.message_type ≡ Request) × (m.repr.client_ip ≡ l.address) × ((m.dst ≡ l.server) ⊎ (m.dst ≡ broadcast))

-- when something is due before a lease ends, it is asked for
abbrev pub RenewalsAreAsked : Type 0
RenewalsAreAsked =
    (now random at : ℕ) (c : DhcpClient) (l : DhcpLease) → now < 0xffff_ffff_ffff_ffff → lease c ≡ Some l → poll_at c ≡ Some at → at ≤ now →
    IsBefore now l.times → IsRenewal (message_at now random c) l

-- a message asks for a lease by its address: before T2 its server, from then on all of them (RFC 2131 4.4.5)
abbrev pub AsksFor : ℕ → DhcpLease → LeaseTimes → Option DhcpMessage → Type 0
AsksFor now l t None = ⊥
AsksFor now l t (Some m) =
    (m.repr.message_type ≡ Request) × (m.repr.client_ip ≡ l.address) × (m.dst ≡ (if nat_le t.rebind_at now then broadcast else l.server))

-- one of the instants at which a lease is to be asked for again
abbrev pub IsDue : LeaseTimes → ℕ → Type 0
IsDue t due = (due ≡ t.renew_at) ⊎ (due ≡ t.rebind_at)

-- T1 has come, or T2, and what the client sent last it sent before: then it asks, but for three seconds after that message
abbrev pub RenewalsAreInTime : Type 0
RenewalsAreInTime =
    (hardware_addr : EthernetAddress) (known : Option Ipv4Address) (es : List Event) (now random due : ℕ) (l : DhcpLease) (t : LeaseTimes)
    (s : Sent) → lease (after_all es (begun hardware_addr known)).client ≡ Some l → l.times ≡ Some t →
    (after_all es (begun hardware_addr known)).last ≡ Some s → IsDue t due → s.at < due → due ≤ now → s.at + 3000000 ≤ now →
    now < t.expires_at → AsksFor now l t (message_at now random (after_all es (begun hardware_addr known)).client)

-- before T1 a client with a lease sends nothing
abbrev pub RenewalsWait : Type 0
RenewalsWait =
    (hardware_addr : EthernetAddress) (known : Option Ipv4Address) (es : List Event) (now random : ℕ) (l : DhcpLease) (t : LeaseTimes) →
    lease (after_all es (begun hardware_addr known)).client ≡ Some l → l.times ≡ Some t → now < t.renew_at → now < t.expires_at →
    message_at now random (after_all es (begun hardware_addr known)).client ≡ None

-- a message of a server answers one that was sent
pub record Answers (sent : DhcpMessage) (type : DhcpMessageType) (server : Ipv4Address) (m : DhcpRepr) : Type 0 where
  pub is_type : m.message_type ≡ type
  pub number : m.transaction_id ≡ sent.repr.transaction_id
  pub hardware : is_same m.client_hardware_address sent.repr.client_hardware_address ≡ true
  pub by : m.options.server_identifier ≡ Some server
  pub usable : is_usable m server ≡ true

-- a message asks for what was offered
abbrev pub IsRequestOf : Option DhcpMessage → DhcpRepr → Type 0
IsRequestOf None offer = ⊥
IsRequestOf (Some m) offer =
    (m.repr.message_type ≡ Request) × (m.repr.transaction_id ≡ offer.transaction_id) × (m.repr.options.requested_ip ≡ Some offer.your_ip)
    × (m.repr.options.server_identifier ≡ offer.options.server_identifier)

-- an offer that answers a DISCOVER is asked for, as soon as something is due
abbrev pub OffersAreTaken : Type 0
OffersAreTaken =
    (now random later other at : ℕ) (c : DhcpClient) (sent : DhcpMessage) (server : Ipv4Address) (m : DhcpRepr) →
    later < 0xffff_ffff_ffff_ffff → message_at now random c ≡ Some sent → sent.repr.message_type ≡ Discover → Answers sent Offer server m →
    poll_at (after_receiving m (after_asking now random c)) ≡ Some at → at ≤ later →
    IsRequestOf (message_at later other (after_receiving m (after_asking now random c))) m

abbrev pub IsFor : Option DhcpLease → Ipv4Address → Type 0
IsFor None address = ⊥
IsFor (Some l) address = l.address ≡ address

-- an agreement that answers a REQUEST gives a lease, if it is by the server that the request named, or went to, and says for
-- how long
abbrev pub AgreementsAreTaken : Type 0
AgreementsAreTaken =
    (now random seconds : ℕ) (c : DhcpClient) (sent : DhcpMessage) (server : Ipv4Address) (m : DhcpRepr) →
    message_at now random c ≡ Some sent → sent.repr.message_type ≡ Request → Answers sent Ack server m →
    m.options.lease_duration ≡ Some seconds → IfSome (lease c) (λ l. l.server ≡ server) → IfSome sent.repr.options.server_identifier (λ s. s ≡ server) →
    IsFor (lease (after_receiving m (after_asking now random c))) m.your_ip

-- a message asks any server for an address that the client had (RFC 2131 4.3.2, table 4)
abbrev pub AsksForOld : Option DhcpMessage → Ipv4Address → Type 0
AsksForOld None address = ⊥
AsksForOld (Some m) address =
    (m.repr.message_type ≡ Request) × (m.repr.options.requested_ip ≡ Some address) × (m.repr.options.server_identifier ≡ None)
    × (m.repr.client_ip.bits ≡ 0) × (m.dst ≡ broadcast)

-- a client that is reset asks for the address that it had, as soon as something is due
abbrev pub ResetsAskAgain : Type 0
ResetsAskAgain =
    (now random at : ℕ) (c : DhcpClient) (l : DhcpLease) → now < 0xffff_ffff_ffff_ffff → lease c ≡ Some l →
    poll_at (client_after Reset c) ≡ Some at → at ≤ now → AsksForOld (message_at now random (client_after Reset c)) l.address

-- the owner asks for messages before an instant alone, and declines and releases before it
abbrev pub IsEventBefore : ℕ → Event → Type 0
IsEventBefore limit (Receive m) = Unit
IsEventBefore limit (Ask now random) = now < limit
IsEventBefore limit Tell = Unit
IsEventBefore limit Reset = Unit
IsEventBefore limit (Claim now random) = now < limit
IsEventBefore limit (Leave now random) = now < limit

abbrev pub AreBefore : ℕ → List Event → Type 0
AreBefore limit [] = Unit
AreBefore limit (e ∷ es) = IsEventBefore limit e × AreBefore limit es

-- for ten seconds after a lease was declined the client sends nothing, whatever messages come, and has no lease
abbrev pub DeclinesWait : Type 0
DeclinesWait =
    (now random later other : ℕ) (c : DhcpClient) (l : DhcpLease) (es : List Event) → lease c ≡ Some l → AreBefore (now + 10000000) es →
    later < now + 10000000 → (message_at later other (client_after_all es (after_decline now random c)) ≡ None)
    × (lease (client_after_all es (after_decline now random c)) ≡ None)

-- the instants at which the owner asks for the request that is due, one after another, with random numbers
abbrev pub after_turns : List (ℕ × ℕ) → Probing → Probing
after_turns [] p = p
after_turns (t ∷ ts) p = after_turns ts (after_request t.0 t.1 p)

abbrev pub TurnsAreBefore : ℕ → List (ℕ × ℕ) → Type 0
TurnsAreBefore limit [] = Unit
TurnsAreBefore limit (t ∷ ts) = (t.0 < limit) × TurnsAreBefore limit ts

-- an address is not in use before four seconds have passed since its test began, however often the owner asks (RFC 5227 2.1.1)
abbrev pub TestsTakeFourSeconds : Type 0
TestsTakeFourSeconds =
    (address : Ipv4Address) (now random : ℕ) (turns : List (ℕ × ℕ)) → TurnsAreBefore (now + 4000000) turns →
    is_tested (after_turns turns (probing.begun address now random)) ≡ false
