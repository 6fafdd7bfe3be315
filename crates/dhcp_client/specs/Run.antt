-- What happens to a client: messages come, in any number and order, true ones and forged ones; and its owner calls it,
-- whenever that likes.
use Rattle.std.specs.Prelude.{ℕ, List, [], ◌∷◌, Option, None}
use Rattle.std.specs.Option.{option_map, option_or}
use Rattle.ip_address.specs.declared.ipv4.Ipv4Address.{Ipv4Address}
use Rattle.ip_address.specs.declared.ethernet_address.EthernetAddress.{EthernetAddress}
use Rattle.dhcp_client.specs.declared.message.DhcpRepr.{DhcpRepr}
use Rattle.dhcp_client.specs.declared.client.DhcpClient.{DhcpClient}
use Rattle.dhcp_client.specs.declared.messages.DhcpMessage.{DhcpMessage}
use Rattle.dhcp_client.specs.Answers.{after_receiving}
use Rattle.dhcp_client.specs.Client.{after_reset, after_telling, new_client}
use Rattle.dhcp_client.specs.Messages.{after_asking, message_at}
use Rattle.dhcp_client.specs.Returns.{after_decline, after_release, decline_at, release_at}

pub data Event : Type 0 where
  -- a message comes
  Receive : (message : DhcpRepr) → Event
  -- the owner asks for the next message, at an instant and with a random number
  Ask : (now : ℕ) → (random : ℕ) → Event
  -- the owner is told what has become of the lease
  Tell : Event
  -- the owner lets the client begin anew
  Reset : Event
  -- the owner has seen that another host uses the address of the lease, or needs it no more
  Claim : (now random : ℕ) → Event
  Leave : (now random : ℕ) → Event

abbrev pub client_after : Event → DhcpClient → DhcpClient
client_after (Receive message) c = after_receiving message c
client_after (Ask now random) c = after_asking now random c
client_after Tell c = after_telling c
client_after Reset c = after_reset c
client_after (Claim now random) c = after_decline now random c
client_after (Leave now random) c = after_release random c

-- a message that was sent, and when
pub record Sent : Type 0 where
  pub at : ℕ
  pub message : DhcpMessage

abbrev pub sent_at : ℕ → Option DhcpMessage → Option Sent
sent_at now m = option_map (λ m. record { at = now; message = m }) m

abbrev pub sent_by : Event → DhcpClient → Option Sent
sent_by (Receive message) c = None
sent_by (Ask now random) c = sent_at now (message_at now random c)
sent_by Tell c = None
sent_by Reset c = None
sent_by (Claim now random) c = sent_at now (decline_at random c)
sent_by (Leave now random) c = sent_at now (release_at random c)

-- a client, and what it sent last
pub record History : Type 0 where
  pub client : DhcpClient
  pub last : Option Sent

abbrev pub begun : EthernetAddress → Option Ipv4Address → History
begun hardware_addr known = record { client = new_client hardware_addr known; last = None }

abbrev pub after : Event → History → History
after e h = record { client = client_after e h.client; last = option_or (sent_by e h.client) h.last }

-- after these events, one after the other
abbrev pub after_all : List Event → History → History
after_all [] h = h
after_all (e ∷ es) h = after_all es (after e h)

abbrev pub client_after_all : List Event → DhcpClient → DhcpClient
client_after_all [] c = c
client_after_all (e ∷ es) c = client_after_all es (client_after e c)
