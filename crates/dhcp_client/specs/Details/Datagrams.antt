-- What a client receives and sends, by sockets.
use Rattle.std.specs.Prelude.{◌≡◌, ℕ, ◌≤◌, Bool, true, false, IsTrue, List, length, Option, Some, None}
use Rattle.std.specs.Borrow.{Bor}
use Rattle.ip_address.specs.declared.ip.IpAddress.TheVariants.{Ipv4}
use Rattle.ip_wire.specs.Ipv4Packet as ipv4
use Rattle.ip_wire.specs.Udp as udp
use Rattle.sockets.specs.declared.endpoint.IpEndpoint.{IpEndpoint}
use Rattle.dhcp_client.specs.Details.Message.{IsDhcp, dhcp_in}
use Rattle.dhcp_client.specs.declared.client.DhcpClient.{DhcpClient}
use Rattle.dhcp_client.specs.declared.messages.DhcpMessage.{DhcpMessage}
use Rattle.dhcp_client.specs.Answers.{after_receiving, gives_lease}

-- a datagram is a server's: it comes from port 67, and is a message of at most 1,472 octets, as the client says in its own
-- (RFC 2132 9.10)
abbrev pub IsServers : ℕ → List ℕ → Type 0
IsServers port payload = (port ≡ 67) × (length payload ≤ 1472) × IsDhcp payload

-- a server's message is received, and may give a lease; anything else changes nothing
pub record ReceivesDatagram (port : ℕ) (payload : List ℕ) (gave : Bool) (c c' : DhcpClient) : Type 0 where
  pub received : IsServers port payload → (c' ≡ after_receiving (dhcp_in payload) c) × (gave ≡ gives_lease (dhcp_in payload) c)
  pub ignored : (IsServers port payload → ⊥) → (c' ≡ c) × (gave ≡ false)

pub record ReceivesOne (port : ℕ) (payload : List ℕ) (c c' : DhcpClient) : Type 0 where
  pub gave : Bool
  pub received : ReceivesDatagram port payload gave c c'

abbrev pub Receives : Option (IpEndpoint × List ℕ) → DhcpClient → DhcpClient → Type 0
Receives None c c' = c' ≡ c
Receives (Some p) c c' = ReceivesOne p.0.port p.1 c c'

-- the datagram of a packet
abbrev pub udp_of : List ℕ → List ℕ
udp_of packet = (ipv4.ipv4_in packet).2

-- a packet of IPv4 has a datagram for port 68, whatever address it goes to, and both checksums are right
pub record IsToClient (packet : List ℕ) : Type 0 where
  pub header : ipv4.IsIpv4 true packet
  pub datagram : udp.IsUdp true (Ipv4 (ipv4.header_in packet).src_addr) (Ipv4 (ipv4.header_in packet).dst_addr) (udp_of packet)
  pub port : (udp.udp_in (udp_of packet)).0.dst_port ≡ 68

-- the port that it comes from, and its payload
abbrev pub datagram_in : List ℕ → ℕ × List ℕ
datagram_in packet = ((udp.udp_in (udp_of packet)).0.src_port, (udp.udp_in (udp_of packet)).1)

abbrev pub parts : ℕ × Bor (List ℕ) → ℕ × List ℕ
parts p = (p.0, p.1.now)

abbrev pub server_of : DhcpMessage → IpEndpoint
server_of m = record { addr = Ipv4 m.dst; port = 67 }
