-- A message is read as it was written.
use Rattle.std.proofs.Common.{◌≡◌, ℕ, ◌+◌, ◌*◌, ◌/◌, ◌%◌, ◌<◌, ◌^◌, Bool, true, false, nat_le, cond, List, [], ◌∷◌, ◌++◌}
use Rattle.std.proofs.Common.{Option, ◌&&◌, length, drop, get_or, replicate, refl, sym, ap, subst, ◌∙◌, append-nil, arith}
use Rattle.std.specs.Prelude.{slice_range}
use Rattle.ip_address.proofs.SixOctets.{Six, six}
use Rattle.ip_address.specs.declared.ipv4.Ipv4Address.{Ipv4Address}
use Rattle.ip_address.specs.declared.ethernet_address.EthernetAddress.{EthernetAddress}
use Rattle.ip_wire.specs.Octets.{u16_at, u32_at}
use Rattle.dhcp_client.specs.declared.message.DhcpMessageType.{DhcpMessageType}
use Rattle.dhcp_client.specs.declared.message.DhcpMessageType.TheVariants.{Discover, Offer, Request, Decline, Ack, Nak, Release, Inform}
use Rattle.dhcp_client.specs.declared.message.DhcpRepr.{DhcpRepr}
use Rattle.dhcp_client.specs.declared.options.DhcpOptions.{DhcpOptions}
use Rattle.dhcp_client.specs.Options.{options_after, are_whole, joined, in_room, octet_in, address_data, seconds_data, size_data}
use Rattle.dhcp_client.specs.Options.{identifier_data, list_data, address_in, seconds_in, size_in, identifier_in, listed_at, list_in, AreOptions}
use Rattle.dhcp_client.specs.Details.Message.{number_of, type_of, operation_of, is_for_ethernet, overload_in, has_whole_options, joined_in, data_in, type_number}
use Rattle.dhcp_client.specs.Details.Message.{IsTypeNumber, options_in, router_in, fields_text, header_text, options_text, text, IsMessage, ReadAgain}
use Rattle.dhcp_client.specs.Details.Routes.{are_routes, default_in}
use Rattle.dhcp_client.proofs.OptionsAgain.{lookup, AreCodes, found, all_whole}
use Rattle.dhcp_client.proofs.OptionsAgain.{address_again, router_again, seconds_again, size_again, identifier_again, list_again}

number : (n : ℕ) → n < 2 ^ 32 → n / 16777216 % 256 * 16777216 + n / 65536 % 256 * 65536 + n / 256 % 256 * 256 + n % 256 ≡ n
number n lt = omega arith

short : (n : ℕ) → n < 2 ^ 16 → n / 256 % 256 * 256 + n % 256 ≡ n
short n lt = omega arith

type_again : (t : DhcpMessageType) → IsTypeNumber (number_of t) × (type_of (number_of t) ≡ t)
type_again Discover = ((omega arith, omega arith), refl)
type_again Offer = ((omega arith, omega arith), refl)
type_again Request = ((omega arith, omega arith), refl)
type_again Decline = ((omega arith, omega arith), refl)
type_again Ack = ((omega arith, omega arith), refl)
type_again Nak = ((omega arith, omega arith), refl)
type_again Release = ((omega arith, omega arith), refl)
type_again Inform = ((omega arith, omega arith), refl)

flag_again : (b : Bool) → nat_le 128 (cond b 128 0) ≡ b
flag_again true = refl
flag_again false = refl

-- the options of a message by their codes
abbrev parts_of : DhcpRepr → List ℕ → List ℕ → List (ℕ × List ℕ)
parts_of r parameters host_name =
    (53, number_of r.message_type ∷ [])
    ∷ (61, identifier_data r.options.client_identifier)
    ∷ (50, address_data r.options.requested_ip)
    ∷ (54, address_data r.options.server_identifier)
    ∷ (57, size_data r.options.max_size)
    ∷ (51, seconds_data r.options.lease_duration)
    ∷ (58, seconds_data r.options.renew_duration)
    ∷ (59, seconds_data r.options.rebind_duration)
    ∷ (1, address_data r.options.subnet_mask)
    ∷ (3, address_data r.options.router)
    ∷ (6, list_data r.options.dns_servers)
    ∷ (26, size_data r.options.mtu)
    ∷ (12, host_name)
    ∷ (55, parameters)
    ∷ []

codes : (r : DhcpRepr) (parameters host_name : List ℕ) → AreCodes (parts_of r parameters host_name)
codes r parameters host_name = (
  (refl, refl),
  (
    (refl, refl),
    (
      (refl, refl),
      (
        (refl, refl),
        (
          (refl, refl),
          (
            (refl, refl),
            (
              (refl, refl),
              (
                (refl, refl),
                (
                  (refl, refl),
                  ((refl, refl), ((refl, refl), ((refl, refl), ((refl, refl), ((refl, refl), tt))))),
                ),
              ),
            ),
          ),
        ),
      ),
    ),
  ),
)

-- what stands before the options, by the hardware address
abbrev head : DhcpRepr → List ℕ → List ℕ
head r hardware = fields_text r ++ hardware ++ replicate 202 0 ++ 99 ∷ 130 ∷ 83 ∷ 99 ∷ []

-- what is read before the options
record Fields (r : DhcpRepr) (m opts : List ℕ) : Type 0 where
  pub behind : drop 240 m ≡ opts
  pub len : length m ≡ 240 + length opts
  pub operation : get_or m 0 0 ≡ operation_of (number_of r.message_type)
  pub ethernet : is_for_ethernet m ≡ true
  pub transaction_id : u32_at m 4 ≡ r.transaction_id
  pub secs : u16_at m 8 ≡ r.secs
  pub broadcast : nat_le 128 (get_or m 10 0) ≡ r.broadcast
  pub client_ip : u32_at m 12 ≡ r.client_ip.bits
  pub your_ip : u32_at m 16 ≡ r.your_ip.bits
  pub server_ip : u32_at m 20 ≡ r.server_ip.bits
  pub relay_agent_ip : u32_at m 24 ≡ r.relay_agent_ip.bits
  pub hardware : slice_range m 28 34 ≡ r.client_hardware_address.0

fields_six : (r : DhcpRepr) (opts : List ℕ) (x : Six r.client_hardware_address.0) → IsMessage r →
    r.client_hardware_address.0 ≡ x.a ∷ x.b ∷ x.c ∷ x.d ∷ x.e ∷ x.f ∷ [] →
    Fields r (head r (x.a ∷ x.b ∷ x.c ∷ x.d ∷ x.e ∷ x.f ∷ []) ++ opts) opts
unfolding fields_text
fields_six r opts x h e = record {
  behind = refl;
  len = omega arith;
  operation = refl;
  ethernet = refl;
  transaction_id = number r.transaction_id h.transaction_id;
  secs = short r.secs h.secs;
  broadcast = flag_again r.broadcast;
  client_ip = number r.client_ip.bits h.client_ip;
  your_ip = number r.your_ip.bits h.your_ip;
  server_ip = number r.server_ip.bits h.server_ip;
  relay_agent_ip = number r.relay_agent_ip.bits h.relay_agent_ip;
  hardware = sym e;
}

fields : (r : DhcpRepr) (opts : List ℕ) → IsMessage r → Fields r (header_text r ++ opts) opts
fields r opts h =
    let x = six r.client_hardware_address.0 h.hardware_address in
    subst (λ (xs : List ℕ). Fields r (head r xs ++ opts) opts) (sym x.is) (fields_six r opts x h x.is)

and_true : (b : Bool) → (b && true && true) ≡ b
and_true true = refl
and_true false = refl

-- no options stand in other fields
no_overload : (m : List ℕ) → overload_in m ≡ 0 → (has_whole_options m ≡ are_whole 0 (drop 240 m))
    × ((code : ℕ) → joined_in code m ≡ joined code (options_after 0 (drop 240 m)))
no_overload m e = (
  rw e (and_true (are_whole 0 (drop 240 m))),
  λ code. rw e (append-nil (joined code (options_after 0 (drop 240 m)) ++ []) ∙ append-nil (joined code (options_after 0 (drop 240 m)))),
)

-- what is read of the options, by their codes
record Datas (r : DhcpRepr) (parameters host_name m : List ℕ) : Type 0 where
  pub whole : has_whole_options m ≡ true
  pub type : type_number m ≡ number_of r.message_type
  pub client_identifier : data_in 61 m ≡ in_room (identifier_data r.options.client_identifier)
  pub requested_ip : data_in 50 m ≡ in_room (address_data r.options.requested_ip)
  pub server_identifier : data_in 54 m ≡ in_room (address_data r.options.server_identifier)
  pub max_size : data_in 57 m ≡ in_room (size_data r.options.max_size)
  pub lease_duration : data_in 51 m ≡ in_room (seconds_data r.options.lease_duration)
  pub renew_duration : data_in 58 m ≡ in_room (seconds_data r.options.renew_duration)
  pub rebind_duration : data_in 59 m ≡ in_room (seconds_data r.options.rebind_duration)
  pub subnet_mask : data_in 1 m ≡ in_room (address_data r.options.subnet_mask)
  pub router : data_in 3 m ≡ in_room (address_data r.options.router)
  pub routes : data_in 121 m ≡ []
  pub mtu : data_in 26 m ≡ in_room (size_data r.options.mtu)
  pub dns_servers : data_in 6 m ≡ in_room (list_data r.options.dns_servers)
  pub list : joined_in 55 m ≡ parameters
  pub name : joined_in 12 m ≡ host_name

datas : (r : DhcpRepr) (parameters host_name m : List ℕ) → drop 240 m ≡ options_text r parameters host_name → Datas r parameters host_name m
datas r parameters host_name m e =
    let ps = parts_of r parameters host_name in
    let all : (k : ℕ) → joined k (options_after 0 (drop 240 m)) ≡ lookup k ps =
    λ k. ap (λ (xs : List ℕ). joined k (options_after 0 xs)) e ∙ found k ps (codes r parameters host_name) in
    let none = no_overload m (ap (λ (d : List ℕ). octet_in (in_room d)) (all 52)) in
    let joined_is : (k : ℕ) → joined_in k m ≡ lookup k ps = λ k. none.1 k ∙ all k in
    let data_is : (k : ℕ) (d : List ℕ) → lookup k ps ≡ d ++ [] → data_in k m ≡ in_room d =
    λ k d is. ap in_room (joined_is k ∙ is ∙ append-nil d) in
    record {
      whole = none.0 ∙ ap (are_whole 0) e ∙ all_whole ps (codes r parameters host_name);
      type = ap octet_in (data_is 53 (number_of r.message_type ∷ []) refl);
      client_identifier = data_is 61 (identifier_data r.options.client_identifier) refl;
      requested_ip = data_is 50 (address_data r.options.requested_ip) refl;
      server_identifier = data_is 54 (address_data r.options.server_identifier) refl;
      max_size = data_is 57 (size_data r.options.max_size) refl;
      lease_duration = data_is 51 (seconds_data r.options.lease_duration) refl;
      renew_duration = data_is 58 (seconds_data r.options.renew_duration) refl;
      rebind_duration = data_is 59 (seconds_data r.options.rebind_duration) refl;
      subnet_mask = data_is 1 (address_data r.options.subnet_mask) refl;
      router = data_is 3 (address_data r.options.router) refl;
      routes = ap in_room (joined_is 121);
      mtu = data_is 26 (size_data r.options.mtu) refl;
      dns_servers = data_is 6 (list_data r.options.dns_servers) refl;
      list = joined_is 55 ∙ append-nil parameters;
      name = joined_is 12 ∙ append-nil host_name;
    }

made_options : (o : DhcpOptions) (mask router requested server : Option Ipv4Address) (servers : List (Option Ipv4Address))
    (lease renew rebind size mtu : Option ℕ) (identifier : Option EthernetAddress) → mask ≡ o.subnet_mask → router ≡ o.router →
    servers ≡ o.dns_servers → requested ≡ o.requested_ip → lease ≡ o.lease_duration → server ≡ o.server_identifier →
    size ≡ o.max_size → mtu ≡ o.mtu → renew ≡ o.renew_duration → rebind ≡ o.rebind_duration → identifier ≡ o.client_identifier →
    ◌≡◌ {A = DhcpOptions} (record {
      subnet_mask = mask;
      router = router;
      dns_servers = servers;
      requested_ip = requested;
      lease_duration = lease;
      server_identifier = server;
      max_size = size;
      mtu = mtu;
      renew_duration = renew;
      rebind_duration = rebind;
      client_identifier = identifier;
    }) o
made_options o mask router requested server servers lease renew rebind size mtu identifier e1 e2 e3 e4 e5 e6 e7 e8 e9 e10 e11 =
    rw (e1, e2, e3, e4, e5, e6, e7, e8, e9, e10, e11) refl

-- no routes are told, so the router is the first one of the list
listed : (m : List ℕ) → data_in 121 m ≡ [] → router_in m ≡ listed_at (data_in 3 m) 0
listed m e = ap (λ (d : List ℕ). cond (are_routes d) (default_in d) (listed_at (data_in 3 m) 0)) e

options_again : (r : DhcpRepr) (parameters host_name m : List ℕ) → Datas r parameters host_name m → AreOptions r.options → options_in m ≡ r.options
options_again r parameters host_name m d h =
    let o = r.options in
    made_options o _ _ _ _ _ _ _ _ _ _ _
    (ap (λ (xs : List ℕ). address_in xs) d.subnet_mask ∙ address_again o.subnet_mask h.subnet_mask)
    (listed m d.routes ∙ ap (λ (xs : List ℕ). listed_at xs 0) d.router ∙ router_again o.router h.router)
    (ap (λ (xs : List ℕ). list_in xs) d.dns_servers ∙ list_again o.dns_servers h.dns_servers)
    (ap (λ (xs : List ℕ). address_in xs) d.requested_ip ∙ address_again o.requested_ip h.requested_ip)
    (ap (λ (xs : List ℕ). seconds_in xs) d.lease_duration ∙ seconds_again o.lease_duration h.lease_duration)
    (ap (λ (xs : List ℕ). address_in xs) d.server_identifier ∙ address_again o.server_identifier h.server_identifier)
    (ap (λ (xs : List ℕ). size_in xs) d.max_size ∙ size_again o.max_size h.max_size)
    (ap (λ (xs : List ℕ). size_in xs) d.mtu ∙ size_again o.mtu h.mtu)
    (ap (λ (xs : List ℕ). seconds_in xs) d.renew_duration ∙ seconds_again o.renew_duration h.renew_duration)
    (ap (λ (xs : List ℕ). seconds_in xs) d.rebind_duration ∙ seconds_again o.rebind_duration h.rebind_duration)
    (ap (λ (xs : List ℕ). identifier_in xs) d.client_identifier ∙ identifier_again o.client_identifier h.client_identifier)

made : (r : DhcpRepr) (t : DhcpMessageType) (id secs client your server relay : ℕ) (flag : Bool) (hardware : List ℕ) (o : DhcpOptions) →
    t ≡ r.message_type → id ≡ r.transaction_id → secs ≡ r.secs → flag ≡ r.broadcast → client ≡ r.client_ip.bits →
    your ≡ r.your_ip.bits → server ≡ r.server_ip.bits → relay ≡ r.relay_agent_ip.bits → hardware ≡ r.client_hardware_address.0 →
    o ≡ r.options → ◌≡◌ {A = DhcpRepr} (record {
      message_type = t;
      transaction_id = id;
      secs = secs;
      broadcast = flag;
      client_ip = record { bits = client };
      your_ip = record { bits = your };
      server_ip = record { bits = server };
      relay_agent_ip = record { bits = relay };
      client_hardware_address = record { 0 = hardware };
      options = o;
    }) r
made r t id secs client your server relay flag hardware o e1 e2 e3 e4 e5 e6 e7 e8 e9 e10 =
    rw (e1, e2, e3, e4, e5, e6, e7, e8, e9, e10) refl

pub read_again : ReadAgain
read_again r parameters host_name h =
    let m = text r parameters host_name in
    let f = fields r (options_text r parameters host_name) h in
    let d = datas r parameters host_name m f.behind in
    let t = type_again r.message_type in
    let len = f.len in (
      record {
        whole = omega (arith, len);
        ethernet = f.ethernet;
        options = d.whole;
        type = subst IsTypeNumber (sym d.type) t.0;
        operation = f.operation ∙ sym (ap operation_of d.type);
      },
      made r _ _ _ _ _ _ _ _ _ _ (ap type_of d.type ∙ t.1) f.transaction_id f.secs f.broadcast f.client_ip f.your_ip f.server_ip
          f.relay_agent_ip f.hardware (options_again r parameters host_name m d h.options),
      d.list,
      d.name,
    )
