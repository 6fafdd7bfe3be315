-- A listener: where it listens, and which connections it has begun that the program hasn't accepted.
use Rattle.std.specs.Prelude.{ℕ, Bool, true, false, nat_lt, nat_le, ◌==◌, ◌&&◌, List, [], ◌∷◌, ◌++◌, length, drop, Option, Some, None, if◌then◌else◌}
use Rattle.ip_address.specs.declared.ip.IpAddress.{IpAddress}
use Rattle.ip_address.specs.Ip.{address_key}
use Rattle.tcp_host.specs.Backlog as backlog
use Rattle.tcp_host.specs.Backlog.{Waiting, without, first_of}

pub record Listener : Type 0 where
  -- the local port, and the local address, or any
  pub port : ℕ
  pub address : Option IpAddress
  -- it listens still
  pub is_open : Bool
  -- the places of connections whose handshake isn't complete, and of those whose is, the oldest first
  pub half_open : Waiting
  pub ready : List ℕ

abbrev pub is_same_address : IpAddress → IpAddress → Bool
is_same_address a b = ((address_key a).0 == (address_key b).0) && ((address_key a).1 == (address_key b).1)

abbrev pub is_for : Option IpAddress → IpAddress → Bool
is_for None address = true
is_for (Some own) address = is_same_address own address

-- a segment to a local end is for it
abbrev pub listens_at : IpAddress → ℕ → Listener → Bool
listens_at address port l = l.is_open && (port == l.port) && is_for l.address address

-- no more SYNs are taken while as many as there may be wait for the program, nor once it is closed
abbrev pub has_room : Listener → Bool
has_room l = l.is_open && nat_lt (length l.ready) l.half_open.most

-- as many of its connections are half-open as may be
abbrev pub is_full : Listener → Bool
is_full l = nat_le l.half_open.most (length l.half_open.places)

-- one that listens, and has begun no connection
abbrev pub first : ℕ → Option IpAddress → (most : ℕ) → Listener
first port address most = record {
  port = port;
  address = address;
  is_open = true;
  half_open = record { places = []; most = most };
  ready = [];
}

-- it listens no more (RFC 9293 3.10.4)
abbrev pub after_closing : Listener → Listener
after_closing l = record l { is_open = false }

-- a SYN begins a connection at a place
abbrev pub after_syn : ℕ → Listener → Listener
after_syn place l = record l { half_open = backlog.after_adding place l.half_open }

-- the handshake of the connection at a place is complete
abbrev pub after_handshake : ℕ → Listener → Listener
after_handshake place l = record l {
  half_open = backlog.after_removing place l.half_open;
  ready = if has_room l then l.ready ++ place ∷ [] else l.ready;
}

-- it ended before the program accepted it
abbrev pub after_end : ℕ → Listener → Listener
after_end place l = record l { half_open = backlog.after_removing place l.half_open; ready = without place l.ready }

-- the program accepts the first one
abbrev pub after_accepting : Listener → Listener
after_accepting l = record l { ready = drop 1 l.ready }
