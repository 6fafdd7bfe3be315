-- The ends of streams, and instants.
use Rattle.std.specs.Prelude.{ℕ, ◌+◌, min, Option, Some, None}
use Rattle.tcp_host.specs.declared.iss.Endpoints.{Endpoints}

-- the ends of a connection, as the peer has them
abbrev pub reversed : Endpoints → Endpoints
reversed e = record {
  local_addr = e.remote_addr;
  local_port = e.remote_port;
  remote_addr = e.local_addr;
  remote_port = e.local_port;
}

-- the earlier of two instants, where there are some
abbrev pub earlier : Option ℕ → Option ℕ → Option ℕ
earlier (Some one) (Some other) = Some (min one other)
earlier (Some one) None = Some one
earlier None other = other
