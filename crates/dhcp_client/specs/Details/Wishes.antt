-- What a client asks of servers (RFC 2132 9.8).
use Rattle.std.specs.Prelude.{ℕ, List, [], ◌∷◌, ◌++◌}
use Rattle.dhcp_client.specs.declared.wishes.DhcpWishes.{DhcpWishes}

-- the mask, routes before the router (RFC 3442), servers of names and the longest packet, and then what a program wants
abbrev pub parameters_of : DhcpWishes → List ℕ
parameters_of w = 1 ∷ 121 ∷ 3 ∷ 6 ∷ 26 ∷ w.parameters.items
