-- The servers of three addresses, by those that are read one after the other.
use Rattle.std.proofs.Common.{◌≡◌, List, Option, Some, None, ap, ◌∙◌, []}
use Rattle.std.specs.Option.{option_and_then}
use Rattle.ip_address.specs.declared.ip.IpAddress.{IpAddress}
use Rattle.iface_c.specs.Dns.{with_server, server_at, servers_in}
use Rattle.iface_c.specs.declared.addresses.IfaceAddress.{IfaceAddress}

module _ (list : List IfaceAddress) (one : List IpAddress)
    (first : with_server [] (server_at list 0) ≡ Some one) where
  up_to_second : servers_in list
      ≡ option_and_then (λ (two : List IpAddress). with_server two (server_at list 2))
      (with_server one (server_at list 1))
  up_to_second =
      ap (λ (o : Option (List IpAddress)).
      option_and_then (λ (two : List IpAddress). with_server two (server_at list 2))
      (option_and_then (λ (a : List IpAddress). with_server a (server_at list 1)) o)) first

  pub no_second : with_server one (server_at list 1) ≡ None → servers_in list ≡ None
  no_second second =
      up_to_second
      ∙ ap (λ (o : Option (List IpAddress)).
      option_and_then (λ (two : List IpAddress). with_server two (server_at list 2)) o) second

  pub third : (two : List IpAddress) → with_server one (server_at list 1) ≡ Some two →
      servers_in list ≡ with_server two (server_at list 2)
  third two second =
      up_to_second
      ∙ ap (λ (o : Option (List IpAddress)).
      option_and_then (λ (more : List IpAddress). with_server more (server_at list 2)) o) second
