-- A list of networks that is read one by one.
use Rattle.std.proofs.Common.{◌≡◌, List, [], ◌∷◌, ◌++◌, Option, Some, None, refl, ap, append_assoc}
use Rattle.std.specs.Option.{option_map}
use Rattle.ip_address.specs.declared.cidr.IpCidr.{IpCidr}

-- one more is read, and the others come behind it
pub one_more : (done : List IpCidr) (one : IpCidr) (others : Option (List IpCidr)) →
    option_map (λ (rest : List IpCidr). (done ++ one ∷ []) ++ rest) others
    ≡ option_map (λ (rest : List IpCidr). done ++ rest) (option_map (λ (rest : List IpCidr). one ∷ rest) others)
one_more done one None = refl
one_more done one (Some rest) = ap Some (append_assoc done (one ∷ []) rest)
