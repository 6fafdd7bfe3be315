-- A link that never refuses.
use Rattle.std.specs.Prelude.{◌≡◌, ℕ, List, [], ◌∷◌, ◌++◌, true, false, None, refl}
use Rattle.net_base.specs.Device.{Event, Received, Frame, Nothing, Withheld, Asked, Sent, refusals_after}
use Rattle.net_base.specs.declared.phy.DeviceCapabilities.{DeviceCapabilities}
use Rattle.net_base.specs.declared.phy.Medium.{Medium}
use Rattle.net_base.specs.declared.phy.Medium.TheVariants as medium
use Rattle.net_base.specs.declared.phy.Checksum.TheVariants as checksum

-- packets of 1,500 octets fit
abbrev pub frame_len : Medium → ℕ
frame_len medium.Ethernet = 1514
frame_len medium.Ip = 1500

abbrev pub capabilities_of : Medium → DeviceCapabilities
capabilities_of m = record {
  medium = m;
  max_transmission_unit = frame_len m;
  max_burst_size = None;
  checksum = record {
    ipv4 = checksum.Both;
    udp = checksum.Both;
    tcp = checksum.Both;
    icmpv4 = checksum.Both;
    icmpv6 = checksum.Both;
  };
}

-- nothing is withheld and no transmit token refused
abbrev pub TellsNoRefusal : List Event → Type 0
TellsNoRefusal [] = Unit {0}
TellsNoRefusal (Received t (Frame f) ∷ es) = TellsNoRefusal es
TellsNoRefusal (Received t Nothing ∷ es) = TellsNoRefusal es
TellsNoRefusal (Received t Withheld ∷ es) = ⊥
TellsNoRefusal (Asked t true ∷ es) = TellsNoRefusal es
TellsNoRefusal (Asked t false ∷ es) = ⊥
TellsNoRefusal (Sent id f ∷ es) = TellsNoRefusal es

pub none_refused : (xs ys : List Event) → TellsNoRefusal xs → TellsNoRefusal ys → TellsNoRefusal (xs ++ ys)
none_refused [] ys a b = b
none_refused (Received t (Frame f) ∷ es) ys a b = none_refused es ys a b
none_refused (Received t Nothing ∷ es) ys a b = none_refused es ys a b
none_refused (Received t Withheld ∷ es) ys a b = absurd a
none_refused (Asked t true ∷ es) ys a b = none_refused es ys a b
none_refused (Asked t false ∷ es) ys a b = absurd a
none_refused (Sent id f ∷ es) ys a b = none_refused es ys a b

pub refused_none : (xs : List Event) → TellsNoRefusal xs → 0 ≡ refusals_after 0 xs
refused_none [] a = refl
refused_none (Received t (Frame f) ∷ es) a = refused_none es a
refused_none (Received t Nothing ∷ es) a = refused_none es a
refused_none (Received t Withheld ∷ es) a = absurd a
refused_none (Asked t true ∷ es) a = refused_none es a
refused_none (Asked t false ∷ es) a = absurd a
refused_none (Sent id f ∷ es) a = refused_none es a
