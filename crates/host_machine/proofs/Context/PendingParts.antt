-- The fragments of a packet that is cut into two or more are parts of it.
use Rattle.std.proofs.Common.{◌≡◌, ℕ, ◌*◌, ◌<◌, List, [], ◌∷◌, length, refl, inl, inr, arith}
use Rattle.std.specs.Prelude.{map}
use Rattle.std.specs.List.{AllByRecursion}
use Rattle.net_base.specs.declared.phy.Medium.{Medium}
use Rattle.ip_address.specs.Hardware.{IsOf}
use Rattle.fragmentation.specs.Fragments.{Fragment}
use Rattle.fragmentation.specs.Cuts.{Datagram, HasForm, cut, pieces_of, piece_of}
use Rattle.host_machine.specs.Context.Real.{IsPart}
use Rattle.host_machine.proofs.Receive.Pieces.{IsIn, contains_in, IsPiece, piece_in, part_of}
use Rattle.host_machine.proofs.Receive.Parts.{is_part}

-- the pieces of a packet that was cut into two or more
part_is : (m : Medium) (d : Datagram) (y : ℕ) (f : Fragment) → HasForm d → IsOf m d.destination → d.size ≡ y * 8 → 0 < d.size →
    d.size < length d.payload → IsPiece d.size d.payload f → IsPart m (piece_of d f)
part_is m d y f form to size pos more piece =
    let within = (part_of d.size d.payload f pos piece).within in
    let payload = form.payload in
    record {
      destination = to;
      part = λ n. is_part y d f size pos more piece;
      header = λ n. record {
        source = form.source_addr;
        destination = form.destination_addr;
        protocol = refl;
        payload_len = omega arith;
        identification = form.identification;
        offset = omega arith;
      };
    }

parts_are : (m : Medium) (d : Datagram) (y : ℕ) (fs : List Fragment) → HasForm d → IsOf m d.destination → d.size ≡ y * 8 → 0 < d.size →
    d.size < length d.payload → ((f : Fragment) → IsIn f fs → IsPiece d.size d.payload f) →
    AllByRecursion (IsPart m) (map (piece_of d) fs)
parts_are m d y [] form to size pos more pieces = tt
parts_are m d y (f ∷ fs) form to size pos more pieces =
    (part_is m d y f form to size pos more (pieces f (inl refl)), parts_are m d y fs form to size pos more (λ g i. pieces g (inr i)))

pub pieces_are : (m : Medium) (d : Datagram) (y : ℕ) → HasForm d → IsOf m d.destination → d.size ≡ y * 8 → 0 < d.size →
    d.size < length d.payload → AllByRecursion (IsPart m) (pieces_of d)
pieces_are m d y form to size pos more =
    parts_are m d y (cut d.size d.payload) form to size pos more (λ f i. piece_in d.size d.payload f (contains_in (cut d.size d.payload) f i))
