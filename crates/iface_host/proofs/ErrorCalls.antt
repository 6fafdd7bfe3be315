-- What frames and packets say of the host's packets, by their kind.
use Rattle.std.proofs.Common.{◌≡◌, ◌≢◌, ◌≤◌, ◌<◌, ◌∙◌, ℕ, suc, Bool, true, false, List, [], ◌∷◌, Option, Some, None, arith, length, drop, ap, refl, sym}
use Rattle.std.specs.Prelude.{◌==◌, ◌/◌, nat_lt, slice_get, slice_index, slice_index_or}
use Rattle.std.specs.List.{find, position_or_len, remove}
use Rattle.std.proofs.lemmas.Bool.Decides.{nat_tests}
use Rattle.std.proofs.lemmas.List.Folds.{find_at}
use Rattle.std.proofs.lemmas.Option.{slice_get_past, slice_get_read}
use Rattle.ip_address.specs.declared.cidr.IpCidr.{IpCidr}
use Rattle.ip_address.specs.declared.protocol.IpProtocol.{IpProtocol}
use Rattle.ip_wire.specs.Octets.{u16_at}
use Rattle.net_base.specs.declared.phy.ChecksumCapabilities.{ChecksumCapabilities}
use Rattle.net_base.specs.declared.phy.DeviceCapabilities.{DeviceCapabilities}
use Rattle.iface_host.specs.Calls.{addresses_of}
use Rattle.iface_host.specs.Errors.{error_in, error_in_ethernet, error_in_ipv4, error_in_ipv6, error_in_packet}
use Rattle.iface_host.specs.LastErrors.{after_error, first_about, is_about, with_error_if}
use Rattle.iface_host.specs.declared.errors.PacketError.{PacketError}
use Rattle.iface_host.specs.declared.host.IfaceHost.{IfaceHost}

-- by its type
pub of_ipv4 : (c : ChecksumCapabilities) (own : List IpCidr) (frame : List ℕ) → 14 ≤ length frame → u16_at frame 12 ≡ 0x0800 →
    error_in_ipv4 c own (drop 14 frame) ≡ error_in_ethernet c own frame
of_ipv4 c own frame long is =
    let short : nat_lt (length frame) 14 ≡ false = grind (arith, nat_tests) in
    let type : (u16_at frame 12 == 0x0800) ≡ true = grind (arith, nat_tests) in
    rw (short, type) refl

pub of_ipv6 : (c : ChecksumCapabilities) (own : List IpCidr) (frame : List ℕ) → 14 ≤ length frame → u16_at frame 12 ≡ 0x86dd →
    error_in_ipv6 c own (drop 14 frame) ≡ error_in_ethernet c own frame
of_ipv6 c own frame long is =
    let short : nat_lt (length frame) 14 ≡ false = grind (arith, nat_tests) in
    let other : (u16_at frame 12 == 0x0800) ≡ false = grind (arith, nat_tests) in
    let type : (u16_at frame 12 == 0x86dd) ≡ true = grind (arith, nat_tests) in
    rw (short, other, type) refl

-- by its version
pub version_six : (c : ChecksumCapabilities) (own : List IpCidr) (p : List ℕ) → 20 ≤ length p → slice_index p 0 / 16 ≡ 6 →
    error_in_ipv6 c own p ≡ error_in_packet c own p
version_six c own p long is =
    let short : nat_lt (length p) 20 ≡ false = grind (arith, nat_tests) in
    let version : (slice_index p 0 / 16 == 6) ≡ true = grind (arith, nat_tests) in
    rw (short, version) refl

pub version_other : (c : ChecksumCapabilities) (own : List IpCidr) (p : List ℕ) → 20 ≤ length p → slice_index p 0 / 16 ≢ 6 →
    error_in_ipv4 c own p ≡ error_in_packet c own p
version_other c own p long is =
    let short : nat_lt (length p) 20 ≡ false = grind (arith, nat_tests) in
    let version : (slice_index p 0 / 16 == 6) ≡ false = grind (arith, nat_tests) in
    rw (short, version) refl

-- an error was kept, or none was there
pub noted_as : (frame : List ℕ) (old : IfaceHost) (d : DeviceCapabilities) → d ≡ old.outbox.capabilities → (own : List IpCidr) →
    own ≡ addresses_of old → (found : Option PacketError) → error_in d own frame ≡ found → (kept : List PacketError) →
    kept ≡ with_error_if found old.errors → record old { errors = kept } ≡ after_error frame old
noted_as frame old d device own is found found_is kept kept_is =
    let same : found ≡ error_in old.outbox.capabilities (addresses_of old) frame =
    sym found_is ∙ ap (λ (e : DeviceCapabilities). error_in e own frame) device
    ∙ ap (λ (o : List IpCidr). error_in old.outbox.capabilities o frame) is in
    ap (λ (k : List PacketError). record old { errors = k }) (kept_is ∙ ap (λ (f : Option PacketError). with_error_if f old.errors) same)

-- the first one about a protocol and a port was taken, or there is none
pub taken : (protocol : IpProtocol) (port : Option ℕ) (kept : List PacketError) (i : ℕ) (e : PacketError) →
    i ≡ position_or_len (is_about protocol port) kept → i < length kept → e ≡ slice_index_or kept i e → Some e ≡ first_about protocol port kept
taken protocol port kept i e at within value =
    sym (find_at (is_about protocol port) kept ∙ ap (slice_get kept) (sym at) ∙ slice_get_read kept (length kept) i e refl within value)

pub none_there : (protocol : IpProtocol) (port : Option ℕ) (kept : List PacketError) (i : ℕ) →
    i ≡ position_or_len (is_about protocol port) kept → length kept ≤ i → None ≡ first_about protocol port kept
none_there protocol port kept i at past =
    sym (find_at (is_about protocol port) kept ∙ ap (slice_get kept) (sym at) ∙ slice_get_past kept i past)

-- then the others are all
pub left_as : {X : Type 0} (p : X → Bool) (xs : List X) → find p xs ≡ None → remove xs (position_or_len p xs) ≡ xs
left_as p [] none = refl
left_as {X = X} p (x ∷ xs) none = by (p x) refl (left_as p xs) where
  by : (b : Bool) → p x ≡ b → (find p xs ≡ None → remove xs (position_or_len p xs) ≡ xs) →
      remove (x ∷ xs) (position_or_len p (x ∷ xs)) ≡ x ∷ xs
  by true is left = let e : Some x ≡ None = rw is at none in absurd cc
  by false is left =
      let rest : find p xs ≡ None = rw is at none in
      let at : position_or_len p (x ∷ xs) ≡ suc (position_or_len p xs) = rw is (omega arith) in
      rw at (ap (λ (ys : List X). x ∷ ys) (left rest))
