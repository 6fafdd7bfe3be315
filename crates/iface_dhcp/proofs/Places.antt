-- Whether a place is kept, and why a socket isn't opened, over plain variables.
use Rattle.std.proofs.Common.{◌≡◌, ◌⊎◌, inl, inr, ℕ, Bool, true, false, Option, Some, None, refl, sym, ap}
use Rattle.std.specs.Prelude.{is_some, Result, Err}
use Rattle.iface_host.specs.declared.host.IfaceHost.{IfaceHost}
use Rattle.iface_host.specs.declared.refusal.Refusal.{Refusal}
use Rattle.iface_host.specs.declared.refusal.Refusal.TheVariants.{NoMemory}
use Rattle.iface_dhcp.specs.Dhcp.{Keeps}
use Rattle.iface_dhcp.specs.Place.{KeepsPlace, IsFree, IsKept, with_kept}
use Rattle.iface_dhcp.specs.declared.dhcp.Dhcp.{Dhcp}

none_there : (o : Option ℕ) → is_some o ≡ false → o ≡ None
none_there None h = refl
none_there (Some n) h = absurd cc

pub kept_now : (d : Dhcp) (kept : Option ℕ) (old new : IfaceHost) → is_some d.kept ≡ false → Keeps kept old new →
    KeepsPlace d (with_kept kept d) old new
kept_now d kept old new h keeps = IsFree (none_there d.kept h) refl keeps

kept_by : (d : Dhcp) (host : IfaceHost) (o : Option ℕ) → d.kept ≡ o → is_some o ≡ true → KeepsPlace d d host host
kept_by d host None e h = absurd cc
kept_by d host (Some n) e h = IsKept n e refl refl

pub kept_already : (d : Dhcp) (host : IfaceHost) → is_some d.kept ≡ true → KeepsPlace d d host host
kept_already d host h = kept_by d host d.kept refl h

abbrev refused : Refusal → Result ℕ Refusal
refused r = Err r

as_refused : (r e : Refusal) → refused r ≡ refused e → r ≡ e
as_refused r e h = cc

-- a call that was refused, by the reason that it tells, or else for want of memory
pub unopened : (o : Option Refusal) (r : Refusal) → ((e : Refusal) → o ≡ Some e → refused r ≡ refused e) →
    (o ≡ None → r ≡ NoMemory) → (o ≡ Some r) ⊎ (r ≡ NoMemory)
unopened None r why memory = inr (memory refl)
unopened (Some e) r why memory = inl (ap (λ (x : Refusal). Some x) (sym (as_refused r e (why e refl))))
