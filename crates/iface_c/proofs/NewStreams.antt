-- New connections, and the code of the call that makes them.
use Rattle.std.proofs.Common.{◌≡◌, ℕ, Bool, true, false, Option, Some, None, refl, sym, subst}
use Rattle.std.specs.Prelude.{if◌then◌else◌}
use Rattle.iface_host.specs.declared.host.IfaceHost.{IfaceHost}
use Rattle.iface_streams.specs.Settings.{is_proper}
use Rattle.iface_streams.specs.Streams.{IsNew, new_refusal}
use Rattle.iface_streams.specs.declared.settings.StreamSettings.{StreamSettings}
use Rattle.iface_streams.specs.declared.streams.Streams.{Streams}
use Rattle.iface_c.specs.Status.{IsDueOrMemory, code_by, code_if}
use Rattle.iface_c.specs.Streams.{IsMade, code_for_new}

-- none may be made by the settings
pub of_improper : (settings : StreamSettings) {s : Option Streams} (host : Option IfaceHost) → s ≡ None → is_proper settings ≡ false →
    IsDueOrMemory (code_for_new settings s host) 3
of_improper settings {s} host free improper =
    subst (λ (a : Option Streams). IsDueOrMemory (code_for_new settings a host) 3) (sym free)
    (subst (λ (b : Bool). IsDueOrMemory (if b then code_by (new_refusal settings) host else 3) 3) (sym improper)
    (record { due_one = λ _. refl; memory = λ none _. absurd (let bad : 3 ≡ 0 = none in cc) }))

-- they may, and the code is that of the call of the host
pub of_proper : (settings : StreamSettings) (x : IfaceHost) (code : ℕ) {s : Option Streams} {host : Option IfaceHost} →
    s ≡ None → is_proper settings ≡ true → host ≡ Some x → IsDueOrMemory (code_if (new_refusal settings x)) code →
    IsDueOrMemory (code_for_new settings s host) code
of_proper settings x code {s} {host} free proper has is =
    subst (λ (a : Option Streams). IsDueOrMemory (code_for_new settings a host) code) (sym free)
    (subst (λ (b : Bool). IsDueOrMemory (if b then code_by (new_refusal settings) host else 3) code) (sym proper)
    (subst (λ (h : Option IfaceHost). IsDueOrMemory (code_by (new_refusal settings) h) code) (sym has) is))

-- they were made, where there were none
pub made_there : (settings : StreamSettings) (made : Streams) (x y : IfaceHost) {s s' : Option Streams} {old new : Option IfaceHost} →
    s ≡ None → s' ≡ Some made → old ≡ Some x → new ≡ Some y → IsNew settings made x y → IsMade settings s s' old new
made_there settings made x y {s} {s'} {old} {new} none some was is made_so =
    subst (λ (a : Option Streams). IsMade settings a s' old new) (sym none)
    (subst (λ (a : Option Streams). IsMade settings None a old new) (sym some)
    (subst (λ (h : Option IfaceHost). IsMade settings None (Some made) h new) (sym was)
    (subst (λ (h : Option IfaceHost). IsMade settings None (Some made) (Some x) h) (sym is) made_so)))
