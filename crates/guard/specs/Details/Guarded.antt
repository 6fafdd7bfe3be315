-- What passes between a device, its guard and a host.
use Rattle.std.specs.Prelude.{◌≡◌, ◌≤◌, ℕ, ℤ, Bool, true, false, List, [], ◌∷◌, take, Option, if◌then◌else◌}
use Rattle.net_base.specs.Device.{Asked, Event, Frame, HandsNone, Nothing, Received, Sent, Withheld}
use Rattle.ip_address.specs.declared.cidr.IpCidr.{IpCidr}
use Rattle.ip_address.specs.declared.hardware.HardwareAddress.{HardwareAddress}
use Rattle.guard.specs.Watch.{admits, after_arrival, after_sending}
use Rattle.guard.specs.declared.watch.Watch.{Watch}
use Rattle.guard.specs.declared.guarded_device.guarded.Heard.{Heard}
use Rattle.guard.specs.declared.guarded_device.guarded.Heard.TheVariants as heard

-- there is a frame for the host
abbrev pub is_frame : Heard → Bool
is_frame heard.Nothing = false
is_frame heard.Dropped = false
is_frame (heard.Frame len) = true

-- a frame was asked for: the device had none; or it delivered one which the host may not see; or one which it may, as the device
-- delivered it. The guard judged no other frame
pub data Hears {D : Type 0} (tells : D → List Event → D → Type 0) (t : ℤ) (hardware : Option HardwareAddress) (own : List IpCidr)
    (result : Heard) (buffer : List ℕ) (d : D) (w : Watch) (d' : D) (w' : Watch) : Type 0 where
  NoFrame : result ≡ heard.Nothing → HandsNone tells t d d' → w' ≡ w →
      Hears tells t hardware own result buffer d w d' w'
  IsDropped : (frame : List ℕ) → result ≡ heard.Dropped → tells d (Received t (Frame frame) ∷ []) d' →
      admits t frame hardware own w ≡ false → w' ≡ after_arrival t frame hardware own w →
      Hears tells t hardware own result buffer d w d' w'
  IsPassed : (len : ℕ) → result ≡ heard.Frame len → len ≤ 1514 → tells d (Received t (Frame (take len buffer)) ∷ []) d' →
      admits t (take len buffer) hardware own w ≡ true → w' ≡ after_arrival t (take len buffer) hardware own w →
      Hears tells t hardware own result buffer d w d' w'

-- a frame with no number of its own was sent, or not
abbrev pub sent_if : Bool → List ℕ → List Event
sent_if goes frame = if goes then Sent 0 frame ∷ [] else []

-- what of some events the device has: all but requests for frames that it never got
abbrev pub passed_on : List Event → List Event
passed_on [] = []
passed_on (Received t (Frame f) ∷ es) = Received t (Frame f) ∷ passed_on es
passed_on (Received t Nothing ∷ es) = passed_on es
passed_on (Received t Withheld ∷ es) = Received t Withheld ∷ passed_on es
passed_on (Asked t b ∷ es) = Asked t b ∷ passed_on es
passed_on (Sent id f ∷ es) = Sent id f ∷ passed_on es

-- the moment of the last request for a transmit token
abbrev pub moment_after : List Event → ℤ → ℤ
moment_after [] at = at
moment_after (Received t r ∷ es) at = moment_after es at
moment_after (Asked t b ∷ es) at = moment_after es t
moment_after (Sent id f ∷ es) at = moment_after es at

-- a guard after these events: it notes what is sent, at that moment
abbrev pub watch_after : List Event → ℤ → Watch → Watch
watch_after [] at w = w
watch_after (Received t r ∷ es) at w = watch_after es at w
watch_after (Asked t b ∷ es) at w = watch_after es t w
watch_after (Sent id f ∷ es) at w = watch_after es at (after_sending at f w)
