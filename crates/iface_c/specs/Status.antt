-- The code that each call answers.
use Rattle.std.specs.Prelude.{◌≡◌, ◌≢◌, ◌==◌, ℕ, Option, Some, None, if◌then◌else◌}
use Rattle.iface_host.specs.declared.host.IfaceHost.{IfaceHost}
use Rattle.iface_host.specs.declared.refusal.Refusal.{Refusal}
use Rattle.iface_host.specs.declared.refusal.Refusal.TheVariants.{NoMemory, BadMtu, NotUnicast, BadMoment}
use Rattle.iface_host.specs.declared.refusal.Refusal.TheVariants.{BadAddress, NotThere, TableFull, NoSocket, BadPort}
use Rattle.iface_host.specs.declared.refusal.Refusal.TheVariants.{TooLong, QueueFull, Empty, NoRoom, BadTimeout, NoRoute}

-- of a refusal
abbrev pub code_of : Refusal → ℕ
code_of NoMemory = 4
code_of BadMtu = 5
code_of NotUnicast = 6
code_of BadMoment = 7
code_of BadAddress = 8
code_of NotThere = 9
code_of TableFull = 10
code_of NoSocket = 11
code_of BadPort = 12
code_of TooLong = 13
code_of QueueFull = 14
code_of Empty = 15
code_of NoRoom = 16
code_of BadTimeout = 17
code_of NoRoute = 26

-- 0 where nothing is refused
abbrev pub code_if : Option Refusal → ℕ
code_if None = 0
code_if (Some refusal) = code_of refusal

-- of a call of the host of a handle: 1 where it owns none
abbrev pub code_by : (IfaceHost → Option Refusal) → Option IfaceHost → ℕ
code_by why None = 1
code_by why (Some host) = code_if (why host)

-- of a call with an argument that may have no meaning: 3 where it has none
abbrev pub code_with : {A : Type 0} → (A → IfaceHost → Option Refusal) → Option A → Option IfaceHost → ℕ
code_with why None handle = 3
code_with why (Some a) handle = code_by (why a) handle

-- of a call that makes a host: 2 where the handle owns one, 3 where the configuration has no meaning
abbrev pub code_for_new : {A : Type 0} → (A → Option Refusal) → Option A → Option IfaceHost → ℕ
code_for_new why settings (Some host) = 2
code_for_new why None None = 3
code_for_new why (Some settings) None = code_if (why settings)

-- of the same call for a program with a header of this version: 18 where it isn't the library's, 0.15.0 with number 0
abbrev pub code_for_version : ℕ → ℕ → ℕ
code_for_version version due = if version == 0x000f_0000 then due else 18

-- of a call for which memory may be refused: the one that is due; or in place of 0 that of refused memory, 4
pub record IsDueOrMemory (due code : ℕ) : Type 0 where
  pub due_one : due ≢ 0 → code ≡ due
  pub memory : due ≡ 0 → code ≢ 0 → code ≡ 4
