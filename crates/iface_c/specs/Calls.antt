-- What a call does to the host of its handle, by the code that it answers.
use Rattle.std.specs.Prelude.{ℕ, ◌≡◌, ◌≢◌, Option, Some, None, IsSomeAnd}
use Rattle.iface_host.specs.Stands.{IsFirst, Stays}
use Rattle.iface_host.specs.declared.host.IfaceHost.{IfaceHost}
use Rattle.iface_c.specs.Config.{settings_in}
use Rattle.iface_c.specs.Handle.{host_in}
use Rattle.iface_c.specs.declared.handle.Iface.{Iface}
use Rattle.iface_c.specs.declared.hosts.IfaceConfig.{IfaceConfig}

-- there is a host before and after, and it was changed so
abbrev pub Changed : (IfaceHost → IfaceHost → Type 0) → Option IfaceHost → Option IfaceHost → Type 0
Changed Step (Some old) (Some new) = Step old new
Changed Step (Some old) None = ⊥
Changed Step None new = ⊥

-- 0: the call is done; else it is refused, and nothing changed
pub record Did (code : ℕ) (Step : IfaceHost → IfaceHost → Type 0) (old new : Iface) : Type 0 where
  pub done : code ≡ 0 → Changed Step (host_in old) (host_in new)
  pub refused : code ≢ 0 → host_in new ≡ host_in old

-- the very host is there as before, or none is; or the host stands for what it stood for, and
-- nothing else of it changed
pub data Keeps (old new : Option IfaceHost) : Type 0 where
  Same : new ≡ old → Keeps old new
  Stood : Changed Stays old new → Keeps old new

-- 0: the call is done; else it is refused, and the machine's host that it stands for is the same
pub record Ruled (code : ℕ) (Step : IfaceHost → IfaceHost → Type 0) (old new : Iface) : Type 0 where
  pub done : code ≡ 0 → Changed Step (host_in old) (host_in new)
  pub refused : code ≢ 0 → Keeps (host_in old) (host_in new)

-- there was no host, and there is the first one of a configuration
abbrev pub IsMade : IfaceConfig → Option IfaceHost → Option IfaceHost → Type 0
IsMade config None (Some new) = IsSomeAnd (settings_in config) (λ settings. IsFirst settings new)
IsMade config None None = ⊥
IsMade config (Some old) new = ⊥

-- 0: a host was made; else nothing changed
pub record Made (code : ℕ) (config : IfaceConfig) (old new : Iface) : Type 0 where
  pub done : code ≡ 0 → IsMade config (host_in old) (host_in new)
  pub refused : code ≢ 0 → host_in new ≡ host_in old
