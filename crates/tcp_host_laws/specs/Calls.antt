-- What a program calls, and what its connections do then (RFC 9293 3.10.1 to 3.10.5).
use Rattle.std.specs.Prelude.{◌≡◌, ℕ, ◌<◌, true, List, [], ◌∷◌, length, Option, Some, if◌then◌else◌}
use Rattle.ip_address.specs.declared.ip.IpAddress.{IpAddress}
use Rattle.tcp_machine.specs.declared.settings.Settings.{Settings}
use Rattle.tcp_machine.specs.Calls.{after_writing, after_reading, after_closing, after_abort}
use Rattle.tcp_machine.specs.Reports.{after_too_long, after_unreachable}
use Rattle.tcp_host.specs.declared.iss.Endpoints.{Endpoints}
use Rattle.tcp_host.specs.Iss.{iss}
use Rattle.tcp_host.specs.Arrivals.{FindsPlace}
use Rattle.tcp_host.specs.Reports.{noted}
use Rattle.tcp_host.specs.declared.calls.Handle.{Handle}
use Rattle.tcp_host.specs.Handles.{is_named, changed, ends_by_itself, released, opened_at, with_settings, accepting, listening}
use Rattle.tcp_host.specs.Handles.{listener_closed, with_hop_limit}
use Rattle.tcp_host.specs.News.{TellsChanged}
use Rattle.tcp_host.specs.Host.{Host, connection_at, link_mss, settings_for}
use Rattle.tcp_laws.specs.Machines.{Opens, Writes, Reads, Closes, Aborts, Chooses, Fits, Fails}
use Rattle.tcp_host_laws.specs.Lives.{Event, Does, Begins}

-- what a connection does that the program lets go
abbrev pub events_of_release : ℕ → Host → List Event
events_of_release place h = if ends_by_itself (connection_at place h).state then [] else Does place Aborts ∷ []

-- the beginning of a connection that the program opens at a place
abbrev pub opening : (place now : ℕ) → Endpoints → Host → Event
opening place now e h =
    Begins place e (iss h.config.number_key e now) (connection_at place h).transmission.sender.room
    (length (connection_at place h).reception.receiver.cells)
    (Opens now (link_mss h.config e.remote_addr) (settings_for h.config e.remote_addr))

-- A program's call on a host, what its connections do, and what the host is then. What it wrote, or how much it read,
-- is in the act. A call that fails, or writes or reads no octet, changes nothing, and isn't told here.
pub data Calls (old : Host) : List Event → Host → Type 0 where
  Connect : (place now : ℕ) (e : Endpoints) (ready : Host) → place < length old.slots → FindsPlace old place ready →
      Calls old (opening place now e ready ∷ []) (opened_at place now e ready)
  Send : (handle : Handle) (octets : List ℕ) → is_named handle old ≡ true →
      Calls old (Does handle.place (Writes octets) ∷ [])
      (changed handle.place (after_writing octets (connection_at handle.place old)) old)
  Receive : (handle : Handle) (count : ℕ) → is_named handle old ≡ true →
      Calls old (Does handle.place (Reads count) ∷ [])
      (changed handle.place (after_reading count (connection_at handle.place old)) old)
  Close : (handle : Handle) → is_named handle old ≡ true →
      Calls old (Does handle.place Closes ∷ [])
      (changed handle.place (after_closing (connection_at handle.place old)) old)
  Abort : (handle : Handle) → is_named handle old ≡ true →
      Calls old (Does handle.place Aborts ∷ [])
      (changed handle.place (after_abort (connection_at handle.place old)) old)
  Choose : (handle : Handle) (settings : Settings) → is_named handle old ≡ true →
      Calls old (Does handle.place (Chooses settings) ∷ [])
      (changed handle.place (with_settings settings (connection_at handle.place old)) old)
  -- a message of ICMP counts for the connection at a place
  Shorten : (place size : ℕ) → place < length old.slots →
      Calls old (Does place (Fits size) ∷ []) (changed place (after_too_long size (connection_at place old)) old)
  Note : (now place : ℕ) → place < length old.slots → Calls old [] (noted now place old)
  Lose : (place : ℕ) → place < length old.slots →
      Calls old (Does place Fails ∷ []) (changed place (after_unreachable (connection_at place old)) old)
  Limit : (handle : Handle) (hop_limit : ℕ) → is_named handle old ≡ true →
      Calls old [] (with_hop_limit handle.place hop_limit old)
  Release : (handle : Handle) → is_named handle old ≡ true →
      Calls old (events_of_release handle.place old) (released handle.place old)
  Changed : (told : Option Handle) (new : Host) → TellsChanged old told new → Calls old [] new
  Accept : (listener : ℕ) → Calls old [] (accepting listener old).1
  Listen : (port : ℕ) (address : Option IpAddress) (most : ℕ) → Calls old [] (listening port address most old)
  CloseListener : (listener : ℕ) → Calls old [] (listener_closed listener old)
