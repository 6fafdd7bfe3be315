use Rattle.std.proofs.Common.{◌≡◌, ℤ, Some, of_z, to_z, w64, refl, ap, sym, subst, rules}
use Rattle.tcp_host.specs.declared.calls.Handle.{Handle}
use Rattle.iface_streams.specs.Connect.{Connects, connect_refusal}
use Rattle.iface_c.specs.Addresses.{end_in, listen_end_in}
use Rattle.iface_c.specs.Handle.{host_in}
use Rattle.iface_c.specs.Streams.{IsConnectCode, handle_in}
use Rattle.iface_c.specs.StreamsHandle.{streams_in}
use Rattle.iface_c.proofs.ConnectCodes.{code_there, connected_there, of_opened}
use Rattle.iface_c.proofs.streams.iface_stream_connect.Goals as goal

pub returns-in-Ok-clause-code : goal.returns-in-Ok-clause-code
returns-in-Ok-clause-code c =
    let moment : to_z w64 (of_z w64 c.args.now) ≡ c.args.now = search rules in
    let from : listen_end_in c.args.local.now ≡ Some c.in-Some.local = search rules in
    let to : end_in c.args.remote.now ≡ Some c.in-Some-end.remote = search rules in
    let has : streams_in c.args.handle.now ≡ Some c.deref_mut.result.now = search rules in
    let by : host_in c.args.host_handle.now ≡ Some c.deref.result.now = search rules in
    subst (λ (n : ℤ). IsConnectCode n (listen_end_in c.args.local.now) (end_in c.args.remote.now) (streams_in c.args.handle.now)
    (host_in c.args.host_handle.now) 0) moment
    (code_there (to_z w64 (of_z w64 c.args.now)) c.in-Some.local c.in-Some-end.remote c.deref_mut.result.now c.deref.result.now 0 from to has by
    (of_opened (connect_refusal (to_z w64 (of_z w64 c.args.now)) c.in-Some.local c.in-Some-end.remote c.deref.result.now) c.in-Ok.opened
    c.in-Ok.ensures.why))

pub returns-in-Ok-clause-done : goal.returns-in-Ok-clause-done
returns-in-Ok-clause-done c =
    let moment : to_z w64 (of_z w64 c.args.now) ≡ c.args.now = search rules in
    let from : listen_end_in c.args.local.now ≡ Some c.in-Some.local = search rules in
    let to : end_in c.args.remote.now ≡ Some c.in-Some-end.remote = search rules in
    let has : streams_in c.args.handle.now ≡ Some c.deref_mut.result.now = search rules in
    let is : streams_in c.put-3.new.self ≡ Some c.connect-done.new.self = search rules in
    let by : host_in c.args.host_handle.now ≡ Some c.deref.result.now = search rules in
    let named : handle_in c.of.result ≡ c.in-Ok.opened = ap handle_in c.of.ensures in
    let connects : Connects (to_z w64 (of_z w64 c.args.now)) c.in-Some.local c.in-Some-end.remote c.deref.result.now c.in-Ok.opened
    c.deref_mut.result.now c.connect-done.new.self = c.in-Ok.ensures.connects in
    let shown : Connects c.args.now c.in-Some.local c.in-Some-end.remote c.deref.result.now (handle_in c.of.result)
    c.deref_mut.result.now c.connect-done.new.self =
    subst (λ (n : ℤ). Connects n c.in-Some.local c.in-Some-end.remote c.deref.result.now (handle_in c.of.result) c.deref_mut.result.now
    c.connect-done.new.self) moment
    (subst (λ (h : Handle). Connects (to_z w64 (of_z w64 c.args.now)) c.in-Some.local c.in-Some-end.remote c.deref.result.now h
    c.deref_mut.result.now c.connect-done.new.self) (sym named) connects) in
    record {
      done = λ _. connected_there c.args.now c.in-Some.local c.in-Some-end.remote c.deref_mut.result.now c.connect-done.new.self
          c.deref.result.now c.of.result from to has is by shown;
      refused = λ h. absurd (h refl);
    }
