use Rattle.std.proofs.Common.{◌≡◌, Some, rules}
use Rattle.iface_streams.specs.Connect.{listen_refusal}
use Rattle.iface_c.specs.Addresses.{listen_end_in}
use Rattle.iface_c.specs.StreamsHandle.{streams_in}
use Rattle.iface_c.proofs.Codes.{of_refusal}
use Rattle.iface_c.proofs.streams.iface_stream_listen.Goals as goal

pub returns-in-Err-clause-code : goal.returns-in-Err-clause-code
returns-in-Err-clause-code c =
    let at : listen_end_in c.args.local.now ≡ Some c.in-Some.local = search rules in
    let has : streams_in c.args.handle.now ≡ Some c.deref_mut.result.now = search rules in
    rw (at, has) (of_refusal (listen_refusal c.in-Some.local) c.in-Err.refusal c.code.result
    c.in-Err.ensures.why c.in-Err.ensures.memory c.code.ensures.code c.code.ensures.refuses)
