use Rattle.std.proofs.Common.{◌≡◌, Some, None, true, false, refl, subst, rules}
use Rattle.iface_streams.specs.Settings.{is_proper}
use Rattle.iface_streams.specs.Streams.{new_refusal}
use Rattle.iface_streams.specs.declared.settings.StreamSettings.{StreamSettings}
use Rattle.iface_c.specs.Handle.{host_in}
use Rattle.iface_c.specs.Status.{IsDueOrMemory}
use Rattle.iface_c.specs.Streams.{IsMade, code_for_new, settings_in}
use Rattle.iface_c.specs.StreamsHandle.{streams_in}
use Rattle.iface_c.proofs.Codes.{of_done, of_refusal}
use Rattle.iface_c.proofs.NewStreams.{made_there, of_improper, of_proper}
use Rattle.iface_c.proofs.streams.iface_streams_new.Goals as goal

pub returns-then-not-is_proper-clause-code : goal.returns-then-not-is_proper-clause-code
returns-then-not-is_proper-clause-code c =
    let free : streams_in c.args.handle.now ≡ None = search rules in
    let improper : is_proper (settings_in c.args.config.now) ≡ false = search rules in
    of_improper (settings_in c.args.config.now) (host_in c.args.host_handle.now) free improper

pub returns-in-Ok-clause-made : goal.returns-in-Ok-clause-made
returns-in-Ok-clause-made c =
    let free : streams_in c.args.handle.now ≡ None = search rules in
    let same : c.settings-settings.result ≡ settings_in c.args.config.now = cc in
    let has : host_in c.args.host_handle.now ≡ Some c.deref_mut.result.now = search rules in
    record {
      done = λ _. subst (λ (s : StreamSettings). IsMade s (streams_in c.args.handle.now) (streams_in c.put-in-Ok.new.self)
          (host_in c.args.host_handle.now) (host_in c.put.new.self)) same
          (made_there c.settings-settings.result c.in-Ok.made.value c.deref_mut.result.now c.new-done.new.host free c.put-in-Ok.ensures has
          c.put.ensures c.in-Ok.ensures.made);
      streams = λ h. absurd (h refl);
      host = λ h. absurd (h refl);
    }

pub returns-in-Ok-clause-code : goal.returns-in-Ok-clause-code
returns-in-Ok-clause-code c =
    let free : streams_in c.args.handle.now ≡ None = search rules in
    let same : c.settings-settings.result ≡ settings_in c.args.config.now = cc in
    let proper : is_proper c.settings-settings.result ≡ true = search rules in
    let has : host_in c.args.host_handle.now ≡ Some c.deref_mut.result.now = search rules in
    subst (λ (s : StreamSettings). IsDueOrMemory (code_for_new s (streams_in c.args.handle.now) (host_in c.args.host_handle.now)) 0) same
    (of_proper c.settings-settings.result c.deref_mut.result.now 0 free proper has
    (of_done c.in-Ok.made (new_refusal c.settings-settings.result c.deref_mut.result.now) c.in-Ok.ensures.why))

pub returns-in-Err-clause-code : goal.returns-in-Err-clause-code
returns-in-Err-clause-code c =
    let free : streams_in c.args.handle.now ≡ None = search rules in
    let same : c.settings-settings.result ≡ settings_in c.args.config.now = cc in
    let proper : is_proper c.settings-settings.result ≡ true = search rules in
    let has : host_in c.args.host_handle.now ≡ Some c.deref_mut.result.now = search rules in
    subst (λ (s : StreamSettings). IsDueOrMemory (code_for_new s (streams_in c.args.handle.now) (host_in c.args.host_handle.now))
    c.code.result) same
    (of_proper c.settings-settings.result c.deref_mut.result.now c.code.result free proper has
    (of_refusal (new_refusal c.settings-settings.result c.deref_mut.result.now) c.in-Err.refusal c.code.result
    c.in-Err.ensures.why c.in-Err.ensures.memory c.code.ensures.code c.code.ensures.refuses))
