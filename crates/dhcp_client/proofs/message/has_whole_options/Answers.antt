use Rattle.std.proofs.Common.{refl}
use Rattle.std.proofs.lemmas.List.{take_rest}
use Rattle.dhcp_client.proofs.message.has_whole_options.Goals as goal

pub returns : goal.returns
returns c =
    rw (
      c.are_whole_too.ensures,
      c.are_whole_too-file.ensures,
      c.are_whole-own.ensures,
      take_rest c.args.message.now 240,
      c.is_in_name.ensures,
      c.is_in_file.ensures,
      c.overload_in-overload.ensures,
    ) refl
