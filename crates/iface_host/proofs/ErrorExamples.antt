-- The worked examples compute.
use Rattle.std.proofs.Common.{refl}
use Rattle.ip_wire.specs.Checksum.{word_sum}
use Rattle.ip_wire.specs.Ipv6Packet.{address_at}
use Rattle.ip_wire.specs.Pseudo.{pseudo}
use Rattle.iface_host.specs.Errors.{error_in}
use Rattle.iface_host.specs.ErrorExamples.{ErrorsAreTold, ErrorsAreToldV6, OthersTellNothing, OthersTellNothingV6}

pub told : ErrorsAreTold
unfolding error_in word_sum
told = record {
  port_closed = refl;
  no_protocol = refl;
  too_big = refl;
  too_big_for_unknown = refl;
  no_host = refl;
  time_exceeded = refl;
  bad_header = refl;
  of_frame = refl;
  believed = refl;
  of_first_fragment = refl;
}

pub nothing : OthersTellNothing
unfolding error_in word_sum
nothing = record {
  echo_reply = refl;
  redirect = refl;
  wrong_sum = refl;
  wrong_header_sum = refl;
  fragment = refl;
  of_udp = refl;
  to_another = refl;
  from_another = refl;
  about_icmp = refl;
  later_fragment = refl;
  cut_off = refl;
  short_quote = refl;
}

pub told_v6 : ErrorsAreToldV6
unfolding error_in word_sum address_at pseudo
told_v6 = record { port_closed = refl; too_big = refl; no_route = refl; time_exceeded = refl }

pub nothing_v6 : OthersTellNothingV6
unfolding error_in word_sum address_at pseudo
nothing_v6 = record { echo_reply = refl; wrong_sum = refl; fragment = refl; from_another = refl; about_fragment = refl }
