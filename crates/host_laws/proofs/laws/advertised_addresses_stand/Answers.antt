use Rattle.host_laws.proofs.Interface.AdvertisedAddresses.{advertised_stands}
use Rattle.host_laws.proofs.laws.advertised_addresses_stand.Goals as goal

pub returns : goal.returns
returns c = advertised_stands
