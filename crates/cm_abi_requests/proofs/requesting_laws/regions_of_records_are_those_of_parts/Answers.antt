use Rattle.std.proofs.Common.{ap, arith}
use Rattle.cm_abi_model.specs.Stores.{place_of}
use Rattle.cm_abi_requests.proofs.PlaceLaws.{apart}
use Rattle.cm_abi_requests.proofs.requesting_laws.regions_of_records_are_those_of_parts.Goals as goal

pub returns : goal.returns
returns c = λ w target rs parts starts g told long. apart w target g rs parts starts g.places 0 told long (λ j. ap (place_of g) (omega arith))
