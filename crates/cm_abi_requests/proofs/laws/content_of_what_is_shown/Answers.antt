use Rattle.cm_abi_requests.proofs.ContentLaws.{shown_counts}
use Rattle.cm_abi_requests.proofs.laws.content_of_what_is_shown.Goals as goal

pub returns : goal.returns
returns c = shown_counts
