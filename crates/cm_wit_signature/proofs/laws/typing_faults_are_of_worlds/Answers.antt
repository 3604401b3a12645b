use Rattle.cm_wit_signature.proofs.ReachLaws.{typing_fault}
use Rattle.cm_wit_signature.proofs.laws.typing_faults_are_of_worlds.Goals as goal

pub returns : goal.returns
returns c = λ fs w xs f found are h. typing_fault fs w xs f found are h
