use Rattle.cm_wit_signature.proofs.ItemLaws.{items_stay, items_stay_there}
use Rattle.cm_wit_signature.proofs.item_laws.items_stay.Goals as goal

pub returns-clause-same : goal.returns-clause-same
returns-clause-same c = λ types more funcs further is e g h. items_stay types more funcs further e g is.fronts.items is.items.items h

pub returns-clause-there : goal.returns-clause-there
returns-clause-there c = λ types more funcs further is e g h. items_stay_there types more funcs further e g is.items.items h
