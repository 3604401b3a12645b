use Rattle.std.proofs.Common.{refl}
use Rattle.cm_layout_placed.proofs.FirstLaws.{of_all, of_grown, of_none}
use Rattle.cm_layout_placed.proofs.laws.first_layouts_stay.Goals as goal

pub returns-clause-none : goal.returns-clause-none
returns-clause-none c types = of_none types refl

pub returns-clause-all : goal.returns-clause-all
returns-clause-all c = of_all

pub returns-clause-grown : goal.returns-clause-grown
returns-clause-grown c = of_grown
