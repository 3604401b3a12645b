use Rattle.std.proofs.Common.{◌∙◌, List, slice_get, ap, sym}
use Rattle.cm_validate_model.specs.Definitions.{TypeDef}
use Rattle.cm_validate_spaces.proofs.spaces.IndexSpaces.type_entry.Goals as goal

pub returns : goal.returns
returns c = λ s at. c.get.ensures.there ∙ ap (λ (ts : List TypeDef). slice_get ts c.args.index) (sym at.types_are)
