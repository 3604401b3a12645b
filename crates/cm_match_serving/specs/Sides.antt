-- Two components of a set: their types, and what their resources are in the end.
use Rattle.std.specs.Prelude.{List}
use Rattle.cm_types.specs.Types.{Ty, FuncTy}
use Rattle.cm_types_arena.specs.Replaced.{Standing}
use Rattle.cm_match_model.specs.Imports.{LinkSet}
use Rattle.cm_match_model.specs.Serving.{standing}
use Rattle.cm_match_serving.specs.Linkings.{components_in, set_in}
use Rattle.cm_match_serving.specs.Sets.{types_at, funcs_at}
use Rattle.cm_match_serving.specs.declared.sides.Side.{Side}
use Rattle.cm_match_serving.specs.declared.sides.Pair.{Pair}

-- what stands for the resources of one
abbrev pub standing_of : Side → Standing
standing_of s = standing (set_in s.linking) s.component

-- the types of its arena, and those of functions
abbrev pub types_in : Side → List Ty
types_in s = types_at (components_in s.linking) s.component

abbrev pub funcs_in : Side → List FuncTy
funcs_in s = funcs_at (components_in s.linking) s.component

-- the set of two, and the types and types of functions of the one that imports, and of the one that
-- exports
abbrev pub set_of_pair : Pair → LinkSet
set_of_pair p = set_in p.linking

abbrev pub wanted_types : Pair → List Ty
wanted_types p = types_at (components_in p.linking) p.importer

abbrev pub wanted_funcs : Pair → List FuncTy
wanted_funcs p = funcs_at (components_in p.linking) p.importer

abbrev pub had_types : Pair → List Ty
had_types p = types_at (components_in p.linking) p.provider

abbrev pub had_funcs : Pair → List FuncTy
had_funcs p = funcs_at (components_in p.linking) p.provider
