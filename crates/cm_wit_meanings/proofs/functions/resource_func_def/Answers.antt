use Rattle.std.proofs.Common.{ap}
use Rattle.cm_wit_reading.specs.Views.{resource_func_tree}
use Rattle.cm_wit_meanings.specs.Meanings.{resource_func_meaning}
use Rattle.cm_types_arena.specs.Places.{types_of}
use Rattle.cm_wit_meanings.specs.Places.{scope_in}
use Rattle.cm_wit_meanings.proofs.PartsAddedLaws.{meant_so}
use Rattle.cm_wit_meanings.proofs.FuncLaws.{constructor_means}
use Rattle.cm_wit_meanings.proofs.functions.resource_func_def.Goals as goal

pub returns-in-Method : goal.returns-in-Method
returns-in-Method c = meant_so (ap (λ x. resource_func_meaning (scope_in (types_of c.args.types.now) c.args.scope.now) c.args.resource (resource_func_tree x)) c.in-Method.is) c.method_def.ensures

pub returns-in-Static : goal.returns-in-Static
returns-in-Static c = meant_so (ap (λ x. resource_func_meaning (scope_in (types_of c.args.types.now) c.args.scope.now) c.args.resource (resource_func_tree x)) c.in-Static.is) c.func_def.ensures

pub returns-in-Constructor : goal.returns-in-Constructor
returns-in-Constructor c =
    meant_so (constructor_means (scope_in (types_of c.args.types.now) c.args.scope.now) c.args.resource c.args.text.now c.in-Constructor.params c.deref.result.now c.in-Constructor.is c.deref.ensures.value) c.constructor_def.ensures
