use Rattle.cm_types_arena.specs.Places.{types_of}
use Rattle.cm_types_arena.specs.TypeDefs.{def_type}
use Rattle.cm_wit_meanings.proofs.AddedLaws.{all_within, type_told}
use Rattle.cm_wit_meanings.proofs.pushing.push.Goals as goal

pub returns-clause-there : goal.returns-clause-there
returns-clause-there c = c.add.ensures.there

pub returns-clause-ty : goal.returns-clause-ty
returns-clause-ty c = type_told (def_type (types_of c.args.types.now) c.args.def) (types_of c.add.new.types) c.add.result c.add.ensures.meaning

pub returns-clause-within : goal.returns-clause-within
returns-clause-within c = all_within c.add.new.types c.add.result c.add.ensures.there

pub returns-clause-fault : goal.returns-clause-fault
returns-clause-fault c = c.add.ensures.fault

pub returns-clause-grown : goal.returns-clause-grown
returns-clause-grown c = c.add.ensures.grown

pub returns-clause-funcs : goal.returns-clause-funcs
returns-clause-funcs c = c.add.ensures.funcs
