use Rattle.cm_validate_spaces.specs.IndexSpaces.{funcs_in, types_in}
use Rattle.cm_validate_spaces.proofs.room.make_room.Goals as goal

pub returns-in-Imports : goal.returns-in-Imports
returns-in-Imports c = λ s at. record {
  core_is = at.core_is;
  component_is = c.reserve_imports.ensures (types_in c.args.spaces.now) (funcs_in c.args.spaces.now) s at.component_is;
  types_are = at.types_are;
  settled = at.settled;
  counted = at.counted;
  made_there = at.made_there;
  laid = at.laid;
}

pub returns-in-Exports : goal.returns-in-Exports
returns-in-Exports c = λ s at. record {
  core_is = at.core_is;
  component_is = c.reserve_exports.ensures (types_in c.args.spaces.now) (funcs_in c.args.spaces.now) s at.component_is;
  types_are = at.types_are;
  settled = at.settled;
  counted = at.counted;
  made_there = at.made_there;
  laid = at.laid;
}
