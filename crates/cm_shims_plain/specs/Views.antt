-- What the code's types say, as plain records.
use Rattle.std.specs.Prelude.{map}
use Rattle.cm_types.specs.DefTypes.{def_type_tree}
use Rattle.cm_shims_plain.specs.declared.arguments.Arguments.{Arguments}
use Rattle.cm_shims_plain.specs.declared.instantiated.Instantiated.{Instantiated as Going}
use Rattle.cm_shims_plain.specs.Instantiated.{Given, Instantiated}
use Rattle.cm_shims_plain.specs.Spaces.{types_of}

abbrev pub given_of : Arguments → Given
given_of g = record { args = g.args.now; outer = (types_of g.outer.now).places }

abbrev pub instantiated_of : Going → Instantiated
instantiated_of i = record {
  types = types_of i.types;
  funcs = i.funcs.items;
  made = map def_type_tree i.made.items;
  exports = i.exports.items;
  wants = i.wants.items;
}
