-- Which way the code's ways are (CanonicalABI.md, "Lifting and Lowering Values").
use Rattle.cm_abi_model.specs.declared.way.Way.TheVariants as coded
use Rattle.cm_abi_model.specs.declared.way.Way.{Way as CodedWay}
use Rattle.cm_abi_model.specs.Views.{Way, params, results}

abbrev pub way_of : CodedWay → Way
way_of coded.Params = params
way_of coded.Results = results
