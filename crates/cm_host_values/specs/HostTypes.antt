-- What the types of a host's values are (this project's own choice).
use Rattle.cm_types.specs.Types.{Fields}
use Rattle.cm_abi_model.specs.Views.{Way}
use Rattle.cm_abi_model.specs.Ways.{way_of}
use Rattle.cm_host_values.specs.Rows.{row_of}
use Rattle.cm_host_values.specs.declared.host_types.HostTypes.{HostTypes}

-- the types, and the way that their values go
abbrev pub types_in : HostTypes → Fields
types_in t = row_of t.trees.items

abbrev pub way_in : HostTypes → Way
way_in t = way_of t.way
