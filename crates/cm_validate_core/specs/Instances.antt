-- What core instances are made of is there.
use Rattle.std.specs.Prelude.{Bool, is_some, slice_get}
use Rattle.cm_binary_model.specs.Trees.{ArgTree, CoreExportTree}
use Rattle.cm_validate_model.specs.Spaces.{Spaces, core_def_at}

-- the core instance that an argument names is there
abbrev pub is_arg_there : Spaces → ArgTree → Bool
is_arg_there s a = is_some (slice_get s.core_instances a.instance)

-- the core definition that an export names is there
abbrev pub is_export_there : Spaces → CoreExportTree → Bool
is_export_there s e = is_some (core_def_at s e.sort e.index)
