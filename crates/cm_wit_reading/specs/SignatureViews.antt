-- The functions and paths that the code's trees are.
use Rattle.std.specs.Prelude.{map}
use Rattle.std.specs.Option.{option_map}
use Rattle.cm_wit_reading.specs.declared.signatures.Typed as typed_code
use Rattle.cm_wit_reading.specs.declared.signatures.Func as func_code
use Rattle.cm_wit_reading.specs.declared.signatures.Path as path_code
use Rattle.cm_wit_reading.specs.declared.signatures.Path.TheVariants as path_is
use Rattle.cm_wit_reading.specs.Signatures.{Typed, Func, Path, local, foreign}
use Rattle.cm_wit_reading.specs.TypeViews.{type_tree}

abbrev pub typed_tree : typed_code.Typed → Typed
typed_tree t = (t.name, type_tree t.ty)

abbrev pub func_tree : func_code.Func → Func
func_tree f = record {
  params = map typed_tree f.params.items;
  result = option_map type_tree f.result;
}

abbrev pub path_tree : path_code.Path → Path
path_tree (path_is.Local name) = local name
path_tree (path_is.Foreign namespace pkg interface version) =
    foreign namespace pkg interface version
