-- What it says that a shim renames and does nothing else.
use Rattle.std.specs.Prelude.{◌≡◌, ◌⊎◌, ℕ, ◌<◌, ◌≤◌, List, map, slice_get, Some}
use Rattle.std.specs.List.{AllByRecursion}
use Rattle.cm_binary_model.specs.declared.instances.InlineExport.{InlineExport}
use Rattle.cm_binary_model.specs.declared.instances.InstanceExportSort.{InstanceExportSort}
use Rattle.cm_binary_model.specs.declared.instances.InstanceExportSort.TheVariants as sorts
use Rattle.cm_shims_plain.specs.Instantiated.{Given}

-- The function is one that the instance is given.
abbrev pub IsGiven : Given → ℕ → Type 0
IsGiven g f = (n : ℕ) × (slice_get (map (λ a. a.index) g.args) n ≡ Some f)

-- The type is one of the file, or one that the shim defines: behind the types before it.
abbrev pub IsTypeThere : Given → ℕ → ℕ → ℕ → Type 0
IsTypeThere g first count p =
    ((n : ℕ) × (slice_get g.outer n ≡ Some p)) ⊎ ((first ≤ p) × (p < count))

-- What stands under a name is a function that is given, or such a type.
abbrev pub IsRenamed : Given → ℕ → ℕ → InstanceExportSort → ℕ → Type 0
IsRenamed g first count sorts.Func i = IsGiven g i
IsRenamed g first count sorts.Type i = IsTypeThere g first count i

-- So does all that an instance exports.
abbrev pub RenamesAll : Given → ℕ → ℕ → List InlineExport → Type 0
RenamesAll g first count exports =
    AllByRecursion (λ e. IsRenamed g first count e.sort e.index) exports
