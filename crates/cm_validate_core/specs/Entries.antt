-- What the entries of the core index spaces stand for; numbers stand for the core functions that
-- canonical definitions made.
use Rattle.std.specs.Prelude.{ℕ, List, map}
use Rattle.std.specs.Borrow.{Bor}
use Rattle.cm_validate_model.specs.Definitions.{CoreExport, CoreFuncDef, guest, CoreDef, core_func}
use Rattle.cm_validate_model.specs.Definitions.{table}
use Rattle.cm_validate_model.specs.Definitions.{memory, global, NamedCoreDef, CoreInstanceDef}
use Rattle.cm_validate_model.specs.Definitions.{instantiated, exporting}
use Rattle.cm_validate_core.specs.NameMaps.{entries_of}
use Rattle.cm_validate_core.specs.declared.entries.GuestExport.{GuestExport}
use Rattle.cm_validate_core.specs.declared.entries.GuestMemory.{GuestMemory}
use Rattle.cm_validate_core.specs.declared.entries.CoreFunc.{CoreFunc}
use Rattle.cm_validate_core.specs.declared.entries.CoreFunc.TheVariants as func
use Rattle.cm_validate_core.specs.declared.entries.CoreItem.{CoreItem}
use Rattle.cm_validate_core.specs.declared.entries.CoreItem.TheVariants as item
use Rattle.cm_validate_core.specs.declared.entries.CoreInstanceEntry.{CoreInstanceEntry}
use Rattle.cm_validate_core.specs.declared.entries.CoreInstanceEntry.TheVariants as entry

-- an export of a core instance, and a memory
abbrev pub export_of : GuestExport → CoreExport
export_of e = record { instance = e.instance; name = e.name.now }

abbrev pub memory_of : GuestMemory → CoreExport
memory_of m = export_of m.export

-- a core function
abbrev pub func_of : (ℕ → CoreFuncDef) → CoreFunc → CoreFuncDef
func_of made (func.Guest e) = guest (export_of e)
func_of made (func.Made n) = made n

-- a core definition
abbrev pub def_of : (ℕ → CoreFuncDef) → CoreItem → CoreDef
def_of made (item.Func f) = core_func (func_of made f)
def_of made (item.Table e) = table (export_of e)
def_of made (item.Memory m) = memory (memory_of m)
def_of made (item.Global e) = global (export_of e)

-- one under a name
abbrev pub named_def : (ℕ → CoreFuncDef) → Bor (List ℕ) × CoreItem → NamedCoreDef
named_def made e = record { name = e.0.now; def = def_of made e.1 }

-- a core instance
abbrev pub instance_of : (ℕ → CoreFuncDef) → CoreInstanceEntry → CoreInstanceDef
instance_of made (entry.Instantiated m) = instantiated m
instance_of made (entry.Exporting items) = exporting (map (named_def made) (entries_of items))
