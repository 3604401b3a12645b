use Rattle.std.proofs.Common.{◌≡◌, drop}
use Rattle.cm_shims_plain.specs.Plain.{import_step, item_fault, no_imports}
use Rattle.cm_shims_plain.specs.PlainViews.{imports_of}
use Rattle.cm_shims_plain.specs.Spaces.{types_of}
use Rattle.cm_shims_plain.specs.Steps.{each_numbered}
use Rattle.cm_shims_plain.proofs.plain.imports.Given as goal

abbrev pub invariant-loop-item : goal.invariant-loop-item
invariant-loop-item l =
    each_numbered item_fault import_step l.item (imports_of l.done) (drop l.item l.imports) ≡ each_numbered item_fault import_step 0 (no_imports (types_of l.fn.types)) l.imports
