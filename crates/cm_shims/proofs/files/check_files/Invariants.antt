use Rattle.std.proofs.Common.{◌≡◌, map}
use Rattle.std.specs.Prelude.{take}
use Rattle.std.specs.List.{AllByRecursion}
use Rattle.cm_validate_spaces.specs.Checked.{sections_in}
use Rattle.cm_shims.specs.Files.{IsSound, component_in, reading_of}
use Rattle.cm_shims.proofs.files.check_files.Given as goal

abbrev pub invariant-loop-file : goal.invariant-loop-file
invariant-loop-file l =
    (map sections_in l.checked.items ≡ take l.file (map component_in (map reading_of l.fn.files)))
    × AllByRecursion IsSound (take l.file (map reading_of l.fn.files))
