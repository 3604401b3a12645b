use Rattle.std.proofs.Common.{map}
use Rattle.std.specs.Prelude.{take}
use Rattle.cm_shims.specs.Files.{AreRead, reading_of}
use Rattle.cm_shims.proofs.files.read_files.Given as goal

abbrev pub invariant-loop-file : goal.invariant-loop-file
invariant-loop-file l =
    AreRead (take l.file (map (λ f. f.now) l.fn.files)) (map reading_of l.components.items)
