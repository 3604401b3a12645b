use Rattle.std.proofs.Common.{add-one, map, ◌∷◌, []}
use Rattle.std.proofs.lemmas.List.{map-append}
use Rattle.cm_shims.specs.Files.{reading_of}
use Rattle.cm_shims.proofs.FilesLaws.{read_is, read_more}
use Rattle.cm_shims.proofs.files.read_files.Goals as goal

pub loop-file-preserved : goal.loop-file-preserved
loop-file-preserved c =
    rw (add-one, c.in_ok-push-in-Ok.ensures.items, map-append reading_of c.loop-file.components.items (c.in-Ok.component ∷ []))
    (read_more (λ f. f.now) c.args.files.now c.loop-file.file _ (map reading_of c.loop-file.components.items) (reading_of c.in-Ok.component)
    c.loop-file-test.true c.loop-file.invariant (read_is _ c.in-Ok.component c.in-Ok.ensures.right))
