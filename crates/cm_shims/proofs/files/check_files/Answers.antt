use Rattle.std.proofs.Common.{◌∙◌, ap, map, refl, sym, add-one, ◌++◌, ◌∷◌, []}
use Rattle.std.proofs.lemmas.List.{map-append}
use Rattle.std.proofs.lemmas.Option.{slice_get-map, slice_get_read}
use Rattle.std.proofs.lemmas.Result.{err_from_is_err_and}
use Rattle.std.specs.Option.{option_map}
use Rattle.std.specs.Prelude.{take}
use Rattle.cm_validate_spaces.specs.Checked.{sections_in}
use Rattle.cm_shims.specs.Files.{component_in, reading_of}
use Rattle.cm_shims.proofs.FilesLaws.{judged_is, sound_next}
use Rattle.cm_shims.proofs.files.check_files.Goals as goal
use Rattle.cm_lemmas.proofs.Lists.{take_next}

pub returns-in_err-check_file-clause-fault : goal.returns-in_err-check_file-clause-fault
returns-in_err-check_file-clause-fault c =
    let p = err_from_is_err_and c.from_residual.result c.from_residual.ensures.1 in
    let at = slice_get_read c.args.files.now _ c.loop-file.file c.index-files-file.result refl c.loop-file-test.true c.index-files-file.is in
    let stands = slice_get-map reading_of c.args.files.now c.loop-file.file ∙ ap (option_map reading_of) at in
    rw (p.1, p.2) (λ bytes read. judged_is bytes c.loop-file.file (map reading_of c.args.files.now) (reading_of c.index-files-file.result)
    c.in_err-check_file.field-0.0 read c.loop-file.invariant.1 stands c.in_err-check_file.ensures.fault)

pub loop-file-preserved : goal.loop-file-preserved
loop-file-preserved c =
    let readings = map reading_of c.args.files.now in
    let at = slice_get_read c.args.files.now _ c.loop-file.file c.index-files-file.result refl c.loop-file-test.true c.index-files-file.is in
    let read = slice_get-map reading_of c.args.files.now c.loop-file.file ∙ ap (option_map reading_of) at in
    let held = slice_get-map component_in readings c.loop-file.file ∙ ap (option_map component_in) read in
    rw add-one (
      ap (map sections_in) c.in_ok-push.ensures.items
          ∙ (map-append sections_in c.loop-file.checked.items (c.in_ok-check_file.field-0 ∷ [])
          ∙ (ap (λ xs. xs ++ sections_in c.in_ok-check_file.field-0 ∷ []) c.loop-file.invariant.0
          ∙ (ap (λ x. take c.loop-file.file (map component_in readings) ++ x ∷ []) c.in_ok-check_file.ensures.held
          ∙ sym (take_next (map component_in readings) c.loop-file.file (component_in (reading_of c.index-files-file.result)) held)))),
      sound_next readings c.loop-file.file (reading_of c.index-files-file.result) read c.loop-file.invariant.1 c.in_ok-check_file.ensures.sound,
    )
