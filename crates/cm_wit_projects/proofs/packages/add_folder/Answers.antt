use Rattle.std.proofs.Common.{Bool, ◌||◌, ◌∙◌, ap, map, refl, take}
use Rattle.std.specs.List.{list_any}
use Rattle.cm_lemmas.proofs.Lists.{makes_join}
use Rattle.cm_wit_projects_reading.specs.Views.{file_tree}
use Rattle.cm_wit_projects.specs.Files.{folders}
use Rattle.cm_wit_projects.specs.Packages.{folder_in, has_line, packages_from, packages_in, text_in}
use Rattle.cm_wit_projects.specs.Views.{package_view}
use Rattle.cm_wit_projects.proofs.PackageLaws.{adds_same, had_more}
use Rattle.cm_wit_projects.proofs.packages.add_folder.Goals as goal

pub loop-number-preserved : goal.loop-number-preserved
loop-number-preserved c =
    let l = c.loop-number in
    let files = c.args.files.now in
    let f = c.index-files-number.result in
    let texts = folder_in (folders c.args.groups.now) c.args.folder in
    let had = list_any has_line (take l.number (map file_tree files)) in
    record {
      had = had_more files l.number f l.had c.either-had.result c.loop-number-test.true c.index-files-number.is l.invariant.had (c.either-had.ensures ∙ ap (λ (b : Bool). l.had || b) c.has_line.ensures);
      makes = makes_join file_tree (λ n. packages_from texts (map file_tree files) c.args.folder n) package_view files l.number c.args.out.now.items l.out.items c.add_packages.new.out.items (packages_in c.args.folder l.number had (text_in texts l.number) (file_tree f)) f c.loop-number-test.true c.index-files-number.is
          (adds_same (map package_view l.out.items) (map package_view c.add_packages.new.out.items) c.args.folder l.number l.had had c.text_at.result.now (text_in texts l.number) (file_tree f) c.in_ok-add_packages.ensures l.invariant.had c.text_at.ensures)
          (λ ys. refl) l.invariant.makes;
    }
