use Rattle.std.proofs.Common.{List, map, subst, sym, ℕ}
use Rattle.cm_bundle_links.specs.cm_bundle.Trees.{bundle_tree}
use Rattle.cm_shims.specs.Files.{AreRead, IsFileFault, reading_of}
use Rattle.cm_shims_plain.specs.declared.reading.Shimmed.{Shimmed}
use Rattle.huxarte_c_components.specs.Unbundling.{files_in}
use Rattle.huxarte_c_components.proofs.unbundling.links_of_files.Goals as goal

pub returns-in-Ok-clause-linked : goal.returns-in-Ok-clause-linked
returns-in-Ok-clause-linked c =
    c.links_of_read.ensures.linked (subst (λ (ss : List Shimmed). AreRead (files_in (bundle_tree c.args.bundle.now)) (map reading_of ss)) (sym c.deref.ensures.value)
    (subst (λ (fs : List (List ℕ)). AreRead fs (map reading_of c.in-Ok.read.items)) c.requires c.in-Ok.ensures.read))

pub returns-in-Ok-clause-refused : goal.returns-in-Ok-clause-refused
returns-in-Ok-clause-refused c =
    c.links_of_read.ensures.refused (subst (λ (ss : List Shimmed). AreRead (files_in (bundle_tree c.args.bundle.now)) (map reading_of ss)) (sym c.deref.ensures.value)
    (subst (λ (fs : List (List ℕ)). AreRead fs (map reading_of c.in-Ok.read.items)) c.requires c.in-Ok.ensures.read))

pub returns-in-Err-clause-refused : goal.returns-in-Err-clause-refused
returns-in-Err-clause-refused c = subst (λ (fs : List (List ℕ)). IsFileFault fs c.in-Err.fault) c.requires c.in-Err.ensures.fault
