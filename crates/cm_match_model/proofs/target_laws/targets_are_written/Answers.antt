use Rattle.std.proofs.Common.{map}
use Rattle.cm_validate_model.specs.Items.{all_items}
use Rattle.cm_validate_model.specs.Sources.{IsAdded, IsCoreAdded}
use Rattle.cm_validate_model.specs.Spaces.{spaces_of}
use Rattle.cm_match_model.specs.Imports.{seen_by}
use Rattle.cm_match_model.proofs.ReachLaws.{of_lift, sections_at, told_where}
use Rattle.cm_match_model.proofs.target_laws.targets_are_written.Goals as goal

pub returns : goal.returns
returns c = λ components sees import_of import item t to.
    (of_lift (λ d s. IsAdded (all_items (sections_at components d))) (seen_by sees (map spaces_of components))
    (told_where (λ x. IsAdded (all_items x)) (λ x. IsCoreAdded (all_items x)) c.functions_come_from_items.ensures components)
    import_of import item t to).2
