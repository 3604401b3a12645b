-- What the type of an instance breaks, by that which it breaks besides the limits.
use Rattle.std.proofs.Common.{◌≡◌, ℕ, true, List, [], ◌∷◌, ◌++◌, map, Some, None, refl, sym, ap, ◌∙◌}
use Rattle.cm_types.specs.DefTypes.{DeclarationTree}
use Rattle.cm_types.specs.Signatures.{NamedItem}
use Rattle.cm_validate_model.specs.declared.fault.ValidReason.{ValidReason}
use Rattle.cm_validate_model.specs.declared.fault.ValidReason.TheVariants as reason
use Rattle.cm_validate_model.specs.Declarations.{Scope, after_declarations, declarations_broken, instance_def_broken, instance_defined, scope_in}
use Rattle.cm_validate_model.specs.Definitions.{TypeDef}
use Rattle.cm_validate_model.specs.ItemNames.{item_names_broken}
use Rattle.cm_validate_model.specs.Reasons.{least, lesser}
use Rattle.cm_validate_instances.specs.Names.{item_name_faults}
use Rattle.cm_validate_instances.specs.ItemSketches.{named_sketch}
use Rattle.cm_validate_instances.specs.Faults.{besides_limits, or_too_large}
use Rattle.cm_validate_instances.specs.SketchScopes.{SketchScope, after_all_sketched, declarations_faults, sketch_scope, sketches_before}
use Rattle.cm_validate_instances.proofs.SketchScopeLaws.{Others}
use Rattle.cm_validate_model.proofs.SharedLaws.{LeastOfBoth}
use Rattle.cm_validate_instances.proofs.DefinitionFaultLaws.{are_before, before_both, besides_both}

abbrev pub NamesTold : Type 0
NamesTold = (items : List NamedItem) → least (item_names_broken items) ≡ least (item_name_faults (map named_sketch items))

abbrev pub NamesBefore : Type 0
NamesBefore = (items : List NamedItem) → are_before (item_names_broken items) ≡ true

abbrev pub ScopesTold : Type 0
ScopesTold = (s : Scope) (ds : List DeclarationTree) → sketch_scope (after_declarations s ds) ≡ after_all_sketched s.around (sketch_scope s) ds

abbrev pub FaultsTold : Type 0
FaultsTold = (s : Scope) (ds : List DeclarationTree) → besides_limits (declarations_broken s ds) ≡ declarations_faults s.around (sketch_scope s) ds

abbrev pub FaultsBefore : Type 0
FaultsBefore = (s : Scope) (ds : List DeclarationTree) → are_before (besides_limits (declarations_broken s ds)) ≡ true

module _ (types : List TypeDef) (next : ℕ) (ds : List DeclarationTree) where
  abbrev start : Scope
  start = scope_in types next

  abbrev items : List NamedItem
  items = (instance_defined types next ds).items

  pub instance_told : LeastOfBoth → Others → NamesBefore → NamesTold → ScopesTold → FaultsTold
      → least (besides_limits (instance_def_broken types next ds)) ≡ least (declarations_faults types (sketches_before next) ds ++ item_name_faults (after_all_sketched types (sketches_before next) ds).items)
  instance_told both others before names scopes faults =
      ap least (besides_both (declarations_broken start ds) (item_names_broken items))
      ∙ both (besides_limits (declarations_broken start ds)) (besides_limits (item_names_broken items))
      ∙ ap (λ rs. lesser (least rs) (least (besides_limits (item_names_broken items)))) (faults start ds)
      ∙ ap (λ rs. lesser (least (declarations_faults types (sketches_before next) ds)) (least rs)) (others (item_names_broken items) (before items))
      ∙ ap (lesser (least (declarations_faults types (sketches_before next) ds)))
      (names items ∙ ap (λ (s : SketchScope). least (item_name_faults s.items)) (scopes start ds))
      ∙ sym (both (declarations_faults types (sketches_before next) ds) (item_name_faults (after_all_sketched types (sketches_before next) ds).items))

  pub instance_before : Others → NamesBefore → FaultsBefore → are_before (besides_limits (instance_def_broken types next ds)) ≡ true
  instance_before others names faults =
      ap are_before (besides_both (declarations_broken start ds) (item_names_broken items))
      ∙ before_both (besides_limits (declarations_broken start ds)) (besides_limits (item_names_broken items)) (faults start ds)
      (ap are_before (others (item_names_broken items) (names items)) ∙ names items)

  -- ---- the pass over definitions

  -- nothing is broken where no declaration breaks anything and nothing is broken besides the limits
  pub none_broken : Others → NamesBefore → declarations_broken start ds ≡ [] → least (besides_limits (instance_def_broken types next ds)) ≡ None → None ≡ least (instance_def_broken types next ds)
  none_broken others names fine none =
      let left : instance_def_broken types next ds ≡ item_names_broken items = ap (λ rs. rs ++ item_names_broken items) fine in
      sym (ap least left ∙ ap least (sym (others (item_names_broken items) (names items))) ∙ ap (λ rs. least (besides_limits rs)) (sym left) ∙ none)

  some_too_large : (qs rs : List ValidReason) → (qs ≡ [] → ⊥) → Some reason.TooLarge ≡ or_too_large (qs ++ rs) None
  some_too_large [] rs h = absurd (h refl)
  some_too_large (q ∷ qs) rs h = refl

  -- the limits are broken where a declaration breaks something, and nothing is broken besides them
  pub limits_broken : least (instance_def_broken types next ds) ≡ or_too_large (instance_def_broken types next ds) (least (besides_limits (instance_def_broken types next ds)))
      → (declarations_broken start ds ≡ [] → ⊥) → least (besides_limits (instance_def_broken types next ds)) ≡ None → Some reason.TooLarge ≡ least (instance_def_broken types next ds)
  limits_broken last some none =
      some_too_large (declarations_broken start ds) (item_names_broken items) some
      ∙ sym (ap (or_too_large (instance_def_broken types next ds)) none)
      ∙ sym last
