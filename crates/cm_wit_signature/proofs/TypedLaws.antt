-- Where names lead to types.
use Rattle.std.proofs.Common.{◌≡◌, ℕ, List, map, length, sym, subst}
use Rattle.std.proofs.lemmas.List.{length-map}
use Rattle.cm_wit_reading.specs.Trees.{File}
use Rattle.cm_wit_worlds.specs.Interfaces.{PlacedWorld}
use Rattle.cm_wit_tables.specs.Declarations.{Declaration}
use Rattle.cm_wit_tables.specs.TypeFaults.{AllHaveTypes}
use Rattle.cm_wit_tables.specs.Worlds.{declarations}
use Rattle.cm_wit_tables.specs.DeclaredViews.{instance_view}
use Rattle.cm_wit_tables.specs.declared.declarations.Instance as code_instance
use Rattle.cm_wit_signature.specs.Named.{HaveTypes, InstancesHaveTypes, OwnFuncsHaveTypes}

module _ (fs : List File) (w : PlacedWorld) (instances : List code_instance.Instance) (ds : List Declaration) (e : ds ≡ declarations fs (map instance_view instances)) where
  pub have_types : AllHaveTypes ds → InstancesHaveTypes fs ds (map instance_view instances) → OwnFuncsHaveTypes w ds (length instances) → HaveTypes fs w (map instance_view instances)
  have_types all each own = record {
    of_declarations = subst AllHaveTypes e all;
    of_instances = subst (λ (d : List Declaration). InstancesHaveTypes fs d (map instance_view instances)) e each;
    of_world = subst (λ (n : ℕ). OwnFuncsHaveTypes w (declarations fs (map instance_view instances)) n) (sym (length-map instances instance_view)) (subst (λ (d : List Declaration). OwnFuncsHaveTypes w d (length instances)) e own);
  }

  pub are_declared : HaveTypes fs w (map instance_view instances) → AllHaveTypes ds
  are_declared h = subst AllHaveTypes (sym e) h.of_declarations

  pub each_has : HaveTypes fs w (map instance_view instances) → InstancesHaveTypes fs ds (map instance_view instances)
  each_has h = subst (λ (d : List Declaration). InstancesHaveTypes fs d (map instance_view instances)) (sym e) h.of_instances

  pub own_has : HaveTypes fs w (map instance_view instances) → OwnFuncsHaveTypes w ds (length instances)
  own_has h = subst (λ (d : List Declaration). OwnFuncsHaveTypes w d (length instances)) (sym e) (subst (λ (n : ℕ). OwnFuncsHaveTypes w (declarations fs (map instance_view instances)) n) (length-map instances instance_view) h.of_world)

pub ruleset typed_laws = (length-map)
