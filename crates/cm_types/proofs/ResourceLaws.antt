-- The test for equal resources says yes exactly where they are equal.
use Rattle.std.proofs.Common.{◌≡◌, true, refl, sym, ap, ◌∙◌}
use Rattle.std.proofs.lemmas.Bool.{and_parts, and_from, eqb-true, eq-eqb}
use Rattle.cm_types.specs.declared.resource.ResourceId.{ResourceId}
use Rattle.cm_types.specs.Resources.{same_resource}

pub resource_sound : (r s : ResourceId) → same_resource r s ≡ true → r ≡ s
resource_sound r s h =
    let p = and_parts _ _ h in
    ap (λ n. record { component = n; number = r.number }) (eqb-true r.component s.component p.0)
    ∙ ap (λ n. record { component = s.component; number = n }) (eqb-true r.number s.number p.1)

pub resource_same : (r : ResourceId) → same_resource r r ≡ true
resource_same r = and_from _ _ (eq-eqb r.component r.component refl) (eq-eqb r.number r.number refl)

pub resource_complete : (r s : ResourceId) → r ≡ s → same_resource r s ≡ true
resource_complete r s e = ap (same_resource r) (sym e) ∙ resource_same r
