use Rattle.std.proofs.Common.{◌≡◌, ◌∙◌, ℕ, List, Option, ap, map, subst}
use Rattle.cm_names.specs.Listed.{listed}
use Rattle.cm_wit_conforms.specs.Numbers.{HasFronts, front_number}
use Rattle.cm_wit_conforms.specs.Places.{back_key}
use Rattle.cm_wit_conforms.specs.Tables.{numbers_in}
use Rattle.cm_wit_conforms.specs.PartViews.{front_view}
use Rattle.cm_wit_conforms.specs.declared.parts.FrontParts.{FrontParts}
use Rattle.cm_wit_conforms.proofs.places.NameTable.new.Goals as goal

pub returns : goal.returns
returns c = λ texts names.
    let fronts = c.in_ok-fronts.fronts in
    let own = c.args.names.now in
    let has : HasFronts own.fronts.items fronts = subst (λ (fs : List FrontParts). HasFronts fs fronts) c.deref.ensures.value c.in_ok-fronts.ensures in
    let numbers : c.in_ok-numbers.numbers.items ≡ numbers_in fronts own =
    c.in_ok-numbers.ensures ∙ ap (map (λ (f : FrontParts). front_number fronts (front_view f))) c.deref-2.ensures.value in
    let made : listed c.in_ok-keys.keys ≡ map (back_key (numbers_in fronts own)) own.names.items =
    c.in_ok-keys.ensures
    ∙ (c.in_ok-back_keys.ensures
    ∙ (ap (λ (ns : List (Option ℕ)). map (back_key ns) c.deref-4.result.now) (c.deref-3.ensures.value ∙ numbers)
    ∙ ap (map (back_key (numbers_in fronts own))) c.deref-4.ensures.value)) in
    record { list = own; names = names; fronts = has; keys = made }
