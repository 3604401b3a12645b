use Rattle.std.proofs.Common.{◌≡◌, ◌∙◌, List, ℕ, length, ap, subst, refl}
use Rattle.std.proofs.lemmas.Bool.{cases_lt}
use Rattle.cm_types.specs.ExternNames.{HasLabels}
use Rattle.cm_types_arena.specs.SharedNames.{tree_in}
use Rattle.cm_wit_conforms.specs.Parts.{FrontKey, back_of, front_of, parts_of}
use Rattle.cm_wit_conforms.specs.PartViews.{parts_in}
use Rattle.cm_wit_conforms.specs.Listings.{fronts_in}
use Rattle.cm_wit_conforms.specs.declared.listing.ListedNames.{ListedNames}
use Rattle.cm_wit_conforms.specs.declared.parts.NameParts.{NameParts}
use Rattle.cm_wit_conforms.proofs.ListingLaws.{at_length, named_more, shared_at}
use Rattle.cm_wit_conforms.proofs.listing.ListedNames.add_shared.Goals as goal

pub returns : goal.returns
returns c =
    let old = c.args.self.now in
    let fronts = c.args.fronts.now in
    let shared = c.args.name.now in
    let new : ListedNames = record { fronts = c.args.self.now.fronts; names = c.push.new.self } in
    let name : NameParts = record { front = c.bounded-front.result; back = c.back_of-back.result } in
    let at = shared_at fronts shared (fronts_in old) c.bounded-front.result c.requires c.bounded-front.ensures.inside c.bounded-front.ensures.outside (cases_lt shared.front (length fronts)) in
    let is : parts_in (fronts_in old) name ≡ parts_of (tree_in fronts shared) =
    ap (λ (k : FrontKey). (k, c.back_of-back.result.now)) at.0
    ∙ ap (λ (b : List ℕ). (front_of (tree_in fronts shared), b)) (c.back_of-back.ensures ∙ ap back_of c.form.ensures.name) in
    record {
      fronts = c.requires;
      added = λ texts h. named_more old new (tree_in fronts shared) name texts refl refl c.in_ok-push.ensures.items (subst HasLabels c.form.ensures.name c.form.ensures.labels) is (at_length old c.bounded-front.result at.1) h;
    }
