use Rattle.std.proofs.Common.{◌≡◌, length, refl, rules}
use Rattle.cm_types.specs.ExternNameForms.{form_tree}
use Rattle.cm_wit_conforms.specs.declared.listing.ListedNames.{ListedNames}
use Rattle.cm_wit_conforms.specs.declared.parts.NameParts.{NameParts}
use Rattle.cm_wit_conforms.proofs.ListingLaws.{added}
use Rattle.cm_wit_conforms.proofs.listing.ListedNames.add.Goals as goal

pub returns : goal.returns
returns c = λ texts h.
    let between : ListedNames = record { fronts = c.push.new.self; names = c.args.self.now.names } in
    let new : ListedNames = record { fronts = c.push.new.self; names = c.push-2.new.self } in
    let name : NameParts = record { front = c.len-front.result; back = c.back_of.result } in
    let at : c.len-front.result ≡ length c.args.self.now.fronts.items = search rules in
    added c.args.self.now between new (form_tree c.args.name) c.front_of.result name texts c.in_ok-push.ensures.items refl refl c.in_ok-push-2.ensures.items c.requires c.front_of.ensures at c.back_of.ensures h
