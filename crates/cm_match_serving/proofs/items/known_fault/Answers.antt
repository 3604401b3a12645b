use Rattle.std.proofs.Common.{◌≡◌, ◌∙◌, ℕ, refl, sym, ap}
use Rattle.std.proofs.lemmas.Bool.{true≢false}
use Rattle.cm_types.specs.declared.resource.ResourceId.{ResourceId}
use Rattle.cm_match_model.specs.Serving.{standing}
use Rattle.cm_match_serving.specs.Linkings.{set_in}
use Rattle.cm_match_serving.specs.Sides.{set_of_pair, standing_of}
use Rattle.cm_match_serving.specs.declared.linking.Linking.{Linking}
use Rattle.cm_match_serving.specs.declared.sides.Side.{Side}
use Rattle.cm_match_serving.proofs.items.known_fault.Goals as goal

-- what a resource of a side is in the end
of_side : (s : Side) (l : Linking) (n : ℕ) (r : ResourceId) → s.linking ≡ l → s.component ≡ n → standing_of s r ≡ standing (set_in l) n r
of_side s l n r linking component =
    ap (λ (k : Linking). standing (set_in k) s.component r) linking ∙ ap (λ m. standing (set_in l) m r) component

pub returns-then-same_resource : goal.returns-then-same_resource
returns-then-same_resource c =
    let p = c.args.pair.now in
    let wanted : c.replace.result ≡ standing (set_of_pair p) p.importer c.args.wanted =
    c.replace.ensures ∙ of_side c.importer.result p.linking p.importer c.args.wanted c.importer.ensures.linking c.importer.ensures.component in
    let have : c.replace-2.result ≡ standing (set_of_pair p) p.provider c.args.have =
    c.replace-2.ensures ∙ of_side c.provider.result p.linking p.provider c.args.have c.provider.ensures.linking c.provider.ensures.component in
    sym wanted ∙ c.same_resource.ensures.same.0 c.if-same_resource.true ∙ have

pub returns-else-same_resource : goal.returns-else-same_resource
returns-else-same_resource c =
    let p = c.args.pair.now in
    let wanted : c.replace.result ≡ standing (set_of_pair p) p.importer c.args.wanted =
    c.replace.ensures ∙ of_side c.importer.result p.linking p.importer c.args.wanted c.importer.ensures.linking c.importer.ensures.component in
    let have : c.replace-2.result ≡ standing (set_of_pair p) p.provider c.args.have =
    c.replace-2.ensures ∙ of_side c.provider.result p.linking p.provider c.args.have c.provider.ensures.linking c.provider.ensures.component in
    (refl, λ same. true≢false (sym (c.same_resource.ensures.same.1 (wanted ∙ same ∙ sym have)) ∙ c.if-same_resource.false))
