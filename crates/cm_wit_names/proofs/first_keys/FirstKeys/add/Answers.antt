use Rattle.std.proofs.Common.{◌≡◌, ◌∙◌, ◌++◌, ◌∷◌, [], length, suc, sym, ap, arith}
use Rattle.std.proofs.lemmas.Grind.{common_steps}
use Rattle.cm_names.specs.TextTables.{texts_of}
use Rattle.cm_wit_names.specs.FirstKeys.{found_in}
use Rattle.cm_wit_names.proofs.FirstLaws.{distinct_still, noted_new}
use Rattle.cm_wit_names.proofs.first_keys.FirstKeys.add.Goals as goal
use Rattle.cm_lemmas.proofs.Lists.{one_longer}

pub invariant_of-self-2 : goal.invariant_of-self-2
invariant_of-self-2 c =
    let s = c.args.self.now in
    let name = c.args.name.now in
    let names : texts_of c.add.new.self ≡ texts_of s.names ++ name ∷ [] = c.in_ok-add.ensures.added ∙ ap (λ t. texts_of s.names ++ t ∷ []) c.in_ok-copy.ensures.ok in
    let items : c.push_reserved.new.self.items ≡ s.firsts.items ++ (c.args.number, c.args.place) ∷ [] = grind (arith, common_steps) in
    let longer = ap length items ∙ one_longer s.firsts.items (c.args.number, c.args.place) in
    record {
      distinct = distinct_still (texts_of s.names) (texts_of c.add.new.self) name c.requires s.distinct names;
      as_many = longer ∙ ap (λ n. suc n) s.as_many ∙ sym (ap length names ∙ one_longer (texts_of s.names) name);
      of_names = λ i n le. s.of_names i n (omega (arith, le, longer));
    }

pub returns : goal.returns
returns c = λ n t.
    let s = c.args.self.now in
    let name = c.args.name.now in
    let names : texts_of c.add.new.self ≡ texts_of s.names ++ name ∷ [] = c.in_ok-add.ensures.added ∙ ap (λ t. texts_of s.names ++ t ∷ []) c.in_ok-copy.ensures.ok in
    let items : c.push_reserved.new.self.items ≡ s.firsts.items ++ (c.args.number, c.args.place) ∷ [] = grind (arith, common_steps) in
    ap (λ ts. found_in ts c.push_reserved.new.self.items s.others n t) names
    ∙ (ap (λ fs. found_in (texts_of s.names ++ name ∷ []) fs s.others n t) items
    ∙ noted_new (texts_of s.names) s.firsts.items c.args.number name c.args.place s.others c.requires s.distinct s.as_many s.of_names n t)
