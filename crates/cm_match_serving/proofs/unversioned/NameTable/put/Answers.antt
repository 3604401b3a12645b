use Rattle.std.proofs.Common.{◌≡◌, ◌∙◌, ◌++◌, ◌∷◌, [], length, suc, sym, ap, subst, arith}
use Rattle.std.proofs.lemmas.Grind.{common_steps}
use Rattle.cm_names.specs.TextTables.{texts_of}
use Rattle.cm_names.specs.Distinct.{AreDistinct}
use Rattle.cm_names.proofs.NumberLaws.{distinct_more}
use Rattle.cm_match_serving.proofs.unversioned.NameTable.put.Goals as goal
use Rattle.cm_lemmas.proofs.Lists.{one_longer}

pub invariant_of-self-2 : goal.invariant_of-self-2
invariant_of-self-2 c =
    let s = c.args.self.now in
    let m = c.args.name.now in
    let names : texts_of c.add.new.self ≡ texts_of s.names ++ m ∷ [] = c.in_ok-add.ensures.added ∙ ap (λ t. texts_of s.names ++ t ∷ []) c.in_ok-copy.ensures.ok in
    let items : c.push_reserved.new.self.items ≡ s.candidates.items ++ c.args.one ∷ [] = grind (arith, common_steps) in
    record {
      distinct = subst AreDistinct (sym names) (distinct_more (texts_of s.names) m c.requires s.distinct);
      long =
          ap length items
          ∙ one_longer s.candidates.items c.args.one
          ∙ ap (λ n. suc n) s.long
          ∙ sym (ap length names ∙ one_longer (texts_of s.names) m);
    }
