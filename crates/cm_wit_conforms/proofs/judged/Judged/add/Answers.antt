use Rattle.std.proofs.Common.{◌≡◌, ◌++◌, ◌∷◌, [], ◌∙◌, List, true, false, ap, map, sym}
use Rattle.std.proofs.lemmas.List.{map-append}
use Rattle.cm_wit_conforms.specs.Comparisons.{Entry}
use Rattle.cm_wit_conforms.specs.Views.{entry_of}
use Rattle.cm_wit_conforms.specs.Walks.{are_found}
use Rattle.cm_wit_conforms.proofs.JudgedLaws.{found_not, found_one, judged_one, judged_still}
use Rattle.cm_wit_conforms.proofs.judged.Judged.add.Goals as goal

pub returns-in_ok-push : goal.returns-in_ok-push
returns-in_ok-push c = λ h w es j.
    let e = entry_of h w c.args.each in
    let found : are_found es ≡ true = sym j.found ∙ c.if-self.true in
    record {
      entries = ap (map (entry_of h w)) c.in_ok-push.ensures.items
          ∙ (map-append (entry_of h w) c.args.self.now.entries.items (c.args.each ∷ [])
          ∙ (ap (λ (l : List Entry). l ++ e ∷ []) j.entries ∙ sym (judged_one es e found)));
      found = c.is_found-self.ensures h w ∙ sym (found_one es e found);
    }

pub returns-else-self : goal.returns-else-self
returns-else-self c = λ h w es j.
    let e = entry_of h w c.args.each in
    let found : are_found es ≡ false = sym j.found ∙ c.if-self.false in
    record {
      entries = j.entries ∙ sym (judged_still es (e ∷ []) found);
      found = c.if-self.false ∙ sym (found_not es (e ∷ []) found);
    }
