-- What each item keeps holds of the index spaces before every item.
use Rattle.std.proofs.Common.{◌≡◌, ◌∙◌, List, [], ◌∷◌, ◌++◌, refl, ap, sym, subst}
use Rattle.std.proofs.lemmas.List.{append_assoc}
use Rattle.cm_validate_model.specs.Items.{Item}
use Rattle.cm_validate_model.specs.Sources.{IsItemAt}
use Rattle.cm_validate_model.specs.Spaces.{Spaces, after_item, after_items, empty_spaces}
use Rattle.cm_validate_model.proofs.ListLemmas.{after_both}
use Rattle.cm_lemmas.proofs.Lists.{nil_right}

module _ (items : List Item) (Holds : Spaces → Type 0)
    (step : (s : Spaces) (x : Item) → IsItemAt items s x → Holds s → Holds (after_item s x)) where
  steps : (done more rest : List Item) → items ≡ done ++ (more ++ rest) → Holds (after_items empty_spaces done)
      → Holds (after_items empty_spaces (done ++ more))
  steps done [] rest e h = subst (λ l. Holds (after_items empty_spaces l)) (sym (nil_right done)) h
  steps done (x ∷ more) rest e h =
      let at : IsItemAt items (after_items empty_spaces done) x = record { front = done; rest = more ++ rest; split = e; spaces = refl } in
      let next = subst Holds (sym (after_both empty_spaces done (x ∷ []))) (step (after_items empty_spaces done) x at h) in
      let split = e ∙ sym (append_assoc done (x ∷ []) (more ++ rest)) in
      subst (λ l. Holds (after_items empty_spaces l)) (append_assoc done (x ∷ []) more) (steps (done ++ x ∷ []) more rest split next)

  pub holds_before : Holds empty_spaces → (s : Spaces) (x : Item) → IsItemAt items s x → Holds s
  holds_before none s x at = subst Holds at.spaces (steps [] at.front (x ∷ at.rest) at.split none)

  pub holds_after : Holds empty_spaces → Holds (after_items empty_spaces items)
  holds_after none = steps [] items [] (sym (nil_right items)) none
