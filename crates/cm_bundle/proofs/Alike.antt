-- Lists that are compared one after the other.
use Rattle.std.proofs.Common.{◌≡◌, ◌∙◌, List, ◌∷◌, drop, get_or, sym, ap}
use Rattle.std.specs.Prelude.{◌↔◌}

module _ {A All : Type 0} (xs ys more others : List A) (a b : A) (p : xs ≡ a ∷ more) (q : ys ≡ b ∷ others) (h : (xs ≡ ys) ↔ All) where
  pub alike_more : a ≡ b → (more ≡ others) ↔ All
  alike_more same = (
    λ e. h.0 (p ∙ ap (λ (z : A). z ∷ more) same ∙ ap (λ (zs : List A). b ∷ zs) e ∙ sym q),
    λ all. ap (drop 1) (sym p ∙ h.1 all ∙ q),
  )

  pub not_alike : (a ≡ b → ⊥) → All → ⊥
  not_alike differ all = differ (ap (λ (zs : List A). get_or zs 0 a) (sym p ∙ h.1 all ∙ q))
