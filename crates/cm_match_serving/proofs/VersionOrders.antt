-- The order of versions.
use Rattle.std.proofs.Common.{◌≡◌, ◌∙◌, true, false, refl, sym, ap, inl, inr}
use Rattle.std.proofs.lemmas.Bool.{cases_Bool}
use Rattle.std.proofs.lemmas.Cmp.{nat_cmp_total, on_total, then_total, upto}
use Rattle.std.specs.Cmp.{IsTotalOrder}
use Rattle.std.specs.Ordering.{is_gt, is_lt, ordering_reverse}
use Rattle.std.specs.declared.cmp.Ordering.{Ordering}
use Rattle.std.specs.declared.cmp.Ordering.TheVariants.{Less, Equal, Greater}
use Rattle.semver.specs.OrderLaws.{pre_total}
use Rattle.semver.specs.Parse.{Parts}
use Rattle.cm_match_serving.specs.Readings.{is_below, parts_cmp}

pub parts_total : IsTotalOrder parts_cmp
parts_total =
    then_total (on_total (λ (p : Parts). p.0) nat_cmp_total) (then_total (on_total (λ (p : Parts). p.1) nat_cmp_total)
    (then_total (on_total (λ (p : Parts). p.2) nat_cmp_total) (on_total (λ (p : Parts). p.3) pre_total)))

turned : (o : Ordering) → is_lt (ordering_reverse o) ≡ is_gt o
turned Less = refl
turned Equal = refl
turned Greater = refl

below_turned : (a b : Parts) → is_below a b ≡ is_gt (parts_cmp b a)
below_turned a b = ap is_lt (parts_total.antisymm a b) ∙ turned (parts_cmp b a)

-- what is not before one, which is not before another, is not before that one
pub not_below : (a b c : Parts) → is_below a b ≡ false → is_below b c ≡ false → is_below a c ≡ false
not_below a b c p q = below_turned a c ∙ upto parts_total c b a (sym (below_turned b c) ∙ q) (sym (below_turned a b) ∙ p)

lesser : (o : Ordering) → is_lt o ≡ true → o ≡ Less
lesser Less e = refl
lesser Equal e = cc e
lesser Greater e = cc e

pub below_trans : (a b c : Parts) → is_below a b ≡ true → is_below b c ≡ true → is_below a c ≡ true
below_trans a b c p q = ap is_lt (parts_total.trans a b c (lesser (parts_cmp a b) p) (lesser (parts_cmp b c) q))

-- the same with the first turned round
pub below_later : (a b c : Parts) → is_below a b ≡ false → is_below a c ≡ true → is_below b c ≡ true
below_later a b c p q = elim (cases_Bool (is_below b c)) [
  | inl y ↦ y
  | inr n ↦ absurd (cc (sym q ∙ not_below a b c p n))
]
