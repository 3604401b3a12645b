-- When two rows are one.
use Rattle.std.proofs.Common.{◌≡◌, ◌∙◌, true, false, refl, sym, ap, inl, inr}
use Rattle.std.proofs.lemmas.Bool.{cases_Bool}
use Rattle.std.proofs.lemmas.Cmp.{nat_cmp_total, nat_list_cmp_total, tied_itself}
use Rattle.std.proofs.lemmas.Map.Text.{is_eq-slice_cmp}
use Rattle.std.proofs.lemmas.Slice.Eq.{bytes_eq-Decides}
use Rattle.std.specs.Cmp.Lexicographic.{slice_cmp}
use Rattle.std.specs.Ordering.{is_eq, nat_cmp, ordering_then}
use Rattle.std.specs.declared.cmp.Ordering.{Ordering}
use Rattle.std.specs.declared.cmp.Ordering.TheVariants.{Equal}
use Rattle.cm_match_serving.specs.contracts.series.KindOrd.TheImpl as kind_ord
use Rattle.cm_match_serving.specs.declared.series.Kind.{Kind}
use Rattle.cm_match_serving.specs.declared.series.Kind.TheVariants as kind
use Rattle.cm_match_serving.specs.Readings.{Row, row_cmp}
use Rattle.cm_lemmas.proofs.Orders.{number_exact, both_tied}

both_then : (r s : Ordering) → r ≡ Equal → is_eq s ≡ true → is_eq (ordering_then r s) ≡ true
both_then r s e h = rw e h

kind_exact : (k l : Kind) → is_eq ((kind_ord.ghosts).cmp k l) ≡ true → k ≡ l
kind_exact kind.Unversioned kind.Unversioned e = refl
kind_exact kind.Unversioned kind.Releases e = cc e
kind_exact kind.Unversioned kind.Prereleases e = cc e
kind_exact kind.Releases kind.Unversioned e = cc e
kind_exact kind.Releases kind.Releases e = refl
kind_exact kind.Releases kind.Prereleases e = cc e
kind_exact kind.Prereleases kind.Unversioned e = cc e
kind_exact kind.Prereleases kind.Releases e = cc e
kind_exact kind.Prereleases kind.Prereleases e = refl

kind_itself : (k : Kind) → (kind_ord.ghosts).cmp k k ≡ Equal
kind_itself kind.Unversioned = refl
kind_itself kind.Releases = refl
kind_itself kind.Prereleases = refl

-- rows that are not told apart are one
pub row_exact : (a b : Row) → is_eq (row_cmp a b) ≡ true → a ≡ b
row_exact a b e =
    let name = both_tied (slice_cmp nat_cmp a.0 b.0) _ e in
    let sort = both_tied ((kind_ord.ghosts).cmp a.1 b.1) _ name.1 in
    let major = both_tied (nat_cmp a.2 b.2) _ sort.1 in
    let minor = both_tied (nat_cmp a.3 b.3) _ major.1 in
    let names : a.0 ≡ b.0 = (bytes_eq-Decides a.0 b.0).0 (sym (is_eq-slice_cmp a.0 b.0) ∙ name.0) in
    ap (λ n. (n, a.1, a.2, a.3, a.4)) names
    ∙ ap (λ k. (b.0, k, a.2, a.3, a.4)) (kind_exact a.1 b.1 sort.0)
    ∙ ap (λ x. (b.0, b.1, x, a.3, a.4)) (number_exact a.2 b.2 major.0)
    ∙ ap (λ x. (b.0, b.1, b.2, x, a.4)) (number_exact a.3 b.3 minor.0)
    ∙ ap (λ x. (b.0, b.1, b.2, b.3, x)) (number_exact a.4 b.4 minor.1)

pub row_itself : (a : Row) → is_eq (row_cmp a a) ≡ true
row_itself a =
    both_then (slice_cmp nat_cmp a.0 a.0) _ (tied_itself nat_list_cmp_total a.0)
    (both_then ((kind_ord.ghosts).cmp a.1 a.1) _ (kind_itself a.1)
    (both_then (nat_cmp a.2 a.2) _ (tied_itself nat_cmp_total a.2)
    (both_then (nat_cmp a.3 a.3) _ (tied_itself nat_cmp_total a.3) (ap is_eq (tied_itself nat_cmp_total a.4)))))

-- rows that are told apart are so the other way round
pub row_apart : (a b : Row) → is_eq (row_cmp a b) ≡ false → is_eq (row_cmp b a) ≡ false
row_apart a b e = elim (cases_Bool (is_eq (row_cmp b a))) [
  | inl y ↦ absurd (cc (sym e ∙ ap (λ r. is_eq (row_cmp a r)) (row_exact b a y) ∙ row_itself a))
  | inr n ↦ n
]
