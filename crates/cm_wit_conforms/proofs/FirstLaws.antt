-- The first entry that does not fit.
use Rattle.std.proofs.Common.{◌≡◌, List, [], ◌∷◌, ◌++◌, sym, ap, subst, ◌∙◌}
use Rattle.std.specs.List.{AllByRecursion}
use Rattle.cm_wit_conforms.specs.Comparisons.{Entry}
use Rattle.cm_wit_conforms.specs.Conformance.{Fits, AllFit, IsFirstIn, reason_of}
use Rattle.cm_wit_conforms.specs.declared.fault.ConformItem.{ConformItem}
use Rattle.cm_wit_conforms.specs.declared.fault.ConformReason.{ConformReason}

head_or : {A : Type 0} → A → List A → A
head_or x [] = x
head_or x (y ∷ ys) = y

tail : {A : Type 0} → List A → List A
tail [] = []
tail (y ∷ ys) = ys

-- what all have, this one has
at_one : {A : Type 0} (P : A → Type 0) (a : List A) (x : A) (c : List A) → AllByRecursion P (a ++ x ∷ c) → P x
at_one P [] x c all = all.0
at_one P (z ∷ a) x c all = at_one P a x c all.1

pub never_both : (all : List Entry) (item : ConformItem) (r : ConformReason) → AllFit all all → IsFirstIn all all item r → ⊥
never_both all item r fit f =
    let P : Entry → Type 0 = λ e. Fits all e.what in
    f.unfit (at_one P f.front f.entry f.rest (subst (λ (es : List Entry). AllFit all es) f.split fit))

-- two first ones of one list are one
same_first : {A : Type 0} (P : A → Type 0) (a b c d : List A) (x y : A) → a ++ x ∷ c ≡ b ++ y ∷ d → AllByRecursion P a → AllByRecursion P b → ¬ (P x) → ¬ (P y) → x ≡ y
unfolding head_or tail
same_first P [] [] c d x y e pa pb nx ny = ap (head_or x) e
same_first P [] (w ∷ b) c d x y e pa pb nx ny = absurd (nx (subst P (sym (ap (head_or x) e)) pb.0))
same_first P (z ∷ a) [] c d x y e pa pb nx ny = absurd (ny (subst P (ap (head_or z) e) pa.0))
same_first P (z ∷ a) (w ∷ b) c d x y e pa pb nx ny = same_first P a b c d x y (ap tail e) pa.1 pb.1 nx ny

pub one_first : (all : List Entry) (i j : ConformItem) (q r : ConformReason) → IsFirstIn all all i q → IsFirstIn all all j r → (i ≡ j) × (q ≡ r)
one_first all i j q r f g =
    let P : Entry → Type 0 = λ e. Fits all e.what in
    let one : f.entry ≡ g.entry = same_first P f.front g.front f.rest g.rest f.entry g.entry (sym f.split ∙ g.split) f.before g.before f.unfit g.unfit in
    let here : i ≡ j = sym f.place ∙ ap (λ e. e.item) one ∙ g.place in
    (here, sym f.reason ∙ ap (λ (e : Entry). reason_of i.list e.what) one ∙ ap (λ (k : ConformItem). reason_of k.list g.entry.what) here ∙ g.reason)
