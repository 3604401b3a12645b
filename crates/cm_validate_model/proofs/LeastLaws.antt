-- The least of several reasons.
use Rattle.std.proofs.Common.{◌≡◌, List, [], ◌∷◌, ◌++◌, true, false, Option, Some, None, nat_le, refl, ap, sym, ◌∙◌, arith, inl, inr}
use Rattle.std.proofs.lemmas.Bool.{cases_Bool, leb-true, leb-false, le-leb, lt-leb}
use Rattle.cm_validate_model.specs.declared.fault.ValidReason.{ValidReason}
use Rattle.cm_validate_model.specs.ReasonWords.{reason_number}
use Rattle.cm_validate_model.specs.Reasons.{least, lesser}

first : (a b : ValidReason) → nat_le (reason_number a) (reason_number b) ≡ true → lesser (Some a) (Some b) ≡ Some a
first a b h = rw h refl

second : (a b : ValidReason) → nat_le (reason_number a) (reason_number b) ≡ false → lesser (Some a) (Some b) ≡ Some b
second a b h = rw h refl

-- both sides are this reason
both : (a b c : ValidReason) (p q r : Option ValidReason) → lesser (Some b) (Some c) ≡ p → lesser (Some a) p ≡ r → lesser (Some a) (Some b) ≡ q → lesser q (Some c) ≡ r
    → lesser (Some a) (lesser (Some b) (Some c)) ≡ lesser (lesser (Some a) (Some b)) (Some c)
both a b c p q r bc abc ab cab = ap (lesser (Some a)) bc ∙ abc ∙ sym (ap (λ x. lesser x (Some c)) ab ∙ cab)

three : (a b c : ValidReason) → lesser (Some a) (lesser (Some b) (Some c)) ≡ lesser (lesser (Some a) (Some b)) (Some c)
three a b c = elim (cases_Bool (nat_le (reason_number a) (reason_number b))) [
  | inl ab ↦ elim (cases_Bool (nat_le (reason_number b) (reason_number c))) [
    | inl bc ↦
        let ac : nat_le (reason_number a) (reason_number c) ≡ true = le-leb (reason_number a) (reason_number c) (omega (arith, leb-true (reason_number a) (reason_number b) ab, leb-true (reason_number b) (reason_number c) bc)) in
        both a b c (Some b) (Some a) (Some a) (first b c bc) (first a b ab) (first a b ab) (first a c ac)
    | inr bc ↦ both a b c (Some c) (Some a) (lesser (Some a) (Some c)) (second b c bc) refl (first a b ab) refl
  ]
  | inr ab ↦ elim (cases_Bool (nat_le (reason_number b) (reason_number c))) [
    | inl bc ↦ both a b c (Some b) (Some b) (Some b) (first b c bc) (second a b ab) (second a b ab) (first b c bc)
    | inr bc ↦
        let ac : nat_le (reason_number a) (reason_number c) ≡ false = lt-leb (reason_number a) (reason_number c) (omega (arith, leb-false (reason_number a) (reason_number b) ab, leb-false (reason_number b) (reason_number c) bc)) in
        both a b c (Some c) (Some b) (Some c) (second b c bc) (second a c ac) (second a b ab) (second b c bc)
  ]
]

two : (a b : ValidReason) → lesser (Some a) (Some b) ≡ lesser (lesser (Some a) (Some b)) None
two a b = elim (cases_Bool (nat_le (reason_number a) (reason_number b))) [
  | inl ab ↦ rw ab refl
  | inr ab ↦ rw ab refl
]

pub lesser_assoc : (p q r : Option ValidReason) → lesser p (lesser q r) ≡ lesser (lesser p q) r
lesser_assoc None q r = refl
lesser_assoc (Some a) None r = refl
lesser_assoc (Some a) (Some b) None = two a b
lesser_assoc (Some a) (Some b) (Some c) = three a b c

pub least_append : (qs rs : List ValidReason) → least (qs ++ rs) ≡ lesser (least qs) (least rs)
least_append [] rs = refl
least_append (q ∷ qs) rs = ap (lesser (Some q)) (least_append qs rs) ∙ lesser_assoc (Some q) (least qs) (least rs)
