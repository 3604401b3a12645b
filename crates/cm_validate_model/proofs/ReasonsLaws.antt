-- Laws of what Reasons defines, for this crate and those above it.
use Rattle.std.proofs.Common.{Option, None, ◌≡◌, refl, Some, List, ℕ, length, ◌≤◌, sym, ap, ◌∙◌, true, Bool, false, ◌++◌, append_assoc, ◌<◌, get_or, ◌+◌, drop, add-one, drop-cons, [], ◌∷◌}
use Rattle.std.proofs.lemmas.List.{drop_all}
use Rattle.std.specs.List.{flat_map}
use Rattle.std.specs.Prelude.{is_some, nat_le, if◌then◌else◌}
use Rattle.cm_validate_model.proofs.FaultLaws.{rest_fault, listed}
use Rattle.cm_validate_model.proofs.SharedLaws.{LeastOfBoth}
use Rattle.cm_validate_model.specs.ReasonWords.{reason_number}
use Rattle.cm_validate_model.specs.Reasons.{lesser, least, unless}
use Rattle.cm_validate_model.specs.declared.fault.ValidReason.{ValidReason}

pub lesser_none : (p : Option ValidReason) → lesser p None ≡ p
lesser_none None = refl
lesser_none (Some r) = refl

-- none is left to read
pub read_end : {A : Type 0} (f : A → List ValidReason) (xs : List A) (i : ℕ) (so_far all : Option ValidReason) → length xs ≤ i → lesser so_far (rest_fault f xs i) ≡ all → so_far ≡ all
read_end f xs i so_far all le before =
    sym (ap (λ ys. lesser so_far (least (flat_map f ys))) (drop_all i xs le) ∙ lesser_none so_far) ∙ before

pub lesser_some : (q : ValidReason) (o : Option ValidReason) → is_some (lesser (Some q) o) ≡ true
lesser_some q None = refl
lesser_some q (Some r) = here (nat_le (reason_number q) (reason_number r))
  where
    here : (b : Bool) → is_some (if b then Some q else Some r) ≡ true
    here true = refl
    here false = refl

pub least_listed : (p : Option ValidReason) → least (listed p) ≡ p
least_listed None = refl
least_listed (Some r) = refl

pub lesser_assoc : LeastOfBoth → (p q r : Option ValidReason) → lesser p (lesser q r) ≡ lesser (lesser p q) r
lesser_assoc both p q r =
    let a = least_listed p in
    let b = least_listed q in
    let c = least_listed r in
    let right = both (listed p) (listed q ++ listed r) ∙ ap (lesser (least (listed p))) (both (listed q) (listed r)) in
    let left = both (listed p ++ listed q) (listed r) ∙ ap (λ v. lesser v (least (listed r))) (both (listed p) (listed q)) in
    let same : least (listed p ++ (listed q ++ listed r)) ≡ least ((listed p ++ listed q) ++ listed r) = ap least (sym (append_assoc (listed p) (listed q) (listed r))) in
    let whole : lesser (least (listed p)) (lesser (least (listed q)) (least (listed r))) ≡ lesser (lesser (least (listed p)) (least (listed q))) (least (listed r)) = sym right ∙ same ∙ left in
    rw (a, b, c) at whole

-- one element more is read
pub read_on : {A : Type 0} → LeastOfBoth → (f : A → List ValidReason) (xs : List A) (i : ℕ) (x : A) (so_far now all : Option ValidReason)
    → i < length xs → x ≡ get_or xs i x → now ≡ lesser so_far (least (f x))
    → lesser so_far (rest_fault f xs i) ≡ all → lesser now (rest_fault f xs (i + 1)) ≡ all
read_on both f xs i x so_far now all lt is e before =
    let split : flat_map f (drop i xs) ≡ f x ++ flat_map f (drop (i + 1) xs) = rw (add-one, drop-cons xs i x lt, ← is) refl in
    let rest : least (flat_map f (drop i xs)) ≡ lesser (least (f x)) (rest_fault f xs (i + 1)) = ap least split ∙ both (f x) (flat_map f (drop (i + 1) xs)) in
    ap (λ v. lesser v (rest_fault f xs (i + 1))) e
    ∙ sym (lesser_assoc both so_far (least (f x)) (rest_fault f xs (i + 1)))
    ∙ sym (ap (lesser so_far) rest)
    ∙ before

pub none_broken : (rs : List ValidReason) → least rs ≡ None → rs ≡ []
none_broken [] e = refl
none_broken (r ∷ rs) e = let wrong : true ≡ false = sym (lesser_some r (least rs)) ∙ ap is_some e in absurd cc

-- a rule holds that is not broken
pub kept : (b : Bool) (r : ValidReason) → unless b r ≡ [] → b ≡ true
kept true r e = refl
kept false r e = absurd cc
