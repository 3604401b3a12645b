-- Bytes that are written piece by piece.
use Rattle.std.proofs.Common.{◌≡◌, ℕ, List, [], ◌∷◌, ◌++◌, Option, Some, None, refl, sym, ap, subst, ◌∙◌}
use Rattle.std.specs.Io.KnownBytes.{Appends, Keeps}
use Rattle.std.specs.Prelude.{◌/◌, ◌%◌, slice_index}
use Rattle.std.proofs.lemmas.List.{append_assoc, append-nil}
use Rattle.hex.specs.Hex.{encode_lower, encode_with, lower_digits}

encode_with_more : (t xs ys : List ℕ)
    → encode_with t (xs ++ ys) ≡ encode_with t xs ++ encode_with t ys
unfolding encode_with
encode_with_more t [] ys = refl
encode_with_more t (x ∷ xs) ys =
    ap (λ (zs : List ℕ). slice_index t (x / 16) ∷ slice_index t (x % 16) ∷ zs)
    (encode_with_more t xs ys)

pub appends_nothing : (o : Option (List ℕ)) → Appends o o []
appends_nothing None = tt
appends_nothing (Some xs) = sym (append-nil xs)

pub appends_no_digits : (o : Option (List ℕ)) → Appends o o (encode_lower [])
unfolding encode_with
appends_no_digits o = appends_nothing o

pub appends_both : (a b c : Option (List ℕ)) (xs ys : List ℕ) → Appends a b xs → Appends b c ys
    → Appends a c (xs ++ ys)
appends_both None b c xs ys h k = tt
appends_both (Some us) None c xs ys h k = absurd h
appends_both (Some us) (Some bs) None xs ys h k = absurd k
appends_both (Some us) (Some bs) (Some cs) xs ys h k =
    k ∙ ap (λ (zs : List ℕ). zs ++ ys) h ∙ append_assoc us xs ys

pub appends_kept : (a b c : Option (List ℕ)) (xs : List ℕ) → Appends a b xs → Keeps b c
    → Appends a c xs
appends_kept None b c xs h k = tt
appends_kept (Some us) None c xs h k = absurd h
appends_kept (Some us) (Some vs) None xs h k = absurd k
appends_kept (Some us) (Some vs) (Some ws) xs h k = k ∙ h

pub appends_digits : (a b c : Option (List ℕ)) (xs ys : List ℕ)
    → Appends a b (encode_lower xs) → Appends b c (encode_lower ys)
    → Appends a c (encode_lower (xs ++ ys))
appends_digits a b c xs ys h k =
    subst (Appends a c) (sym (encode_with_more lower_digits xs ys))
    (appends_both a b c (encode_lower xs) (encode_lower ys) h k)
