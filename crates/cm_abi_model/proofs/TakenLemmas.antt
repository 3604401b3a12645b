-- Laws of what Taken defines, for this crate and those above it.
use Rattle.std.proofs.Common.{List, ◌++◌, ◌≡◌, ◌+◌, [], arith, ◌∷◌, refl, ap, ◌∙◌, sym}
use Rattle.std.proofs.lemmas.List.{append_assoc}
use Rattle.cm_abi_model.specs.Taken.{Met, content_of, text_content, content, taken, lent, tags_of}

pub content_both : (xs ys : List Met) → content_of (xs ++ ys) ≡ content_of xs + content_of ys
content_both [] ys = let e : content_of ys ≡ 0 + content_of ys = omega arith in e
content_both (text_content tags n ∷ xs) ys = let e : content_of (xs ++ ys) ≡ content_of xs + content_of ys = content_both xs ys in omega (arith, e)
content_both (content n ∷ xs) ys = let e : content_of (xs ++ ys) ≡ content_of xs + content_of ys = content_both xs ys in omega (arith, e)
content_both (taken i ∷ xs) ys = content_both xs ys
content_both (lent i ∷ xs) ys = content_both xs ys

pub tags_both : (xs ys : List Met) → tags_of (xs ++ ys) ≡ tags_of xs ++ tags_of ys
tags_both [] ys = refl
tags_both (text_content tags n ∷ xs) ys = ap (λ zs. tags ++ zs) (tags_both xs ys) ∙ sym (append_assoc tags (tags_of xs) (tags_of ys))
tags_both (content n ∷ xs) ys = tags_both xs ys
tags_both (taken i ∷ xs) ys = tags_both xs ys
tags_both (lent i ∷ xs) ys = tags_both xs ys
