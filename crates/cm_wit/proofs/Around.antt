-- Names, ASCII case aside, around which something else stands.
use Rattle.std.proofs.Common.{◌≡◌, ℕ, List, [], ◌∷◌, ◌++◌, Option, Some, None, true, ◌&&◌, map, refl, sym, ap, ◌∙◌}
use Rattle.std.specs.Prelude.{◌↔◌, codes}
use Rattle.std.proofs.lemmas.Slice.Eq.{bytes_eq-Decides}
use Rattle.std.proofs.lemmas.List.{append_cancel_left, append_cancel_right, map-append}
use Rattle.std.specs.Char.{to_ascii_lowercase}
use Rattle.cm_types.specs.ExternNames.{interface, method, static, version_suffix}
use Rattle.cm_types.specs.Names.{is_same_name}
use Rattle.cm_wit_reading.specs.Trees.{File}
use Rattle.cm_wit_names.specs.FileMentions.{is_own_package, is_same_version, own_name}
use Rattle.cm_wit_names.specs.Rules.{folded, own_part}
use Rattle.cm_lemmas.proofs.Bools.{both_true}

abbrev Same : List ℕ → List ℕ → Type 0
Same x y = map to_ascii_lowercase x ≡ map to_ascii_lowercase y

flip : {P Q : Type 0} → (P ↔ Q) → (Q ↔ P)
flip h = (h.1, h.0)

chain : {P Q R : Type 0} → (P ↔ Q) → (Q ↔ R) → (P ↔ R)
chain h k = (λ p. k.0 (h.0 p), λ r. h.1 (k.1 r))

-- the same text stands before both
behind : (s x y : List ℕ) → Same (s ++ x) (s ++ y) ↔ Same x y
behind s x y = (
  (λ e. append_cancel_left (map to_ascii_lowercase s) (map to_ascii_lowercase x) (map to_ascii_lowercase y) (sym (map-append to_ascii_lowercase s x) ∙ e ∙ map-append to_ascii_lowercase s y)),
  (λ e. map-append to_ascii_lowercase s x ∙ ap (λ t. map to_ascii_lowercase s ++ t) e ∙ sym (map-append to_ascii_lowercase s y)),
)

-- the same text stands behind both
before : (t x y : List ℕ) → Same (x ++ t) (y ++ t) ↔ Same x y
before t x y = (
  (λ e. append_cancel_right (map to_ascii_lowercase x) (map to_ascii_lowercase y) (map to_ascii_lowercase t) (sym (map-append to_ascii_lowercase x t) ∙ e ∙ map-append to_ascii_lowercase y t)),
  (λ e. map-append to_ascii_lowercase x t ∙ ap (λ s. s ++ map to_ascii_lowercase t) e ∙ sym (map-append to_ascii_lowercase y t)),
)

-- the same byte stands before both
after : (c : ℕ) (x y : List ℕ) → Same (c ∷ x) (c ∷ y) ↔ Same x y
after c x y = behind (c ∷ []) x y

pub of_interfaces : (ns pkg a b : List ℕ) (version : Option (List ℕ)) → Same (ns ++ 58 ∷ (pkg ++ 47 ∷ (a ++ version_suffix version))) (ns ++ 58 ∷ (pkg ++ 47 ∷ (b ++ version_suffix version))) ↔ Same a b
of_interfaces ns pkg a b version =
    let s = version_suffix version in
    chain (behind ns (58 ∷ (pkg ++ 47 ∷ (a ++ s))) (58 ∷ (pkg ++ 47 ∷ (b ++ s))))
    (chain (after 58 (pkg ++ 47 ∷ (a ++ s)) (pkg ++ 47 ∷ (b ++ s)))
    (chain (behind pkg (47 ∷ (a ++ s)) (47 ∷ (b ++ s)))
    (chain (after 47 (a ++ s) (b ++ s)) (before s a b))))

pub of_members : (front r a b : List ℕ) → Same (front ++ r ++ 46 ∷ a) (front ++ r ++ 46 ∷ b) ↔ Same a b
of_members front r a b =
    chain (behind (front ++ r) (46 ∷ a) (46 ∷ b)) (after 46 a b)

pub interfaces : (f : File) (a b : List ℕ) → (folded (own_part (own_name f a)) ≡ folded (own_part (own_name f b))) ↔ (folded (own_name f a) ≡ folded (own_name f b))
interfaces f a b = chain (of_interfaces [] [] a b None) (flip (of_interfaces f.namespace f.pkg a b f.version))

pub methods : (r a b : List ℕ) → (folded (method [] a) ≡ folded (method [] b)) ↔ (folded (method r a) ≡ folded (method r b))
methods r a b = chain (of_members (codes "[method]") [] a b) (flip (of_members (codes "[method]") r a b))

pub statics : (r a b : List ℕ) → (folded (static [] a) ≡ folded (static [] b)) ↔ (folded (static r a) ≡ folded (static r b))
statics r a b = chain (of_members (codes "[static]") [] a b) (flip (of_members (codes "[static]") r a b))

-- ---- the file's own package

joined : (x y s t : List ℕ) → Same x y → Same s t → Same (x ++ s) (y ++ t)
joined x y s t e h =
    map-append to_ascii_lowercase x s
    ∙ ap (λ u. u ++ map to_ascii_lowercase s) e
    ∙ ap (λ u. map to_ascii_lowercase y ++ u) h
    ∙ sym (map-append to_ascii_lowercase y t)

put : (c : ℕ) (s t : List ℕ) → Same s t → Same (c ∷ s) (c ∷ t)
put c s t e = ap (λ u. to_ascii_lowercase c ∷ u) e

same : (x y : List ℕ) → is_same_name x y ≡ true → Same x y
same x y e = (bytes_eq-Decides (map to_ascii_lowercase x) (map to_ascii_lowercase y)).0 e

same_suffix : (v w : Option (List ℕ)) → is_same_version v w ≡ true → Same (version_suffix v) (version_suffix w)
same_suffix None None e = refl
same_suffix None (Some w) e = absurd cc
same_suffix (Some v) None e = absurd cc
same_suffix (Some v) (Some w) e = put 64 v w (same v w e)

pub own_package : (f : File) (ns pkg text : List ℕ) (version : Option (List ℕ)) → is_own_package f ns pkg version ≡ true → folded (interface ns pkg text version) ≡ folded (own_name f text)
own_package f ns pkg text version e =
    let p = both_true (is_same_name ns f.namespace && is_same_name pkg f.pkg) (is_same_version version f.version) e in
    let q = both_true (is_same_name ns f.namespace) (is_same_name pkg f.pkg) p.0 in
    let s = version_suffix version in
    let t = version_suffix f.version in
    let behind_pkg = put 47 (text ++ s) (text ++ t) (joined text text s t refl (same_suffix version f.version p.1)) in
    joined ns f.namespace (58 ∷ (pkg ++ 47 ∷ (text ++ s))) (58 ∷ (f.pkg ++ 47 ∷ (text ++ t))) (same ns f.namespace q.0)
    (put 58 (pkg ++ 47 ∷ (text ++ s)) (f.pkg ++ 47 ∷ (text ++ t)) (joined pkg f.pkg (47 ∷ (text ++ s)) (47 ∷ (text ++ t)) (same pkg f.pkg q.1) behind_pkg))
