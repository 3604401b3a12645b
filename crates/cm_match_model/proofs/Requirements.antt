-- What `^` and a version are read as.
use Rattle.std.proofs.Common.{◌≡◌, ◌∙◌, ℕ, suc, true, false, List, [], ◌∷◌, length, Some, None, Ok, Err, refl, sym, ap, arith, inl, inr}
use Rattle.std.proofs.lemmas.Bool.{cases_Bool, eqb-true}
use Rattle.std.proofs.lemmas.Grind.{common_steps}
use Rattle.std.specs.Char.{is_ascii_digit}
use Rattle.std.specs.Prelude.{Result, ◌==◌}
use Rattle.std.specs.Result.{result_unwrap_or}
use Rattle.semver.specs.Parse.{◌>>=◌, Parsed, Parts, build_part, comparator_of, digits_from, dot_of, identifier_of, next_text, numeric, pre_part, req_from, req_of, strip_spaces, tail_build, tail_end, tail_pre, version_parts, wildcard_of}
use Rattle.semver.specs.declared.error.Error.{Error}
use Rattle.semver.specs.declared.error.Position.{Position}
use Rattle.semver.specs.declared.error.Position.TheVariants as place
use Rattle.semver.specs.declared.Op.TheVariants as op

ok_is : {A : Type 0} (x y : A) → ◌≡◌ {A = Result A Error} (Ok x) (Ok y) → x ≡ y
ok_is {A} x y e = ap (λ (r : Result A Error). result_unwrap_or r x) e

-- a step that led to a value had one
step : {A B : Type 0} (r : Result A Error) (f : A → Result B Error) (y : B) → (r >>= f) ≡ Ok y → (x : A) × (r ≡ Ok x) × (f x ≡ Ok y)
step (Ok x) f y h = (x, refl, h)
step (Err e) f y h = cc h

dot_is : (pos : Position) (s t : List ℕ) → dot_of pos s ≡ Ok t → s ≡ 46 ∷ t
dot_is pos [] t h = cc h
dot_is pos (b ∷ rest) t h = elim (cases_Bool (b == 46)) [
  | inl y ↦ rw (eqb-true b 46 y, ok_is rest t (rw y at h)) refl
  | inr n ↦ cc (rw n at h)
]

-- a number begins with a digit
record BeginsWithDigit (s : List ℕ) : Type 0 where
  digit : ℕ
  rest : List ℕ
  is : s ≡ digit ∷ rest
  yes : is_ascii_digit digit ≡ true

digit_first : (pos : Position) (s : List ℕ) (x : ℕ × List ℕ) → numeric pos s ≡ Ok x → BeginsWithDigit s
unfolding digits_from
digit_first pos [] x h = cc h
digit_first pos (b ∷ rest) x h = elim (cases_Bool (is_ascii_digit b)) [
  | inl y ↦ record { digit = b; rest = rest; is = refl; yes = y }
  | inr n ↦ cc (rw n at h)
]

no_spaces : (s : List ℕ) → BeginsWithDigit s → strip_spaces s ≡ s
unfolding strip_spaces
no_spaces s d =
    let other : (d.digit == 32) ≡ false = let y = d.yes in grind (arith, common_steps) in
    rw (d.is, other) refl

no_wildcard : (s : List ℕ) → BeginsWithDigit s → wildcard_of s ≡ None
no_wildcard s d =
    let a : (d.digit == 42) ≡ false = let y = d.yes in grind (arith, common_steps) in
    let b : (d.digit == 120) ≡ false = let y = d.yes in grind (arith, common_steps) in
    let e : (d.digit == 88) ≡ false = let y = d.yes in grind (arith, common_steps) in
    rw (d.is, a, b, e) refl

-- the end of a version, read as that of a comparator
record BuildRead (pos : Position) (s : List ℕ) (v : Parts) (major minor patch : ℕ) (pre : List ℕ) : Type 0 where
  at : Position
  read : build_part true pos s ≡ Ok (at, [])
  is : v ≡ (major, minor, patch, pre, v.4)

end_is : (pos : Position) (major minor patch : ℕ) (pre build s : List ℕ) (v : Parts) → tail_end pos major minor patch pre build s ≡ Ok v → (s ≡ []) × (v ≡ (major, minor, patch, pre, v.4))
end_is pos major minor patch pre build [] v h = let e = ok_is _ v h in (refl, sym e ∙ ap (λ (b : List ℕ). (major, minor, patch, pre, b)) (ap (λ (p : Parts). p.4) e))
end_is pos major minor patch pre build (b ∷ rest) v h = cc h

build_read : (pos : Position) (major minor patch : ℕ) (pre s : List ℕ) (v : Parts) → tail_build pos major minor patch pre s ≡ Ok v → BuildRead pos s v major minor patch pre
build_read pos major minor patch pre [] v h = record { at = pos; read = refl; is = (end_is pos major minor patch pre [] [] v h).1 }
build_read pos major minor patch pre (b ∷ rest) v h = elim (cases_Bool (b == 43)) [
  | inl y ↦
      let x = step (identifier_of place.Build rest) (λ x. tail_end place.Build major minor patch pre x.0 x.1) v (rw y at h) in
      let e = end_is place.Build major minor patch pre x.0.0 x.0.1 v x.2 in
      record { at = place.Build; read = rw (y, x.1, e.0) refl; is = e.1 }
  | inr n ↦ cc (rw n at h)
]

record PreRead (s : List ℕ) (v : Parts) (major minor patch : ℕ) : Type 0 where
  pre : List ℕ
  pos : Position
  rest : List ℕ
  read : pre_part true place.Patch s ≡ Ok (pre, pos, rest)
  build : BuildRead pos rest v major minor patch pre

dash_read : (major minor patch b : ℕ) (rest : List ℕ) (v : Parts) → (b == 45) ≡ true → (i : List ℕ × List ℕ) → identifier_of place.Pre rest ≡ Ok i
    → tail_build place.Pre major minor patch i.0 i.1 ≡ Ok v → PreRead (b ∷ rest) v major minor patch
dash_read major minor patch b rest v y i h t =
    record { pre = i.0; pos = place.Pre; rest = i.1; read = rw (y, h) refl; build = build_read place.Pre major minor patch i.0 i.1 v t }

pre_read : (major minor patch : ℕ) (s : List ℕ) (v : Parts) → tail_pre major minor patch s ≡ Ok v → PreRead s v major minor patch
pre_read major minor patch [] v h = record { pre = []; pos = place.Patch; rest = []; read = refl; build = build_read place.Patch major minor patch [] [] v h }
pre_read major minor patch (b ∷ rest) v h = elim (cases_Bool (b == 45)) [
  | inl y ↦
      let x = step (identifier_of place.Pre rest) (λ x. tail_build place.Pre major minor patch x.0 x.1) v (rw y at h) in
      dash_read major minor patch b rest v y x.0 x.1 x.2
  | inr n ↦ record { pre = []; pos = place.Patch; rest = b ∷ rest; read = rw n refl; build = build_read place.Patch major minor patch [] (b ∷ rest) v (rw n at h) }
]

one_comparator : (n : ℕ) (input : List ℕ) (p : Parsed) → comparator_of input ≡ Ok p → next_text p.5 p.6 ≡ Ok None
    → req_from (suc n) input ≡ Ok ((p.0, p.1, p.2, p.3, p.4) ∷ [])
unfolding req_from
one_comparator n input p h x = rw (h, x) refl

longer : (s : List ℕ) → (length (94 ∷ s) == length s) ≡ false
longer s = grind (arith, common_steps)

-- what the numbers and the end of a version are read as behind `^`
comparator_is : (text t u : List ℕ) (x y z : ℕ × List ℕ) (v : Parts) → numeric place.Major text ≡ Ok x → dot_of place.Major x.1 ≡ Ok t
    → numeric place.Minor t ≡ Ok y → dot_of place.Minor y.1 ≡ Ok u → numeric place.Patch u ≡ Ok z → (e : PreRead z.1 v x.0 y.0 z.0)
    → comparator_of (94 ∷ text) ≡ Ok (op.Caret, x.0, Some y.0, Some z.0, e.pre, e.build.at, [])
unfolding strip_spaces
comparator_is text t u x y z v hx dx hy dy hz e =
    rw (
      longer text,
      no_spaces text (digit_first place.Major text x hx),
      hx,
      dot_is place.Major x.1 t dx,
      no_wildcard t (digit_first place.Minor t y hy),
      hy,
      dot_is place.Minor y.1 u dy,
      no_wildcard u (digit_first place.Patch u z hz),
      hz,
      e.read,
      e.build.read,
    ) refl

requirement_is : (text t u : List ℕ) (x y z : ℕ × List ℕ) (v : Parts) → numeric place.Major text ≡ Ok x → dot_of place.Major x.1 ≡ Ok t
    → numeric place.Minor t ≡ Ok y → dot_of place.Minor y.1 ≡ Ok u → numeric place.Patch u ≡ Ok z → PreRead z.1 v x.0 y.0 z.0
    → req_of (94 ∷ text) ≡ Ok ((op.Caret, v.0, Some v.1, Some v.2, v.3) ∷ [])
unfolding strip_spaces
requirement_is text t u x y z v hx dx hy dy hz e =
    one_comparator 31 (94 ∷ text) (op.Caret, x.0, Some y.0, Some z.0, e.pre, e.build.at, []) (comparator_is text t u x y z v hx dx hy dy hz e) refl
    ∙ sym (ap (λ (p : Parts). Ok ((op.Caret, p.0, Some p.1, Some p.2, p.3) ∷ [])) e.build.is)

pub caret_read : (text : List ℕ) (v : Parts) → version_parts text ≡ Ok v → req_of (94 ∷ text) ≡ Ok ((op.Caret, v.0, Some v.1, Some v.2, v.3) ∷ [])
caret_read text v h = elim (cases_Bool (length text == 0)) [
  | inl y ↦ cc (rw y at h)
  | inr n ↦
      let x = step (numeric place.Major text) _ v (rw n at h) in
      let t = step (dot_of place.Major x.0.1) _ v x.2 in
      let y = step (numeric place.Minor t.0) _ v t.2 in
      let u = step (dot_of place.Minor y.0.1) _ v y.2 in
      let z = step (numeric place.Patch u.0) _ v u.2 in
      requirement_is text t.0 u.0 x.0 y.0 z.0 v x.1 t.1 y.1 u.1 z.1 (pre_read x.0.0 y.0.0 z.0.0 z.0.1 v z.2)
]
