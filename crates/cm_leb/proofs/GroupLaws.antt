-- Reading digits gives what stands in front, what stands in front is read, and a fault comes exactly where it is.
use Rattle.std.proofs.Common.{◌≡◌, ℕ, zero, suc, ◌+◌, ◌-◌, ◌*◌, ◌%◌, ◌<◌, ◌≤◌, true, false, ltb, List, [], ◌∷◌, ◌++◌, length, take, Result, Ok, Err, refl, sym, ap, subst, ◌∙◌, arith, inl, inr, ◌⊎◌}
use Rattle.std.proofs.lemmas.Bool.{ltb-true, ltb-false, lt-ltb, le-ltb, cases_Bool}
use Rattle.cm_leb.specs.declared.fault.LebFault.{LebFault}
use Rattle.cm_leb.specs.declared.fault.LebFault.TheVariants.{Truncated, TooLong, BadLastBits}
use Rattle.cm_leb.specs.Numbers.{IsGroup, digits_value, AllGoOn}
use Rattle.cm_leb.specs.NumbersRead.{◌>>=◌, group_at}
use Rattle.cm_lemmas.proofs.Lists.{IsBytes, IsBytes-tail}

-- A group of at most so many bytes stands in front.
pub record Takes (room : ℕ) (bytes : List ℕ) (v : ℕ) (rest : List ℕ) : Type 0 where
  pub front : List ℕ
  pub parts : bytes ≡ front ++ rest
  pub group : IsGroup front
  pub short : length front ≤ room
  pub digits : v ≡ digits_value front

abbrev pub ok_digits : ℕ → List ℕ → Result (ℕ × List ℕ) LebFault
ok_digits v rest = Ok (v, rest)

pub ok_is : {A : Type 0} (x y : A) → (let r : A → Result A LebFault = λ z. Ok z in r x ≡ r y) → x ≡ y
ok_is x y e = cc

pub bind_ok : {A B : Type 0} (r : Result A LebFault) (f : A → Result B LebFault) (y : B) → (r >>= f) ≡ Ok y → (x : A) × (r ≡ Ok x) × (f x ≡ Ok y)
bind_ok (Ok x) f y e = (x, refl, e)
bind_ok (Err d) f y e = absurd cc

pub bind_err : {A B : Type 0} (r : Result A LebFault) (f : A → Result B LebFault) (d : LebFault) → (r >>= f) ≡ Err d → (r ≡ Err d) ⊎ ((x : A) × (r ≡ Ok x) × (f x ≡ Err d))
bind_err (Ok x) f d e = inr (x, refl, e)
bind_err (Err c) f d e = inl cc

IsGroup-cons : (b : ℕ) (bytes : List ℕ) → 128 ≤ b → b < 256 → IsGroup bytes → IsGroup (b ∷ bytes)
IsGroup-cons b [] h l g = absurd g
IsGroup-cons b (c ∷ bytes) h l g = (h, l, g)

digit_high : (b high : ℕ) → 128 ≤ b → b < 256 → (b - 128) + 128 * high ≡ b % 128 + 128 * high
digit_high b high h l = omega arith

goes_on : (b : ℕ) (room : ℕ) (bytes : List ℕ) → 128 ≤ b → group_at (suc room) (b ∷ bytes) ≡ (group_at room bytes >>= λ x. Ok ((b - 128) + 128 * x.0, x.1))
unfolding group_at
goes_on b room bytes h = let e : ltb b 128 ≡ false = le-ltb b 128 h in rw e refl

ends_here : (b : ℕ) (room : ℕ) (bytes : List ℕ) → b < 128 → group_at (suc room) (b ∷ bytes) ≡ Ok (b, bytes)
unfolding group_at
ends_here b room bytes h = let e : ltb b 128 ≡ true = lt-ltb b 128 h in rw e refl

takes_one : (room b : ℕ) (bytes : List ℕ) (v : ℕ) (rest : List ℕ) → b < 128 → ok_digits b bytes ≡ ok_digits v rest → Takes (suc room) (b ∷ bytes) v rest
takes_one room b bytes v rest h e =
    let p = ok_is (b, bytes) (v, rest) e in
    subst (λ (x : ℕ × List ℕ). Takes (suc room) (b ∷ bytes) x.0 x.1) p (record { front = b ∷ []; parts = refl; group = h; short = omega arith; digits = omega arith })

takes_more : (room b : ℕ) (bytes : List ℕ) (v : ℕ) (rest : List ℕ) (high : ℕ) → 128 ≤ b → b < 256 → Takes room bytes high rest → (b - 128) + 128 * high ≡ v → Takes (suc room) (b ∷ bytes) v rest
takes_more room b bytes v rest high h l t e = record {
  front = b ∷ t.front;
  parts = ap (λ (xs : List ℕ). b ∷ xs) t.parts;
  group = IsGroup-cons b t.front h l t.group;
  short = omega (arith, t.short);
  digits = sym e ∙ digit_high b high h l ∙ ap (λ (x : ℕ). b % 128 + 128 * x) t.digits;
}

pub group_takes : (room : ℕ) (bytes : List ℕ) (v : ℕ) (rest : List ℕ) → IsBytes bytes → group_at room bytes ≡ Ok (v, rest) → Takes room bytes v rest
group_takes zero bytes v rest fits e = let f : group_at zero bytes ≡ Err TooLong = unfold group_at in refl in absurd cc
group_takes (suc room) [] v rest fits e = let f : group_at (suc room) [] ≡ Err Truncated = unfold group_at in refl in absurd cc
group_takes (suc room) (b ∷ bytes) v rest fits e =
    elim (cases_Bool (ltb b 128)) [
      | inl t ↦ takes_one room b bytes v rest (ltb-true b 128 t) (sym (ends_here b room bytes (ltb-true b 128 t)) ∙ e)
      | inr f ↦
          let h : 128 ≤ b = ltb-false b 128 f in
          let q = bind_ok (group_at room bytes) (λ x. Ok ((b - 128) + 128 * x.0, x.1)) (v, rest) (sym (goes_on b room bytes h) ∙ e) in
          let p = ok_is ((b - 128) + 128 * q.0.0, q.0.1) (v, rest) q.2 in
          let l : b < 256 = fits 0 in
          let t = group_takes room bytes q.0.0 q.0.1 (IsBytes-tail b bytes fits) q.1 in
          subst (λ (r : List ℕ). Takes (suc room) (b ∷ bytes) v r) (ap (λ (x : ℕ × List ℕ). x.1) p) (takes_more room b bytes v q.0.1 q.0.0 h l t (ap (λ (x : ℕ × List ℕ). x.0) p))
    ]

pub group_again : (room : ℕ) (front rest : List ℕ) → IsGroup front → length front ≤ room → group_at room (front ++ rest) ≡ Ok (digits_value front, rest)
group_again room [] rest g h = absurd g
group_again zero (b ∷ []) rest g h = absurd (omega arith)
group_again (suc room) (b ∷ []) rest g h = ends_here b room rest g ∙ ap (λ (n : ℕ). ok_digits n rest) (omega arith)
group_again zero (b ∷ c ∷ bytes) rest g h = absurd (omega arith)
group_again (suc room) (b ∷ c ∷ bytes) rest g h =
    goes_on b room ((c ∷ bytes) ++ rest) g.0 ∙ rw (group_again room (c ∷ bytes) rest g.2 (omega arith)) (ap (λ (n : ℕ). ok_digits n rest) (digit_high b (digits_value (c ∷ bytes)) g.0 g.1))

-- What the digits of bytes without a group in front are refused for.
abbrev pub IsDigitsFault : LebFault → ℕ → List ℕ → Type 0
IsDigitsFault Truncated room bytes = (length bytes < room) × AllGoOn bytes
IsDigitsFault TooLong room bytes = (room ≤ length bytes) × AllGoOn (take room bytes)
IsDigitsFault BadLastBits room bytes = ⊥

fault_more : (f : LebFault) (room b : ℕ) (bytes : List ℕ) → 128 ≤ b → IsDigitsFault f room bytes → IsDigitsFault f (suc room) (b ∷ bytes)
fault_more Truncated room b bytes h p = (omega (arith, p.0), (h, p.1))
fault_more TooLong room b bytes h p = (omega (arith, p.0), (h, p.1))
fault_more BadLastBits room b bytes h p = p

pub group_faulty : (room : ℕ) (bytes : List ℕ) (f : LebFault) → group_at room bytes ≡ Err f → IsDigitsFault f room bytes
group_faulty zero bytes f e =
    let p : group_at zero bytes ≡ Err TooLong = unfold group_at in refl in
    let q : TooLong ≡ f = cc in subst (λ (x : LebFault). IsDigitsFault x zero bytes) q (omega arith, tt)
group_faulty (suc room) [] f e =
    let p : group_at (suc room) [] ≡ Err Truncated = unfold group_at in refl in
    let q : Truncated ≡ f = cc in subst (λ (x : LebFault). IsDigitsFault x (suc room) []) q (omega arith, tt)
group_faulty (suc room) (b ∷ bytes) f e =
    elim (cases_Bool (ltb b 128)) [
      | inl t ↦ let p = ends_here b room bytes (ltb-true b 128 t) in absurd cc
      | inr n ↦
          let h : 128 ≤ b = ltb-false b 128 n in
          elim (bind_err (group_at room bytes) (λ x. Ok ((b - 128) + 128 * x.0, x.1)) f (sym (goes_on b room bytes h) ∙ e)) [
            | inl q ↦ fault_more f room b bytes h (group_faulty room bytes f q)
            | inr q ↦ let p = q.2 in absurd cc
          ]
    ]

pub group_truncated : (room : ℕ) (bytes : List ℕ) → length bytes < room → AllGoOn bytes → group_at room bytes ≡ Err Truncated
group_truncated zero bytes h g = absurd (omega arith)
group_truncated (suc room) [] h g = unfold group_at in refl
group_truncated (suc room) (b ∷ bytes) h g = goes_on b room bytes g.0 ∙ rw (group_truncated room bytes (omega arith) g.1) refl

pub group_too_long : (room : ℕ) (bytes : List ℕ) → room ≤ length bytes → AllGoOn (take room bytes) → group_at room bytes ≡ Err TooLong
group_too_long zero bytes h g = unfold group_at in refl
group_too_long (suc room) [] h g = absurd (omega arith)
group_too_long (suc room) (b ∷ bytes) h g = goes_on b room bytes g.0 ∙ rw (group_too_long room bytes (omega arith) g.1) refl
