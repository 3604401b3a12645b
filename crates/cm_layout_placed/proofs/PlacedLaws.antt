-- What stands at the places of a type's parts.
use Rattle.std.proofs.Common.{◌≡◌, ◌<◌, ◌≤◌, ◌∙◌, ℕ, zero, suc, List, [], ◌∷◌, map, length, slice_index_or, refl, arith, ap}
use Rattle.std.proofs.Common.{drop, take, if◌then◌else◌, Option, Some, None, is_some}
use Rattle.std.specs.List.{AllByRecursion}
use Rattle.std.proofs.lemmas.List.{get_or-take, length-take-le, length-map}
use Rattle.std.proofs.Math.ListN.{get_or-map}
use Rattle.std.proofs.Math.Seq.{drop-nil}
use Rattle.cm_types.specs.TypeTrees.{case_before}
use Rattle.cm_types.specs.Types.{Cases, bool}
use Rattle.cm_types.specs.Types.{Ty, Fields, field, no_fields}
use Rattle.cm_layout.specs.Shapes.{LayoutTy, layout_at}
use Rattle.cm_types_arena.specs.Arena.{field_types, payload_types}
use Rattle.cm_types_arena.specs.TypeDefs.{type_at}
use Rattle.cm_layout_placed.specs.Placed.{AreOf, IsNth, at_place, result_cases}

pub as_many : (ls : List LayoutTy) (ps : List ℕ) (ts : List Ty) → AreOf ls ps ts → length ps ≡ length ts
as_many ls [] [] a = refl
as_many ls [] (t ∷ ts) a = absurd a
as_many ls (p ∷ ps) [] a = absurd a
as_many ls (p ∷ ps) (t ∷ ts) a = ap suc (as_many ls ps ts a.2)

pub nth_there : (ls : List LayoutTy) (ps : List ℕ) (ts : List Ty) (n : ℕ) → AreOf ls ps ts → n < length ts → slice_index_or ps n 0 < length ls
nth_there ls [] [] n a lt = absurd (omega (arith, lt))
nth_there ls [] (t ∷ ts) n a lt = absurd a
nth_there ls (p ∷ ps) [] n a lt = absurd a
nth_there ls (p ∷ ps) (t ∷ ts) zero a lt = a.0
nth_there ls (p ∷ ps) (t ∷ ts) (suc n) a lt = nth_there ls ps ts n a.2 (omega (arith, lt))

pub nth_layout : (ls : List LayoutTy) (ps : List ℕ) (ts : List Ty) (n : ℕ) → AreOf ls ps ts → n < length ts → at_place ls (slice_index_or ps n 0) ≡ layout_at (type_at ts n)
nth_layout ls [] [] n a lt = absurd (omega (arith, lt))
nth_layout ls [] (t ∷ ts) n a lt = absurd a
nth_layout ls (p ∷ ps) [] n a lt = absurd a
nth_layout ls (p ∷ ps) (t ∷ ts) zero a lt = a.1
nth_layout ls (p ∷ ps) (t ∷ ts) (suc n) a lt = nth_layout ls ps ts n a.2 (omega (arith, lt))

-- the fields behind the first ones
abbrev pub behind : ℕ → Fields → Fields
behind zero fs = fs
behind (suc n) no_fields = no_fields
behind (suc n) (field l t fs) = behind n fs

-- the fields from the n-th on: it and those behind it
pub record IsNext (n : ℕ) (all : Fields) : Type 0 where
  pub label : List ℕ
  pub ty : Ty
  pub split : behind n all ≡ field label ty (behind (suc n) all)
  pub there : ty ≡ type_at (field_types all) n

pub next_field : (n : ℕ) (all : Fields) → n < length (field_types all) → IsNext n all
next_field n no_fields lt = absurd (omega (arith, lt))
next_field zero (field l t fs) lt = record { label = l; ty = t; split = refl; there = refl }
next_field (suc n) (field l t fs) lt =
    let h = next_field n fs (omega (arith, lt)) in
    record { label = h.label; ty = h.ty; split = h.split; there = h.there }

pub none_behind : (n : ℕ) (all : Fields) → length (field_types all) ≤ n → behind n all ≡ no_fields
none_behind zero no_fields le = refl
none_behind zero (field l t fs) le = absurd (omega (arith, le))
none_behind (suc n) no_fields le = refl
none_behind (suc n) (field l t fs) le = none_behind n fs (omega (arith, le))

-- ---- what cases carry

front_of : (ts : List Ty) (n : ℕ) (t : Ty) (us : List Ty) → drop n ts ≡ t ∷ us → (n < length ts) × (type_at ts n ≡ t)
front_of [] n t us e = absurd (omega (arith, ap length (rw (drop-nil n) at e)))
front_of (x ∷ xs) zero t us e = (omega arith, ap (λ l. type_at l 0) e)
front_of (x ∷ xs) (suc n) t us e = let h = front_of xs n t us e in (omega (arith, h.0), h.1)

rest_of : (ts : List Ty) (n : ℕ) (t : Ty) (us : List Ty) → drop n ts ≡ t ∷ us → drop (suc n) ts ≡ us
rest_of [] n t us e = absurd (omega (arith, ap length (rw (drop-nil n) at e)))
rest_of (x ∷ xs) zero t us e = ap (drop 1) e
rest_of (x ∷ xs) (suc n) t us e = rest_of xs n t us e

pub nth_payload : (ts : List Ty) (n : ℕ) (l : List ℕ) (o : Option Ty) (cs : Cases) → drop n ts ≡ payload_types (case_before l o cs) → IsNth ts n o
nth_payload ts n l None cs e = tt
nth_payload ts n l (Some t) cs e = front_of ts n t (payload_types cs) e

pub behind_payload : (ts : List Ty) (n : ℕ) (l : List ℕ) (o : Option Ty) (cs : Cases) → drop n ts ≡ payload_types (case_before l o cs)
    → drop (if is_some o then suc n else n) ts ≡ payload_types cs
behind_payload ts n l None cs e = e
behind_payload ts n l (Some t) cs e = rest_of ts n t (payload_types cs) e

pub first_payload : (ok error : Option Ty) → IsNth (payload_types (result_cases ok error)) 0 ok
first_payload None error = tt
first_payload (Some t) error = (omega arith, refl)

pub second_payload : (ok error : Option Ty) → IsNth (payload_types (result_cases ok error)) (if is_some ok then 1 else 0) error
second_payload None None = tt
second_payload None (Some u) = (omega arith, refl)
second_payload (Some t) None = tt
second_payload (Some t) (Some u) = (omega arith, refl)

-- ---- places among those that are laid out

-- layouts hold those of the types at the first places
abbrev pub HoldFirst : List LayoutTy → List Ty → ℕ → Type 0
HoldFirst ls types n = (k : ℕ) → k < n → (k < length ls) × (at_place ls k ≡ layout_at (type_at types k))

pub first_laid : (types : List Ty) (n : ℕ) → n ≤ length types → HoldFirst (take n (map layout_at types)) types n
first_laid types n le k lt = (
  rw (length-take-le n (map layout_at types) (rw (length-map types layout_at) le)) lt,
  get_or-take n (map layout_at types) k (layout_at bool) lt ∙ get_or-map layout_at types k bool,
)

pub all_laid : (types : List Ty) → HoldFirst (map layout_at types) types (length types)
all_laid types k lt = (rw (length-map types layout_at) lt, get_or-map layout_at types k bool)

pub are_of : (ls : List LayoutTy) (types : List Ty) (n : ℕ) (ps : List ℕ) → HoldFirst ls types n → AllByRecursion (λ p. p < n) ps
    → AreOf ls ps (map (type_at types) ps)
are_of ls types n [] h a = tt
are_of ls types n (p ∷ ps) h a = ((h p a.0).0, (h p a.0).1, are_of ls types n ps h a.1)
