-- What is told of a layout is what is told of its type.
use Rattle.std.proofs.Common.{◌≡◌, ◌∙◌, ℕ, zero, suc, ◌+◌, List, [], ◌∷◌, length, map, Option, None, Some, refl, ap, slice_get, Bool, true, false, ◌==◌, if◌then◌else◌}
use Rattle.std.specs.Prelude.{option_and_then, option_map}
use Rattle.std.proofs.lemmas.List.{length-map}
use Rattle.cm_types.specs.Types.{Ty, Fields, Cases, bool, signed, unsigned, char, string, list, fixed_list, fields, cases, flags, own, borrow, no_fields, field, no_cases, plain, carrying}
use Rattle.cm_layout.specs.Alignment.{align_to}
use Rattle.cm_layout.specs.Layouts.{nothings}
use Rattle.cm_layout.specs.Shapes.{LayoutTy, layout_at, parts_at, parts_from, payloads_from, payloads_of, shape_of_type}
use Rattle.cm_layout.specs.Sizes.{align_of, case_count, field_count, payload_offset, size_of}
use Rattle.huxarte_c_calls.specs.Nodes.{PlacedTy, field_at, node_of, part_along, part_of, payload_at}
use Rattle.huxarte_c_calls.specs.Shapes.{PlacedLayout, carried_at, case_at, layout_along, node_in, part_at, part_count, part_in, payload_count}

-- ---- lists of parts

pub part_found : (xs : List PlacedLayout) (n : ℕ) → part_at (parts_from xs) n ≡ slice_get xs n
part_found [] n = refl
part_found (x ∷ xs) zero = refl
part_found (x ∷ xs) (suc n) = part_found xs n

pub carried_found : (xs : List (Option LayoutTy)) (n : ℕ) → carried_at (payloads_from xs) n ≡ option_and_then (λ p. p) (slice_get xs n)
carried_found [] n = refl
carried_found (None ∷ xs) zero = refl
carried_found (Some l ∷ xs) zero = refl
carried_found (None ∷ xs) (suc n) = carried_found xs n
carried_found (Some l ∷ xs) (suc n) = carried_found xs n

pub nothing_carried : (k n : ℕ) → carried_at (nothings k) n ≡ None
nothing_carried zero n = refl
nothing_carried (suc k) zero = refl
nothing_carried (suc k) (suc n) = nothing_carried k n

pub parts_counted : (xs : List PlacedLayout) → part_count (parts_from xs) ≡ length xs
parts_counted [] = refl
parts_counted (x ∷ xs) = ap suc (parts_counted xs)

pub payloads_counted : (xs : List (Option LayoutTy)) → payload_count (payloads_from xs) ≡ length xs
payloads_counted [] = refl
payloads_counted (None ∷ xs) = ap suc (payloads_counted xs)
payloads_counted (Some l ∷ xs) = ap suc (payloads_counted xs)

pub nothings_counted : (k : ℕ) → payload_count (nothings k) ≡ k
nothings_counted zero = refl
nothings_counted (suc k) = ap suc (nothings_counted k)

pub parts_read : {X : Type 0} (f : X → PlacedLayout) (xs : List X) → part_count (parts_from (map f xs)) ≡ length xs
parts_read f xs = parts_counted (map f xs) ∙ length-map xs f

pub payloads_read : {X : Type 0} (f : X → Option LayoutTy) (xs : List X) → payload_count (payloads_from (map f xs)) ≡ length xs
payloads_read f xs = payloads_counted (map f xs) ∙ length-map xs f

-- ---- layouts of types

-- a type that stands somewhere, by its layout
abbrev pub laid : PlacedTy → PlacedLayout
laid p = (p.0, layout_at p.1)

field_laid : (fs : Fields) (end n : ℕ) → part_at (parts_from (parts_at fs end)) n ≡ option_map laid (field_at fs end n)
field_laid no_fields end n = refl
field_laid (field l t fs) end zero = refl
field_laid (field l t fs) end (suc n) = field_laid fs (align_to (align_of t) end + size_of t) n

payload_laid : (cs : Cases) (n : ℕ) → carried_at (payloads_from (payloads_of cs)) n ≡ option_map layout_at (payload_at cs n)
payload_laid no_cases n = refl
payload_laid (plain l cs) zero = refl
payload_laid (plain l cs) (suc n) = payload_laid cs n
payload_laid (carrying l t cs) zero = refl
payload_laid (carrying l t cs) (suc n) = payload_laid cs n

both_mapped : {A B C D : Type 0} (f : A → B) (g : B → C) (h : A → D) (k : D → C) → ((a : A) → g (f a) ≡ k (h a)) → (o : Option A) → option_map g (option_map f o) ≡ option_map k (option_map h o)
both_mapped f g h k same None = refl
both_mapped f g h k same (Some a) = ap Some (same a)

-- an element, if it is the part that is asked for
one_laid : (t : Ty) (b : Bool) → (if b then Some (0, layout_at t) else None) ≡ option_map laid (if b then Some (0, t) else None)
one_laid t true = refl
one_laid t false = refl

part_laid : (t : Ty) (n : ℕ) → part_in (shape_of_type t) n ≡ option_map laid (part_of t n)
part_laid bool n = refl
part_laid (signed w) n = refl
part_laid (unsigned w) n = refl
part_laid char n = refl
part_laid string n = refl
part_laid (list t) n = one_laid t (n == 0)
part_laid (fixed_list t c) n = one_laid t (n == 0)
part_laid (fields k fs) n = field_laid fs 0 n
part_laid (cases k cs) n =
    ap (case_at (payload_offset cs)) (payload_laid cs n)
    ∙ both_mapped layout_at (λ (l : LayoutTy). (payload_offset cs, l)) (λ (t : Ty). (payload_offset cs, t)) laid (λ a. refl) (payload_at cs n)
part_laid (flags ls) n = refl
part_laid (own r) n = refl
part_laid (borrow r) n = refl

then_laid : (path : List ℕ) → ((p : PlacedTy) → layout_along path (laid p) ≡ option_map laid (part_along path p)) → (o : Option PlacedTy)
    → option_and_then (layout_along path) (option_map laid o) ≡ option_map laid (option_and_then (part_along path) o)
then_laid path along None = refl
then_laid path along (Some p) = along p

along_laid : (path : List ℕ) (p : PlacedTy) → layout_along path (laid p) ≡ option_map laid (part_along path p)
along_laid [] p = refl
along_laid (n ∷ path) p =
    ap (option_and_then (layout_along path)) (part_laid p.1 n) ∙ then_laid path (along_laid path) (part_of p.1 n)

fields_counted : (fs : Fields) (end : ℕ) → part_count (parts_from (parts_at fs end)) ≡ field_count fs
fields_counted no_fields end = refl
fields_counted (field l t fs) end = ap suc (fields_counted fs (align_to (align_of t) end + size_of t))

cases_counted : (cs : Cases) → payload_count (payloads_from (payloads_of cs)) ≡ case_count cs
cases_counted no_cases = refl
cases_counted (plain l cs) = ap suc (cases_counted cs)
cases_counted (carrying l t cs) = ap suc (cases_counted cs)

node_laid : (offset : ℕ) (t : Ty) → node_in (offset, layout_at t) ≡ node_of (offset, t)
node_laid offset bool = refl
node_laid offset (signed w) = refl
node_laid offset (unsigned w) = refl
node_laid offset char = refl
node_laid offset string = refl
node_laid offset (list t) = refl
node_laid offset (fixed_list t c) = refl
node_laid offset (fields k fs) = simp (fields_counted fs 0)
node_laid offset (cases k cs) = simp (cases_counted cs)
node_laid offset (flags ls) = refl
node_laid offset (own r) = refl
node_laid offset (borrow r) = refl

nodes_laid : (o : Option PlacedTy) → option_map node_in (option_map laid o) ≡ option_map node_of o
nodes_laid None = refl
nodes_laid (Some p) = ap Some (node_laid p.0 p.1)

-- what a path leads to from a layout, and from its type
pub node_followed : (t : Ty) (path : List ℕ) → option_map node_in (layout_along path (0, layout_at t)) ≡ option_map node_of (part_along path (0, t))
node_followed t path = ap (option_map node_in) (along_laid path (0, t)) ∙ nodes_laid (part_along path (0, t))
