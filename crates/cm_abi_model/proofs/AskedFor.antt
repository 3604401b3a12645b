-- Each part of what a call passes is asked for; where that is spilled, its tuple first.
use Rattle.std.proofs.Common.{◌≡◌, ℕ, ◌*◌, ◌<◌, ◌↔◌, Bool, true, false, List, [], ◌∷◌, ◌++◌, length, Some, refl, sym, ap, subst, ◌∙◌, arith}
use Rattle.std.specs.Prelude.{nat_lt, if◌then◌else◌, slice_get}
use Rattle.cm_types.specs.Types.{Fields}
use Rattle.cm_types.specs.Values.{Val}
use Rattle.cm_layout.specs.Sizes.{align_of, size_of}
use Rattle.cm_abi_model.specs.declared.encoding.StringEncoding.{StringEncoding}
use Rattle.cm_abi_model.specs.declared.request.Request.{Request}
use Rattle.cm_abi_model.specs.Parts.{Part, text_part, element_part, parts_in}
use Rattle.cm_abi_model.specs.Requests.{call_parts, chain, read_charset, first_tag, growths, is_spilled, part_align, part_requests, part_sizes, requests, shrunk, stored_charset, tags_behind, text_bytes, text_sizes, text_units, tuple_of}
use Rattle.cm_abi_model.specs.Texts.{Charset, utf8, utf16, latin1}
use Rattle.cm_abi_model.specs.Views.{Way}

-- a list begins with something
record Begins (xs : List ℕ) : Type 0 where
  pub size : ℕ
  pub rest : List ℕ
  pub is : xs ≡ size ∷ rest

chosen : (b : Bool) (xs ys : List ℕ) → Begins xs → Begins ys → Begins (if b then xs else ys)
chosen true xs ys x y = x
chosen false xs ys x y = y

one : (a : ℕ) (rest : List ℕ) → Begins (a ∷ rest)
one a rest = record { size = a; rest = rest; is = refl }

some_shrunk : (size exact : ℕ) → Begins (shrunk size exact)
some_shrunk size exact = chosen (nat_lt exact size) (size ∷ exact ∷ []) (size ∷ []) (one size (exact ∷ [])) (one size [])

some_text : (s t : Charset) (units exact : ℕ) → Begins (text_sizes s t units exact)
some_text utf8 utf8 units exact = one exact []
some_text utf8 utf16 units exact = some_shrunk (2 * units) exact
some_text utf8 latin1 units exact = one exact []
some_text utf16 utf8 units exact = chosen (nat_lt units exact) (units ∷ shrunk (3 * units) exact) (units ∷ []) (one units (shrunk (3 * units) exact)) (one units [])
some_text utf16 utf16 units exact = one exact []
some_text utf16 latin1 units exact = one exact []
some_text latin1 utf8 units exact = chosen (nat_lt units exact) (units ∷ shrunk (2 * units) exact) (units ∷ []) (one units (shrunk (2 * units) exact)) (one units [])
some_text latin1 utf16 units exact = one exact []
some_text latin1 latin1 units exact = one exact []

some_size : (s t : Charset) (p : Part) → Begins (part_sizes s t p)
some_size s t (text_part scalars) = some_text s t (text_units s scalars) _
some_size s t (element_part count size align) = one (count * size) []

not_nothing : (align : ℕ) (xs : List ℕ) (rest : List Request) → Begins xs → chain align xs ++ rest ≡ [] → ⊥
not_nothing align xs rest b e = not_first align b.size b.rest rest (subst (λ ys. chain align ys ++ rest ≡ []) b.is e)
  where
    not_first : (align size : ℕ) (sizes : List ℕ) (rest : List Request) → chain align (size ∷ sizes) ++ rest ≡ [] → ⊥
    not_first align size sizes rest e = cc

none_asked : (source target : StringEncoding) (tags : List Bool) (parts : List Part) → part_requests source target tags parts ≡ [] → parts ≡ []
none_asked source target tags [] e = refl
none_asked source target tags (p ∷ ps) e =
    absurd (not_nothing (part_align target p) (part_sizes (read_charset source (first_tag tags)) (stored_charset target) p) (part_requests source target (tags_behind p tags) ps) (some_size (read_charset source (first_tag tags)) (stored_charset target) p) e)

pub asked : (way : Way) (types : Fields) (v : Val) (source target : StringEncoding) (tags : List Bool) → requests way types v source target tags ≡ [] ↔ call_parts way types v ≡ []
asked way types v source target tags = (
  none_asked source target tags (call_parts way types v),
  λ none. ap (part_requests source target tags) none,
)

tuple_first : (b : Bool) (types : Fields) (v : Val) (source target : StringEncoding) (tags : List Bool) → b ≡ true
    → slice_get (part_requests source target tags (if b then element_part 1 (size_of (tuple_of types)) (align_of (tuple_of types)) ∷ parts_in (tuple_of types) v else parts_in (tuple_of types) v)) 0
    ≡ Some (record { chained = false; old_size = 0; align = align_of (tuple_of types); size = size_of (tuple_of types) })
tuple_first false types v source target tags is = absurd (cc (is))
tuple_first true types v source target tags is =
    let whole : 1 * size_of (tuple_of types) ≡ size_of (tuple_of types) = omega arith in
    ap (λ n. Some (record { chained = false; old_size = 0; align = align_of (tuple_of types); size = n })) whole

pub tuple_asked : (way : Way) (types : Fields) (v : Val) (source target : StringEncoding) (tags : List Bool) → is_spilled way types ≡ true
    → slice_get (requests way types v source target tags) 0 ≡ Some (record { chained = false; old_size = 0; align = align_of (tuple_of types); size = size_of (tuple_of types) })
tuple_asked way types v source target tags is = tuple_first (is_spilled way types) types v source target tags is

-- some size is asked for each part
pub some_asked : (s t : Charset) (p : Part) → 0 < length (part_sizes s t p)
some_asked s t p = let b = some_size s t p in subst (λ xs. 0 < length xs) (sym b.is) (omega arith)
