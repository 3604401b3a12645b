-- The grammar of parts and exports of bundles, and of custom sections: which bytes spell them, and
-- what is the first fault of bytes that do not (Binary.md, whose names of the productions stand in
-- brackets). `x ← g` reads one thing, and the next line what stands behind it.
use Rattle.std.specs.Prelude.{◌≡◌, ℕ, zero, suc, ◌-◌, ◌⊎◌, List, [], ◌∷◌, ◌++◌}
use Rattle.std.specs.Prelude.{length, Bool, true, false, Result, Ok, Err, Option, ◌==◌}
use Rattle.std.specs.Prelude.{if◌then◌else◌, is_some}
use Rattle.std.specs.List.{position}
use Rattle.std.specs.Option.{unwrap_or}
use Rattle.std.specs.Str.{is_utf8}
use Rattle.cm_leb.specs.NumbersWritten.{unsigned_length}
use Rattle.cm_binary_grammar.specs.Faults.{flaw, and_then}
use Rattle.cm_binary_grammar.specs.Grammar.{Grammar, done, ◌>>=◌, fail, code, number, raw, check}
use Rattle.cm_binary_grammar.specs.Grammar.{fixed, times}
use Rattle.cm_binary_grammar.specs.Whole.{Whole, to_end}
use Rattle.cm_bundle.specs.declared.form.Sort.{Sort}
use Rattle.cm_bundle.specs.declared.form.Sort.TheVariants as sorts
use Rattle.cm_bundle.specs.declared.codes.Next.{Next}
use Rattle.cm_bundle.specs.declared.codes.Next.TheVariants as next
use Rattle.cm_bundle.specs.declared.fault.BundleReason.{BundleReason}
use Rattle.cm_bundle.specs.declared.fault.BundleReason.TheVariants as reasons
use Rattle.cm_bundle.specs.declared.spaces.Counts.{Counts}
use Rattle.cm_bundle.specs.Trees.{ExportTree, SupplyTree, PartTree, BodyTree}
use Rattle.cm_bundle.specs.Spelled.{Spaces, next_index, next_component, counted, after_part}
use Rattle.cm_bundle.specs.Spelled.{sort_code}

-- A production of the grammar.
abbrev pub Production : Type 0 → Type 1
Production A = Grammar BundleReason A

-- What g says, of a thing that passes the test with the number of bytes that spell it. One that
-- does not is a fault at its first byte.
abbrev pub measured : {R A : Type 0} → (A → ℕ → Bool) → R → Grammar R A → Grammar R A
measured test reason g = record {
  Spells = λ x bytes. g.Spells x bytes × (test x (length bytes) ≡ true);
  Faulty = λ e bytes f. g.Faulty e bytes f
      ⊎ ((x : _) × (front : List ℕ) × (rest : List ℕ) × g.Spells x front × (bytes ≡ front ++ rest)
      × (test x (length front) ≡ false) × (f ≡ flaw (length bytes) reason));
  reads = λ e bytes. and_then (g.reads e bytes) (λ x.
      if test x.0 (length bytes - length x.1) then Ok x else Err (flaw (length bytes) reason));
}

-- A number that is spelled as shortly as it can be.
unfoldable pub short : Production ℕ
short = measured (λ n size. size == unsigned_length n) reasons.BadNumber (number reasons.BadNumber)

-- This number.
unfoldable pub this_number : ℕ → Production ℕ
this_number wanted = check (λ n. n == wanted) reasons.OtherNumber short

-- A length in bytes, and as many bytes.
unfoldable pub bytes_of : Production (List ℕ)
bytes_of = do
  n ← short
  raw n

-- A length in bytes, and as many bytes of UTF-8.
unfoldable pub text : Production (List ℕ)
text = do
  n ← short
  check is_utf8 reasons.BadUtf8 (raw n)

-- A size in bytes, and a thing of that size.
abbrev pub sized : {A : Type 0} → Production A → Production A
sized g = do
  n ← short
  measured (λ x size. size == n) reasons.SizeMismatch g

-- ---- aliases

-- The sorts that are passed on (`sort`).
abbrev pub sort_of : ℕ → Result Sort BundleReason
sort_of b = if b == 0x01 then Ok sorts.Func
    else if b == 0x05 then Ok sorts.Instance else Err reasons.UnknownCode

-- The part whose instance has this index.
abbrev pub part_at : List ℕ → ℕ → Option ℕ
part_at places index = position (λ place. place == index) places

-- The instance of a part.
unfoldable pub part_instance : List ℕ → Production ℕ
part_instance places = do
  index ← check (λ i. is_some (part_at places i)) reasons.NoSuchPart short
  done (unwrap_or (part_at places index) 0)

-- An export of the instance of a part: the sort, the kind of the target, the instance, the name
-- (`alias`, `aliastarget`).
unfoldable pub alias : List ℕ → Production ExportTree
alias places = do
  sort ← code sort_of
  target ← fixed (0x00 ∷ []) reasons.UnknownCode
  part ← part_instance places
  name ← text
  done (record { part = part; sort = sort; name = name })

-- A count, and as many aliases.
unfoldable pub aliases : List ℕ → Production (List ExportTree)
aliases places = do
  n ← short
  times (alias places) n

-- ---- what is passed on

-- A name, the sort, the index (`instantiatearg`) of what was aliased, between the bytes that stand
-- around each.
unfoldable pub supply : List ℕ → List ℕ → Counts → ExportTree → Production SupplyTree
supply lead tail c x = do
  before ← fixed lead reasons.UnknownCode
  name ← text
  sort ← fixed (sort_code x.sort ∷ []) reasons.UnknownCode
  index ← this_number (next_index c x.sort)
  behind ← fixed tail reasons.UnknownCode
  done (record { name = name; export = x })

-- Each of what was aliased.
unfoldable pub supplies : List ℕ → List ℕ → Counts → List ExportTree → Production (List SupplyTree)
supplies lead tail c [] = done []
supplies lead tail c (x ∷ xs) = do
  one ← supply lead tail c x
  more ← supplies lead tail (counted c x.sort) xs
  done (one ∷ more)

-- One instance of a component: the form `instantiate`, the component, the arguments (`instance`,
-- `instanceexpr`).
unfoldable pub instance_of : ℕ → Counts → List ExportTree → Production (List SupplyTree)
instance_of component c xs = do
  form ← fixed (0x01 ∷ 0x00 ∷ []) reasons.UnknownCode
  number_of ← this_number component
  count ← this_number (length xs)
  supplies [] [] c xs

-- What is exported: each behind the byte of a plain name (`exportname'`), with no description
-- (`export`).
unfoldable pub exports_of_all : Counts → List ExportTree → Production (List SupplyTree)
exports_of_all c xs = do
  count ← this_number (length xs)
  supplies (0x00 ∷ []) (0x00 ∷ []) c xs

-- ---- parts

-- A part behind the id of its first section: its component; the aliases of what it is given; its
-- instance.
unfoldable pub part : Spaces → Production PartTree
part s = do
  file ← bytes_of
  aliased ← fixed (0x06 ∷ []) reasons.UnknownCode
  xs ← sized (aliases s.places)
  instanced ← fixed (0x05 ∷ []) reasons.UnknownCode
  arguments ← sized (instance_of (next_component s.counts s.places) s.counts xs)
  done (record { file = file; arguments = arguments })

-- The exports behind the id of their first section.
unfoldable pub exports : Spaces → Production (List SupplyTree)
exports s = do
  xs ← sized (aliases s.places)
  exported ← fixed (0x0b ∷ []) reasons.UnknownCode
  sized (exports_of_all s.counts xs)

-- Whether a part begins here, with its component, or the exports, with their aliases (`section`).
abbrev pub next_of : ℕ → Result Next BundleReason
next_of b = if b == 0x04 then Ok next.Part
    else if b == 0x06 then Ok next.Exports else Err reasons.UnknownCode

-- What stands behind the id of a section; more parts may follow a part.
abbrev pub behind : Spaces → (Spaces → Production BodyTree) → Next → Production BodyTree
behind s more next.Exports = do
  xs ← exports s
  done (record { parts = []; exports = xs })
behind s more next.Part = do
  p ← part s
  b ← more (after_part s p)
  done (record { parts = p ∷ b.parts; exports = b.exports })

-- Parts and the exports, which begin in fewer sections than so many.
unfoldable pub body : ℕ → Spaces → Production BodyTree
body zero s = fail reasons.TooManyParts
body (suc room) s = code next_of >>= behind s (body room)

-- ---- custom sections

-- A custom section, whatever its contents are (`section_0`).
unfoldable pub custom : Production (List ℕ)
custom = do
  id ← fixed (0x00 ∷ []) reasons.Surplus
  bytes_of

-- Custom sections to the end.
unfoldable pub customs : Whole BundleReason (List (List ℕ))
customs = to_end (λ (s : Unit {0}). custom) (λ s x. s) tt
