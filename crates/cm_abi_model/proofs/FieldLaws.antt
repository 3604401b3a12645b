-- Fields at their offsets, elements in a row, and what cases carry.
use Rattle.std.proofs.Common.{◌≡◌, ℕ, zero, suc, ◌+◌, ◌*◌, ◌^◌, ◌<◌, ◌≤◌, List, length, Some, None, refl, sym, ap, subst, ◌∙◌, arith}
use Rattle.cm_types.specs.Types.{Ty, Fields, FieldsKind, Cases, CasesKind, bits_8, bits_16, bits_32, unsigned, list, fixed_list, fields, cases, option_type, record_type, no_fields, field, no_cases, plain, carrying, own, borrow}
use Rattle.cm_types.specs.Values.{Val, Vals, HandleValue, no_vals, val, number, elements, parts, bare, bearing, handle, count_of, IsPlainCase}
use Rattle.cm_types.specs.declared.resource.ResourceId.{ResourceId}
use Rattle.cm_handles.specs.Handles.{Handles}
use Rattle.cm_handles.specs.declared.handle.Handle.{Handle}
use Rattle.cm_handles.specs.declared.handle.HandleKind.TheVariants.{Owned}
use Rattle.cm_layout.specs.Alignment.{IsLeastMultiple, align_to}
use Rattle.cm_layout.specs.Sizes.{IsLeastBytes, align_of, align_of_payloads, case_count, discriminant_size, field_count, field_offset_from, field_type, payload_offset, size_of}
use Rattle.cm_abi_model.specs.Numbers.{number_at}
use Rattle.cm_abi_model.specs.Shows.{Shows, ShowEach, ShowFields, ShowsPayload, ShowsElements, ShowsHandle}
use Rattle.cm_abi_model.specs.Views.{View}
use Rattle.cm_abi_model.specs.Bytes.{AreBytes, StandsAt}
use Rattle.cm_abi_model.specs.PartPlaces.{AreElements, AreFieldsAt, AreInRow, AreOffsets, IsCase, IsGreatestAlignment, IsHandle, IsListAt, value_at}
use Rattle.cm_abi_model.proofs.NumberLaws.{number_stands, stands_number}
use Rattle.cm_abi_model.proofs.PlaceLaws.{least_multiple, offset_is, one_bytes, one_greatest, one_multiple}
use Rattle.cm_layout.proofs.SizesLaws.{payloads_pos}

stands_here : (m : List ℕ) (p bytes n x : ℕ) → AreBytes m → n ≡ x → x ≡ number_at bytes m p → StandsAt m p bytes n
stands_here m p bytes n x h e f = subst (λ y. StandsAt m p bytes y) (sym (e ∙ f)) (number_stands bytes m p h)

-- ---- fields

fields_shown : (w : View) (fs : Fields) (p end : ℕ) (vs : Vals) → ShowFields w fs p end vs
    → (count_of vs ≡ field_count fs) × ((i : ℕ) → i < field_count fs → Shows w (field_type fs i) (p + field_offset_from fs end i) (value_at vs i))
fields_shown w no_fields p end no_vals h = (refl, λ i lt. absurd (omega (arith, lt)))
fields_shown w no_fields p end (val v vs) h = absurd h
fields_shown w (field l t fs) p end no_vals h = absurd h
fields_shown w (field l t fs) p end (val v vs) h =
    let rest = fields_shown w fs p (align_to (align_of t) end + size_of t) vs h.1 in
    (omega (arith, rest.0), each rest.1)
  where
    each : ((i : ℕ) → i < field_count fs → Shows w (field_type fs i) (p + field_offset_from fs (align_to (align_of t) end + size_of t) i) (value_at vs i))
        → (i : ℕ) → i < suc (field_count fs) → Shows w (field_type (field l t fs) i) (p + field_offset_from (field l t fs) end i) (value_at (val v vs) i)
    each rest zero lt = h.0
    each rest (suc i) lt = rest i (omega (arith, lt))

show_fields : (w : View) (fs : Fields) (p end : ℕ) (vs : Vals) → count_of vs ≡ field_count fs
    → ((i : ℕ) → i < field_count fs → Shows w (field_type fs i) (p + field_offset_from fs end i) (value_at vs i)) → ShowFields w fs p end vs
show_fields w no_fields p end no_vals n h = tt {0}
show_fields w no_fields p end (val v vs) n h = absurd (omega (arith, n))
show_fields w (field l t fs) p end no_vals n h = absurd (omega (arith, n))
show_fields w (field l t fs) p end (val v vs) n h =
    (h 0 (omega arith), show_fields w fs p (align_to (align_of t) end + size_of t) vs (omega (arith, n)) (λ i lt. h (suc i) (omega (arith, lt))))

pub fields_read : (w : View) (k : FieldsKind) (fs : Fields) (offset : ℕ → ℕ) (p : ℕ) (vs : Vals) → AreOffsets fs offset → Shows w (fields k fs) p (parts vs) → AreFieldsAt w fs offset p vs
fields_read w k fs offset p vs o h =
    let all = fields_shown w fs p 0 vs h in
    record { count = all.0; each = λ i lt. subst (λ n. Shows w (field_type fs i) (p + n) (value_at vs i)) (sym (offset_is fs offset o i lt)) (all.1 i lt) }

pub fields_only : (w : View) (k : FieldsKind) (fs : Fields) (offset : ℕ → ℕ) (p : ℕ) (vs : Vals) → AreOffsets fs offset → AreFieldsAt w fs offset p vs → Shows w (fields k fs) p (parts vs)
fields_only w k fs offset p vs o h =
    show_fields w fs p 0 vs h.count (λ i lt. subst (λ n. Shows w (field_type fs i) (p + n) (value_at vs i)) (offset_is fs offset o i lt) (h.each i lt))

pub padded : (w : View) (l m o : List ℕ) (x y z p : ℕ) → AreBytes w.memory
    → Shows w (fields record_type (field l (unsigned bits_8) (field m (unsigned bits_32) (field o (unsigned bits_16) no_fields)))) p (parts (val (number x) (val (number y) (val (number z) no_vals))))
    → StandsAt w.memory p 1 x × StandsAt w.memory (p + 4) 4 y × StandsAt w.memory (p + 8) 2 z
padded w l m o x y z p bytes h = (
  subst (λ q. StandsAt w.memory q 1 x) {x = p + 0} {y = p} (omega arith) (stands_here w.memory (p + 0) 1 x x bytes refl h.0),
  stands_here w.memory (p + 4) 4 y y bytes refl h.1.0,
  stands_here w.memory (p + 8) 2 z z bytes refl h.1.1.0,
)

-- ---- rows

pub row_shown : (S : ℕ → Val → Type 0) (size p : ℕ) (vs : Vals) → ShowEach S size p vs → (i : ℕ) → i < count_of vs → S (p + i * size) (value_at vs i)
row_shown S size p no_vals h i lt = absurd (omega (arith, lt))
row_shown S size p (val v vs) h zero lt = subst (λ q. S q v) {x = p} {y = p + 0 * size} (omega arith) h.0
row_shown S size p (val v vs) h (suc i) lt =
    let next : (p + size) + i * size ≡ p + suc i * size = omega arith in
    subst (λ q. S q (value_at vs i)) next (row_shown S size (p + size) vs h.1 i (omega (arith, lt)))

pub show_row : (S : ℕ → Val → Type 0) (size p : ℕ) (vs : Vals) → ((i : ℕ) → i < count_of vs → S (p + i * size) (value_at vs i)) → ShowEach S size p vs
show_row S size p no_vals h = tt {0}
show_row S size p (val v vs) h =
    let first : p + 0 * size ≡ p = omega arith in (
      subst (λ q. S q v) first (h 0 (omega arith)),
      show_row S size (p + size) vs (λ i lt. let next : p + suc i * size ≡ (p + size) + i * size = omega arith in subst (λ q. S q (value_at vs i)) next (h (suc i) (omega (arith, lt)))),
    )

pub elements_read : (w : View) (t : Ty) (at n : ℕ) (vs : Vals) → ShowsElements (Shows w t) w.memory (align_of t) (size_of t) at n vs → AreElements w t at vs
elements_read w t at n vs h =
    record {
      aligned = h.aligned;
      inside = subst (λ c. at + c * size_of t ≤ length w.memory) (sym h.count) h.inside;
      row = record { each = row_shown (Shows w t) (size_of t) at vs h.each };
    }

pub elements_only : (w : View) (t : Ty) (at n : ℕ) (vs : Vals) → n ≡ count_of vs → AreElements w t at vs → ShowsElements (Shows w t) w.memory (align_of t) (size_of t) at n vs
elements_only w t at n vs same h =
    record {
      aligned = h.aligned;
      inside = subst (λ c. at + c * size_of t ≤ length w.memory) (sym same) h.inside;
      count = sym same;
      each = show_row (Shows w t) (size_of t) at vs h.row.each;
    }

pub list_read : (w : View) (t : Ty) (p : ℕ) (vs : Vals) → AreBytes w.memory → Shows w (list t) p (elements vs) → IsListAt w t p vs
list_read w t p vs bytes h =
    record {
      pointer = number_at 4 w.memory p;
      pointer_first = number_stands 4 w.memory p bytes;
      length_behind = stands_here w.memory (p + 4) 4 (count_of vs) (number_at 4 w.memory (p + 4)) bytes h.count refl;
      elements = elements_read w t (number_at 4 w.memory p) (number_at 4 w.memory (p + 4)) vs h;
    }

pub list_only : (w : View) (t : Ty) (p : ℕ) (vs : Vals) → IsListAt w t p vs → Shows w (list t) p (elements vs)
list_only w t p vs h =
    let at = stands_number 4 w.memory p h.pointer h.pointer_first in
    let n = stands_number 4 w.memory (p + 4) (count_of vs) h.length_behind in
    elements_only w t (number_at 4 w.memory p) (number_at 4 w.memory (p + 4)) vs (sym n) (subst (λ q. AreElements w t q vs) at h.elements)

pub fixed_read : (w : View) (t : Ty) (n p : ℕ) (vs : Vals) → Shows w (fixed_list t n) p (parts vs) → (count_of vs ≡ n) × AreInRow w t p vs
fixed_read w t n p vs h = (h.0, record { each = row_shown (Shows w t) (size_of t) p vs h.1 })

pub fixed_only : (w : View) (t : Ty) (n p : ℕ) (vs : Vals) → count_of vs ≡ n → AreInRow w t p vs → Shows w (fixed_list t n) p (parts vs)
fixed_only w t n p vs same h = (same, show_row (Shows w t) (size_of t) p vs h.each)

-- ---- cases

pub plain_read : (cs : Cases) (i : ℕ) → IsPlainCase cs i → IsCase cs i None
plain_read no_cases i h = absurd h
plain_read (plain l cs) zero h = refl
plain_read (plain l cs) (suc i) h = plain_read cs i h
plain_read (carrying l t cs) zero h = absurd h
plain_read (carrying l t cs) (suc i) h = plain_read cs i h

pub plain_only : (cs : Cases) (i : ℕ) → IsCase cs i None → IsPlainCase cs i
plain_only no_cases i h = absurd h
plain_only (plain l cs) zero h = tt {0}
plain_only (plain l cs) (suc i) h = plain_only cs i h
plain_only (carrying l t cs) zero h = absurd (none_some t h)
  where
    none_some : (u : Ty) → None ≡ Some u → ⊥
    none_some u e = cc
plain_only (carrying l t cs) (suc i) h = plain_only cs i h

payload_read : (w : View) (cs : Cases) (q i : ℕ) (v : Val) → ShowsPayload w cs q i v → (t : Ty) × IsCase cs i (Some t) × Shows w t q v
payload_read w no_cases q i v h = absurd h
payload_read w (plain l cs) q zero v h = absurd h
payload_read w (plain l cs) q (suc i) v h = payload_read w cs q i v h
payload_read w (carrying l t cs) q zero v h = (t, refl, h)
payload_read w (carrying l t cs) q (suc i) v h = payload_read w cs q i v h

payload_only : (w : View) (cs : Cases) (q i : ℕ) (v : Val) (t : Ty) → IsCase cs i (Some t) → Shows w t q v → ShowsPayload w cs q i v
payload_only w no_cases q i v t h s = absurd h
payload_only w (plain l cs) q zero v t h s = absurd (some_none h)
  where
    some_none : Some t ≡ None → ⊥
    some_none e = cc
payload_only w (plain l cs) q (suc i) v t h s = payload_only w cs q i v t h s
payload_only w (carrying l u cs) q zero v t h s = subst (λ x. Shows w x q v) (some_is h) s
  where
    some_is : Some t ≡ Some u → t ≡ u
    some_is e = cc
payload_only w (carrying l u cs) q (suc i) v t h s = payload_only w cs q i v t h s

abbrev pub LeastSizes : Type 0
LeastSizes = (n : ℕ) → n ≤ 2 ^ 32 → IsLeastBytes (λ b. n ≤ 256 ^ b) (discriminant_size n)

pub size_is : LeastSizes → (cs : Cases) (b : ℕ) → case_count cs ≤ 2 ^ 32 → IsLeastBytes (λ x. case_count cs ≤ 256 ^ x) b → discriminant_size (case_count cs) ≡ b
size_is least cs b few h = one_bytes (λ x. case_count cs ≤ 256 ^ x) (discriminant_size (case_count cs)) b (least (case_count cs) few) h

pub offset_here : LeastSizes → (cs : Cases) (b a o : ℕ) → case_count cs ≤ 2 ^ 32 → IsLeastBytes (λ x. case_count cs ≤ 256 ^ x) b → IsGreatestAlignment cs a → IsLeastMultiple a b o → payload_offset cs ≡ o
offset_here least cs b a o few h g m =
    let size = size_is least cs b few h in
    let greatest = one_greatest cs a g in
    one_multiple (align_of_payloads cs) b (payload_offset cs) o
    (subst (λ x. IsLeastMultiple (align_of_payloads cs) x (align_to (align_of_payloads cs) (discriminant_size (case_count cs)))) size (least_multiple (align_of_payloads cs) (discriminant_size (case_count cs)) (payloads_pos cs)))
    (subst (λ x. IsLeastMultiple x b o) greatest m)

number_here : LeastSizes → (w : View) (cs : Cases) (p i b : ℕ) → AreBytes w.memory → case_count cs ≤ 2 ^ 32 → IsLeastBytes (λ x. case_count cs ≤ 256 ^ x) b
    → number_at (discriminant_size (case_count cs)) w.memory p ≡ i → StandsAt w.memory p b i
number_here least w cs p i b bytes few h e =
    stands_here w.memory p b i (number_at (discriminant_size (case_count cs)) w.memory p) bytes (sym e) (ap (λ x. number_at x w.memory p) (size_is least cs b few h))

here_number : LeastSizes → (w : View) (cs : Cases) (p i b : ℕ) → case_count cs ≤ 2 ^ 32 → IsLeastBytes (λ x. case_count cs ≤ 256 ^ x) b → StandsAt w.memory p b i
    → number_at (discriminant_size (case_count cs)) w.memory p ≡ i
here_number least w cs p i b few h s = ap (λ x. number_at x w.memory p) (size_is least cs b few h) ∙ sym (stands_number b w.memory p i s)

pub bare_read : LeastSizes → (w : View) (k : CasesKind) (cs : Cases) (p i b : ℕ) → AreBytes w.memory → case_count cs ≤ 2 ^ 32 → IsLeastBytes (λ x. case_count cs ≤ 256 ^ x) b
    → Shows w (cases k cs) p (bare i) → StandsAt w.memory p b i × IsCase cs i None
bare_read least w k cs p i b bytes few h s = (number_here least w cs p i b bytes few h s.0, plain_read cs i s.1)

pub bare_only : LeastSizes → (w : View) (k : CasesKind) (cs : Cases) (p i b : ℕ) → case_count cs ≤ 2 ^ 32 → IsLeastBytes (λ x. case_count cs ≤ 256 ^ x) b
    → StandsAt w.memory p b i → IsCase cs i None → Shows w (cases k cs) p (bare i)
bare_only least w k cs p i b few h s c = (here_number least w cs p i b few h s, plain_only cs i c)

pub bearing_read : LeastSizes → (w : View) (k : CasesKind) (cs : Cases) (p i b a o : ℕ) (v : Val) → AreBytes w.memory → case_count cs ≤ 2 ^ 32 → IsLeastBytes (λ x. case_count cs ≤ 256 ^ x) b
    → IsGreatestAlignment cs a → IsLeastMultiple a b o → Shows w (cases k cs) p (bearing i v) → StandsAt w.memory p b i × ((t : Ty) × IsCase cs i (Some t) × Shows w t (p + o) v)
bearing_read least w k cs p i b a o v bytes few h g m s =
    (number_here least w cs p i b bytes few h s.0, payload_read w cs (p + o) i v (subst (λ q. ShowsPayload w cs (p + q) i v) (offset_here least cs b a o few h g m) s.1))

pub bearing_only : LeastSizes → (w : View) (k : CasesKind) (cs : Cases) (p i b a o : ℕ) (v : Val) (t : Ty) → case_count cs ≤ 2 ^ 32 → IsLeastBytes (λ x. case_count cs ≤ 256 ^ x) b
    → IsGreatestAlignment cs a → IsLeastMultiple a b o → StandsAt w.memory p b i → IsCase cs i (Some t) → Shows w t (p + o) v → Shows w (cases k cs) p (bearing i v)
bearing_only least w k cs p i b a o v t few h g m s c shown =
    (here_number least w cs p i b few h s, subst (λ q. ShowsPayload w cs (p + q) i v) (sym (offset_here least cs b a o few h g m)) (payload_only w cs (p + o) i v t c shown))

-- ---- handles

pub handle_read : (table : Handles) (index : ℕ) (r : ResourceId) (h : HandleValue) (s : ShowsHandle table index r h) → IsHandle table index r s.entry h
handle_read table index r h s =
    record {
      found = s.stands;
      of_resource = s.of_resource;
      same_serial = ap (λ x. x.serial) s.value;
      same_rep = ap (λ x. x.rep) s.value;
      same_resource = ap (λ x. x.resource) s.value;
    }

unfoldable pub handle_only : (table : Handles) (index : ℕ) (r : ResourceId) (e : Handle) (h : HandleValue) → IsHandle table index r e h → ShowsHandle table index r h
handle_only table index r e h s = record { entry = e; stands = s.found; of_resource = s.of_resource; value = same h s.same_serial s.same_rep s.same_resource }
  where
    same : (g : HandleValue) → g.serial ≡ e.serial → g.rep ≡ e.rep → g.resource ≡ r → g ≡ record { serial = e.serial; rep = e.rep; resource = r }
    same g a b c =
        ap (λ x. record { serial = x; rep = g.rep; resource = g.resource }) a
        ∙ ap (λ x. record { serial = e.serial; rep = x; resource = g.resource }) b
        ∙ ap (λ x. record { serial = e.serial; rep = e.rep; resource = x }) c

pub own_read : (w : View) (r : ResourceId) (p : ℕ) (h : HandleValue) → AreBytes w.memory → Shows w (own r) p (handle h)
    → (index : ℕ) × (e : Handle) × StandsAt w.memory p 4 index × IsHandle w.table index r e h × (e.kind ≡ Owned)
own_read w r p h bytes s = (number_at 4 w.memory p, s.handle.entry, number_stands 4 w.memory p bytes, handle_read w.table (number_at 4 w.memory p) r h s.handle, s.owned)

pub own_only : (w : View) (r : ResourceId) (p index : ℕ) (e : Handle) (h : HandleValue) → StandsAt w.memory p 4 index → IsHandle w.table index r e h → e.kind ≡ Owned
    → Shows w (own r) p (handle h)
unfolding handle_only
own_only w r p index e h s is owned =
    let here = subst (λ x. IsHandle w.table x r e h) (stands_number 4 w.memory p index s) is in
    record { handle = handle_only w.table (number_at 4 w.memory p) r e h here; owned = owned }

pub borrow_read : (w : View) (r : ResourceId) (p : ℕ) (h : HandleValue) → AreBytes w.memory → Shows w (borrow r) p (handle h)
    → (index : ℕ) × (e : Handle) × StandsAt w.memory p 4 index × IsHandle w.table index r e h
borrow_read w r p h bytes s = (number_at 4 w.memory p, s.entry, number_stands 4 w.memory p bytes, handle_read w.table (number_at 4 w.memory p) r h s)

pub borrow_only : (w : View) (r : ResourceId) (p index : ℕ) (e : Handle) (h : HandleValue) → StandsAt w.memory p 4 index → IsHandle w.table index r e h → Shows w (borrow r) p (handle h)
borrow_only w r p index e h s is = handle_only w.table (number_at 4 w.memory p) r e h (subst (λ x. IsHandle w.table x r e h) (stands_number 4 w.memory p index s) is)

pub option_example : (w : View) (l m : List ℕ) (p n : ℕ) → AreBytes w.memory → Shows w (cases option_type (plain l (carrying m (unsigned bits_32) no_cases))) p (bearing 1 (number n))
    → StandsAt w.memory p 1 1 × StandsAt w.memory (p + 4) 4 n
option_example w l m p n bytes h = (stands_here w.memory p 1 1 (number_at 1 w.memory p) bytes (sym h.0) refl, stands_here w.memory (p + 4) 4 n n bytes refl h.1)
