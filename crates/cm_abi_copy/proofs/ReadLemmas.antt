-- What is read is what the bytes show, and can be copied.
use Rattle.std.proofs.Common.{◌≡◌, ℕ, zero, suc, ◌+◌, ◌*◌, ◌-◌, ◌%◌, ◌≤◌, ◌==◌, Bool, true, false, List, length, refl, sym, ap, ◌∙◌, arith, Some, None, Option, Ok, Err}
use Rattle.std.specs.Prelude.{⊤, not, nat_lt, if◌then◌else◌}
use Rattle.std.proofs.lemmas.Bool.{ltb-false}
use Rattle.cm_types.specs.Values.{HandleValue, Val, Vals, no_vals, val, truth, signed_number, number, scalar, text, elements, parts, bare, bearing, flag_set, handle, count_of}
use Rattle.cm_types.specs.TypedValues.{is_scalar_value}
use Rattle.cm_handles.specs.Handles.{Handles, is_borrow}
use Rattle.cm_handles.specs.declared.fault.HandleFault.{HandleFault}
use Rattle.cm_handles.specs.declared.fault.HandleFault.TheVariants as handle_fault
use Rattle.cm_handles.specs.declared.handle.Handle.{Handle}
use Rattle.std.specs.Prelude.{Result}
use Rattle.cm_layout.specs.declared.heads.Head.{Head}
use Rattle.cm_layout.specs.declared.layouts.HandleType.{HandleType}
use Rattle.cm_layout.specs.declared.layouts.HandleType.TheVariants as handle_type
use Rattle.cm_layout.specs.declared.layouts.Leaf.{Leaf}
use Rattle.cm_layout.specs.declared.layouts.Leaf.TheVariants as leaf
use Rattle.cm_layout.specs.Laid.{leaf_size}
use Rattle.cm_layout.specs.Shapes.{Shape, Parts, Payloads, leaf_shape, string_shape, list_shape, fixed_list_shape, fields_shape, cases_shape, handle_shape, no_parts, part, no_payloads, nothing, carried}
use Rattle.cm_abi_model.specs.declared.encoding.StringEncoding.{StringEncoding}
use Rattle.cm_abi_model.specs.declared.fault.AbiFault.{AbiFault}
use Rattle.cm_abi_model.specs.declared.fault.AbiFault.TheVariants as fault
use Rattle.cm_abi_model.specs.Numbers.{number_at}
use Rattle.cm_abi_model.specs.Parts.{handle_count, handle_count_each, part_count, part_count_each}
use Rattle.cm_abi_model.specs.Texts.{ShowsText, bytes_from, charset_of, text_align, text_size}
use Rattle.cm_abi_load.specs.Decoded.{decoded}
use Rattle.cm_abi_load.specs.Outcomes.{Outcome, State, mapped, ◌>>=◌}
use Rattle.cm_abi_load.specs.PartLaws.{TextIsShown}
use Rattle.cm_abi_load.specs.Reading.{Source, after_text, handle_value, leaf_value, read_at, read_case, read_each, read_elements, read_handle, read_parts, read_text, region, text_value}
use Rattle.cm_abi_store.specs.Fitting.{FitEach, FitFields, Fits, FitsCase}
use Rattle.cm_abi_copy.proofs.CopyLemmas.{IsOfCase, each_counted}
use Rattle.cm_abi_running.specs.Copying.{Copying, shown_to}
use Rattle.cm_abi_running.specs.Known.{HasSizes, HaveSizes, source_with}
use Rattle.cm_abi_copy.specs.PartLaws.{ElementsAreCopied, TextIsCopied}
use Rattle.cm_abi_running.specs.Ready.{AreElementsReady, AreFieldsReady, AreReady, IsCaseReady, IsReady}
use Rattle.cm_abi_running.specs.Shown.{all_without_handles, case_at, leaf_shown, or_no_scalars, scalars_at, values_at, values_each, without_handles}
use Rattle.cm_abi_load.proofs.ShownLaws.{bind_ok}

-- ---- counts stay where nothing is told of handles

mutual
  pub parts_stay : (v : Val) → part_count (without_handles v) ≡ part_count v
  parts_stay (truth b) = refl
  parts_stay (signed_number z) = refl
  parts_stay (number n) = refl
  parts_stay (scalar c) = refl
  parts_stay (text cs) = refl
  parts_stay (elements vs) = ap (λ n. 1 + n) (all_parts_stay vs)
  parts_stay (parts vs) = all_parts_stay vs
  parts_stay (bare i) = refl
  parts_stay (bearing i v) = parts_stay v
  parts_stay (flag_set n) = refl
  parts_stay (handle h) = refl

  pub all_parts_stay : (vs : Vals) → part_count_each (all_without_handles vs) ≡ part_count_each vs
  all_parts_stay no_vals = refl
  all_parts_stay (val v vs) = let first = parts_stay v in let rest = all_parts_stay vs in omega (arith, first, rest)

mutual
  pub handles_stay : (v : Val) → handle_count (without_handles v) ≡ handle_count v
  handles_stay (truth b) = refl
  handles_stay (signed_number z) = refl
  handles_stay (number n) = refl
  handles_stay (scalar c) = refl
  handles_stay (text cs) = refl
  handles_stay (elements vs) = all_handles_stay vs
  handles_stay (parts vs) = all_handles_stay vs
  handles_stay (bare i) = refl
  handles_stay (bearing i v) = handles_stay v
  handles_stay (flag_set n) = refl
  handles_stay (handle h) = refl

  pub all_handles_stay : (vs : Vals) → handle_count_each (all_without_handles vs) ≡ handle_count_each vs
  all_handles_stay no_vals = refl
  all_handles_stay (val v vs) = let first = handles_stay v in let rest = all_handles_stay vs in omega (arith, first, rest)

-- ---- outcomes with no fault

abbrev fails : {A : Type 0} → AbiFault → State → Outcome A
fails e s = Err (e, s)

abbrev answer : {A : Type 0} → A × State → Outcome A
answer x = Ok x

same_ok : {A : Type 0} (x y : A × State) → answer x ≡ answer y → x ≡ y
same_ok x y is = cc

mapped_ok : {A B : Type 0} (f : A → B) (r : Outcome A) (y : B) (s : State) → mapped f r ≡ Ok (y, s) → (x : A) × (r ≡ Ok (x, s)) × (y ≡ f x)
mapped_ok f (Ok x) y s is =
    let same : (f x.0, x.1) ≡ (y, s) = same_ok (f x.0, x.1) (y, s) is in
    let state : x.1 ≡ s = ap (λ (z : _ × State). z.1) same in
    (x.0, ap (λ z. Ok (x.0, z)) state, sym (ap (λ (z : _ × State). z.0) same))
mapped_ok f (Err e) y s is = absurd cc

-- ---- regions, texts, leaves, handles

region_inside : (memory : List ℕ) (align at size : ℕ) (s : State) (x : ⊤ × State) → region memory align at size s ≡ Ok x → at + size ≤ length memory
unfolding region
region_inside memory align at size s x is = go (at % align == 0) (nat_lt (length memory) (at + size)) refl (nat_lt s.left size) is
  where
    go : (a b : Bool) → nat_lt (length memory) (at + size) ≡ b → (d : Bool)
        → (if not a then fails fault.Misaligned s else (if b then fails fault.PointerBounds s else (if d then fails fault.TooLarge s else answer (tt, record s { left = s.left - size })))) ≡ answer x → at + size ≤ length memory
    go false b test d is = absurd cc
    go true true test d is = absurd cc
    go true false test d is = ltb-false (length memory) (at + size) test

elements_there : (R : ℕ → State → Outcome Val) (memory : List ℕ) (e : Head) (at n : ℕ) (s : State) (y : Vals × State) → read_elements R memory e at n s ≡ Ok y
    → (x : ⊤ × State) × (region memory e.align at (n * e.size) s ≡ Ok x) × (read_each R e.size n at x.1 ≡ Ok y)
unfolding read_elements
elements_there R memory e at n s y is = bind_ok (region memory e.align at (n * e.size) s) _ y is

text_there : (r : Outcome ⊤) (o : Option (List ℕ)) (behind : State → State) (v : Val) (after : State) → (r >>= λ x. text_value o (behind x.1)) ≡ Ok (v, after) → v ≡ text (or_no_scalars o)
text_there (Ok x) None behind v after is = absurd cc
text_there (Ok x) (Some cs) behind v after is = sym (ap (λ (z : Val × State). z.0) (same_ok (text cs, behind x.1) (v, after) is))
text_there (Err e) o behind v after is = absurd cc

text_read : (memory : List ℕ) (e : StringEncoding) (at n : ℕ) (s after : State) (v : Val) → read_text memory e at n s ≡ Ok (v, after) → v ≡ text (scalars_at memory e at n)
unfolding read_text
text_read memory e at n s after v is = text_there (region memory (text_align e) at (text_size e n) s) (decoded (charset_of e n) (bytes_from memory at (text_size e n))) (after_text e n) v after is

char_read : (b : Bool) (n : ℕ) (s after : State) (v : Val) → (if b then answer (scalar n, s) else fails fault.BadChar s) ≡ answer (v, after) → v ≡ scalar n
char_read true n s after v is = sym (ap (λ (z : Val × State). z.0) (same_ok (scalar n, s) (v, after) is))
char_read false n s after v is = absurd cc

plain_read : (u v : Val) (s after : State) → answer (u, s) ≡ answer (v, after) → without_handles u ≡ u → u ≡ without_handles v
plain_read u v s after is plain = let same = ap (λ (z : Val × State). z.0) (same_ok (u, s) (v, after) is) in rw (sym same) (sym plain)

leaf_read : (k : Leaf) (n : ℕ) (s after : State) (v : Val) → leaf_value k n s ≡ Ok (v, after) → leaf_shown k n ≡ without_handles v
leaf_read leaf.Bool n s after v is = plain_read _ v s after is refl
leaf_read (leaf.Signed w) n s after v is = plain_read _ v s after is refl
leaf_read (leaf.Unsigned w) n s after v is = plain_read _ v s after is refl
leaf_read leaf.Char n s after v is = let same = char_read (is_scalar_value n) n s after v is in rw same refl
leaf_read (leaf.Flags labels w) n s after v is = plain_read _ v s after is refl

same_text : (cs ds : List ℕ) → text cs ≡ text ds → cs ≡ ds
same_text cs ds is = cc

borrow_read : (b : Bool) (x : Val) (s after : State) (v : Val) → (if b then fails fault.NotOwned s else answer (x, s)) ≡ answer (v, after) → v ≡ x
borrow_read true x s after v is = absurd cc
borrow_read false x s after v is = sym (ap (λ (z : Val × State). z.0) (same_ok (x, s) (v, after) is))

handle_found : (t : HandleType) (r : Result Handle HandleFault) (s after : State) (v : Val) → handle_value t r s ≡ Ok (v, after) → (h : HandleValue) × (v ≡ handle h)
handle_found t (Err handle_fault.NoHandle) s after v is = absurd cc
handle_found t (Err handle_fault.WrongResource) s after v is = absurd cc
handle_found t (Err handle_fault.StillLent) s after v is = absurd cc
handle_found t (Err handle_fault.NotOwned) s after v is = absurd cc
handle_found t (Err handle_fault.Full) s after v is = absurd cc
handle_found t (Err handle_fault.Memory) s after v is = absurd cc
handle_found (handle_type.Own r) (Ok h) s after v is = (record { serial = h.serial; rep = h.rep; resource = h.resource }, borrow_read (is_borrow h.kind) _ s after v is)
handle_found (handle_type.Borrow r) (Ok h) s after v is =
    let value : HandleValue = record { serial = h.serial; rep = h.rep; resource = h.resource } in
    (value, sym (ap (λ (z : Val × State). z.0) (same_ok (handle value, s) (v, after) is)))

handle_read : (table : Handles) (t : HandleType) (index : ℕ) (s after : State) (v : Val) → read_handle table t index s ≡ Ok (v, after) → (h : HandleValue) × (v ≡ handle h)
unfolding read_handle
handle_read table t index s after v is = handle_found t _ _ after v is

-- ---- values

pub same_count : (vs : Vals) → count_of (all_without_handles vs) ≡ count_of vs
same_count no_vals = refl
same_count (val v vs) = ap (λ n. 1 + n) (same_count vs)

module _ (n : ℕ) (c : Copying) (table : Handles) (texts : TextIsShown) where
  abbrev w : Source
  w = source_with c table

  -- a value that is read is shown, and is ready where it fits and its sizes are known
  pub record Shown (Value : Val) (Ready Fitting : ℕ → ℕ → Type 0) (v : Val) : Type 0 where
    pub is : Value ≡ without_handles v
    pub ready : (k h : ℕ) → Fitting k h → HasSizes c.sizes c.given.charset v k → Ready k h

  pub record AllShown (Values : Vals) (Ready Fitting : ℕ → ℕ → Type 0) (vs : Vals) : Type 0 where
    pub is : Values ≡ all_without_handles vs
    pub ready : (k h : ℕ) → Fitting k h → HaveSizes c.sizes c.given.charset vs k → Ready k h

  each_shown : (R : ℕ → State → Outcome Val) (V : ℕ → Val) (Y : ℕ → ℕ → ℕ → Type 0) (F : Val → ℕ → ℕ → Type 0) (size count p : ℕ) (s after : State) (vs : Vals)
      → ((p : ℕ) (s after : State) (v : Val) → R p s ≡ Ok (v, after) → Shown (V p) (Y p) (F v) v)
      → read_each R size count p s ≡ Ok (vs, after) → AllShown (values_each V size count p) (AreReady Y V size count p) (FitEach F vs) vs
  each_shown R V Y F size zero p s after vs one is =
      let same : no_vals ≡ vs = ap (λ (z : Vals × State). z.0) (same_ok (no_vals, s) (vs, after) is) in
      record { is = rw (sym same) refl; ready = λ k h fits sizes. tt }
  each_shown R V Y F size (suc count) p s after vs one is =
      let first = bind_ok (R p s) _ (vs, after) is in
      let rest = mapped_ok (λ vs. val first.0.0 vs) (read_each R size count (p + size) first.0.1) vs after first.2 in
      let here = one p s first.0.1 first.0.0 first.1 in
      let behind = each_shown R V Y F size count (p + size) first.0.1 after rest.0 one rest.1 in
      rw rest.2 (joined first.0.0 rest.0 here behind)
    where
      joined : (v : Val) (us : Vals) → Shown (V p) (Y p) (F v) v → AllShown (values_each V size count (p + size)) (AreReady Y V size count (p + size)) (FitEach F us) us
          → AllShown (values_each V size (suc count) p) (AreReady Y V size (suc count) p) (FitEach F (val v us)) (val v us)
      joined v us here behind =
          let parts_are : part_count v ≡ part_count (V p) = sym (ap part_count here.is ∙ parts_stay v) in
          let handles_are : handle_count v ≡ handle_count (V p) = sym (ap handle_count here.is ∙ handles_stay v) in
          record {
            is = rw (here.is, behind.is) refl;
            ready = λ k h fits sizes.
                (here.ready k h fits.0 sizes.0, rw (sym parts_are, sym handles_are) (behind.ready (k + part_count v) (h + handle_count v) fits.1 sizes.1));
          }

  joined_fields : (o : ℕ) (e : Head) (sh : Shape) (ps : Parts) (p : ℕ) (v : Val) (us : Vals) → Shown (shown_to c sh (p + o)) (IsReady n c sh (p + o)) (Fits n c.given sh v) v
      → AllShown (values_at c.memory c.encoding ps p) (AreFieldsReady n c ps p) (FitFields n c.given ps us) us
      → AllShown (values_at c.memory c.encoding (part o e sh ps) p) (AreFieldsReady n c (part o e sh ps) p) (FitFields n c.given (part o e sh ps) (val v us)) (val v us)
  joined_fields o e sh ps p v us here behind =
      let parts_are : part_count v ≡ part_count (shown_to c sh (p + o)) = sym (ap part_count here.is ∙ parts_stay v) in
      let handles_are : handle_count v ≡ handle_count (shown_to c sh (p + o)) = sym (ap handle_count here.is ∙ handles_stay v) in
      record {
        is = rw (here.is, behind.is) refl;
        ready = λ k h fits sizes.
            (here.ready k h fits.0 sizes.0, rw (sym parts_are, sym handles_are) (behind.ready (k + part_count v) (h + handle_count v) fits.1 sizes.1));
      }

  -- what the case with so many before it carries fits
  abbrev CaseFits : Payloads → ℕ → Val → ℕ → ℕ → Type 0
  CaseFits ps left (bearing j u) k h = FitsCase n c.given ps left u k h
  CaseFits ps left v k h = ⊤

  record CaseShown (ps : Payloads) (i left p : ℕ) (v : Val) : Type 0 where
    pub is : case_at c.memory c.encoding ps i left p ≡ without_handles v
    pub of_case : IsOfCase i v
    pub ready : (k h : ℕ) → CaseFits ps left v k h → HasSizes c.sizes c.given.charset v k → IsCaseReady n c ps left p k h

  fits_of : (d o : ℕ) (ps : Payloads) (i : ℕ) (v : Val) (k h : ℕ) → IsOfCase i v → Fits n c.given (cases_shape d o ps) v k h → CaseFits ps i v k h
  fits_of d o ps i (bare j) k h is fits = tt
  fits_of d o ps i (bearing j u) k h is fits = rw (sym is) fits
  fits_of d o ps i _ k h is fits = absurd is

  skip_nothing : (ps : Payloads) (left : ℕ) (v : Val) (k h : ℕ) → CaseFits (nothing ps) (suc left) v k h → CaseFits ps left v k h
  skip_nothing ps left (bearing j u) k h fits = fits
  skip_nothing ps left v k h fits = tt

  skip_carried : (e : Head) (sh : Shape) (ps : Payloads) (left : ℕ) (v : Val) (k h : ℕ) → CaseFits (carried e sh ps) (suc left) v k h → CaseFits ps left v k h
  skip_carried e sh ps left (bearing j u) k h fits = fits
  skip_carried e sh ps left v k h fits = tt

  elements_shown : (e : Head) (sh : Shape) (at count : ℕ) (s after : State) (vs : Vals) → ((p : ℕ) (s after : State) (v : Val) → read_at w sh p s ≡ Ok (v, after) → Shown (shown_to c sh p) (IsReady n c sh p) (Fits n c.given sh v) v)
      → read_elements (read_at w sh) c.memory e at count s ≡ Ok (vs, after)
      → Shown (elements (values_each (shown_to c sh) e.size count at)) (AreElementsReady n c (IsReady n c sh) (shown_to c sh) e.size at count) (Fits n c.given (list_shape e sh) (elements vs)) (elements vs)
  elements_shown e sh at count s after vs one is =
      let there = elements_there (read_at w sh) c.memory e at count s (vs, after) is in
      let inside = region_inside c.memory e.align at (count * e.size) s there.0 there.1 in
      let all = each_shown (read_at w sh) (shown_to c sh) (IsReady n c sh) (Fits n c.given sh) e.size count at there.0.1 after vs one there.2 in
      let counted : count_of vs ≡ count = sym (ap count_of all.is ∙ same_count vs) ∙ each_counted (shown_to c sh) e.size count at in
      record {
        is = ap elements all.is;
        ready = λ k h fits sizes. (inside, (fits.0.0, rw (sym counted) fits.0.1), all.ready (k + 1) h fits.1 sizes);
      }

  mutual
    pub shown : (sh : Shape) (p : ℕ) (s after : State) (v : Val) → read_at w sh p s ≡ Ok (v, after) → Shown (shown_to c sh p) (IsReady n c sh p) (Fits n c.given sh v) v
    shown (leaf_shape k) p s after v is = record { is = leaf_read k (number_at (leaf_size k) c.memory p) s after v is; ready = λ k h fits sizes. tt }
    shown string_shape p s after v is =
        let at = number_at 4 c.memory p in
        let len = number_at 4 c.memory (p + 4) in
        let same = text_read c.memory c.encoding at len s after v is in
        let there = texts c.memory c.encoding at len table s after v is in
        let scalars_are : there.0 ≡ scalars_at c.memory c.encoding at len = same_text _ _ (sym there.1 ∙ same) in
        let shows : ShowsText c.encoding c.memory at len (scalars_at c.memory c.encoding at len) = rw scalars_are at there.2 in
        rw same (record {
          is = refl;
          ready = λ k h fits sizes. record { inside = shows.inside; text = shows.text; room = fits; known = sizes.0; size = sizes.1 };
        })
    shown (list_shape e sh) p s after v is =
        let read = mapped_ok elements (read_elements (read_at w sh) c.memory e (number_at 4 c.memory p) (number_at 4 c.memory (p + 4)) s) v after is in
        rw read.2 (elements_shown e sh (number_at 4 c.memory p) (number_at 4 c.memory (p + 4)) s after read.0 (shown sh) read.1)
    shown (fixed_list_shape e sh count) p s after v is =
        let read = mapped_ok parts (read_each (read_at w sh) e.size count p s) v after is in
        let all = each_shown (read_at w sh) (shown_to c sh) (IsReady n c sh) (Fits n c.given sh) e.size count p s after read.0 (shown sh) read.1 in
        rw read.2 (record { is = ap parts all.is; ready = λ k h fits sizes. all.ready k h fits.1 sizes })
    shown (fields_shape ps) p s after v is =
        let read = mapped_ok parts (read_parts w ps p s) v after is in
        let all = fields_shown ps p s after read.0 read.1 in
        rw read.2 (record { is = ap parts all.is; ready = all.ready })
    shown (cases_shape d o ps) p s after v is =
        let i = number_at d c.memory p in
        let one = case_shown ps i i (p + o) s after v is in
        record { is = one.is; ready = λ k h fits sizes. one.ready k h (fits_of d o ps i v k h one.of_case fits) sizes }
    shown (handle_shape x) p s after v is =
        let read = handle_read table x (number_at 4 c.memory p) s after v is in
        rw read.1 (record { is = refl; ready = λ k h fits sizes. fits })

    fields_shown : (ps : Parts) (p : ℕ) (s after : State) (vs : Vals) → read_parts w ps p s ≡ Ok (vs, after)
        → AllShown (values_at c.memory c.encoding ps p) (AreFieldsReady n c ps p) (FitFields n c.given ps vs) vs
    fields_shown no_parts p s after vs is =
        let same : no_vals ≡ vs = ap (λ (z : Vals × State). z.0) (same_ok (no_vals, s) (vs, after) is) in
        record { is = rw (sym same) refl; ready = λ k h fits sizes. tt }
    fields_shown (part o e sh ps) p s after vs is =
        let first = bind_ok (read_at w sh (p + o) s) _ (vs, after) is in
        let rest = mapped_ok (λ us. val first.0.0 us) (read_parts w ps p first.0.1) vs after first.2 in
        let here = shown sh (p + o) s first.0.1 first.0.0 first.1 in
        let behind = fields_shown ps p first.0.1 after rest.0 rest.1 in
        rw rest.2 (joined_fields o e sh ps p first.0.0 rest.0 here behind)

    case_shown : (ps : Payloads) (i left p : ℕ) (s after : State) (v : Val) → read_case w ps i left p s ≡ Ok (v, after) → CaseShown ps i left p v
    case_shown no_payloads i left p s after v is = absurd cc
    case_shown (nothing ps) i zero p s after v is =
        let same : bare i ≡ v = ap (λ (z : Val × State). z.0) (same_ok (bare i, s) (v, after) is) in
        rw (sym same) (record { is = refl; of_case = refl; ready = λ k h fits sizes. tt })
    case_shown (nothing ps) i (suc left) p s after v is =
        let one = case_shown ps i left p s after v is in
        record { is = one.is; of_case = one.of_case; ready = λ k h fits sizes. one.ready k h (skip_nothing ps left v k h fits) sizes }
    case_shown (carried e sh ps) i zero p s after v is =
        let read = mapped_ok (λ u. bearing i u) (read_at w sh p s) v after is in
        let one = shown sh p s after read.0 read.1 in
        rw read.2 (record { is = ap (bearing i) one.is; of_case = refl; ready = one.ready })
    case_shown (carried e sh ps) i (suc left) p s after v is =
        let one = case_shown ps i left p s after v is in
        record { is = one.is; of_case = one.of_case; ready = λ k h fits sizes. one.ready k h (skip_carried e sh ps left v k h fits) sizes }

-- a string that is read at a pointer, and elements, can be copied
pub text_copied : TextIsShown → TextIsCopied
text_copied texts n c table at tagged s after v is =
    let there = texts c.memory c.encoding at tagged table s after v is in
    let same = text_read c.memory c.encoding at tagged s after v is in
    let scalars_are : there.0 ≡ scalars_at c.memory c.encoding at tagged = same_text _ _ (sym there.1 ∙ same) in
    let shows : ShowsText c.encoding c.memory at tagged (scalars_at c.memory c.encoding at tagged) = rw scalars_are at there.2 in
    rw same (
      refl,
      λ k h fits sizes. record { inside = shows.inside; text = shows.text; room = fits; known = sizes.0; size = sizes.1 },
    )

pub elements_copied : TextIsShown → ElementsAreCopied
elements_copied texts n c table e sh at count s after vs is =
    let there = elements_shown n c table texts e sh at count s after vs (shown n c table texts sh) is in
    (there.is, there.ready)
