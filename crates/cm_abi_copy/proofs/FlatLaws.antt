-- What core values show is what is copied from them.
use Rattle.std.proofs.Common.{◌≡◌, ℕ, zero, suc, ◌+◌, ◌*◌, List, [], refl, sym, ap, subst, ◌∙◌, arith}
use Rattle.cm_types.specs.declared.core_value.CoreValue.{CoreValue}
use Rattle.cm_types.specs.Types.{Ty, Fields, Cases, CasesKind, bool, signed, unsigned, char, string, list, fixed_list, fields, cases, flags, own, borrow, no_fields, field, no_cases, plain, carrying}
use Rattle.cm_types.specs.Values.{Val, Vals, IsPlainCase, no_vals, val, truth, signed_number, number, scalar, text, elements, parts, bare, bearing, flag_set, handle, count_of}
use Rattle.cm_handles.specs.Handles.{Handles}
use Rattle.cm_layout.specs.Alignment.{align_to}
use Rattle.cm_layout.specs.Shapes.{head_of, parts_at, parts_from, payloads_from, payloads_of, shape_of_type}
use Rattle.cm_layout.specs.Sizes.{align_of, size_of}
use Rattle.cm_abi_model.specs.FlatShows.{FlatShowFields, FlatShows, FlatShowsPayload, width_of}
use Rattle.cm_abi_model.specs.Numbers.{wrapped_at}
use Rattle.cm_abi_model.specs.Parts.{handle_count, part_count}
use Rattle.cm_abi_model.specs.Shows.{ShowEach}
use Rattle.cm_abi_model.specs.Taken.{content_of, met_at, met_each}
use Rattle.cm_abi_model.specs.Texts.{text_size}
use Rattle.cm_abi_model.specs.Views.{View}
use Rattle.cm_abi_load.specs.Outcomes.{State}
use Rattle.cm_abi_load.specs.PartLaws.{ElementsAreRead, TextIsRead}
use Rattle.cm_abi_store.specs.Fitting.{FitEach, FitFields, Fits, FitsCase}
use Rattle.cm_abi_running.specs.Copying.{Copying}
use Rattle.cm_abi_running.specs.Known.{HasSizes, HaveSizes}
use Rattle.cm_abi_copy.specs.PartLaws.{ElementsAreCopied, TextIsCopied}
use Rattle.cm_abi_running.specs.Ready.{AreReady}
use Rattle.cm_abi_running.specs.Shown.{all_without_handles, values_each, without_handles}
use Rattle.cm_abi_copy.specs.FlatReady.{AreFlatFieldsReady, IsFlatCaseReady, IsFlatReady}
use Rattle.cm_abi_copy.specs.FlatShown.{flat_shown, flat_shown_case, flat_shown_fields}

-- what the laws of the crates below promise of parts
pub record PartsBelow : Type 0 where
  pub text_read : TextIsRead
  pub elements_read : ElementsAreRead
  pub text_copied : TextIsCopied
  pub elements_copied : ElementsAreCopied
  pub parts_stay : (v : Val) → part_count (without_handles v) ≡ part_count v
  pub handles_stay : (v : Val) → handle_count (without_handles v) ≡ handle_count v

module _ (below : PartsBelow) (n : ℕ) (c : Copying) (table : Handles) (instance call : ℕ) (slots : List CoreValue) where
  abbrev w : View
  w = record { memory = c.memory; table = table; instance = instance; encoding = c.encoding; call = call }

  -- a value that is shown is what the slots have, and is ready where it fits and its sizes are known
  pub record Shown (Value : Val) (Ready Fitting : ℕ → ℕ → Type 0) (v : Val) : Type 0 where
    pub is : Value ≡ without_handles v
    pub ready : (k h : ℕ) → Fitting k h → HasSizes c.sizes c.given.charset v k → Ready k h

  pub record AllShown (Values : Vals) (Ready Fitting : ℕ → ℕ → Type 0) (vs : Vals) : Type 0 where
    pub is : Values ≡ all_without_handles vs
    pub ready : (k h : ℕ) → Fitting k h → HaveSizes c.sizes c.given.charset vs k → Ready k h

  each_shown : (S : ℕ → Val → Type 0) (V : ℕ → Val) (Y : ℕ → ℕ → ℕ → Type 0) (F : Val → ℕ → ℕ → Type 0) (size count p : ℕ) (vs : Vals)
      → ((p : ℕ) (v : Val) → S p v → Shown (V p) (Y p) (F v) v)
      → count_of vs ≡ count → ShowEach S size p vs → AllShown (values_each V size count p) (AreReady Y V size count p) (FitEach F vs) vs
  each_shown S V Y F size zero p no_vals one counted shown = record { is = refl; ready = λ k h fits sizes. tt }
  each_shown S V Y F size zero p (val v vs) one counted shown = absurd (omega (arith, counted))
  each_shown S V Y F size (suc count) p no_vals one counted shown = absurd (omega (arith, counted))
  each_shown S V Y F size (suc count) p (val v vs) one counted shown =
      let here = one p v shown.0 in
      let behind = each_shown S V Y F size count (p + size) vs one (omega (arith, counted)) shown.1 in
      let parts_are : part_count v ≡ part_count (V p) = sym (ap part_count here.is ∙ below.parts_stay v) in
      let handles_are : handle_count v ≡ handle_count (V p) = sym (ap handle_count here.is ∙ below.handles_stay v) in
      record {
        is = rw (here.is, behind.is) refl;
        ready = λ k h fits sizes.
            (here.ready k h fits.0 sizes.0, rw (sym parts_are, sym handles_are) (behind.ready (k + part_count v) (h + handle_count v) fits.1 sizes.1));
      }

  text_shown : (s : ℕ) (cs : List ℕ) → FlatShows w slots string s (text cs) → Shown (flat_shown c slots (shape_of_type string) s) (IsFlatReady n c slots (shape_of_type string) s) (Fits n c.given (shape_of_type string) (text cs)) (text cs)
  text_shown s cs shown =
      let at = wrapped_at 4 slots s in
      let tagged = wrapped_at 4 slots (s + 1) in
      let before : State = record { left = text_size c.encoding tagged; handles = []; tags = [] } in
      let read = below.text_read c.memory c.encoding at tagged cs before shown (omega arith) in
      let there = below.text_copied n c table at tagged before read.0 (text cs) read.1 in
      record { is = there.0; ready = there.1 }

  elements_shown : (t : Ty) (s : ℕ) (vs : Vals) → FlatShows w slots (list t) s (elements vs)
      → Shown (flat_shown c slots (shape_of_type (list t)) s) (IsFlatReady n c slots (shape_of_type (list t)) s) (Fits n c.given (shape_of_type (list t)) (elements vs)) (elements vs)
  elements_shown t s vs shown =
      let at = wrapped_at 4 slots s in
      let count = wrapped_at 4 slots (s + 1) in
      let before : State = record { left = count_of vs * size_of t + content_of (met_each (met_at w t) (size_of t) at vs); handles = []; tags = [] } in
      let read = below.elements_read w t at count before vs shown (omega arith) in
      let there = below.elements_copied n c table (head_of t) (shape_of_type t) at count before read.0 vs read.1 in
      record { is = there.0; ready = there.1 }

  -- a case that carries nothing
  plain_shown : (cs : Cases) (j i s : ℕ) → IsPlainCase cs i
      → (flat_shown_case c slots (payloads_from (payloads_of cs)) j i s ≡ bare j) × ((k h : ℕ) → IsFlatCaseReady n c slots (payloads_from (payloads_of cs)) i s k h)
  plain_shown no_cases j i s is = absurd is
  plain_shown (plain l cs) j zero s is = (refl, λ k h. tt)
  plain_shown (plain l cs) j (suc i) s is = plain_shown cs j i s is
  plain_shown (carrying l t cs) j zero s is = absurd is
  plain_shown (carrying l t cs) j (suc i) s is = plain_shown cs j i s is

  abbrev Found : Ty → ℕ → Val → Type 0
  Found t s v = Shown (flat_shown c slots (shape_of_type t) s) (IsFlatReady n c slots (shape_of_type t) s) (Fits n c.given (shape_of_type t) v) v

  -- the case that the slot says
  abbrev CaseFound : CasesKind → Cases → ℕ → Val → ℕ → Type 0
  CaseFound d cs s v j =
      Shown (flat_shown_case c slots (payloads_from (payloads_of cs)) j j (s + 1)) (λ k h. IsFlatCaseReady n c slots (payloads_from (payloads_of cs)) j (s + 1) k h)
      (Fits n c.given (shape_of_type (cases d cs)) v) v

  mutual
    pub flat : (t : Ty) (s : ℕ) (v : Val) → FlatShows w slots t s v → Found t s v
    flat bool s (truth b) shown = record { is = ap truth (sym shown); ready = λ k h fits sizes. tt }
    flat (signed b) s (signed_number z) shown = record { is = ap signed_number (sym shown); ready = λ k h fits sizes. tt }
    flat (unsigned b) s (number x) shown = record { is = ap number (sym shown); ready = λ k h fits sizes. tt }
    flat char s (scalar x) shown = record { is = ap scalar (sym shown.0); ready = λ k h fits sizes. tt }
    flat string s (text cs) shown = text_shown s cs shown
    flat (list t) s (elements vs) shown = elements_shown t s vs shown
    flat (fixed_list t count) s (parts vs) shown =
        let all = each_shown (FlatShows w slots t) (flat_shown c slots (shape_of_type t)) (IsFlatReady n c slots (shape_of_type t)) (Fits n c.given (shape_of_type t)) (width_of t) count s vs (flat t) shown.0 shown.1 in
        record { is = ap parts all.is; ready = λ k h fits sizes. all.ready k h fits.1 sizes }
    flat (fields f fs) s (parts vs) shown =
        let all = fields_shown fs 0 s vs shown in
        record { is = ap parts all.is; ready = all.ready }
    flat (cases d cs) s (bare i) shown =
        let one = plain_shown cs i i (s + 1) shown.1 in
        subst (CaseFound d cs s (bare i)) (sym shown.0) (record { is = one.0; ready = λ k h fits sizes. one.1 k h })
    flat (cases d cs) s (bearing i v) shown =
        let one = payload_shown cs i i (s + 1) v shown.1 in
        subst (CaseFound d cs s (bearing i v)) (sym shown.0) (record { is = one.is; ready = one.ready })
    flat (flags ls) s (flag_set x) shown = record { is = ap flag_set (sym shown); ready = λ k h fits sizes. tt }
    flat (own r) s (handle e) shown = record { is = refl; ready = λ k h fits sizes. fits }
    flat (borrow r) s (handle e) shown = record { is = refl; ready = λ k h fits sizes. fits }
    flat _ s _ shown = absurd shown

    fields_shown : (fs : Fields) (at s : ℕ) (vs : Vals) → FlatShowFields w slots fs s vs
        → AllShown (flat_shown_fields c slots (parts_from (parts_at fs at)) s) (AreFlatFieldsReady n c slots (parts_from (parts_at fs at)) s) (FitFields n c.given (parts_from (parts_at fs at)) vs) vs
    fields_shown no_fields at s no_vals shown = record { is = refl; ready = λ k h fits sizes. tt }
    fields_shown no_fields at s (val v vs) shown = absurd shown
    fields_shown (field l t fs) at s no_vals shown = absurd shown
    fields_shown (field l t fs) at s (val v vs) shown =
        let here = flat t s v shown.0 in
        let behind = fields_shown fs (align_to (align_of t) at + size_of t) (s + width_of t) vs shown.1 in
        let parts_are : part_count v ≡ part_count (flat_shown c slots (shape_of_type t) s) = sym (ap part_count here.is ∙ below.parts_stay v) in
        let handles_are : handle_count v ≡ handle_count (flat_shown c slots (shape_of_type t) s) = sym (ap handle_count here.is ∙ below.handles_stay v) in
        record {
          is = rw (here.is, behind.is) refl;
          ready = λ k h fits sizes.
              (here.ready k h fits.0 sizes.0, rw (sym parts_are, sym handles_are) (behind.ready (k + part_count v) (h + handle_count v) fits.1 sizes.1));
        }

    payload_shown : (cs : Cases) (j i s : ℕ) (v : Val) → FlatShowsPayload w slots cs s i v
        → Shown (flat_shown_case c slots (payloads_from (payloads_of cs)) j i s) (λ k h. IsFlatCaseReady n c slots (payloads_from (payloads_of cs)) i s k h) (λ k h. FitsCase n c.given (payloads_from (payloads_of cs)) i v k h) (bearing j v)
    payload_shown no_cases j i s v shown = absurd shown
    payload_shown (plain l cs) j zero s v shown = absurd shown
    payload_shown (plain l cs) j (suc i) s v shown = let one = payload_shown cs j i s v shown in record { is = one.is; ready = one.ready }
    payload_shown (carrying l t cs) j zero s v shown =
        let one = flat t s v shown in
        record { is = ap (bearing j) one.is; ready = one.ready }
    payload_shown (carrying l t cs) j (suc i) s v shown = let one = payload_shown cs j i s v shown in record { is = one.is; ready = one.ready }
