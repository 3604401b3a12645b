-- Handles that were met stay met.
use Rattle.std.proofs.Common.{ℕ, zero, suc, ◌+◌, ◌*◌, ◌%◌, ◌<◌, ◌≤◌, Bool, true, false, List, [], ◌∷◌, length, Option, Some, None, Ok, Err, Result, arith}
use Rattle.std.specs.Prelude.{not, nat_lt, ◌==◌, if◌then◌else◌}
use Rattle.std.proofs.lemmas.List.{length-append}
use Rattle.cm_types.specs.Values.{Val, val, bearing, elements, parts}
use Rattle.cm_types.specs.TypedValues.{is_scalar_value}
use Rattle.cm_handles.specs.Handles.{Handles, is_borrow, look_up}
use Rattle.cm_handles.specs.declared.handle.Handle.{Handle}
use Rattle.cm_handles.specs.declared.fault.HandleFault.{HandleFault}
use Rattle.cm_handles.specs.declared.fault.HandleFault.TheVariants as handle_fault
use Rattle.cm_layout.specs.declared.heads.Head.{Head}
use Rattle.cm_layout.specs.declared.layouts.HandleType.{HandleType}
use Rattle.cm_layout.specs.declared.layouts.HandleType.TheVariants as handle_type
use Rattle.cm_layout.specs.declared.layouts.Leaf.{Leaf}
use Rattle.cm_layout.specs.declared.layouts.Leaf.TheVariants as leaf
use Rattle.cm_layout.specs.Laid.{leaf_size}
use Rattle.cm_layout.specs.Shapes.{Shape, Parts, Payloads, leaf_shape, string_shape, list_shape, fixed_list_shape, fields_shape, cases_shape, handle_shape, no_parts, part, no_payloads, nothing, carried}
use Rattle.cm_abi_model.specs.declared.encoding.StringEncoding.{StringEncoding}
use Rattle.cm_abi_model.specs.Numbers.{number_at}
use Rattle.cm_abi_model.specs.Texts.{bytes_from, charset_of, text_align, text_size}
use Rattle.cm_abi_load.specs.Outcomes.{Outcome, State, mapped, ◌>>=◌}
use Rattle.cm_abi_load.specs.Decoded.{decoded}
use Rattle.cm_abi_load.specs.Making.{KeepsHandles}
use Rattle.cm_abi_load.specs.Reading.{Source, after_meeting, after_text, handle_value, leaf_value, read_at, read_case, read_each, read_elements, read_handle, read_parts, read_text, region, resource_of, text_value}

-- ---- one thing after another

pub keeps_from : {A : Type 0} (s behind : State) (r : Outcome A) → length s.handles ≤ length behind.handles → KeepsHandles behind r → KeepsHandles s r
keeps_from s behind (Ok x) le h = omega (arith, le, h)
keeps_from s behind (Err e) le h = tt

pub keeps_mapped : {A B : Type 0} (f : A → B) (s : State) (r : Outcome A) → KeepsHandles s r → KeepsHandles s (mapped f r)
keeps_mapped f s (Ok x) h = h
keeps_mapped f s (Err e) h = tt

pub keeps_then : {A B : Type 0} (s : State) (r : Outcome A) (f : A × State → Outcome B) → KeepsHandles s r → ((x : A × State) → KeepsHandles x.1 (f x)) → KeepsHandles s (r >>= f)
keeps_then s (Ok x) f h more = keeps_from s x.1 (f x) h (more x)
keeps_then s (Err e) f h more = tt

pub by_test : {A : Type 0} (b : Bool) (s : State) (x y : Outcome A) → KeepsHandles s x → KeepsHandles s y → KeepsHandles s (if b then x else y)
by_test true s x y h k = h
by_test false s x y h k = k

-- ---- what reads

pub keeps_region : (memory : List ℕ) (align at size : ℕ) (s : State) → KeepsHandles s (region memory align at size s)
unfolding region
keeps_region memory align at size s =
    by_test (not (at % align == 0)) s _ _ tt
    (by_test (nat_lt (length memory) (at + size)) s _ _ tt
    (by_test (nat_lt s.left size) s _ _ tt (omega arith)))

keeps_text_value : (o : Option (List ℕ)) (s : State) → KeepsHandles s (text_value o s)
keeps_text_value None s = tt
keeps_text_value (Some cs) s = omega arith

pub keeps_text : (memory : List ℕ) (e : StringEncoding) (at n : ℕ) (s : State) → KeepsHandles s (read_text memory e at n s)
unfolding read_text
keeps_text memory e at n s =
    keeps_then s (region memory (text_align e) at (text_size e n) s) (λ r. text_value (decoded (charset_of e n) (bytes_from memory at (text_size e n))) (after_text e n r.1))
    (keeps_region memory (text_align e) at (text_size e n) s)
    (λ r. keeps_from r.1 (after_text e n r.1) _ (omega arith) (keeps_text_value (decoded (charset_of e n) (bytes_from memory at (text_size e n))) (after_text e n r.1)))

pub keeps_each : (R : ℕ → State → Outcome Val) (size n p : ℕ) (s : State) → ((q : ℕ) (t : State) → KeepsHandles t (R q t)) → KeepsHandles s (read_each R size n p s)
keeps_each R size zero p s one = omega arith
keeps_each R size (suc n) p s one =
    keeps_then s (R p s) (λ r. mapped (λ vs. val r.0 vs) (read_each R size n (p + size) r.1)) (one p s)
    (λ r. keeps_mapped (λ vs. val r.0 vs) r.1 (read_each R size n (p + size) r.1) (keeps_each R size n (p + size) r.1 one))

pub keeps_elements : (R : ℕ → State → Outcome Val) (memory : List ℕ) (e : Head) (at n : ℕ) (s : State) → ((q : ℕ) (t : State) → KeepsHandles t (R q t)) → KeepsHandles s (read_elements R memory e at n s)
unfolding read_elements
keeps_elements R memory e at n s one =
    keeps_then s (region memory e.align at (n * e.size) s) (λ r. read_each R e.size n at r.1) (keeps_region memory e.align at (n * e.size) s) (λ r. keeps_each R e.size n at r.1 one)

pub keeps_leaf : (k : Leaf) (n : ℕ) (s : State) → KeepsHandles s (leaf_value k n s)
keeps_leaf leaf.Bool n s = omega arith
keeps_leaf (leaf.Signed w) n s = omega arith
keeps_leaf (leaf.Unsigned w) n s = omega arith
keeps_leaf leaf.Char n s = by_test (is_scalar_value n) s _ _ (omega arith) tt
keeps_leaf (leaf.Flags labels w) n s = omega arith

-- ---- handles

pub met_more : (s : State) (t : HandleType) (i : ℕ) → length s.handles < length (after_meeting s t i).handles
met_more s t i = omega (arith, length-append s.handles ((record { index = i; wanted = t }) ∷ []))

pub keeps_handle_value : (t : HandleType) (r : Result Handle HandleFault) (s : State) → KeepsHandles s (handle_value t r s)
keeps_handle_value (handle_type.Own r) (Ok h) s = by_test (is_borrow h.kind) s _ _ tt (omega arith)
keeps_handle_value (handle_type.Borrow r) (Ok h) s = omega arith
keeps_handle_value t (Err handle_fault.WrongResource) s = tt
keeps_handle_value t (Err _) s = tt

pub keeps_handle : (table : Handles) (t : HandleType) (i : ℕ) (s : State) → KeepsHandles s (read_handle table t i s)
unfolding read_handle
keeps_handle table t i s =
    let more : length s.handles < length (after_meeting s t i).handles = met_more s t i in
    keeps_from s (after_meeting s t i) _ (omega (arith, more)) (keeps_handle_value t (look_up table i (resource_of t)) (after_meeting s t i))

-- ---- values by their shapes

mutual
  pub keeps_at : (w : Source) (sh : Shape) (p : ℕ) (s : State) → KeepsHandles s (read_at w sh p s)
  keeps_at w (leaf_shape k) p s = keeps_leaf k (number_at (leaf_size k) w.memory p) s
  keeps_at w string_shape p s = keeps_text w.memory w.encoding (number_at 4 w.memory p) (number_at 4 w.memory (p + 4)) s
  keeps_at w (list_shape e sh) p s = keeps_mapped elements s _ (keeps_elements (read_at w sh) w.memory e (number_at 4 w.memory p) (number_at 4 w.memory (p + 4)) s (λ q t. keeps_at w sh q t))
  keeps_at w (fixed_list_shape e sh n) p s = keeps_mapped parts s _ (keeps_each (read_at w sh) e.size n p s (λ q t. keeps_at w sh q t))
  keeps_at w (fields_shape ps) p s = keeps_mapped parts s _ (keeps_parts w ps p s)
  keeps_at w (cases_shape d o ps) p s = keeps_case w ps (number_at d w.memory p) (number_at d w.memory p) (p + o) s
  keeps_at w (handle_shape h) p s = keeps_handle w.table h (number_at 4 w.memory p) s

  pub keeps_parts : (w : Source) (ps : Parts) (p : ℕ) (s : State) → KeepsHandles s (read_parts w ps p s)
  keeps_parts w no_parts p s = omega arith
  keeps_parts w (part o e sh ps) p s =
      keeps_then s (read_at w sh (p + o) s) (λ r. mapped (λ vs. val r.0 vs) (read_parts w ps p r.1)) (keeps_at w sh (p + o) s)
      (λ r. keeps_mapped (λ vs. val r.0 vs) r.1 (read_parts w ps p r.1) (keeps_parts w ps p r.1))

  keeps_case : (w : Source) (ps : Payloads) (i n p : ℕ) (s : State) → KeepsHandles s (read_case w ps i n p s)
  keeps_case w no_payloads i n p s = tt
  keeps_case w (nothing ps) i zero p s = omega arith
  keeps_case w (nothing ps) i (suc n) p s = keeps_case w ps i n p s
  keeps_case w (carried e sh ps) i zero p s = keeps_mapped (λ v. bearing i v) s _ (keeps_at w sh p s)
  keeps_case w (carried e sh ps) i (suc n) p s = keeps_case w ps i n p s
