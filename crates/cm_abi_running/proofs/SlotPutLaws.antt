-- Running the puts of a type over core values is lowering the value that is read from them.
use Rattle.std.proofs.Common.{◌≡◌, ℕ, zero, suc, ◌+◌, ◌%◌, ◌^◌, ◌⊎◌, inl, inr, ◌*◌, ◌<◌, ◌==◌, not, List, [], ◌++◌, append_assoc, append-nil, drop, refl, sym, ap, ◌∙◌, arith}
use Rattle.std.specs.Prelude.{Bool, true, false, nat_lt, if◌then◌else◌, slice_index, Option, Some, None, Ok}
use Rattle.cm_types.specs.declared.core_value.CoreValue.{CoreValue}
use Rattle.cm_types.specs.Values.{Val, Vals, no_vals, val, truth, signed_number, number, scalar, text, elements, parts, bare, bearing, flag_set}
use Rattle.cm_types.specs.TypedValues.{is_scalar_value}
use Rattle.cm_layout.specs.declared.heads.Head.{Head}
use Rattle.cm_layout.specs.declared.layouts.HandleType.{HandleType}
use Rattle.cm_layout.specs.declared.layouts.Leaf.{Leaf}
use Rattle.cm_layout.specs.declared.layouts.Leaf.TheVariants as leaf
use Rattle.cm_layout.specs.Shapes.{Shape, Parts, Payloads, leaf_shape, string_shape, list_shape, fixed_list_shape, fields_shape, cases_shape, handle_shape, no_parts, part, no_payloads, nothing, carried}
use Rattle.cm_abi_model.specs.declared.fault.AbiFault.TheVariants as fault
use Rattle.cm_abi_model.specs.Numbers.{as_signed, wrapped_at}
use Rattle.cm_abi_model.specs.Parts.{handle_count, handle_count_each, part_count, part_count_each}
use Rattle.cm_abi_model.specs.Receives.{behind_each, put}
use Rattle.cm_abi_model.specs.Requests.{text_units}
use Rattle.cm_abi_model.specs.Stores.{Given, Placed, number_of, place_of, store_each}
use Rattle.cm_abi_load.specs.Outcomes.{State, mapped}
use Rattle.cm_handles.specs.Handles.{look_up}
use Rattle.cm_abi_model.specs.Texts.{bytes_from, charset_of, text_align, text_size}
use Rattle.cm_abi_load.specs.Decoded.{decoded}
use Rattle.cm_abi_load.specs.Reading.{Source, after_meeting, after_text, leaf_value, read_at, read_each, region, resource_of, read_elements, read_handle, read_text, text_value}
use Rattle.cm_abi_load.specs.Sized.{IsSized, core_size}
use Rattle.cm_abi_lift.specs.FlatReading.{ArePartsFlatReadable, ArePayloadsFlatReadable, IsFlatReadable, read_flat, read_flat_case, read_flat_each, read_flat_parts}
use Rattle.cm_abi_store.specs.FlatLowering.{behind_by, behind_by_case, behind_by_fields, slots_by, slots_by_case, slots_by_fields}
use Rattle.cm_abi_store.specs.Storing.{stored_by}
use Rattle.cm_abi_programs.specs.declared.limits.TheConstants.{FEW}
use Rattle.cm_abi_programs.specs.Puts.{puts_of}
use Rattle.cm_abi_running.specs.Putting.{all_written, or_no_scalars, written_each}
use Rattle.cm_abi_programs.specs.SlotPuts.{SlotPut, SlotPuts, CaseSlotPuts, no_slots, slot, no_cases, case, leaf_slot, text_slot, list_slot, each_slot, cases_slot, handle_slot, part_slot}
use Rattle.cm_abi_programs.specs.SlotPuts.{are_unput, both_slots, cases_slots, flat_field_puts, flat_payload_puts, flat_puts_of, is_unput, moved_slot, moved_slots, one_slot, placed_slots, slot_count}
use Rattle.cm_abi_running.specs.Passing.{PassedOn, all_passed, case_passed, lowered_as, nothing_passed, number_on, number_passed, passed_each, passed_on, passed_then, pointer_passed, text_behind, text_passed}
use Rattle.std.proofs.lemmas.Bool.{and_parts}
use Rattle.cm_lemmas.proofs.Bools.{false_not_true}
use Rattle.cm_abi_running.proofs.FlatCheckLaws.{behind_both, slot_behind, wide_behind}
use Rattle.cm_abi_running.proofs.PutLaws.{came, each_counted, each_put_is, found_is, made, no_read, scalar_read, stored_put, value_is}

-- ---- one behind the other

pub passed_none : (a : PassedOn) → passed_then a (λ k h. nothing_passed k h) ≡ a
passed_none a = ap (λ ns. whole ns (a.bytes ++ [])) (append-nil a.numbers) ∙ ap (λ bs. whole a.numbers bs) (append-nil a.bytes)
  where
    whole : List Placed → List Placed → PassedOn
    whole ns bs = record { numbers = ns; bytes = bs; part = a.part; handle = a.handle }

passed_twice : (a : PassedOn) (f g : ℕ → ℕ → PassedOn) → passed_then (passed_then a f) g ≡ passed_then a (λ k h. passed_then (f k h) g)
passed_twice a f g =
    ap (λ ns. whole ns ((a.bytes ++ b.bytes) ++ c.bytes)) (append_assoc a.numbers b.numbers c.numbers)
    ∙ ap (λ bs. whole (a.numbers ++ (b.numbers ++ c.numbers)) bs) (append_assoc a.bytes b.bytes c.bytes)
  where
    b : PassedOn
    b = f a.part a.handle

    c : PassedOn
    c = g (f a.part a.handle).part (f a.part a.handle).handle

    whole : List Placed → List Placed → PassedOn
    whole ns bs =
        record {
          numbers = ns;
          bytes = bs;
          part = (g (f a.part a.handle).part (f a.part a.handle).handle).part;
          handle = (g (f a.part a.handle).part (f a.part a.handle).handle).handle;
        }

pub passed_same : (a : PassedOn) (f g : ℕ → ℕ → PassedOn) → ((k h : ℕ) → f k h ≡ g k h) → passed_then a f ≡ passed_then a g
passed_same a f g same = ap (λ r. behind r) (same a.part a.handle)
  where
    behind : PassedOn → PassedOn
    behind r = record { numbers = a.numbers ++ r.numbers; bytes = a.bytes ++ r.bytes; part = r.part; handle = r.handle }

abbrev counted : List Placed → List Placed → ℕ → ℕ → PassedOn
counted ns bs k h = record { numbers = ns; bytes = bs; part = k; handle = h }

counted_as : (ns bs : List Placed) (i j k h : ℕ) → i ≡ k → j ≡ h → counted ns bs i j ≡ counted ns bs k h
counted_as ns bs i j k h p q = ap (λ x. counted ns bs x j) p ∙ ap (λ x. counted ns bs k x) q

further : {A : Type 0} (F : ℕ → A) (s o at : ℕ) → F (s + (o + at)) ≡ F (s + o + at)
further F s o at = ap F {x = s + (o + at)} {y = s + o + at} (omega arith)

pub first : {A : Type 0} (F : ℕ → A) (s : ℕ) → F (s + 0) ≡ F s
first F s = ap F {x = s + 0} {y = s} (omega arith)

module _ (w : Source) (g : Given) (slots : List CoreValue) where
  one_passed : (c : SlotPut) (s k h : ℕ) → all_passed w g slots (one_slot c) s k h ≡ passed_on w g slots c s k h
  one_passed c s k h = passed_none (passed_on w g slots c s k h)

  pub both_passed : (cs ds : SlotPuts) (s k h : ℕ) → all_passed w g slots (both_slots cs ds) s k h ≡ passed_then (all_passed w g slots cs s k h) (all_passed w g slots ds s)
  both_passed no_slots ds s k h = refl
  both_passed (slot c cs) ds s k h =
      passed_same (passed_on w g slots c s k h) (all_passed w g slots (both_slots cs ds) s) (λ k h. passed_then (all_passed w g slots cs s k h) (all_passed w g slots ds s)) (λ k h. both_passed cs ds s k h)
      ∙ sym (passed_twice (passed_on w g slots c s k h) (all_passed w g slots cs s) (all_passed w g slots ds s))

  pub moved_one : (o : ℕ) (c : SlotPut) (s k h : ℕ) → passed_on w g slots (moved_slot o c) s k h ≡ passed_on w g slots c (s + o) k h
  moved_one o (leaf_slot at l) s k h = further (λ a. number_passed a (number_on l (wrapped_at (core_size l) slots a)) k h) s o at
  moved_one o (text_slot at) s k h = further (λ a. text_passed w g a (wrapped_at 4 slots a) (wrapped_at 4 slots (a + 1)) k h) s o at
  moved_one o (list_slot at d cs) s k h =
      further (λ a. pointer_passed a (place_of g k) (wrapped_at 4 slots (a + 1)) (written_each (all_written w g cs) d (wrapped_at 4 slots (a + 1)) (wrapped_at 4 slots a) (place_of g k) (k + 1) h)) s o at
  moved_one o (each_slot at d n cs) s k h = further (λ a. passed_each (all_passed w g slots cs) d n a k h) s o at
  moved_one o (cases_slot at cs) s k h =
      further (λ a. passed_then (number_passed a (wrapped_at 4 slots a) k h) (case_passed w g slots cs (wrapped_at 4 slots a) (a + 1))) s o at
  moved_one o (handle_slot at) s k h = further (λ a. handle_passed a) s o at
    where
      handle_passed : ℕ → PassedOn
      handle_passed a = record { numbers = put a (number_of g h); bytes = []; part = k; handle = h + 1 }
  moved_one o (part_slot at cs) s k h = further (λ a. all_passed w g slots cs a k h) s o at

  moved_all : (o : ℕ) (cs : SlotPuts) (s k h : ℕ) → all_passed w g slots (moved_slots o cs) s k h ≡ all_passed w g slots cs (s + o) k h
  moved_all o no_slots s k h = refl
  moved_all o (slot c cs) s k h =
      ap (λ a. passed_then a (all_passed w g slots (moved_slots o cs) s)) (moved_one o c s k h)
      ∙ passed_same (passed_on w g slots c (s + o) k h) (all_passed w g slots (moved_slots o cs) s) (all_passed w g slots cs (s + o)) (λ k h. moved_all o cs s k h)

  pub placed_passed : (o : ℕ) (cs : SlotPuts) (s k h : ℕ) → all_passed w g slots (placed_slots o cs) s k h ≡ all_passed w g slots cs (s + o) k h
  placed_passed o cs s k h = pick (nat_lt FEW (slot_count cs))
    where
      pick : (b : Bool) → all_passed w g slots (if b then one_slot (part_slot o cs) else moved_slots o cs) s k h ≡ all_passed w g slots cs (s + o) k h
      pick true = one_passed (part_slot o cs) s k h
      pick false = moved_all o cs s k h

  -- ---- cases of which nothing is put

  unput_none : (cs : SlotPuts) (s k h : ℕ) → is_unput cs ≡ true → nothing_passed k h ≡ all_passed w g slots cs s k h
  unput_none no_slots s k h is = refl
  unput_none (slot c cs) s k h is = absurd (false_not_true is)

  unput_cases : (cs : CaseSlotPuts) (i s k h : ℕ) → are_unput cs ≡ true → nothing_passed k h ≡ case_passed w g slots cs i s k h
  unput_cases no_cases i s k h is = refl
  unput_cases (case cs rest) zero s k h is = unput_none cs s k h (and_parts _ _ is).0
  unput_cases (case cs rest) (suc i) s k h is = unput_cases rest i s k h (and_parts _ _ is).1

  pub cases_passed : (cs : CaseSlotPuts) (s k h : ℕ)
      → all_passed w g slots (cases_slots cs) s k h ≡ passed_then (number_passed s (wrapped_at 4 slots s) k h) (case_passed w g slots cs (wrapped_at 4 slots s) (s + 1))
  cases_passed cs s k h = pick (are_unput cs) refl
    where
      pick : (u : Bool) → are_unput cs ≡ u
          → all_passed w g slots (if u then one_slot (leaf_slot 0 (leaf.Unsigned 4)) else one_slot (cases_slot 0 cs)) s k h
          ≡ passed_then (number_passed s (wrapped_at 4 slots s) k h) (case_passed w g slots cs (wrapped_at 4 slots s) (s + 1))
      pick true none =
          one_passed (leaf_slot 0 (leaf.Unsigned 4)) s k h
          ∙ first (λ a. number_passed a (wrapped_at 4 slots a) k h) s
          ∙ sym (passed_none (number_passed s (wrapped_at 4 slots s) k h))
          ∙ passed_same (number_passed s (wrapped_at 4 slots s) k h) (λ k h. nothing_passed k h) (case_passed w g slots cs (wrapped_at 4 slots s) (s + 1))
          (λ k h. unput_cases cs (wrapped_at 4 slots s) (s + 1) k h none)
      pick false some =
          one_passed (cases_slot 0 cs) s k h
          ∙ first (λ a. passed_then (number_passed a (wrapped_at 4 slots a) k h) (case_passed w g slots cs (wrapped_at 4 slots a) (a + 1))) s

  -- ---- leaves

  leaf_put : (l : Leaf) (s : ℕ) (st after : State) (v : Val) → leaf_value l (wrapped_at (core_size l) (drop s slots) 0) st ≡ Ok (v, after)
      → (k h : ℕ) → number_passed s (number_on l (wrapped_at (core_size l) (drop s slots) 0)) k h ≡ lowered_as g (leaf_shape l) v s k h
  leaf_put leaf.Bool s st after v is k h =
      counted_as _ _ k h (k + 0) (h + 0) (omega arith) (omega arith)
      ∙ ap (λ u. lowered_as g (leaf_shape leaf.Bool) u s k h) (value_is (truth (not (wrapped_at 4 (drop s slots) 0 == 0))) v st after is)
  leaf_put (leaf.Signed b) s st after v is k h =
      counted_as _ _ k h (k + 0) (h + 0) (omega arith) (omega arith)
      ∙ ap (λ u. lowered_as g (leaf_shape (leaf.Signed b)) u s k h) (value_is (signed_number (as_signed b (wrapped_at b (drop s slots) 0))) v st after is)
  leaf_put (leaf.Unsigned b) s st after v is k h =
      counted_as _ _ k h (k + 0) (h + 0) (omega arith) (omega arith)
      ∙ ap (λ u. lowered_as g (leaf_shape (leaf.Unsigned b)) u s k h) (value_is (number (wrapped_at b (drop s slots) 0)) v st after is)
  leaf_put leaf.Char s st after v is k h =
      counted_as _ _ k h (k + 0) (h + 0) (omega arith) (omega arith)
      ∙ ap (λ u. lowered_as g (leaf_shape leaf.Char) u s k h) (scalar_is (is_scalar_value (wrapped_at 4 (drop s slots) 0)) (wrapped_at 4 (drop s slots) 0) is)
    where
      scalar_is : (b : Bool) (n : ℕ) → scalar_read b n st ≡ Ok (v, after) → scalar n ≡ v
      scalar_is true n is = value_is (scalar n) v st after is
      scalar_is false n is = absurd (no_read (fault.BadChar, st) v after is)
  leaf_put (leaf.Flags labels b) s st after v is k h =
      counted_as _ _ k h (k + 0) (h + 0) (omega arith) (omega arith)
      ∙ ap (λ u. lowered_as g (leaf_shape (leaf.Flags labels b)) u s k h) (value_is (flag_set (wrapped_at 4 (drop s slots) 0 % 2 ^ labels)) v st after is)

  -- ---- strings and handles

  text_is : (o : Option (List ℕ)) (st after : State) (v : Val) → text_value o st ≡ Ok (v, after)
      → (s k h : ℕ) → pointer_passed s (place_of g k) (text_units g.charset (or_no_scalars o)) (text_behind g (or_no_scalars o) k h) ≡ lowered_as g string_shape v s k h
  text_is None st after v is s k h = absurd (no_read (fault.BadText, st) v after is)
  text_is (Some cs) st after v is s k h =
      counted_as _ _ (k + 1) h (k + 1) (h + 0) refl (omega arith) ∙ ap (λ u. lowered_as g string_shape u s k h) (value_is (text cs) v st after is)

  string_put : (at n : ℕ) (st after : State) (v : Val) → read_text w.memory w.encoding at n st ≡ Ok (v, after)
      → (s k h : ℕ) → text_passed w g s at n k h ≡ lowered_as g string_shape v s k h
  unfolding read_text
  string_put at n st after v is s k h =
      let bytes = decoded (charset_of w.encoding n) (bytes_from w.memory at (text_size w.encoding n)) in
      let both = came (region w.memory (text_align w.encoding) at (text_size w.encoding n) st) (λ r. text_value bytes (after_text w.encoding n r.1)) v after is in
      text_is bytes (after_text w.encoding n both.0.1) after v both.2 s k h

  handle_put_is : (t : HandleType) (n : ℕ) (st after : State) (v : Val) → read_handle w.table t n st ≡ Ok (v, after)
      → (s k h : ℕ) → counted (put s (number_of g h)) [] k (h + 1) ≡ lowered_as g (handle_shape t) v s k h
  unfolding read_handle
  handle_put_is t n st after v is s k h =
      let e = found_is t (look_up w.table n (resource_of t)) (after_meeting st t n) after v is in
      counted_as _ _ k (h + 1) (k + 0) (h + 1) (omega arith) refl ∙ ap (λ u. lowered_as g (handle_shape t) u s k h) e.1

  -- ---- values in a row, fields and cases

  abbrev row_as : Shape → ℕ → Vals → ℕ → ℕ → ℕ → PassedOn
  row_as x d vs s k h =
      record {
        numbers = store_each (slots_by g x) d vs s k h;
        bytes = behind_each (behind_by g x) vs k h;
        part = k + part_count_each vs;
        handle = h + handle_count_each vs;
      }

  abbrev fields_as : Parts → Vals → ℕ → ℕ → ℕ → PassedOn
  fields_as ps vs s k h =
      record {
        numbers = slots_by_fields g ps vs s k h;
        bytes = behind_by_fields g ps vs k h;
        part = k + part_count_each vs;
        handle = h + handle_count_each vs;
      }

  abbrev carried_as : Payloads → ℕ → Val → ℕ → ℕ → ℕ → PassedOn
  carried_as ps n u s k h =
      record {
        numbers = slots_by_case g ps n u s k h;
        bytes = behind_by_case g ps n u k h;
        part = k + part_count u;
        handle = h + handle_count u;
      }

  none_counted : (k h : ℕ) → nothing_passed k h ≡ counted [] [] (k + 0) (h + 0)
  none_counted k h = counted_as [] [] k h (k + 0) (h + 0) (omega arith) (omega arith)

  each_is : (x : Shape) (W : ℕ → ℕ → ℕ → PassedOn)
      → ((s : ℕ) (st after : State) (v : Val) → read_flat w x (drop s slots) st ≡ Ok (v, after) → (k h : ℕ) → W s k h ≡ lowered_as g x v s k h)
      → (d n s : ℕ) (st after : State) (vs : Vals) → read_flat_each (read_flat w x) d n (drop s slots) st ≡ Ok (vs, after)
      → (k h : ℕ) → passed_each W d n s k h ≡ row_as x d vs s k h
  each_is x W one d zero s st after vs is k h = none_counted k h ∙ ap (λ us. row_as x d us s k h) (value_is no_vals vs st after is)
  each_is x W one d (suc n) s st after vs is k h =
      let r = came (read_flat w x (drop s slots) st) (λ r. mapped (λ us. val r.0 us) (read_flat_each (read_flat w x) d n (drop d (drop s slots)) r.1)) vs after is in
      let us = made (λ us. val r.0.0 us) (read_flat_each (read_flat w x) d n (drop d (drop s slots)) r.0.1) vs after r.2 in
      let there = ap (λ cs. read_flat_each (read_flat w x) d n cs r.0.1) (behind_both slots s d) ∙ us.1 in
      ap (λ a. passed_then a (passed_each W d n (s + d))) (one s st r.0.1 r.0.0 r.1 k h)
      ∙ passed_same (lowered_as g x r.0.0 s k h) (passed_each W d n (s + d)) (row_as x d us.0 (s + d)) (λ k h. each_is x W one d n (s + d) r.0.1 after us.0 there k h)
      ∙ counted_as _ _ _ _ (k + (part_count r.0.0 + part_count_each us.0)) (h + (handle_count r.0.0 + handle_count_each us.0)) (omega arith) (omega arith)
      ∙ ap (λ us. row_as x d us s k h) us.2

  case_joined : (b d : ℕ) (ps : Payloads) (i s : ℕ) (v : Val) (W : ℕ → ℕ → PassedOn)
      → ((bare i ≡ v) × ((k h : ℕ) → W k h ≡ nothing_passed k h)) ⊎ ((u : Val) × (bearing i u ≡ v) × ((k h : ℕ) → W k h ≡ carried_as ps i u (s + 1) k h))
      → (k h : ℕ) → passed_then (number_passed s i k h) W ≡ lowered_as g (cases_shape b d ps) v s k h
  case_joined b d ps i s v W (inl r) k h =
      passed_same (number_passed s i k h) W (λ k h. nothing_passed k h) (λ k h. r.1 k h)
      ∙ passed_none (number_passed s i k h)
      ∙ counted_as _ _ k h (k + 0) (h + 0) (omega arith) (omega arith)
      ∙ ap (λ u. lowered_as g (cases_shape b d ps) u s k h) r.0
  case_joined b d ps i s v W (inr r) k h =
      passed_same (number_passed s i k h) W (carried_as ps i r.0 (s + 1)) (λ k h. r.2 k h)
      ∙ ap (λ u. lowered_as g (cases_shape b d ps) u s k h) r.1

module _ (w : Source) (g : Given) (small : (i : ℕ) → slice_index w.memory i < 256) (slots : List CoreValue) where
  list_is : (e : Head) (x : Shape) → IsSized x → (at n : ℕ) (st after : State) (v : Val) → mapped elements (read_elements (read_at w x) w.memory e at n st) ≡ Ok (v, after)
      → (s k h : ℕ) → pointer_passed s (place_of g k) n (written_each (all_written w g (puts_of x)) e.size n at (place_of g k) (k + 1) h) ≡ lowered_as g (list_shape e x) v s k h
  unfolding read_elements
  list_is e x sized at n st after v is s k h =
      let vs = made elements (read_elements (read_at w x) w.memory e at n st) v after is in
      let r = came (region w.memory e.align at (n * e.size) st) (λ r. read_each (read_at w x) e.size n at r.1) vs.0 after vs.1 in
      ap (λ a. pointer_passed s (place_of g k) n a)
      (each_put_is w g small x (all_written w g (puts_of x)) (λ p s after v is q k h. stored_put w g small x sized p s after v is q k h) e.size n at r.0.1 after vs.0 r.2 (place_of g k) (k + 1) h)
      ∙ ap (λ i. pointed i vs.0) (sym (each_counted (read_at w x) e.size n at r.0.1 after vs.0 r.2))
      ∙ counted_as _ _ (k + 1 + part_count_each vs.0) (h + handle_count_each vs.0) (k + (1 + part_count_each vs.0)) (h + handle_count_each vs.0) (omega arith) refl
      ∙ ap (λ u. lowered_as g (list_shape e x) u s k h) vs.2
    where
      pointed : ℕ → Vals → PassedOn
      pointed i vs =
          record {
            numbers = put s (place_of g k) ++ put (s + 1) i;
            bytes = store_each (stored_by g x) e.size vs (place_of g k) (k + 1) h;
            part = k + 1 + part_count_each vs;
            handle = h + handle_count_each vs;
          }

  mutual
    pub lowered_put : (x : Shape) → IsFlatReadable x → (s : ℕ) (st after : State) (v : Val) → read_flat w x (drop s slots) st ≡ Ok (v, after)
        → (k h : ℕ) → all_passed w g slots (flat_puts_of x) s k h ≡ lowered_as g x v s k h
    lowered_put (leaf_shape l) sized s st after v is k h =
        one_passed w g slots (leaf_slot 0 l) s k h
        ∙ first (λ a. number_passed a (number_on l (wrapped_at (core_size l) slots a)) k h) s
        ∙ ap (λ n. number_passed s (number_on l n) k h) (wide_behind (core_size l) slots s)
        ∙ leaf_put w g slots l s st after v is k h
    lowered_put string_shape sized s st after v is k h =
        one_passed w g slots (text_slot 0) s k h
        ∙ first (λ a. text_passed w g a (wrapped_at 4 slots a) (wrapped_at 4 slots (a + 1)) k h) s
        ∙ ap (λ n. text_passed w g s n (wrapped_at 4 slots (s + 1)) k h) (slot_behind slots s 0 s (omega arith))
        ∙ ap (λ n. text_passed w g s (wrapped_at 4 (drop s slots) 0) n k h) (slot_behind slots s 1 (s + 1) refl)
        ∙ string_put w g slots (wrapped_at 4 (drop s slots) 0) (wrapped_at 4 (drop s slots) 1) st after v is s k h
    lowered_put (list_shape e x) sized s st after v is k h =
        one_passed w g slots (list_slot 0 e.size (puts_of x)) s k h
        ∙ first (λ a. pointer_passed a (place_of g k) (wrapped_at 4 slots (a + 1)) (written_each (all_written w g (puts_of x)) e.size (wrapped_at 4 slots (a + 1)) (wrapped_at 4 slots a) (place_of g k) (k + 1) h)) s
        ∙ ap (λ n. pointer_passed s (place_of g k) (wrapped_at 4 slots (s + 1)) (written_each (all_written w g (puts_of x)) e.size (wrapped_at 4 slots (s + 1)) n (place_of g k) (k + 1) h)) (slot_behind slots s 0 s (omega arith))
        ∙ ap (λ n. pointer_passed s (place_of g k) n (written_each (all_written w g (puts_of x)) e.size n (wrapped_at 4 (drop s slots) 0) (place_of g k) (k + 1) h)) (slot_behind slots s 1 (s + 1) refl)
        ∙ list_is e x sized.2 (wrapped_at 4 (drop s slots) 0) (wrapped_at 4 (drop s slots) 1) st after v is s k h
    lowered_put (fixed_list_shape e x n) sized s st after v is k h =
        let vs = made parts (read_flat_each (read_flat w x) e.width n (drop s slots) st) v after is in
        one_passed w g slots (each_slot 0 e.width n (flat_puts_of x)) s k h
        ∙ first (λ a. passed_each (all_passed w g slots (flat_puts_of x)) e.width n a k h) s
        ∙ each_is w g slots x (all_passed w g slots (flat_puts_of x)) (λ s st after v is k h. lowered_put x sized s st after v is k h) e.width n s st after vs.0 vs.1 k h
        ∙ ap (λ u. lowered_as g (fixed_list_shape e x n) u s k h) vs.2
    lowered_put (fields_shape ps) sized s st after v is k h =
        let vs = made parts (read_flat_parts w ps (drop s slots) st) v after is in
        fields_put ps sized 0 s s (omega arith) st after vs.0 vs.1 k h
        ∙ ap (λ u. lowered_as g (fields_shape ps) u s k h) vs.2
    lowered_put (cases_shape b d ps) sized s st after v is k h =
        cases_passed w g slots (flat_payload_puts ps) s k h
        ∙ ap (λ n. passed_then (number_passed s n k h) (case_passed w g slots (flat_payload_puts ps) n (s + 1))) (slot_behind slots s 0 s (omega arith))
        ∙ case_joined w g slots b d ps (wrapped_at 4 (drop s slots) 0) s v (case_passed w g slots (flat_payload_puts ps) (wrapped_at 4 (drop s slots) 0) (s + 1))
        (case_put ps sized (wrapped_at 4 (drop s slots) 0) (wrapped_at 4 (drop s slots) 0) (s + 1) st after v
        (ap (λ cs. read_flat_case w ps (wrapped_at 4 (drop s slots) 0) (wrapped_at 4 (drop s slots) 0) cs st) (behind_both slots s 1) ∙ is)) k h
    lowered_put (handle_shape t) sized s st after v is k h =
        one_passed w g slots (handle_slot 0) s k h
        ∙ first (λ a. handle_at_slot a) s
        ∙ handle_put_is w g slots t (wrapped_at 4 (drop s slots) 0) st after v is s k h
      where
        handle_at_slot : ℕ → PassedOn
        handle_at_slot a = record { numbers = put a (number_of g h); bytes = []; part = k; handle = h + 1 }

    fields_put : (ps : Parts) → ArePartsFlatReadable ps → (at s m : ℕ) → m ≡ s + at → (st after : State) (vs : Vals) → read_flat_parts w ps (drop m slots) st ≡ Ok (vs, after)
        → (k h : ℕ) → all_passed w g slots (flat_field_puts ps at) s k h ≡ fields_as w g slots ps vs m k h
    fields_put no_parts sized at s m here st after vs is k h =
        none_counted w g slots k h ∙ ap (λ us. fields_as w g slots no_parts us m k h) (value_is no_vals vs st after is)
    fields_put (part o e x ps) sized at s m here st after vs is k h =
        let r = came (read_flat w x (drop m slots) st) (λ r. mapped (λ us. val r.0 us) (read_flat_parts w ps (drop e.width (drop m slots)) r.1)) vs after is in
        let us = made (λ us. val r.0.0 us) (read_flat_parts w ps (drop e.width (drop m slots)) r.0.1) vs after r.2 in
        let there = ap (λ cs. read_flat_parts w ps cs r.0.1) (behind_both slots m e.width) ∙ us.1 in
        both_passed w g slots (placed_slots at (flat_puts_of x)) (flat_field_puts ps (at + e.width)) s k h
        ∙ ap (λ a. passed_then a (all_passed w g slots (flat_field_puts ps (at + e.width)) s))
        (placed_passed w g slots at (flat_puts_of x) s k h ∙ ap (λ n. all_passed w g slots (flat_puts_of x) n k h) (sym here) ∙ lowered_put x sized.0 m st r.0.1 r.0.0 r.1 k h)
        ∙ passed_same (lowered_as g x r.0.0 m k h) (all_passed w g slots (flat_field_puts ps (at + e.width)) s) (fields_as w g slots ps us.0 (m + e.width))
        (λ k h. fields_put ps sized.1 (at + e.width) s (m + e.width) (omega (arith, here)) r.0.1 after us.0 there k h)
        ∙ counted_as _ _ _ _ (k + (part_count r.0.0 + part_count_each us.0)) (h + (handle_count r.0.0 + handle_count_each us.0)) (omega arith) (omega arith)
        ∙ ap (λ us. fields_as w g slots (part o e x ps) us m k h) us.2

    case_put : (ps : Payloads) → ArePayloadsFlatReadable ps → (i n s : ℕ) (st after : State) (v : Val) → read_flat_case w ps i n (drop s slots) st ≡ Ok (v, after)
        → ((bare i ≡ v) × ((k h : ℕ) → case_passed w g slots (flat_payload_puts ps) n s k h ≡ nothing_passed k h))
        ⊎ ((u : Val) × (bearing i u ≡ v) × ((k h : ℕ) → case_passed w g slots (flat_payload_puts ps) n s k h ≡ carried_as w g slots ps n u s k h))
    case_put no_payloads sized i n s st after v is = absurd (no_read (fault.BadCase, st) v after is)
    case_put (nothing ps) sized i zero s st after v is = inl (value_is (bare i) v st after is, λ k h. refl)
    case_put (nothing ps) sized i (suc n) s st after v is = case_put ps sized i n s st after v is
    case_put (carried e x ps) sized i zero s st after v is =
        let u = made (λ v. bearing i v) (read_flat w x (drop s slots) st) v after is in
        inr (u.0, u.2, λ k h. lowered_put x sized.0 s st after u.0 u.1 k h)
    case_put (carried e x ps) sized i (suc n) s st after v is = case_put ps sized.1 i n s st after v is
