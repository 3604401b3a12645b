-- Running the puts of a type copies what is shown.
use Rattle.std.proofs.Common.{◌≡◌, ℕ, zero, suc, ◌+◌, ◌^◌, ◌<◌, ◌⊎◌, inl, inr, List, [], ◌++◌, append_assoc, append-nil, Ok, refl, sym, ap, ◌∙◌, arith}
use Rattle.std.specs.Prelude.{slice_index, Option, Some, None}
use Rattle.cm_types.specs.declared.core_value.CoreValue.{CoreValue}
use Rattle.cm_types.specs.Values.{Val, Vals, no_vals, val, number, text, elements, bare, bearing, count_of}
use Rattle.cm_layout.specs.declared.heads.Head.{Head}
use Rattle.cm_layout.specs.declared.layouts.Leaf.{Leaf}
use Rattle.cm_layout.specs.declared.layouts.Leaf.TheVariants as leaf
use Rattle.cm_layout.specs.Shapes.{Shape, Parts, Payloads, leaf_shape, string_shape, list_shape, fixed_list_shape, fields_shape, cases_shape, handle_shape, no_parts, part, no_payloads, nothing, carried}
use Rattle.cm_abi_model.specs.Numbers.{number_at, wrapped_at}
use Rattle.cm_abi_model.specs.Parts.{handle_count, handle_count_each, part_count, part_count_each}
use Rattle.cm_abi_model.specs.Receives.{behind_each, put}
use Rattle.cm_abi_model.specs.Requests.{text_units}
use Rattle.cm_abi_model.specs.Stores.{Given, Placed, bytes_of, number_of, place_of, placed, pointer_bytes, store_each}
use Rattle.cm_abi_model.specs.Texts.{bytes_from, charset_of, text_size}
use Rattle.cm_abi_load.specs.Decoded.{decoded}
use Rattle.cm_abi_load.specs.Outcomes.{State}
use Rattle.cm_abi_load.specs.Reading.{Source, read_at}
use Rattle.cm_abi_load.specs.Sized.{ArePartsSized, ArePayloadsSized, IsSized, IsSizedLeaf, core_size}
use Rattle.cm_abi_store.specs.FlatLowering.{behind_by, behind_by_case, behind_by_fields, flat_number, slots_by, slots_by_case, slots_by_fields}
use Rattle.cm_abi_store.specs.Storing.{stored_by, stored_by_case, stored_by_fields}
use Rattle.cm_abi_programs.specs.Puts.{Put, Puts, CasePuts, cases_puts, field_puts, handle_put, leaf_puts, list_put, no_puts, one_put, payload_puts, puts_of, row_puts, text_put, with_placed, with_put}
use Rattle.cm_abi_programs.specs.SlotPuts.{SlotPut, SlotPuts, CaseSlotPuts, both_slots, cases_slots, each_slot, flat_field_puts, flat_payload_puts, flat_puts_of, handle_slot, leaf_slot, list_slot, one_slot, placed_slots, text_slot}
use Rattle.cm_abi_running.specs.Passing.{PassedOn, all_passed, case_passed, lowered_as, nothing_passed, number_on, number_passed, passed_each, passed_on, passed_then, pointer_passed, text_behind, text_passed}
use Rattle.cm_abi_running.specs.Putting.{Written, all_written, case_written, list_written, or_no_scalars, scalars_of_text, stored_as, text_written, written, written_bytes, written_each, written_then}
use Rattle.cm_abi_running.specs.Copying.{Copying, shown_to}
use Rattle.cm_abi_running.specs.PutsReady.{seen_from}
use Rattle.cm_abi_running.specs.Shown.{case_at, leaf_shown, or_no_scalars as shown_scalars, scalars_at, values_at, values_each}
use Rattle.cm_abi_copy.specs.FlatShown.{flat_shown, flat_shown_case, flat_shown_fields}
use Rattle.cm_abi_running.proofs.PutLemmas.{written_none, written_twice, written_same, at_start, not_moved}
use Rattle.cm_abi_running.proofs.SlotPutLaws.{passed_none, passed_same, first}

-- what the laws of running puts promise
pub record PutsBelow : Type 0 where
  pub behind : (w : Source) (g : Given) (cs : Puts) (d : Put) (p q k h : ℕ) → all_written w g (with_put cs d) p q k h ≡ written_then (all_written w g cs p q k h) (written w g d p q)
  pub joined : (w : Source) (g : Given) (o : ℕ) (cs ds : Puts) (p q k h : ℕ)
      → all_written w g (with_placed o cs ds) p q k h ≡ written_then (all_written w g cs p q k h) (all_written w g ds (p + o) (q + o))
  pub row : (w : Source) (g : Given) (d n : ℕ) (cs : Puts) (p q k h : ℕ) → all_written w g (row_puts d n cs) p q k h ≡ written_each (all_written w g cs) d n p q k h
  pub cases : (w : Source) (g : Given) (b d : ℕ) (cs : CasePuts) (p q k h : ℕ) → ((i : ℕ) → slice_index w.memory i < 2 ^ 8)
      → all_written w g (cases_puts b d cs) p q k h
      ≡ written_then (written_bytes (placed q (bytes_of b (number_at b w.memory p))) k h) (case_written w g cs (number_at b w.memory p) (p + d) (q + d))
  pub stored : (w : Source) (g : Given) (x : Shape) (p q k h : ℕ) (s after : State) (v : Val) → ((i : ℕ) → slice_index w.memory i < 2 ^ 8) → IsSized x
      → read_at w x p s ≡ Ok (v, after) → all_written w g (puts_of x) p q k h ≡ stored_as g x v q k h

pub record SlotPutsBelow : Type 0 where
  pub both : (w : Source) (g : Given) (slots : List CoreValue) (cs ds : SlotPuts) (s k h : ℕ)
      → all_passed w g slots (both_slots cs ds) s k h ≡ passed_then (all_passed w g slots cs s k h) (all_passed w g slots ds s)
  pub joined : (w : Source) (g : Given) (slots : List CoreValue) (o : ℕ) (cs : SlotPuts) (s k h : ℕ) → all_passed w g slots (placed_slots o cs) s k h ≡ all_passed w g slots cs (s + o) k h
  pub cases : (w : Source) (g : Given) (slots : List CoreValue) (cs : CaseSlotPuts) (s k h : ℕ)
      → all_passed w g slots (cases_slots cs) s k h ≡ passed_then (number_passed s (wrapped_at 4 slots s) k h) (case_passed w g slots cs (wrapped_at 4 slots s) (s + 1))

-- ---- one behind the other

abbrev counted : List Placed → ℕ → ℕ → Written
counted bs n m = record { bytes = bs; part = n; handle = m }

counted_as : (bs : List Placed) (i j k h : ℕ) → i ≡ k → j ≡ h → counted bs i j ≡ counted bs k h
counted_as bs i j k h a b = ap (λ n. counted bs n j) a ∙ ap (λ n. counted bs k n) b

same_scalars : (o : Option (List ℕ)) → or_no_scalars o ≡ shown_scalars o
same_scalars None = refl
same_scalars (Some cs) = refl

each_counted : (V : ℕ → Val) (d n p : ℕ) → count_of (values_each V d n p) ≡ n
each_counted V d zero p = refl
each_counted V d (suc n) p = let rest = each_counted V d n (p + d) in omega (arith, rest)

some_state : State
some_state = record { left = 0; handles = []; tags = [] }

module _ (laws : PutsBelow) (c : Copying) (small : (i : ℕ) → slice_index c.memory i < 2 ^ 8) where
  abbrev w : Source
  w = seen_from c

  abbrev g : Given
  g = c.given

  one_written : (d : Put) (p q k h : ℕ) → all_written w g (one_put d) p q k h ≡ written w g d p q k h
  one_written d p q k h = laws.behind w g no_puts d p q k h

  -- values in a row, fields and what a case carries, as they are stored
  abbrev row_as : Shape → ℕ → Vals → ℕ → ℕ → ℕ → Written
  row_as x d vs q k h =
      record {
        bytes = store_each (stored_by g x) d vs q k h;
        part = k + part_count_each vs;
        handle = h + handle_count_each vs;
      }

  abbrev fields_as : Parts → Vals → ℕ → ℕ → ℕ → Written
  fields_as ps vs q k h =
      record {
        bytes = stored_by_fields g ps vs q k h;
        part = k + part_count_each vs;
        handle = h + handle_count_each vs;
      }

  abbrev carried_as : Payloads → ℕ → Val → ℕ → ℕ → ℕ → Written
  carried_as ps n u q k h =
      record {
        bytes = stored_by_case g ps n u q k h;
        part = k + part_count u;
        handle = h + handle_count u;
      }

  leaf_put : (l : Leaf) → IsSizedLeaf l → (p q k h : ℕ) → all_written w g (leaf_puts l) p q k h ≡ stored_as g (leaf_shape l) (shown_to c (leaf_shape l) p) q k h
  leaf_put leaf.Bool sized p q k h = laws.stored w g (leaf_shape leaf.Bool) p q k h some_state some_state (leaf_shown leaf.Bool (number_at 1 c.memory p)) small sized refl
  leaf_put (leaf.Signed b) sized p q k h = laws.stored w g (leaf_shape (leaf.Signed b)) p q k h some_state some_state (leaf_shown (leaf.Signed b) (number_at b c.memory p)) small sized refl
  leaf_put (leaf.Unsigned b) sized p q k h = laws.stored w g (leaf_shape (leaf.Unsigned b)) p q k h some_state some_state (leaf_shown (leaf.Unsigned b) (number_at b c.memory p)) small sized refl
  -- a char is copied as a number of four bytes is
  leaf_put leaf.Char sized p q k h = laws.stored w g (leaf_shape (leaf.Unsigned 4)) p q k h some_state some_state (number (number_at 4 c.memory p)) small (inr (inr (inl refl))) refl
  leaf_put (leaf.Flags labels b) sized p q k h =
      laws.stored w g (leaf_shape (leaf.Flags labels b)) p q k h some_state some_state (leaf_shown (leaf.Flags labels b) (number_at b c.memory p)) small sized refl

  text_put_is : (at n q k h : ℕ) → text_written g (scalars_of_text w at n) q k h ≡ stored_as g string_shape (text (scalars_at c.memory c.encoding at n)) q k h
  text_put_is at n q k h =
      ap (λ cs. text_written g cs q k h) (same_scalars (decoded (charset_of c.encoding n) (bytes_from c.memory at (text_size c.encoding n))))
      ∙ counted_as _ (k + 1) h (k + 1) (h + 0) refl (omega arith)

  module _ (x : Shape) (V : ℕ → Val) (W : ℕ → ℕ → ℕ → ℕ → Written) (one : (p q k h : ℕ) → W p q k h ≡ stored_as g x (V p) q k h) where
    each_put_is : (d n p q k h : ℕ) → written_each W d n p q k h ≡ row_as x d (values_each V d n p) q k h
    each_put_is d zero p q k h = counted_as [] k h (k + 0) (h + 0) (omega arith) (omega arith)
    each_put_is d (suc n) p q k h =
        ap (λ a. written_then a (written_each W d n (p + d) (q + d))) (one p q k h)
        ∙ written_same (stored_as g x (V p) q k h) (written_each W d n (p + d) (q + d)) (row_as x d (values_each V d n (p + d)) (q + d)) (λ k h. each_put_is d n (p + d) (q + d) k h)
        ∙ counted_as _ _ _ (k + (part_count (V p) + part_count_each (values_each V d n (p + d)))) (h + (handle_count (V p) + handle_count_each (values_each V d n (p + d)))) (omega arith) (omega arith)

    list_put_is : (e : Head) (at n q k h : ℕ) → list_written g W e.size at n q k h ≡ stored_as g (list_shape e x) (elements (values_each V e.size n at)) q k h
    list_put_is e at n q k h =
        let vs = values_each V e.size n at in
        let head : Written = record { bytes = pointer_bytes q (place_of g k) n; part = k + 1; handle = h } in
        written_same head (written_each W e.size n at (place_of g k)) (row_as x e.size vs (place_of g k)) (λ k' h'. each_put_is e.size n at (place_of g k) k' h')
        ∙ ap (λ i. whole vs i) (sym (each_counted V e.size n at))
        ∙ counted_as _ (k + 1 + part_count_each vs) (h + handle_count_each vs) (k + (1 + part_count_each vs)) (h + handle_count_each vs) (omega arith) refl
      where
        whole : Vals → ℕ → Written
        whole vs i = counted (pointer_bytes q (place_of g k) i ++ store_each (stored_by g x) e.size vs (place_of g k) (k + 1) h) (k + 1 + part_count_each vs) (h + handle_count_each vs)

  case_joined : (b d : ℕ) (ps : Payloads) (i : ℕ) (v : Val) (W : ℕ → ℕ → ℕ → Written)
      → ((bare i ≡ v) × ((q k h : ℕ) → W q k h ≡ written_bytes [] k h)) ⊎ ((u : Val) × (bearing i u ≡ v) × ((q k h : ℕ) → W q k h ≡ carried_as ps i u q k h))
      → (q k h : ℕ) → written_then (written_bytes (placed q (bytes_of b i)) k h) (W (q + d)) ≡ stored_as g (cases_shape b d ps) v q k h
  case_joined b d ps i v W (inl r) q k h =
      written_same (written_bytes (placed q (bytes_of b i)) k h) (W (q + d)) (λ k h. written_bytes [] k h) (λ k h. r.1 (q + d) k h)
      ∙ written_none (written_bytes (placed q (bytes_of b i)) k h)
      ∙ counted_as (placed q (bytes_of b i)) k h (k + 0) (h + 0) (omega arith) (omega arith)
      ∙ ap (λ u. stored_as g (cases_shape b d ps) u q k h) r.0
  case_joined b d ps i v W (inr r) q k h =
      written_same (written_bytes (placed q (bytes_of b i)) k h) (W (q + d)) (carried_as ps i r.0 (q + d)) (λ k h. r.2 (q + d) k h)
      ∙ ap (λ u. stored_as g (cases_shape b d ps) u q k h) r.1

  mutual
    pub stored_put : (x : Shape) → IsSized x → (p q k h : ℕ) → all_written w g (puts_of x) p q k h ≡ stored_as g x (shown_to c x p) q k h
    stored_put (leaf_shape l) sized p q k h = leaf_put l sized p q k h
    stored_put string_shape sized p q k h =
        one_written (text_put 0) p q k h
        ∙ not_moved (λ a b. text_written g (scalars_of_text w (number_at 4 c.memory a) (number_at 4 c.memory (a + 4))) b k h) p q
        ∙ text_put_is (number_at 4 c.memory p) (number_at 4 c.memory (p + 4)) q k h
    stored_put (list_shape e x) sized p q k h =
        one_written (list_put 0 e.size (puts_of x)) p q k h
        ∙ not_moved (λ a b. list_written g (all_written w g (puts_of x)) e.size (number_at 4 c.memory a) (number_at 4 c.memory (a + 4)) b k h) p q
        ∙ list_put_is x (shown_to c x) (all_written w g (puts_of x)) (λ p q k h. stored_put x sized.1 p q k h) e (number_at 4 c.memory p) (number_at 4 c.memory (p + 4)) q k h
    stored_put (fixed_list_shape e x n) sized p q k h =
        laws.row w g e.size n (puts_of x) p q k h
        ∙ each_put_is x (shown_to c x) (all_written w g (puts_of x)) (λ p q k h. stored_put x sized p q k h) e.size n p q k h
    stored_put (fields_shape ps) sized p q k h = fields_put ps sized no_puts p q k h
    stored_put (cases_shape b d ps) sized p q k h =
        laws.cases w g b d (payload_puts ps) p q k h small
        ∙ case_joined b d ps (number_at b c.memory p) (shown_to c (cases_shape b d ps) p) (case_written w g (payload_puts ps) (number_at b c.memory p) (p + d))
        (case_put ps sized.2 (number_at b c.memory p) (number_at b c.memory p) (p + d)) q k h
    stored_put (handle_shape t) sized p q k h =
        one_written (handle_put 0) p q k h
        ∙ ap (λ y. counted (placed y (bytes_of 4 (number_of g h))) k (h + 1)) (at_start q)
        ∙ counted_as _ k (h + 1) (k + 0) (h + 1) (omega arith) refl

    fields_put : (ps : Parts) → ArePartsSized ps → (cs : Puts) (p q k h : ℕ)
        → all_written w g (field_puts ps cs) p q k h ≡ written_then (all_written w g cs p q k h) (fields_as ps (values_at c.memory c.encoding ps p) q)
    fields_put no_parts sized cs p q k h =
        sym (written_none (all_written w g cs p q k h))
        ∙ written_same (all_written w g cs p q k h) (λ k h. written_bytes [] k h) (fields_as no_parts no_vals q) (λ k h. counted_as [] k h (k + 0) (h + 0) (omega arith) (omega arith))
    fields_put (part o e x ps) sized cs p q k h =
        let v = shown_to c x (p + o) in
        let vs = values_at c.memory c.encoding ps p in
        let here = all_written w g cs p q k h in
        fields_put ps sized.1 (with_placed o cs (puts_of x)) p q k h
        ∙ ap (λ a. written_then a (fields_as ps vs q)) (laws.joined w g o cs (puts_of x) p q k h)
        ∙ written_twice here (all_written w g (puts_of x) (p + o) (q + o)) (fields_as ps vs q)
        ∙ written_same here (λ k h. written_then (all_written w g (puts_of x) (p + o) (q + o) k h) (fields_as ps vs q)) (fields_as (part o e x ps) (val v vs) q)
        (λ k h.
        ap (λ a. written_then a (fields_as ps vs q)) (stored_put x sized.0 (p + o) (q + o) k h)
        ∙ counted_as _ _ _ (k + (part_count v + part_count_each vs)) (h + (handle_count v + handle_count_each vs)) (omega arith) (omega arith))

    -- what the case of this number carries, if it carries anything
    case_put : (ps : Payloads) → ArePayloadsSized ps → (i n p : ℕ)
        → ((bare i ≡ case_at c.memory c.encoding ps i n p) × ((q k h : ℕ) → case_written w g (payload_puts ps) n p q k h ≡ written_bytes [] k h))
        ⊎ ((u : Val) × (bearing i u ≡ case_at c.memory c.encoding ps i n p) × ((q k h : ℕ) → case_written w g (payload_puts ps) n p q k h ≡ carried_as ps n u q k h))
    case_put no_payloads sized i n p = inl (refl, λ q k h. refl)
    case_put (nothing ps) sized i zero p = inl (refl, λ q k h. refl)
    case_put (nothing ps) sized i (suc n) p = case_put ps sized i n p
    case_put (carried e x ps) sized i zero p = inr (shown_to c x p, refl, λ q k h. stored_put x sized.0 p q k h)
    case_put (carried e x ps) sized i (suc n) p = case_put ps sized.1 i n p

-- ---- over core values

abbrev passed_counted : List Placed → List Placed → ℕ → ℕ → PassedOn
passed_counted ns bs k h = record { numbers = ns; bytes = bs; part = k; handle = h }

passed_as : (ns bs : List Placed) (i j k h : ℕ) → i ≡ k → j ≡ h → passed_counted ns bs i j ≡ passed_counted ns bs k h
passed_as ns bs i j k h a b = ap (λ x. passed_counted ns bs x j) a ∙ ap (λ x. passed_counted ns bs k x) b

leaf_on : (l : Leaf) (n : ℕ) → number_on l n ≡ flat_number l (leaf_shown l n)
leaf_on leaf.Bool n = refl
leaf_on (leaf.Signed b) n = refl
leaf_on (leaf.Unsigned b) n = refl
leaf_on leaf.Char n = refl
leaf_on (leaf.Flags labels b) n = refl

no_leaf_parts : (l : Leaf) (n : ℕ) → (part_count (leaf_shown l n) ≡ 0) × (handle_count (leaf_shown l n) ≡ 0)
no_leaf_parts leaf.Bool n = (refl, refl)
no_leaf_parts (leaf.Signed b) n = (refl, refl)
no_leaf_parts (leaf.Unsigned b) n = (refl, refl)
no_leaf_parts leaf.Char n = (refl, refl)
no_leaf_parts (leaf.Flags labels b) n = (refl, refl)

module _ (laws : PutsBelow) (slot_laws : SlotPutsBelow) (c : Copying) (slots : List CoreValue) (small : (i : ℕ) → slice_index c.memory i < 2 ^ 8) where
  abbrev from : Source
  from = seen_from c

  abbrev given : Given
  given = c.given

  one_passed : (d : SlotPut) (s k h : ℕ) → all_passed from given slots (one_slot d) s k h ≡ passed_on from given slots d s k h
  one_passed d s k h = passed_none (passed_on from given slots d s k h)

  abbrev passed_row_as : Shape → ℕ → Vals → ℕ → ℕ → ℕ → PassedOn
  passed_row_as x d vs s k h =
      record {
        numbers = store_each (slots_by given x) d vs s k h;
        bytes = behind_each (behind_by given x) vs k h;
        part = k + part_count_each vs;
        handle = h + handle_count_each vs;
      }

  abbrev passed_fields_as : Parts → Vals → ℕ → ℕ → ℕ → PassedOn
  passed_fields_as ps vs s k h =
      record {
        numbers = slots_by_fields given ps vs s k h;
        bytes = behind_by_fields given ps vs k h;
        part = k + part_count_each vs;
        handle = h + handle_count_each vs;
      }

  abbrev passed_carried_as : Payloads → ℕ → Val → ℕ → ℕ → ℕ → PassedOn
  passed_carried_as ps n u s k h =
      record {
        numbers = slots_by_case given ps n u s k h;
        bytes = behind_by_case given ps n u k h;
        part = k + part_count u;
        handle = h + handle_count u;
      }

  string_passed : (at n s k h : ℕ) → text_passed from given s at n k h ≡ lowered_as given string_shape (text (scalars_at c.memory c.encoding at n)) s k h
  string_passed at n s k h =
      ap (λ cs. pointer_passed s (place_of given k) (text_units given.charset cs) (text_behind given cs k h)) (same_scalars (decoded (charset_of c.encoding n) (bytes_from c.memory at (text_size c.encoding n))))
      ∙ passed_as _ _ (k + 1) h (k + 1) (h + 0) refl (omega arith)

  list_passed : (e : Head) (x : Shape) → IsSized x → (at n s k h : ℕ)
      → pointer_passed s (place_of given k) n (written_each (all_written from given (puts_of x)) e.size n at (place_of given k) (k + 1) h)
      ≡ lowered_as given (list_shape e x) (elements (values_each (shown_to c x) e.size n at)) s k h
  list_passed e x sized at n s k h =
      let vs = values_each (shown_to c x) e.size n at in
      ap (λ a. pointer_passed s (place_of given k) n a)
      (each_put_is laws c small x (shown_to c x) (all_written from given (puts_of x)) (λ p q k h. stored_put laws c small x sized p q k h) e.size n at (place_of given k) (k + 1) h)
      ∙ ap (λ i. pointed i vs) (sym (each_counted (shown_to c x) e.size n at))
      ∙ passed_as _ _ (k + 1 + part_count_each vs) (h + handle_count_each vs) (k + (1 + part_count_each vs)) (h + handle_count_each vs) (omega arith) refl
    where
      pointed : ℕ → Vals → PassedOn
      pointed i vs =
          record {
            numbers = put s (place_of given k) ++ put (s + 1) i;
            bytes = store_each (stored_by given x) e.size vs (place_of given k) (k + 1) h;
            part = k + 1 + part_count_each vs;
            handle = h + handle_count_each vs;
          }

  each_passed : (x : Shape) (V : ℕ → Val) (W : ℕ → ℕ → ℕ → PassedOn) → ((s k h : ℕ) → W s k h ≡ lowered_as given x (V s) s k h)
      → (d n s k h : ℕ) → passed_each W d n s k h ≡ passed_row_as x d (values_each V d n s) s k h
  each_passed x V W one d zero s k h = passed_as [] [] k h (k + 0) (h + 0) (omega arith) (omega arith)
  each_passed x V W one d (suc n) s k h =
      let vs = values_each V d n (s + d) in
      ap (λ a. passed_then a (passed_each W d n (s + d))) (one s k h)
      ∙ passed_same (lowered_as given x (V s) s k h) (passed_each W d n (s + d)) (passed_row_as x d vs (s + d)) (λ k h. each_passed x V W one d n (s + d) k h)
      ∙ passed_as _ _ _ _ (k + (part_count (V s) + part_count_each vs)) (h + (handle_count (V s) + handle_count_each vs)) (omega arith) (omega arith)

  passed_joined : (b d : ℕ) (ps : Payloads) (i s : ℕ) (v : Val) (W : ℕ → ℕ → PassedOn)
      → ((bare i ≡ v) × ((k h : ℕ) → W k h ≡ nothing_passed k h)) ⊎ ((u : Val) × (bearing i u ≡ v) × ((k h : ℕ) → W k h ≡ passed_carried_as ps i u (s + 1) k h))
      → (k h : ℕ) → passed_then (number_passed s i k h) W ≡ lowered_as given (cases_shape b d ps) v s k h
  passed_joined b d ps i s v W (inl r) k h =
      passed_same (number_passed s i k h) W (λ k h. nothing_passed k h) (λ k h. r.1 k h)
      ∙ passed_none (number_passed s i k h)
      ∙ passed_as _ _ k h (k + 0) (h + 0) (omega arith) (omega arith)
      ∙ ap (λ u. lowered_as given (cases_shape b d ps) u s k h) r.0
  passed_joined b d ps i s v W (inr r) k h =
      passed_same (number_passed s i k h) W (passed_carried_as ps i r.0 (s + 1)) (λ k h. r.2 k h)
      ∙ ap (λ u. lowered_as given (cases_shape b d ps) u s k h) r.1

  mutual
    pub lowered_put : (x : Shape) → IsSized x → (s k h : ℕ) → all_passed from given slots (flat_puts_of x) s k h ≡ lowered_as given x (flat_shown c slots x s) s k h
    lowered_put (leaf_shape l) sized s k h =
        let n = wrapped_at (core_size l) slots s in
        let none = no_leaf_parts l n in
        one_passed (leaf_slot 0 l) s k h
        ∙ first (λ a. number_passed a (number_on l (wrapped_at (core_size l) slots a)) k h) s
        ∙ ap (λ m. number_passed s m k h) (leaf_on l n)
        ∙ passed_as _ _ k h (k + part_count (leaf_shown l n)) (h + handle_count (leaf_shown l n)) (omega (arith, none.0)) (omega (arith, none.1))
    lowered_put string_shape sized s k h =
        one_passed (text_slot 0) s k h
        ∙ first (λ a. text_passed from given a (wrapped_at 4 slots a) (wrapped_at 4 slots (a + 1)) k h) s
        ∙ string_passed (wrapped_at 4 slots s) (wrapped_at 4 slots (s + 1)) s k h
    lowered_put (list_shape e x) sized s k h =
        one_passed (list_slot 0 e.size (puts_of x)) s k h
        ∙ first (λ a. pointer_passed a (place_of given k) (wrapped_at 4 slots (a + 1)) (written_each (all_written from given (puts_of x)) e.size (wrapped_at 4 slots (a + 1)) (wrapped_at 4 slots a) (place_of given k) (k + 1) h)) s
        ∙ list_passed e x sized.1 (wrapped_at 4 slots s) (wrapped_at 4 slots (s + 1)) s k h
    lowered_put (fixed_list_shape e x n) sized s k h =
        one_passed (each_slot 0 e.width n (flat_puts_of x)) s k h
        ∙ first (λ a. passed_each (all_passed from given slots (flat_puts_of x)) e.width n a k h) s
        ∙ each_passed x (flat_shown c slots x) (all_passed from given slots (flat_puts_of x)) (λ s k h. lowered_put x sized s k h) e.width n s k h
    lowered_put (fields_shape ps) sized s k h = passed_fields ps sized 0 s s (omega arith) k h
    lowered_put (cases_shape b d ps) sized s k h =
        slot_laws.cases from given slots (flat_payload_puts ps) s k h
        ∙ passed_joined b d ps (wrapped_at 4 slots s) s (flat_shown c slots (cases_shape b d ps) s) (case_passed from given slots (flat_payload_puts ps) (wrapped_at 4 slots s) (s + 1))
        (passed_case ps sized.2 (wrapped_at 4 slots s) (wrapped_at 4 slots s) (s + 1)) k h
    lowered_put (handle_shape t) sized s k h =
        one_passed (handle_slot 0) s k h
        ∙ first (λ a. passed_counted (put a (number_of given h)) [] k (h + 1)) s
        ∙ passed_as _ _ k (h + 1) (k + 0) (h + 1) (omega arith) refl

    passed_fields : (ps : Parts) → ArePartsSized ps → (at s m : ℕ) → m ≡ s + at → (k h : ℕ)
        → all_passed from given slots (flat_field_puts ps at) s k h ≡ passed_fields_as ps (flat_shown_fields c slots ps m) m k h
    passed_fields no_parts sized at s m here k h = passed_as [] [] k h (k + 0) (h + 0) (omega arith) (omega arith)
    passed_fields (part o e x ps) sized at s m here k h =
        let v = flat_shown c slots x m in
        let vs = flat_shown_fields c slots ps (m + e.width) in
        slot_laws.both from given slots (placed_slots at (flat_puts_of x)) (flat_field_puts ps (at + e.width)) s k h
        ∙ ap (λ a. passed_then a (all_passed from given slots (flat_field_puts ps (at + e.width)) s))
        (slot_laws.joined from given slots at (flat_puts_of x) s k h ∙ ap (λ n. all_passed from given slots (flat_puts_of x) n k h) (sym here) ∙ lowered_put x sized.0 m k h)
        ∙ passed_same (lowered_as given x v m k h) (all_passed from given slots (flat_field_puts ps (at + e.width)) s) (passed_fields_as ps vs (m + e.width))
        (λ k h. passed_fields ps sized.1 (at + e.width) s (m + e.width) (omega (arith, here)) k h)
        ∙ passed_as _ _ _ _ (k + (part_count v + part_count_each vs)) (h + (handle_count v + handle_count_each vs)) (omega arith) (omega arith)

    passed_case : (ps : Payloads) → ArePayloadsSized ps → (i n s : ℕ)
        → ((bare i ≡ flat_shown_case c slots ps i n s) × ((k h : ℕ) → case_passed from given slots (flat_payload_puts ps) n s k h ≡ nothing_passed k h))
        ⊎ ((u : Val) × (bearing i u ≡ flat_shown_case c slots ps i n s) × ((k h : ℕ) → case_passed from given slots (flat_payload_puts ps) n s k h ≡ passed_carried_as ps n u s k h))
    passed_case no_payloads sized i n s = inl (refl, λ k h. refl)
    passed_case (nothing ps) sized i zero s = inl (refl, λ k h. refl)
    passed_case (nothing ps) sized i (suc n) s = passed_case ps sized i n s
    passed_case (carried e x ps) sized i zero s = inr (flat_shown c slots x s, refl, λ k h. lowered_put x sized.0 s k h)
    passed_case (carried e x ps) sized i (suc n) s = passed_case ps sized.1 i n s
