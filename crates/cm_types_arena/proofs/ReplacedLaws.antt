-- Types with each resource replaced.
use Rattle.std.proofs.Common.{◌≡◌, ◌+◌, ◌*◌, Bool, false, List, max, Option, Some, None, refl, ap, ◌∙◌}
use Rattle.std.specs.Option.{option_map}
use Rattle.cm_types.specs.declared.resource.ResourceId.{ResourceId}
use Rattle.cm_types.specs.Resources.{resolve}
use Rattle.cm_types.specs.Resolved.{resolved, resolved_fields, resolved_cases, resolved_func}
use Rattle.cm_types.specs.Holds.{holds, fields_hold, cases_hold, is_handle}
use Rattle.cm_types.specs.Limits.{nodes_of, nodes_of_fields, nodes_of_cases, depth_of, depth_of_fields, depth_of_cases}
use Rattle.cm_types.specs.Spellable.{is_spellable, are_spellable, are_spellable_payloads, has_no_fields, has_no_cases}
use Rattle.cm_types.specs.Types.{Ty, FuncTy, Fields, Cases, bool, signed, unsigned, char, string, list, fixed_list, fields, cases, flags, own, borrow, no_fields, field, no_cases, plain, carrying}
use Rattle.cm_types_arena.specs.Replaced.{Standing, replaced, replaced_fields, replaced_cases, replaced_func}
use Rattle.cm_types.proofs.TypesLaws.{make_func}
use Rattle.cm_lemmas.proofs.Bools.{or_left, or_right}

-- ---- rows

module _ (row : List ResourceId) where
  mutual
    pub by_row : (t : Ty) → replaced (resolve row) t ≡ resolved row t
    by_row bool = refl
    by_row (signed w) = refl
    by_row (unsigned w) = refl
    by_row char = refl
    by_row string = refl
    by_row (list t) = ap list (by_row t)
    by_row (fixed_list t n) = ap (λ u. fixed_list u n) (by_row t)
    by_row (fields k fs) = ap (fields k) (fields_by_row fs)
    by_row (cases k cs) = ap (cases k) (cases_by_row cs)
    by_row (flags ls) = refl
    by_row (own r) = refl
    by_row (borrow r) = refl

    fields_by_row : (fs : Fields) → replaced_fields (resolve row) fs ≡ resolved_fields row fs
    fields_by_row no_fields = refl
    fields_by_row (field l t fs) = ap (λ u. field l u (replaced_fields (resolve row) fs)) (by_row t) ∙ ap (field l (resolved row t)) (fields_by_row fs)

    cases_by_row : (cs : Cases) → replaced_cases (resolve row) cs ≡ resolved_cases row cs
    cases_by_row no_cases = refl
    cases_by_row (plain l cs) = ap (plain l) (cases_by_row cs)
    cases_by_row (carrying l t cs) = ap (λ u. carrying l u (replaced_cases (resolve row) cs)) (by_row t) ∙ ap (carrying l (resolved row t)) (cases_by_row cs)

  result_by_row : (o : Option Ty) → option_map (replaced (resolve row)) o ≡ option_map (resolved row) o
  result_by_row None = refl
  result_by_row (Some t) = ap Some (by_row t)

  pub func_by_row : (f : FuncTy) → replaced_func (resolve row) f ≡ resolved_func row f
  func_by_row f = ap (λ ps. make_func ps (option_map (replaced (resolve row)) f.result)) (fields_by_row f.params) ∙ ap (make_func (resolved_fields row f.params)) (result_by_row f.result)

-- ---- types without handles

module _ (s : Standing) where
  mutual
    pub without : (t : Ty) → holds is_handle t ≡ false → replaced s t ≡ t
    without bool h = refl
    without (signed w) h = refl
    without (unsigned w) h = refl
    without char h = refl
    without string h = refl
    without (list t) h = ap list (without t h)
    without (fixed_list t n) h = ap (λ u. fixed_list u n) (without t h)
    without (fields k fs) h = ap (fields k) (fields_without fs h)
    without (cases k cs) h = ap (cases k) (cases_without cs h)
    without (flags ls) h = refl
    without (own r) h = absurd cc
    without (borrow r) h = absurd cc

    fields_without : (fs : Fields) → fields_hold is_handle fs ≡ false → replaced_fields s fs ≡ fs
    fields_without no_fields h = refl
    fields_without (field l t fs) h =
        ap (λ u. field l u (replaced_fields s fs)) (without t (or_left (holds is_handle t) (fields_hold is_handle fs) h))
        ∙ ap (field l t) (fields_without fs (or_right (holds is_handle t) (fields_hold is_handle fs) h))

    cases_without : (cs : Cases) → cases_hold is_handle cs ≡ false → replaced_cases s cs ≡ cs
    cases_without no_cases h = refl
    cases_without (plain l cs) h = ap (plain l) (cases_without cs h)
    cases_without (carrying l t cs) h =
        ap (λ u. carrying l u (replaced_cases s cs)) (without t (or_left (holds is_handle t) (cases_hold is_handle cs) h))
        ∙ ap (carrying l t) (cases_without cs (or_right (holds is_handle t) (cases_hold is_handle cs) h))

-- ---- twice

module _ (s u : Standing) where
  mutual
    pub twice : (t : Ty) → replaced u (replaced s t) ≡ replaced (λ r. u (s r)) t
    twice bool = refl
    twice (signed w) = refl
    twice (unsigned w) = refl
    twice char = refl
    twice string = refl
    twice (list t) = ap list (twice t)
    twice (fixed_list t n) = ap (λ x. fixed_list x n) (twice t)
    twice (fields k fs) = ap (fields k) (fields_twice fs)
    twice (cases k cs) = ap (cases k) (cases_twice cs)
    twice (flags ls) = refl
    twice (own r) = refl
    twice (borrow r) = refl

    pub fields_twice : (fs : Fields) → replaced_fields u (replaced_fields s fs) ≡ replaced_fields (λ r. u (s r)) fs
    fields_twice no_fields = refl
    fields_twice (field l t fs) = ap (λ x. field l x (replaced_fields u (replaced_fields s fs))) (twice t) ∙ ap (field l (replaced (λ r. u (s r)) t)) (fields_twice fs)

    cases_twice : (cs : Cases) → replaced_cases u (replaced_cases s cs) ≡ replaced_cases (λ r. u (s r)) cs
    cases_twice no_cases = refl
    cases_twice (plain l cs) = ap (plain l) (cases_twice cs)
    cases_twice (carrying l t cs) = ap (λ x. carrying l x (replaced_cases u (replaced_cases s cs))) (twice t) ∙ ap (carrying l (replaced (λ r. u (s r)) t)) (cases_twice cs)

  result_twice : (o : Option Ty) → option_map (replaced u) (option_map (replaced s) o) ≡ option_map (replaced (λ r. u (s r))) o
  result_twice None = refl
  result_twice (Some t) = ap Some (twice t)

  pub func_twice : (f : FuncTy) → replaced_func u (replaced_func s f) ≡ replaced_func (λ r. u (s r)) f
  func_twice f =
      ap (λ ps. make_func ps (option_map (replaced u) (option_map (replaced s) f.result))) (fields_twice f.params)
      ∙ ap (make_func (replaced_fields (λ r. u (s r)) f.params)) (result_twice f.result)

-- ---- what stays

module _ (s : Standing) where
  mutual
    pub nodes_stay : (t : Ty) → nodes_of (replaced s t) ≡ nodes_of t
    nodes_stay bool = refl
    nodes_stay (signed w) = refl
    nodes_stay (unsigned w) = refl
    nodes_stay char = refl
    nodes_stay string = refl
    nodes_stay (list t) = ap (λ n. 1 + n) (nodes_stay t)
    nodes_stay (fixed_list t k) = ap (λ n. 1 + max k 1 * n) (nodes_stay t)
    nodes_stay (fields k fs) = ap (λ n. 1 + n) (fields_nodes_stay fs)
    nodes_stay (cases k cs) = ap (λ n. 1 + n) (cases_nodes_stay cs)
    nodes_stay (flags ls) = refl
    nodes_stay (own r) = refl
    nodes_stay (borrow r) = refl

    fields_nodes_stay : (fs : Fields) → nodes_of_fields (replaced_fields s fs) ≡ nodes_of_fields fs
    fields_nodes_stay no_fields = refl
    fields_nodes_stay (field l t fs) = rw (nodes_stay t, fields_nodes_stay fs) refl

    cases_nodes_stay : (cs : Cases) → nodes_of_cases (replaced_cases s cs) ≡ nodes_of_cases cs
    cases_nodes_stay no_cases = refl
    cases_nodes_stay (plain l cs) = cases_nodes_stay cs
    cases_nodes_stay (carrying l t cs) = rw (nodes_stay t, cases_nodes_stay cs) refl

  mutual
    pub depth_stays : (t : Ty) → depth_of (replaced s t) ≡ depth_of t
    depth_stays bool = refl
    depth_stays (signed w) = refl
    depth_stays (unsigned w) = refl
    depth_stays char = refl
    depth_stays string = refl
    depth_stays (list t) = ap (λ n. 1 + n) (depth_stays t)
    depth_stays (fixed_list t k) = ap (λ n. 1 + n) (depth_stays t)
    depth_stays (fields k fs) = ap (λ n. 1 + n) (fields_depth_stays fs)
    depth_stays (cases k cs) = ap (λ n. 1 + n) (cases_depth_stays cs)
    depth_stays (flags ls) = refl
    depth_stays (own r) = refl
    depth_stays (borrow r) = refl

    fields_depth_stays : (fs : Fields) → depth_of_fields (replaced_fields s fs) ≡ depth_of_fields fs
    fields_depth_stays no_fields = refl
    fields_depth_stays (field l t fs) = rw (depth_stays t, fields_depth_stays fs) refl

    cases_depth_stays : (cs : Cases) → depth_of_cases (replaced_cases s cs) ≡ depth_of_cases cs
    cases_depth_stays no_cases = refl
    cases_depth_stays (plain l cs) = cases_depth_stays cs
    cases_depth_stays (carrying l t cs) = rw (depth_stays t, cases_depth_stays cs) refl

  -- a test of types that does not look at what is below, nor at which resource a handle is of
  module _ (test : Ty → Bool) (same : (t : Ty) → test (replaced s t) ≡ test t) where
    mutual
      pub holds_stays : (t : Ty) → holds test (replaced s t) ≡ holds test t
      holds_stays bool = refl
      holds_stays (signed w) = refl
      holds_stays (unsigned w) = refl
      holds_stays char = refl
      holds_stays string = refl
      holds_stays (list t) = rw (same (list t), holds_stays t) refl
      holds_stays (fixed_list t n) = rw (same (fixed_list t n), holds_stays t) refl
      holds_stays (fields k fs) = rw (same (fields k fs), fields_hold_stays fs) refl
      holds_stays (cases k cs) = rw (same (cases k cs), cases_hold_stays cs) refl
      holds_stays (flags ls) = refl
      holds_stays (own r) = same (own r)
      holds_stays (borrow r) = same (borrow r)

      fields_hold_stays : (fs : Fields) → fields_hold test (replaced_fields s fs) ≡ fields_hold test fs
      fields_hold_stays no_fields = refl
      fields_hold_stays (field l t fs) = rw (holds_stays t, fields_hold_stays fs) refl

      cases_hold_stays : (cs : Cases) → cases_hold test (replaced_cases s cs) ≡ cases_hold test cs
      cases_hold_stays no_cases = refl
      cases_hold_stays (plain l cs) = cases_hold_stays cs
      cases_hold_stays (carrying l t cs) = rw (holds_stays t, cases_hold_stays cs) refl

  no_fields_stay : (fs : Fields) → has_no_fields (replaced_fields s fs) ≡ has_no_fields fs
  no_fields_stay no_fields = refl
  no_fields_stay (field l t fs) = refl

  no_cases_stay : (cs : Cases) → has_no_cases (replaced_cases s cs) ≡ has_no_cases cs
  no_cases_stay no_cases = refl
  no_cases_stay (plain l cs) = refl
  no_cases_stay (carrying l t cs) = refl

  mutual
    pub spellable_stays : (t : Ty) → is_spellable (replaced s t) ≡ is_spellable t
    spellable_stays bool = refl
    spellable_stays (signed w) = refl
    spellable_stays (unsigned w) = refl
    spellable_stays char = refl
    spellable_stays string = refl
    spellable_stays (list t) = spellable_stays t
    spellable_stays (fixed_list t n) = rw (spellable_stays t) refl
    spellable_stays (fields k fs) = rw (no_fields_stay fs, fields_spellable_stay fs) refl
    spellable_stays (cases k cs) = rw (no_cases_stay cs, cases_spellable_stay cs) refl
    spellable_stays (flags ls) = refl
    spellable_stays (own r) = refl
    spellable_stays (borrow r) = refl

    fields_spellable_stay : (fs : Fields) → are_spellable (replaced_fields s fs) ≡ are_spellable fs
    fields_spellable_stay no_fields = refl
    fields_spellable_stay (field l t fs) = rw (spellable_stays t, fields_spellable_stay fs) refl

    cases_spellable_stay : (cs : Cases) → are_spellable_payloads (replaced_cases s cs) ≡ are_spellable_payloads cs
    cases_spellable_stay no_cases = refl
    cases_spellable_stay (plain l cs) = cases_spellable_stay cs
    cases_spellable_stay (carrying l t cs) = rw (spellable_stays t, cases_spellable_stay cs) refl
