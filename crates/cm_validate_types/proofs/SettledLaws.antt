-- What a definition stands for, and breaks, where the types that it uses were copied.
use Rattle.std.proofs.Common.{inl, inr, ◌≡◌, ℕ, ◌<◌, ◌≤◌, true, false, List, [], ◌∷◌, ◌++◌, length, map, nat_le, Option, Some, None, Result, Ok, Err, IfOk, refl, sym, ap, ◌∙◌, arith, slice_get, get_or, take, suc, ◌+◌, ◌&&◌}
use Rattle.std.specs.Prelude.{slice_set}
use Rattle.std.specs.List.{list_all}
use Rattle.std.proofs.lemmas.Bool.{cases_Bool, le-leb, leb-true, and_from}
use Rattle.std.proofs.lemmas.List.Folds.{list_all-append}
use Rattle.std.proofs.lemmas.List.Sums.{sum_by_push, sum_by-take-le}
use Rattle.std.proofs.Math.Seq.{take-suc}
use Rattle.std.proofs.lemmas.List.{get_or_append_left}
use Rattle.cm_types.specs.declared.limits.TheConstants.{MAX_NODES, MAX_DEPTH}
use Rattle.cm_types.specs.DefTypes.{DefValTypeTree, FuncTypeTree}
use Rattle.cm_types.specs.Limits.{nodes_of, IsWithinLimits}
use Rattle.cm_types.specs.Types.{Ty, FuncTy, bool}
use Rattle.cm_types_arena.specs.TypeDefs.{type_at, params_type}
use Rattle.cm_types_arena.specs.Placed.{moved_by}
use Rattle.cm_types_arena.specs.declared.placed.Placed.{Placed}
use Rattle.cm_types_arena.specs.Replaced.{Standing, replaced}
use Rattle.cm_types.specs.declared.def_types.ValType.{ValType}
use Rattle.cm_validate_model.specs.declared.fault.ValidReason.{ValidReason}
use Rattle.cm_validate_model.specs.declared.fault.ValidReason.TheVariants as reason
use Rattle.cm_validate_model.specs.Definitions.{TypeDef, value, sorts_of}
use Rattle.cm_validate_model.specs.Reasons.{least, unless}
use Rattle.cm_validate_model.specs.TypeRules.{is_within_limits, limits_broken, parts_broken, value_def_broken}
use Rattle.cm_validate_types.specs.declared.entries.TypeEntry.{TypeEntry}
use Rattle.cm_validate_types.specs.declared.entries.TypeEntry.TheVariants as entry
use Rattle.cm_validate_types.specs.declared.scope.TypeScope.{TypeScope}
use Rattle.cm_validate_types.specs.Entries.{def_of}
use Rattle.cm_validate_types.specs.Expansion.{func_or_bool, type_or_bool, value_or_bool}
use Rattle.cm_validate_types.specs.TypeScopes.{Extends, arena_funcs, arena_types, own_types, unmoved_types}
use Rattle.cm_validate_types.specs.Uses.{are_uses_unmoved, func_uses_of, is_use_unmoved, nodes_together, params_of, uses_of}
use Rattle.cm_validate_types.proofs.LimitLaws.{is_over, value_left}
use Rattle.cm_validate_types.proofs.MovedLaws.{Unmoved, func_same, nodes_enough, params_enough, set_same, type_same}

-- ---- a copy of a type

pub copied_now : (s : Standing) (old new : List Ty) (place : ℕ) → Extends old new → place < length old → {E : Type 0} (r : Result ℕ E)
    → IfOk r (λ copy. type_at new copy ≡ replaced s (type_at old place)) → IfOk r (λ copy. type_at new copy ≡ replaced s (type_at new place))
copied_now s old new place x lt (Ok copy) h = h ∙ ap (replaced s) (sym (ap (λ ts. type_at ts place) x.1 ∙ get_or_append_left old x.0 bool place lt))
copied_now s old new place x lt (Err e) h = tt

-- in place of the type that it is a copy of
pub put_same : Unmoved → (types : List Ty) (funcs : List FuncTy) (es : List TypeEntry) (i : ℕ) (p q : Placed) → slice_get es i ≡ Some (entry.Value p) → q.by ≡ None
    → type_at types q.place ≡ replaced (moved_by p.by) (type_at types p.place) → map (def_of types funcs) (slice_set es i (entry.Value q)) ≡ map (def_of types funcs) es
put_same unmoved types funcs es i p q there n e =
    set_same (def_of types funcs) es i (entry.Value p) (entry.Value q) there
    (ap value (ap (λ o. replaced (moved_by o) (type_at types q.place)) n ∙ unmoved (type_at types q.place) ∙ e))

-- ---- definitions whose uses are settled

pub value_settled : Unmoved → (s : TypeScope) (own : List TypeDef) (us : List ValType) (v : DefValTypeTree) (t : Ty) → us ≡ uses_of v → are_uses_unmoved s.own.entries.items us ≡ true
    → own_types s ≡ own → t ≡ type_or_bool (unmoved_types s) v → t ≡ type_or_bool own v
value_settled unmoved s own us v t same settled now is =
    is
    ∙ type_same unmoved (arena_types s) (arena_funcs s) s.own.entries.items v (ap (are_uses_unmoved s.own.entries.items) (sym same) ∙ settled)
    ∙ ap (λ (ts : List TypeDef). type_or_bool ts v) now

pub func_settled : Unmoved → (s : TypeScope) (own : List TypeDef) (us : List ValType) (f : FuncTypeTree) (g : FuncTy) → us ≡ func_uses_of f → are_uses_unmoved s.own.entries.items us ≡ true
    → own_types s ≡ own → g ≡ func_or_bool (unmoved_types s) f → g ≡ func_or_bool own f
func_settled unmoved s own us f g same settled now is =
    is
    ∙ func_same unmoved (arena_types s) (arena_funcs s) s.own.entries.items f (ap (are_uses_unmoved s.own.entries.items) (sym same) ∙ settled)
    ∙ ap (λ (ts : List TypeDef). func_or_bool ts f) now

-- ---- uses that have too many nodes together

over : (t : Ty) (n : ℕ) → n ≤ nodes_of t → false ≡ nat_le n MAX_NODES → Some reason.TooLarge ≡ least (limits_broken t)
over t n le many =
    ap (λ b. least (unless b reason.TooLarge))
    (sym (is_over t (λ h. let e : false ≡ true = many ∙ le-leb n MAX_NODES (omega (arith, le, h.0)) in cc)))

pub too_many_nodes : (types : List TypeDef) (us : List ValType) (v : DefValTypeTree) → us ≡ uses_of v → parts_broken (sorts_of types) v ≡ [] → false ≡ nat_le (nodes_together types us) MAX_NODES
    → Some reason.TooLarge ≡ least (value_def_broken types v)
too_many_nodes types us v same parts many =
    over (type_or_bool types v) (nodes_together types (uses_of v)) (nodes_enough types v) (many ∙ ap (λ (ws : List ValType). nat_le (nodes_together types ws) MAX_NODES) same)
    ∙ sym (value_left types v parts)

pub too_many_params : (types : List TypeDef) (us : List ValType) (f : FuncTypeTree) → us ≡ params_of f → false ≡ nat_le (nodes_together types us) MAX_NODES
    → Some reason.TooLarge ≡ least (limits_broken (params_type (func_or_bool types f)))
too_many_params types us f same many =
    over (params_type (func_or_bool types f)) (nodes_together types (params_of f)) (params_enough types f) (many ∙ ap (λ (ws : List ValType). nat_le (nodes_together types ws) MAX_NODES) same)

-- ---- uses one after another

take_more : (us : List ValType) (i : ℕ) (d : ValType) → i < length us → take (i + 1) us ≡ take i us ++ get_or us i d ∷ []
take_more us i d lt =
    let n : i + 1 ≡ suc i = omega arith in
    ap (λ (k : ℕ). take k us) n ∙ take-suc us i d lt

pub one_more_settled : (es : List TypeEntry) (us : List ValType) (i : ℕ) (d : ValType) → i < length us → are_uses_unmoved es (take i us) ≡ true → is_use_unmoved es (get_or us i d) ≡ true
    → are_uses_unmoved es (take (i + 1) us) ≡ true
one_more_settled es us i d lt before now =
    ap (are_uses_unmoved es) (take_more us i d lt)
    ∙ list_all-append (is_use_unmoved es) (take i us) (get_or us i d ∷ [])
    ∙ and_from (are_uses_unmoved es (take i us)) (is_use_unmoved es (get_or us i d) && true) before (and_from (is_use_unmoved es (get_or us i d)) true now refl)

pub one_more_nodes : (types : List TypeDef) (us : List ValType) (i : ℕ) (d : ValType) → i < length us
    → nodes_together types (take (i + 1) us) ≡ nodes_together types (take i us) + nodes_of (value_or_bool types (get_or us i d))
one_more_nodes types us i d lt =
    ap (nodes_together types) (take_more us i d lt) ∙ sum_by_push (λ v. nodes_of (value_or_bool types v)) (take i us) (get_or us i d)

pub not_within : (types : List TypeDef) (us : List ValType) (k n : ℕ) → n ≡ nodes_together types (take k us) → MAX_NODES < n → false ≡ nat_le (nodes_together types us) MAX_NODES
not_within types us k n so_far many =
    let le = sum_by-take-le (λ v. nodes_of (value_or_bool types v)) us k in
    elim (cases_Bool (nat_le (nodes_together types us) MAX_NODES)) [
      | inl y ↦ absurd (omega (arith, leb-true (nodes_together types us) MAX_NODES y, le, so_far, many))
      | inr n ↦ sym n
    ]
