-- What resources are bound to, entry by entry.
use Rattle.std.proofs.Common.{◌≡◌, ℕ, ◌+◌, ◌<◌, List, [], ◌∷◌, ◌++◌, length, get_or, take, map, Option, Some, None, refl, sym, ap, ◌∙◌}
use Rattle.std.specs.Option.{option_or}
use Rattle.cm_types.specs.declared.resource.ResourceId.{ResourceId}
use Rattle.cm_types_arena.specs.Replaced.{Standing}
use Rattle.cm_hux_diff.specs.Breaking.{binds, bound}
use Rattle.cm_hux_diff.specs.Held.{Entry}
use Rattle.cm_hux_diff.proofs.Places.{mapped_next}

or_assoc : (a b c : Option ResourceId) → option_or (option_or a b) c ≡ option_or a (option_or b c)
or_assoc None b c = refl
or_assoc (Some x) b c = refl

or_none : (a : Option ResourceId) → option_or a None ≡ a
or_none None = refl
or_none (Some x) = refl

-- one more entry behind others
pub bound_more : (by : Standing) (es : List Entry) (e : Entry) (n : ℕ) → bound by (es ++ e ∷ []) n ≡ option_or (bound by es n) (binds by e.held n)
bound_more by [] e n = or_none (binds by e.held n)
bound_more by (x ∷ es) e n =
    ap (option_or (binds by x.held n)) (bound_more by es e n)
    ∙ sym (or_assoc (binds by x.held n) (bound by es n) (binds by e.held n))

-- the same behind what a table had
pub noted_more : (by : Standing) (es : List Entry) (e : Entry) (n : ℕ) (old before after : Option ResourceId) → before ≡ option_or old (bound by es n) → after ≡ option_or before (binds by e.held n) → after ≡ option_or old (bound by (es ++ e ∷ []) n)
noted_more by es e n old before after was is =
    is ∙ (ap (λ (o : Option ResourceId). option_or o (binds by e.held n)) was
    ∙ (or_assoc old (bound by es n) (binds by e.held n) ∙ ap (option_or old) (sym (bound_more by es e n))))

pub noted_none : (old : Option ResourceId) → old ≡ option_or old None
noted_none old = sym (or_none old)

-- one more of the code's entries
pub noted_next : {C : Type 0} (view : C → Entry) (by : Standing) (xs : List C) (i : ℕ) (x : C) (n : ℕ) (old before after : Option ResourceId) → i < length xs → x ≡ get_or xs i x → before ≡ option_or old (bound by (map view (take i xs)) n) → after ≡ option_or before (binds by (view x).held n) → after ≡ option_or old (bound by (map view (take (i + 1) xs)) n)
noted_next view by xs i x n old before after lt at was is =
    noted_more by (map view (take i xs)) (view x) n old before after was is
    ∙ ap (λ (es : List Entry). option_or old (bound by es n)) (sym (mapped_next view xs i x lt at))
