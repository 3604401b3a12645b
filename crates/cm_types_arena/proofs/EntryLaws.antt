-- The entry of a definition.
use Rattle.std.proofs.Common.{◌≡◌, ℕ, ◌<◌, true, List, [], ◌∷◌, length, map, sym, ap, ◌∙◌, subst, Vec, Global}
use Rattle.std.specs.List.{AllByRecursion}
use Rattle.cm_types.specs.Types.{Ty}
use Rattle.cm_types.specs.TypeTrees.{type_of}
use Rattle.cm_types.specs.Limits.{IsWithinLimits}
use Rattle.cm_types.specs.Spellable.{is_spellable}
use Rattle.cm_types.specs.declared.type_trees.TypeNode.{TypeNode}
use Rattle.cm_types_arena.specs.declared.entries.TypeEntry.{TypeEntry}
use Rattle.cm_types_arena.specs.declared.summaries.Summary.{Summary}
use Rattle.cm_types_arena.specs.declared.type_defs.TypeDef.{TypeDef}
use Rattle.cm_types_arena.specs.Summaries.{summary_of}
use Rattle.cm_types_arena.specs.TypeDefs.{type_at, def_type, def_parts, is_spellable_def}
use Rattle.cm_types_arena.specs.Arena.{parts_in, types_in, IsEntry, IsArena}
use Rattle.cm_types_arena.specs.Places.{HasParts}
use Rattle.cm_types_arena.proofs.ArenaLaws.{spellable_there}
use Rattle.cm_types_arena.proofs.DefLaws.{AreSpellable, def_parts_are, def_spellable_is}
use Rattle.cm_types_arena.proofs.PlaceLaws.{parts_below}

pub parts_spellable : (es : List TypeEntry) (ps : List ℕ) → ∥ IsArena es ∥₁ → AllByRecursion (λ p. p < length (types_in es)) ps → AreSpellable (map (type_at (types_in es)) ps)
parts_spellable es [] a h = tt
parts_spellable es (p ∷ ps) a h = (spellable_there es p a h.0, parts_spellable es ps a h.1)

pub def_spelled : (es : List TypeEntry) (d : TypeDef) → ∥ IsArena es ∥₁ → HasParts (length (types_in es)) d → is_spellable (def_type (types_in es) d) ≡ is_spellable_def d
def_spelled es d a h =
    def_spellable_is (types_in es) d (subst AreSpellable (sym (def_parts_are (types_in es) d)) (parts_spellable es (def_parts d) a (parts_below (length (types_in es)) d h)))

pub entry_made : (es : List TypeEntry) (d : TypeDef) (node : TypeNode) (parts : Vec ℕ Global) (s : Summary) → ∥ IsArena es ∥₁ → HasParts (length (types_in es)) d
    → parts.items ≡ def_parts d → IsWithinLimits (def_type (types_in es) d) × (s ≡ summary_of (def_type (types_in es) d)) → is_spellable_def d ≡ true
    → type_of node ≡ def_type (types_in es) d
    → IsEntry (types_in es) (length (types_in es)) (record { node = node; parts = parts; summary = s })
entry_made es d node parts s a there is known spelled ty =
    record {
      summary = known.1 ∙ ap summary_of (sym ty);
      within_limits = subst IsWithinLimits (sym ty) known.0;
      spellable = ap is_spellable ty ∙ def_spelled es d a there ∙ spelled;
      earlier = subst (AllByRecursion (λ p. p < length (types_in es))) (sym is) (parts_below (length (types_in es)) d there);
      parts = ap parts_in ty ∙ def_parts_are (types_in es) d ∙ ap (map (type_at (types_in es))) (sym is);
    }
