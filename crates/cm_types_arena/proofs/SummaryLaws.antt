-- Whether a definition is within the limits, from what is known of its parts.
use Rattle.std.proofs.Common.{◌≡◌, ℕ, ◌+◌, ◌*◌, ◌≤◌, max, List, map, Option, sym, ap, ◌∙◌, subst, arith}
use Rattle.std.proofs.Math.Nat.{mul-le-mul_right}
use Rattle.std.specs.Option.{SomeIff}
use Rattle.cm_types.specs.declared.limits.TheConstants.{MAX_NODES, MAX_DEPTH}
use Rattle.cm_types.specs.Types.{Ty}
use Rattle.cm_types.specs.Limits.{IsWithinLimits}
use Rattle.cm_types_arena.specs.declared.primitives.Primitive.TheVariants as primitive
use Rattle.cm_types_arena.specs.declared.summaries.Summary.{Summary}
use Rattle.cm_types_arena.specs.declared.type_defs.TypeDef.{TypeDef}
use Rattle.cm_types_arena.specs.declared.type_defs.TypeDef.TheVariants as def
use Rattle.cm_types_arena.specs.Summaries.{summary_of, summary_of_all, def_summary}
use Rattle.cm_types_arena.specs.TypeDefs.{type_at, def_type, def_parts}
use Rattle.cm_types_arena.proofs.DefLaws.{def_summary_is}

often : (n x : ℕ) → x ≤ 1 + max n 1 * x
often n x = let h : 1 ≤ max n 1 = omega arith in let g : 1 * x ≤ max n 1 * x = mul-le-mul_right x h in omega arith

-- what has parts has no fewer nodes than these
nodes_below : (d : TypeDef) (s : Summary) → s.nodes ≤ (def_summary d s).nodes
nodes_below (def.Primitive primitive.String) s = omega arith
nodes_below (def.Primitive primitive.Bool) s = omega arith
nodes_below (def.Primitive primitive.S8) s = omega arith
nodes_below (def.Primitive primitive.U8) s = omega arith
nodes_below (def.Primitive primitive.S16) s = omega arith
nodes_below (def.Primitive primitive.U16) s = omega arith
nodes_below (def.Primitive primitive.S32) s = omega arith
nodes_below (def.Primitive primitive.U32) s = omega arith
nodes_below (def.Primitive primitive.S64) s = omega arith
nodes_below (def.Primitive primitive.U64) s = omega arith
nodes_below (def.Primitive primitive.Char) s = omega arith
nodes_below (def.List p) s = omega arith
nodes_below (def.FixedList p n) s = often n s.nodes
nodes_below (def.Record fs) s = omega arith
nodes_below (def.Tuple ps) s = omega arith
nodes_below (def.Variant cs) s = omega arith
nodes_below (def.Enum ls) s = omega arith
nodes_below (def.Flags ls) s = omega arith
nodes_below (def.Option p) s = omega arith
nodes_below (def.Result ok error) s = omega arith
nodes_below (def.Own r) s = omega arith
nodes_below (def.Borrow r) s = omega arith

abbrev Within : Summary → Type 0
Within s = (s.nodes ≤ MAX_NODES) × (s.depth ≤ MAX_DEPTH)

abbrev together : List Ty → List ℕ → Summary
together types ps = summary_of_all (map (type_at types) ps)

pub too_large : (types : List Ty) (d : TypeDef) (ps : List ℕ) → ps ≡ def_parts d → ((together types ps).nodes ≤ MAX_NODES → ⊥) → IsWithinLimits (def_type types d) → ⊥
too_large types d ps e over within =
    let known : summary_of (def_type types d) ≡ def_summary d (together types ps) = def_summary_is types d ∙ ap (λ qs. def_summary d (together types qs)) (sym e) in
    let whole : Within (def_summary d (together types ps)) = subst Within known within in
    over (omega (arith, nodes_below d (together types ps), whole.0))

pub summary_known : (types : List Ty) (d : TypeDef) (ps : List ℕ) (r : Option Summary) (s : Summary) → ps ≡ def_parts d → s ≡ together types ps
    → SomeIff r (Within (def_summary d s)) (def_summary d s) → SomeIff r (IsWithinLimits (def_type types d)) (summary_of (def_type types d))
summary_known types d ps r s e f h =
    let known : def_summary d s ≡ summary_of (def_type types d) = ap (def_summary d) (f ∙ ap (together types) e) ∙ sym (def_summary_is types d) in
    subst (λ (x : Summary). SomeIff r (Within x) x) known h
