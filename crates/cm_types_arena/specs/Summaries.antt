-- What is known of a type without a look below it.
use Rattle.std.specs.Prelude.{ℕ, ◌+◌, ◌*◌, ◌||◌, max, true, false, List, [], ◌∷◌}
use Rattle.cm_types.specs.Types.{Ty}
use Rattle.cm_types.specs.Limits.{nodes_of, depth_of}
use Rattle.cm_types.specs.Holds.{holds, is_string, is_list, is_borrow, is_handle}
use Rattle.cm_types_arena.specs.declared.primitives.Primitive.TheVariants as primitive
use Rattle.cm_types_arena.specs.declared.summaries.Summary.{Summary}
use Rattle.cm_types_arena.specs.declared.type_defs.TypeDef.{TypeDef}
use Rattle.cm_types_arena.specs.declared.type_defs.TypeDef.TheVariants as def

-- what is known of a type
abbrev pub summary_of : Ty → Summary
summary_of t =
    record {
      nodes = nodes_of t;
      depth = depth_of t;
      holds_string = holds is_string t;
      holds_list = holds is_list t;
      holds_borrow = holds is_borrow t;
      holds_handle = holds is_handle t;
    }

-- of nothing
abbrev pub no_summary : Summary
no_summary =
    record {
      nodes = 0;
      depth = 0;
      holds_string = false;
      holds_list = false;
      holds_borrow = false;
      holds_handle = false;
    }

-- of two together
abbrev pub beside : Summary → Summary → Summary
beside a b =
    record {
      nodes = a.nodes + b.nodes;
      depth = max a.depth b.depth;
      holds_string = a.holds_string || b.holds_string;
      holds_list = a.holds_list || b.holds_list;
      holds_borrow = a.holds_borrow || b.holds_borrow;
      holds_handle = a.holds_handle || b.holds_handle;
    }

-- of several types together
abbrev pub summary_of_all : List Ty → Summary
summary_of_all [] = no_summary
summary_of_all (t ∷ ts) = beside (summary_of t) (summary_of_all ts)

-- of what has these parts, so many times each
abbrev pub above : ℕ → Summary → Summary
above times s = record s { nodes = 1 + times * s.nodes; depth = 1 + s.depth }

-- of a definition, given that of its parts together
abbrev pub def_summary : TypeDef → Summary → Summary
def_summary (def.Primitive primitive.String) s = record (above 1 s) { holds_string = true }
def_summary (def.List p) s = record (above 1 s) { holds_list = true }
def_summary (def.FixedList p n) s = above (max n 1) s
def_summary (def.Own r) s = record (above 1 s) { holds_handle = true }
def_summary (def.Borrow r) s = record (above 1 s) { holds_borrow = true; holds_handle = true }
def_summary _ s = above 1 s
