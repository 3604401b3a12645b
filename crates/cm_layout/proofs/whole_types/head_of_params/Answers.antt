use Rattle.std.proofs.Common.{◌≡◌, ℕ, Bool, length}
use Rattle.cm_types.specs.Types.{Ty, fields, tuple_type}
use Rattle.cm_types.specs.TypeTrees.{fields_of}
use Rattle.cm_layout.specs.Flattening.{flat_of}
use Rattle.cm_layout.specs.Heads.{IsTakenBy}
use Rattle.cm_layout.specs.PlainBytes.{is_bulk}
use Rattle.cm_layout.specs.Shapes.{head_of}
use Rattle.cm_layout.specs.Sizes.{align_of, size_of}
use Rattle.cm_layout.specs.declared.heads.Head.{Head}
use Rattle.cm_layout.proofs.HeadLaws.{fields_taken}
use Rattle.cm_layout.proofs.whole_types.head_of_params.Goals as goal

abbrev make_head : ℕ → ℕ → ℕ → Bool → Head
make_head s a w b = record { size = s; align = a; width = w; is_bulk = b }

whole_head : (t : Ty) (h : Head) → IsTakenBy t h → h ≡ head_of t
whole_head t h i =
    let s = i.size in
    let a = i.align in
    let w = i.width in
    let b = i.is_bulk in
    let whole : make_head h.size h.align h.width h.is_bulk ≡ make_head (size_of t) (align_of t) (length (flat_of t)) (is_bulk t) = cc in
    whole

pub returns : goal.returns
returns c =
    let fs = fields_of c.args.func.now.params.items in
    let e = rw c.deref.ensures.value at c.fields_so_far.ensures in
    let w = c.whole.ensures in
    whole_head (fields tuple_type fs) c.whole.result (fields_taken tuple_type fs c.fields_so_far.result c.whole.result e w.size w.align w.width w.is_bulk)
