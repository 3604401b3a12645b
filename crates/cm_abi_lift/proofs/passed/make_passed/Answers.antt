use Rattle.std.proofs.Common.{ap, sym, subst}
use Rattle.cm_layout.specs.Shapes.{LayoutTy, shape_of_type}
use Rattle.cm_layout.specs.Sizes.{size_of}
use Rattle.cm_abi_lift.specs.FlatReading.{IsFlatReadable}
use Rattle.cm_abi_lift.proofs.WalkLemmas.{laid_ready}
use Rattle.cm_abi_lift.proofs.passed.make_passed.Goals as goal

pub make_flat-requires : goal.make_flat-requires
make_flat-requires g c =
    let t = c.requires.layout.0 in
    record { ready = subst IsFlatReadable (sym (ap (λ (l : LayoutTy). l.shape) c.requires.layout.1)) (laid_ready (size_of t) (shape_of_type t) (c.layouts.ensures.laid t) (c.numbers_are_sized.ensures.sized t)) }
