-- What holds of the layouts that the code makes.
use Rattle.std.proofs.Common.{◌≡◌}
use Rattle.std.specs.Prelude.{IfOk, Result}
use Rattle.std.proofs.lemmas.Result.{IfOk-weaker}
use Rattle.cm_types.specs.Types.{Ty}
use Rattle.cm_layout.specs.declared.layouts.Layout.{Layout}
use Rattle.cm_layout.specs.Laid.{IsMarked, Laid}
use Rattle.cm_layout.specs.Layouts.{layout_of}
use Rattle.cm_layout.specs.Shapes.{layout_at}
use Rattle.cm_layout.proofs.LaidLaws.{laid}
use Rattle.cm_layout.proofs.MarkLaws.{marked}

pub all_laid : {E : Type 0} (t : Ty) (r : Result Layout E) → IfOk r (λ l. layout_of l ≡ layout_at t) → IfOk r (λ l. Laid (layout_of l).head.size (layout_of l).shape)
all_laid t r h = IfOk-weaker r (λ l. layout_of l ≡ layout_at t) (λ l. Laid (layout_of l).head.size (layout_of l).shape) (λ l e. rw e (laid t)) h

pub all_marked : {E : Type 0} (t : Ty) (r : Result Layout E) → IfOk r (λ l. layout_of l ≡ layout_at t) → IfOk r (λ l. IsMarked (layout_of l).head (layout_of l).shape)
all_marked t r h = IfOk-weaker r (λ l. layout_of l ≡ layout_at t) (λ l. IsMarked (layout_of l).head (layout_of l).shape) (λ l e. rw e (marked t)) h
