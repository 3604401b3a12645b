use Rattle.std.proofs.Common.{[], ◌∷◌}
use Rattle.std.proofs.lemmas.Result.{IfOk-weaker}
use Rattle.cm_types.specs.declared.core_value.CoreKind.TheVariants.{I32}
use Rattle.cm_layout.specs.Flattening.{JoinedFrom}
use Rattle.cm_layout.proofs.FlatLemmas.{joined_then}
use Rattle.cm_layout.proofs.flattening.join_pair.Goals as goal

pub returns : goal.returns
returns c =
    let xs = c.args.kinds.now.items in
    let ys = c.join_kind.new.kinds.items in
    let zs = c.join_kind-2.new.kinds.items in
    IfOk-weaker c.join_kind-2.result (JoinedFrom c.in_ok-next.next ys (I32 ∷ []) zs) (JoinedFrom c.args.at xs (I32 ∷ I32 ∷ []) zs)
    (λ n b. joined_then c.args.at c.in_ok-next.next n xs (I32 ∷ []) ys (I32 ∷ []) zs c.requires c.in_ok-next.ensures b) c.join_kind-2.ensures
