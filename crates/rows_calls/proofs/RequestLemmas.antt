-- Requests that have an alignment.
use Rattle.std.proofs.Common.{◌<◌, List, [], ◌∷◌, ◌++◌}
use Rattle.cm_abi_model.specs.declared.request.Request.{Request}
use Rattle.cm_abi_model.specs.Answering.{AreAligned}

pub aligned_more : (rs : List Request) (r : Request) → AreAligned rs → 0 < r.align → AreAligned (rs ++ r ∷ [])
aligned_more [] r all some = (some, tt)
aligned_more (q ∷ rs) r all some = (all.0, aligned_more rs r all.1 some)
