-- Fewer than two parts overlap nowhere.
use Rattle.std.proofs.Common.{ℕ, ◌<◌, List, [], ◌∷◌, length, arith}
use Rattle.cm_abi_model.specs.Overlap.{AreDisjoint}
use Rattle.cm_abi_model.specs.Placing.{regions_at}
use Rattle.cm_abi_model.specs.declared.record.PartRecord.{PartRecord}

pub few_apart : (rs : List PartRecord) (places : List ℕ) → length rs < 2 → AreDisjoint (regions_at rs places)
few_apart [] places lt = tt
few_apart (r ∷ []) [] lt = tt
few_apart (r ∷ []) (at ∷ places) lt = (λ a is one. one, tt)
few_apart (r ∷ s ∷ rs) places lt = absurd (omega (arith, lt))
