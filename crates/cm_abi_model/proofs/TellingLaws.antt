-- Laws of what Telling defines, for this crate and those above it.
use Rattle.std.proofs.Common.{List, ℕ, length, ◌≡◌, [], refl, ◌∷◌, ap, suc, ◌++◌}
use Rattle.cm_abi_model.specs.Parts.{Part}
use Rattle.cm_abi_model.specs.Telling.{TellAll}
use Rattle.cm_abi_model.specs.Views.{View}
use Rattle.cm_abi_model.specs.declared.encoding.StringEncoding.{StringEncoding}
use Rattle.cm_abi_model.specs.declared.record.PartRecord.{PartRecord}

pub as_many : (w : View) (target : StringEncoding) (rs : List PartRecord) (ps : List Part) (at : List ℕ) → TellAll w target rs ps at → length rs ≡ length ps
as_many w target [] [] [] x = refl
as_many w target (r ∷ rs) (p ∷ ps) (a ∷ at) x = ap suc (as_many w target rs ps at x.1)
as_many w target rs ps at x = absurd x

-- records that tell parts, and others that tell others
pub tell_both : (w : View) (target : StringEncoding) (rs qs : List PartRecord) (ps os : List Part) (ms ns : List ℕ) → TellAll w target rs ps ms → TellAll w target qs os ns
    → TellAll w target (rs ++ qs) (ps ++ os) (ms ++ ns)
tell_both w target [] qs [] os [] ns h k = k
tell_both w target (r ∷ rs) qs (p ∷ ps) os (m ∷ ms) ns h k = (h.0, tell_both w target rs qs ps os ms ns h.1 k)
tell_both w target [] qs [] os (m ∷ ms) ns h k = absurd h
tell_both w target [] qs (p ∷ ps) os ms ns h k = absurd h
tell_both w target (r ∷ rs) qs [] os ms ns h k = absurd h
tell_both w target (r ∷ rs) qs (p ∷ ps) os [] ns h k = absurd h
