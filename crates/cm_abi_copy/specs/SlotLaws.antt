-- What core values tell as a source.
use Rattle.std.proofs.Common.{◌≡◌, ℕ, ◌<◌, length}
use Rattle.cm_abi_model.specs.Stores.{Given}

-- what is given is the same, so a handle has a number in it
pub has_number : (g given : Given) (h : ℕ) → g ≡ given → h < length given.numbers
    → h < length g.numbers
has_number g given h is lt = rw is lt
