-- What an array of core values ends as, where its first elements are lent. No public clause cites
-- this module.
use Rattle.std.specs.Prelude.{List, length}
use Rattle.std.specs.List.{refill}
use Rattle.std.specs.Borrow.{Lends, Fml, RattleType, MutBor, Array}
use Rattle.cm_machine_model.specs.contracts.cells.Cells.{the_row}

module _ (T N : RattleType) (cells : MutBor (the_row T N).Denot) where
  -- once the borrow ends, the array begins with what was written through it
  abbrev pub lends_front : MutBor (List T.Denot) → Fml
  lends_front lent = Lends (the_row T N) (Array T 0) cells lent
      (λ written. record { xs = refill (length cells.now.xs) cells.now.xs written })
