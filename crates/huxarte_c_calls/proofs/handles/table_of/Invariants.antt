use Rattle.std.proofs.Common.{◌≡◌, ◌^◌, take}
use Rattle.cm_abi_model.specs.Lifts.{LendsBelow}
use Rattle.huxarte_c_calls.specs.HandedOver.{handles_of}
use Rattle.huxarte_c_calls.proofs.handles.table_of.Given as goal

-- the handles so far are there, and no one is lent more often
abbrev pub invariant-loop-handle : goal.invariant-loop-handle
invariant-loop-handle l = record {
  handles : l.table.handles ≡ handles_of (take l.handle-index l.handles);
  lends : LendsBelow (2 ^ 100) l.table.handles;
}
