use Rattle.cm_validate_core.proofs.parts.parts_fault.Goals as goal

pub returns-in-Record : goal.returns-in-Record
returns-in-Record c = rw (c.in-Record.is, ← c.deref.ensures.value) c.record_fault.ensures

pub returns-in-Variant : goal.returns-in-Variant
returns-in-Variant c = rw (c.in-Variant.is, ← c.deref-in-Variant.ensures.value) c.variant_fault.ensures
