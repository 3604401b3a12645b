use Rattle.std.proofs.Common.{◌≡◌, ◌∙◌, ap, arith, ℕ, ◌<◌, IsTrue, nat_lt, vec_len}
use Rattle.std.proofs.lemmas.Bool.{ltb-true, lt-ltb}
use Rattle.cm_types.specs.TypeTrees.{type_of}
use Rattle.cm_layout.proofs.OffsetLaws.{count_fields, count_parts}
use Rattle.cm_layout.proofs.offsets.node_has_field.Goals as goal
use Rattle.cm_types.proofs.Seen.{seen_Record, seen_Tuple}

below : (n len count : ℕ) → count ≡ len → (IsTrue (nat_lt n len) → n < count) × (n < count → IsTrue (nat_lt n len))
below n len count e = (λ h. omega (arith, ltb-true n len h), λ h. lt-ltb n len (omega arith))

pub returns-in-Record : goal.returns-in-Record
returns-in-Record c =
    let v = c.in-Record.fields.value in
    rw (ap type_of c.in-Record.is ∙ seen_Record c.in-Record.fields)
    (below c.args.n c.len.result _ (omega (arith, count_fields v.items, c.len.ensures ∙ ap vec_len c.deref.ensures, v.ok.0)))

pub returns-in-Tuple : goal.returns-in-Tuple
returns-in-Tuple c =
    let v = c.in-Tuple.parts.value in
    rw (ap type_of c.in-Tuple.is ∙ seen_Tuple c.in-Tuple.parts)
    (below c.args.n c.len-in-Tuple.result _ (omega (arith, count_parts v.items, c.len-in-Tuple.ensures ∙ ap vec_len c.deref-in-Tuple.ensures, v.ok.0)))
