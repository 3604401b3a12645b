use Rattle.std.proofs.Common.{◌≡◌, ◌∙◌, suc, sym, ap, arith, rules, inl, inr, slice_get}
use Rattle.std.proofs.lemmas.Bool.{cases_lt}
use Rattle.std.proofs.lemmas.Grind.{common_steps}
use Rattle.std.proofs.lemmas.Option.{gets}
use Rattle.std.proofs.lemmas.List.Sorted.{IsPartitionPoint-from_clause, IsPartitionedBy-leb}
use Rattle.std.specs.Option.{option_map}
use Rattle.std.specs.Prelude.{nat_le}
use Rattle.cm_validate_items.proofs.RangeLaws.{before, begun_at}
use Rattle.cm_validate_items.proofs.ranges.begun.Goals as goal

pub returns-in-Some : goal.returns-in-Some
returns-in-Some c = λ sorted.
    let xs = c.args.ranges.now in
    let i = c.partition_point-after.result in
    let point = IsPartitionPoint-from_clause (λ r. nat_le r.first c.args.number) xs i c.partition_point-after.ensures.partitioned (IsPartitionedBy-leb (λ r. r.first) xs c.args.number sorted) (search rules) in
    let told : option_map (λ r. r.now) c.get.result ≡ slice_get xs c.in-Some.last = grind (arith, common_steps, gets) in
    let place : i ≡ suc c.in-Some.last = omega (arith, c.in-Some.ensures.0, c.in-Some.ensures.1) in
    told ∙ sym (begun_at xs c.args.number i c.partition_point-after.ensures.bound point.0 point.1 ∙ ap (before xs) place)

pub returns-in-None : goal.returns-in-None
returns-in-None c = λ sorted.
    let xs = c.args.ranges.now in
    let i = c.partition_point-after.result in
    let point = IsPartitionPoint-from_clause (λ r. nat_le r.first c.args.number) xs i c.partition_point-after.ensures.partitioned (IsPartitionedBy-leb (λ r. r.first) xs c.args.number sorted) (search rules) in
    let place : i ≡ 0 = elim (cases_lt 0 i) [
      | inl some ↦ absurd (c.in-None.ensures (omega (arith, some)))
      | inr none ↦ omega (arith, none)
    ] in
    sym (begun_at xs c.args.number i c.partition_point-after.ensures.bound point.0 point.1 ∙ ap (before xs) place)
