use Rattle.std.proofs.Common.{List, ℕ, Some, ap, rules, sym}
use Rattle.cm_types.specs.Types.{cases, enum_type}
use Rattle.cm_types.specs.TypeTrees.{plain_from}
use Rattle.cm_types_arena.specs.TypeDefs.{type_at}
use Rattle.cm_wit_meanings.specs.declared.fault.MeaningFault.TheVariants as fault
use Rattle.cm_wit_meanings.specs.Added.{is_place}
use Rattle.cm_wit_meanings.specs.Faults.{IsTypeFault}
use Rattle.cm_wit_meanings.proofs.PartsAddedLaws.{answers_so, meant_so, refused_first, type_added}
use Rattle.cm_wit_meanings.proofs.definitions.push_enum.Goals as goal
use Rattle.cm_lemmas.proofs.Lists.{cloned}

pub returns-in_err-names : goal.returns-in_err-names
returns-in_err-names c = answers_so (search rules) (refused_first type_at is_place IsTypeFault c.args.types.now _ fault.Memory tt)

pub returns : goal.returns
returns c =
    let same = cloned c.args.names.now.items c.in_ok-names.names.items c.in_ok-names.ensures.cases.0 in
    meant_so (ap (λ (xs : List (List ℕ)). Some (cases enum_type (plain_from xs))) (sym same)) (type_added c.args.types.now c.push.new.types _ c.push.result c.push.ensures.there c.push.ensures.ty c.push.ensures.fault c.push.ensures.grown c.push.ensures.funcs)
