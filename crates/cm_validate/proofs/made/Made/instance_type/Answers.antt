use Rattle.std.proofs.Common.{◌≡◌, Option, ℕ, sym, subst}
use Rattle.cm_validate_entries.specs.Entries.{members_of}
use Rattle.cm_validate_entries.specs.declared.spaces.ExportedEntry.TheVariants as export
use Rattle.cm_validate.specs.Made.{InEachArena, IsInstanceNumber, IsTypeOf}
use Rattle.cm_validate.proofs.MadeLaws.{if_ok, made_already, one_more_made}
use Rattle.cm_validate.proofs.made.Made.instance_type.Goals as goal

pub returns-in-Some-get-clause-is : goal.returns-in-Some-get-clause-is
returns-in-Some-get-clause-is c =
    let i = c.args.instance.now in
    if_ok c.clone.result (λ copy. copy.value ≡ c.in-Some-get.ty.now.value)
    (λ t. InEachArena c.args.self.now c.args.number (export.Instance i) (λ types funcs s. IsTypeOf types funcs (members_of types funcs i) t.value)) _
    (λ copy same types funcs s made numbered. subst (IsTypeOf types funcs (members_of types funcs i)) (sym same)
    (made_already types funcs s c.args.self.now c.in-Some.number c.in-Some-get.ty.now i made (sym c.in-Some-get.ensures.value)
    (subst (λ (n : Option ℕ). IsInstanceNumber types funcs s n (export.Instance i)) c.in-Some.is numbered)))
    c.clone.ensures.cases

pub returns-clause-made : goal.returns-clause-made
returns-clause-made c = λ types funcs s made numbered.
    let i = c.args.instance.now in
    let n = subst (λ (n : Option ℕ). IsInstanceNumber types funcs s n (export.Instance i)) c.in-Some.is numbered in
    one_more_made types funcs s c.args.self.now c.insert.new.self c.in-Some.number c.in_ok-clone.field-0 i c.in_ok-insert.ensures.updates.0 made n
    (subst (IsTypeOf types funcs (members_of types funcs i)) (sym c.in_ok-clone.ensures.cases)
    (record { are = c.in_ok-ty.ensures.are types funcs; there = c.in_ok-ty.ensures.there _ _ numbered.there }))
