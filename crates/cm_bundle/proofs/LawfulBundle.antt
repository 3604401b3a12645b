-- Bundles are read exactly.
use Rattle.std.proofs.Common.{ℕ, zero, suc, List, [], ◌∷◌, length, ap, arith}
use Rattle.std.proofs.lemmas.List.{length-append}
use Rattle.std.specs.Prelude.{◌==◌}
use Rattle.cm_leb.specs.NumbersWritten.{unsigned_length}
use Rattle.cm_binary_grammar.specs.Grammar.{number}
use Rattle.cm_binary_grammar.proofs.Laws.{Lawful, done_lawful, bind_lawful, fail_lawful, code_lawful, number_lawful, raw_lawful, check_lawful, fixed_lawful, times_lawful}
use Rattle.cm_binary_grammar.proofs.WholeLaws.{LawfulWhole, exactly_lawful}
use Rattle.cm_binary_grammar.proofs.EndLaws.{IsNonempty, to_end_lawful}
use Rattle.cm_bundle.specs.declared.codes.Next.{Next}
use Rattle.cm_bundle.specs.declared.codes.Next.TheVariants as next
use Rattle.cm_bundle.specs.declared.fault.BundleReason.TheVariants as reasons
use Rattle.cm_bundle.specs.declared.spaces.Counts.{Counts}
use Rattle.cm_bundle.specs.Trees.{ExportTree, BodyTree}
use Rattle.cm_bundle.specs.Spelled.{Spaces, counted}
use Rattle.cm_bundle.specs.Grammar.{Production, short, this_number, bytes_of, text, sized, part_instance, alias, aliases, supply, supplies, instance_of, exports_of_all, part, exports, behind, body, custom, customs}
use Rattle.cm_bundle.specs.Names.{part_name, name_map, name_section, name_data}
use Rattle.cm_bundle.proofs.MeasuredLaws.{measured_lawful}

pub short_lawful : Lawful short
unfolding short
short_lawful = measured_lawful (λ n size. size == unsigned_length n) reasons.BadNumber (number reasons.BadNumber) (number_lawful reasons.BadNumber)

pub this_lawful : (n : ℕ) → Lawful (this_number n)
unfolding this_number
this_lawful n = check_lawful _ _ _ short_lawful

pub bytes_lawful : Lawful bytes_of
unfolding bytes_of
bytes_lawful = bind_lawful _ _ short_lawful (λ n. raw_lawful n)

pub text_lawful : Lawful text
unfolding text
text_lawful = bind_lawful _ _ short_lawful (λ n. check_lawful _ _ _ (raw_lawful n))

pub sized_lawful : {A : Type 0} (g : Production A) → Lawful g → Lawful (sized g)
sized_lawful g l = bind_lawful _ _ short_lawful (λ n. measured_lawful (λ x size. size == n) reasons.SizeMismatch g l)

pub part_instance_lawful : (places : List ℕ) → Lawful (part_instance places)
unfolding part_instance
part_instance_lawful places = bind_lawful _ _ (check_lawful _ _ _ short_lawful) (λ i. done_lawful _)

pub alias_lawful : (places : List ℕ) → Lawful (alias places)
unfolding alias
alias_lawful places = bind_lawful _ _ (code_lawful _) (λ sort. bind_lawful _ _ (fixed_lawful _ _) (λ target. bind_lawful _ _ (part_instance_lawful places) (λ part. bind_lawful _ _ text_lawful (λ name. done_lawful _))))

pub aliases_lawful : (places : List ℕ) → Lawful (aliases places)
unfolding aliases
aliases_lawful places = bind_lawful _ _ short_lawful (λ n. times_lawful _ (alias_lawful places) n)

pub supply_lawful : (lead tail : List ℕ) (c : Counts) (x : ExportTree) → Lawful (supply lead tail c x)
unfolding supply
supply_lawful lead tail c x = bind_lawful _ _ (fixed_lawful _ _) (λ before. bind_lawful _ _ text_lawful (λ name. bind_lawful _ _ (fixed_lawful _ _) (λ sort. bind_lawful _ _ (this_lawful _) (λ index. bind_lawful _ _ (fixed_lawful _ _) (λ behind. done_lawful _)))))

pub supplies_lawful : (lead tail : List ℕ) (c : Counts) (xs : List ExportTree) → Lawful (supplies lead tail c xs)
unfolding supplies
supplies_lawful lead tail c [] = done_lawful []
supplies_lawful lead tail c (x ∷ xs) = bind_lawful _ _ (supply_lawful lead tail c x) (λ one. bind_lawful _ _ (supplies_lawful lead tail (counted c x.sort) xs) (λ more. done_lawful _))

pub instance_lawful : (component : ℕ) (c : Counts) (xs : List ExportTree) → Lawful (instance_of component c xs)
unfolding instance_of
instance_lawful component c xs = bind_lawful _ _ (fixed_lawful _ _) (λ form. bind_lawful _ _ (this_lawful _) (λ number_of. bind_lawful _ _ (this_lawful _) (λ count. supplies_lawful [] [] c xs)))

pub exports_of_all_lawful : (c : Counts) (xs : List ExportTree) → Lawful (exports_of_all c xs)
unfolding exports_of_all
exports_of_all_lawful c xs = bind_lawful _ _ (this_lawful _) (λ count. supplies_lawful _ _ c xs)

pub part_lawful : (s : Spaces) → Lawful (part s)
unfolding part
part_lawful s = bind_lawful _ _ bytes_lawful (λ file. bind_lawful _ _ (fixed_lawful _ _) (λ aliased. bind_lawful _ _ (sized_lawful _ (aliases_lawful s.places)) (λ xs. bind_lawful _ _ (fixed_lawful _ _) (λ instanced. bind_lawful _ _ (sized_lawful _ (instance_lawful _ s.counts xs)) (λ arguments. done_lawful _)))))

pub exports_lawful : (s : Spaces) → Lawful (exports s)
unfolding exports
exports_lawful s = bind_lawful _ _ (sized_lawful _ (aliases_lawful s.places)) (λ xs. bind_lawful _ _ (fixed_lawful _ _) (λ exported. sized_lawful _ (exports_of_all_lawful s.counts xs)))

behind_lawful : (s : Spaces) (more : Spaces → Production BodyTree) → ((t : Spaces) → Lawful (more t)) → (n : Next) → Lawful (behind s more n)
behind_lawful s more l next.Exports = bind_lawful _ _ (exports_lawful s) (λ xs. done_lawful _)
behind_lawful s more l next.Part = bind_lawful _ _ (part_lawful s) (λ p. bind_lawful _ _ (l _) (λ b. done_lawful _))

pub body_lawful : (room : ℕ) (s : Spaces) → Lawful (body room s)
unfolding body
body_lawful zero s = fail_lawful _
body_lawful (suc room) s = bind_lawful _ _ (code_lawful _) (behind_lawful s (body room) (body_lawful room))

pub custom_lawful : Lawful custom
unfolding custom
custom_lawful = bind_lawful _ _ (fixed_lawful _ _) (λ id. bytes_lawful)

pub custom_nonempty : IsNonempty custom
unfolding custom
custom_nonempty x bytes s = omega (arith, ap length s.5, length-append s.1 s.2, ap length s.3)

pub customs_lawful : LawfulWhole customs
unfolding customs
customs_lawful = to_end_lawful (λ (s : Unit {0}). custom) (λ s x. s) (λ s. custom_lawful) (λ s. custom_nonempty) tt

-- ---- names

pub part_name_lawful : Lawful part_name
unfolding part_name
part_name_lawful = bind_lawful _ _ short_lawful (λ part. bind_lawful _ _ text_lawful (λ name. done_lawful _))

pub name_map_lawful : Lawful name_map
unfolding name_map
name_map_lawful = bind_lawful _ _ (fixed_lawful _ _) (λ sort. bind_lawful _ _ short_lawful (λ n. times_lawful _ part_name_lawful n))

pub name_section_lawful : Lawful name_section
unfolding name_section
name_section_lawful = bind_lawful _ _ (fixed_lawful _ _) (λ head. sized_lawful _ name_map_lawful)

pub name_data_lawful : LawfulWhole name_data
unfolding name_data
name_data_lawful = exactly_lawful _ _ name_section_lawful
