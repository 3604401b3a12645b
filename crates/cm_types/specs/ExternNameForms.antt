-- What the code's forms of extern names say.
use Rattle.std.specs.Prelude.{List, ℕ, Option}
use Rattle.std.specs.Borrow.{Bor}
use Rattle.std.specs.Option.{option_map, option_copied}
use Rattle.cm_types.specs.ExternNames.{NameTree, plain, method, static, constructor, interface}
use Rattle.cm_types.specs.declared.extern_names.ExternNameForm.{ExternNameForm}
use Rattle.cm_types.specs.declared.extern_names.ExternNameForm.TheVariants as form

-- the texts behind a pair of references
abbrev pub pair_view : Option (Bor (List ℕ) × Bor (List ℕ)) → Option (List ℕ × List ℕ)
pair_view o = option_map (λ p. (p.0.now, p.1.now)) o

-- what a form says
abbrev pub form_tree : ExternNameForm → NameTree
form_tree (form.Label l) = plain l.now
form_tree (form.Method r m) = method r.now m.now
form_tree (form.Static r m) = static r.now m.now
form_tree (form.Constructor r) = constructor r.now
form_tree (form.Interface ns pkg name version) =
    interface ns.now pkg.now name.now (option_copied version)
