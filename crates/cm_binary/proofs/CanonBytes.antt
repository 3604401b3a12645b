-- Canonical definitions: what is written spells them, and nothing shorter does.
use Rattle.std.proofs.Common.{ℕ, ◌-◌, ◌++◌, length, refl, arith}
use Rattle.std.specs.List.{list_all}
use Rattle.std.proofs.lemmas.Bool.{and_parts}
use Rattle.std.proofs.lemmas.List.{length-append}
use Rattle.cm_leb.specs.NumbersWritten.{shortest_unsigned}
use Rattle.cm_binary_grammar.specs.Spelling.{vec_spelling}
use Rattle.cm_binary_grammar.proofs.LeastLaws.{Least, done_least, bind_least, code_least, fixed_least, vec_least}
use Rattle.cm_binary_grammar.proofs.WrittenLaws.{Writes, done_written, bind_written, last_written, code_written, fixed_written, vec_written}
use Rattle.cm_binary_model.specs.declared.canons.CanonOption.TheVariants as options
use Rattle.cm_binary_model.specs.Trees as trees
use Rattle.cm_binary_model.specs.Trees.{CanonTree}
use Rattle.cm_binary_model.specs.Spelling.{option_spelling, canon_spelling}
use Rattle.cm_binary_model.specs.Parts.{is_index, holds_option, holds_canon}
use Rattle.cm_binary_model.proofs.Nonempty.{option_some}
use Rattle.cm_binary_forms.specs.declared.fault.DecodeReason.TheVariants.{BadNumber}
use Rattle.cm_binary_forms.specs.declared.codes.CanonForm.{CanonForm}
use Rattle.cm_binary_forms.specs.declared.codes.CanonForm.TheVariants as canon_forms
use Rattle.cm_binary_forms.specs.declared.codes.OptionForm.{OptionForm}
use Rattle.cm_binary_forms.specs.declared.codes.OptionForm.TheVariants as option_forms
use Rattle.cm_binary_forms.specs.Texts.{vector}
use Rattle.cm_binary_forms.specs.Canons.{canon_option_of, canon_option, canon_of, canon}
use Rattle.cm_binary.proofs.Texts.{index_least, index_written}

-- ---- nothing shorter

canon_option_of_least : (f : OptionForm) → Least (canon_option_of f) (λ o. length (option_spelling o) - 1)
unfolding canon_option_of
canon_option_of_least option_forms.Utf8 = done_least _ (omega arith)
canon_option_of_least option_forms.Utf16 = done_least _ (omega arith)
canon_option_of_least option_forms.Latin1Utf16 = done_least _ (omega arith)
canon_option_of_least option_forms.Memory = bind_least _ _ index_least (λ i. done_least _ (omega arith))
canon_option_of_least option_forms.Realloc = bind_least _ _ index_least (λ i. done_least _ (omega arith))
canon_option_of_least option_forms.PostReturn = bind_least _ _ index_least (λ i. done_least _ (omega arith))

canon_option_least : Least canon_option (λ o. length (option_spelling o))
unfolding canon_option
canon_option_least = bind_least _ _ (code_least _) canon_option_of_least

canon_of_least : (f : CanonForm) → Least (canon_of f) (λ c. length (canon_spelling c) - 1)
unfolding canon_of
canon_of_least canon_forms.Lift = bind_least _ _ (fixed_least _ _) (λ sort. bind_least _ _ index_least (λ func. bind_least _ _ (vec_least _ _ _ canon_option_least) (λ opts. bind_least _ _ index_least (λ ty. done_least _ (omega (arith, length-append {A = ℕ}))))))
canon_of_least canon_forms.Lower = bind_least _ _ (fixed_least _ _) (λ sort. bind_least _ _ index_least (λ func. bind_least _ _ (vec_least _ _ _ canon_option_least) (λ opts. done_least _ (omega (arith, length-append {A = ℕ})))))
canon_of_least canon_forms.ResourceNew = bind_least _ _ index_least (λ resource. done_least _ (omega arith))
canon_of_least canon_forms.ResourceDrop = bind_least _ _ index_least (λ resource. done_least _ (omega arith))
canon_of_least canon_forms.ResourceRep = bind_least _ _ index_least (λ resource. done_least _ (omega arith))

pub canon_least : Least canon (λ c. length (canon_spelling c))
unfolding canon
canon_least = bind_least _ _ (code_least _) canon_of_least

-- ---- what is written

canon_option_writes : Writes canon_option holds_option option_spelling
unfolding canon_option canon_option_of
canon_option_writes options.Utf8 h lt = bind_written _ (code_written {k = option_forms.Utf8} 0 refl) (done_written options.Utf8) refl
canon_option_writes options.Utf16 h lt = bind_written _ (code_written {k = option_forms.Utf16} 1 refl) (done_written options.Utf16) refl
canon_option_writes options.Latin1Utf16 h lt = bind_written _ (code_written {k = option_forms.Latin1Utf16} 2 refl) (done_written options.Latin1Utf16) refl
canon_option_writes (options.Memory i) h lt = bind_written _ (code_written {k = option_forms.Memory} 3 refl) (last_written options.Memory (index_written i h)) refl
canon_option_writes (options.Realloc i) h lt = bind_written _ (code_written {k = option_forms.Realloc} 4 refl) (last_written options.Realloc (index_written i h)) refl
canon_option_writes (options.PostReturn i) h lt = bind_written _ (code_written {k = option_forms.PostReturn} 5 refl) (last_written options.PostReturn (index_written i h)) refl

options_write : Writes (vector canon_option) (list_all holds_option) (vec_spelling option_spelling)
options_write = vec_written BadNumber canon_option holds_option option_spelling option_some canon_option_writes

pub canon_writes : Writes canon holds_canon canon_spelling
unfolding canon canon_of
canon_writes (trees.lift f opts t) h lt =
    let first = and_parts (is_index f) _ h in
    let both = and_parts (list_all holds_option opts) (is_index t) first.1 in
    let lengths = length-append (shortest_unsigned f) (vec_spelling option_spelling opts ++ shortest_unsigned t) in
    let more = length-append (vec_spelling option_spelling opts) (shortest_unsigned t) in
    bind_written _ (code_written {k = canon_forms.Lift} 0 refl) (bind_written _ fixed_written (bind_written _ (index_written f first.0) (bind_written _ (options_write opts both.0 (omega (arith, lengths, more, lt))) (last_written (λ ty. trees.lift f opts ty) (index_written t both.1)) refl) refl) refl) refl
canon_writes (trees.lower f opts) h lt =
    let both = and_parts (is_index f) (list_all holds_option opts) h in
    let lengths = length-append (shortest_unsigned f) (vec_spelling option_spelling opts) in
    bind_written _ (code_written {k = canon_forms.Lower} 1 refl) (bind_written _ fixed_written (bind_written _ (index_written f both.0) (last_written (λ o. trees.lower f o) (options_write opts both.1 (omega (arith, lengths, lt)))) refl) refl) refl
canon_writes (trees.resource_new r) h lt = bind_written _ (code_written {k = canon_forms.ResourceNew} 2 refl) (last_written trees.resource_new (index_written r h)) refl
canon_writes (trees.resource_drop r) h lt = bind_written _ (code_written {k = canon_forms.ResourceDrop} 3 refl) (last_written trees.resource_drop (index_written r h)) refl
canon_writes (trees.resource_rep r) h lt = bind_written _ (code_written {k = canon_forms.ResourceRep} 4 refl) (last_written trees.resource_rep (index_written r h)) refl
