-- Core instances: what they are made of is there, and what stands after them.
use Rattle.std.proofs.Common.{◌≡◌, ℕ, ◌+◌, ◌<◌, ◌≤◌, Bool, true, false, ◌&&◌, List, [], ◌∷◌, ◌++◌, length, get_or, take, drop, map, Option, Some, None, refl, sym, ap, ◌∙◌, add-one, drop-cons, nat_lt}
use Rattle.std.specs.Prelude.{is_some, not}
use Rattle.std.specs.Borrow.{Bor}
use Rattle.std.specs.List.{flat_map, list_all, slice_get}
use Rattle.std.specs.Option.{option_map}
use Rattle.std.specs.Prelude.{option_to_list}
use Rattle.std.proofs.lemmas.List.{drop_all, take_all}
use Rattle.std.proofs.lemmas.List.Folds.{flat_map-map}
use Rattle.std.proofs.lemmas.Option.{slice_get-map}
use Rattle.cm_binary_model.specs.Trees.{ArgTree, CoreExportTree, instantiate, core_exports}
use Rattle.cm_validate_model.specs.declared.fault.ValidReason.{ValidReason}
use Rattle.cm_validate_model.specs.declared.fault.ValidReason.TheVariants as reason
use Rattle.cm_validate_model.specs.Definitions.{CoreDef, CoreFuncDef, CoreInstanceDef}
use Rattle.cm_validate_model.specs.Reasons.{found, least, lesser, unless}
use Rattle.cm_validate_model.specs.Rules.{arg_broken, core_export_broken, core_instance_broken, texts_broken}
use Rattle.cm_validate_model.specs.Spaces.{Spaces, core_def_at, named_core_def}
use Rattle.cm_validate_core.specs.declared.entries.CoreInstanceEntry.{CoreInstanceEntry}
use Rattle.cm_validate_core.specs.declared.entries.CoreItem.{CoreItem}
use Rattle.cm_validate_core.specs.declared.spaces.CoreSpaces.{CoreSpaces}
use Rattle.cm_validate_core.specs.CoreSpaces.{IsCoreOf}
use Rattle.cm_validate_core.specs.Entries.{def_of, instance_of}
use Rattle.cm_validate_core.specs.Instances.{is_arg_there, is_export_there}
use Rattle.cm_lemmas.proofs.Options.{some_mapped}

-- ---- each is there

module _ {A B : Type 0} (test : B → Bool) (view : A → B) (xs : List A) (i : ℕ) (x : A) (lt : i < length xs) (is : x ≡ get_or xs i x) where
  split : map view (drop i xs) ≡ view x ∷ map view (drop (i + 1) xs)
  split = rw (add-one, drop-cons xs i x lt, ← is) refl

  pub fails_here : (all : Bool) → test (view x) ≡ false → list_all test (map view (drop i xs)) ≡ all → false ≡ all
  fails_here all e before = sym (ap (λ b. b && list_all test (map view (drop (i + 1) xs))) e) ∙ sym (ap (list_all test) split) ∙ before

  pub passes_on : (all : Bool) → test (view x) ≡ true → list_all test (map view (drop i xs)) ≡ all → list_all test (map view (drop (i + 1) xs)) ≡ all
  passes_on all e before = sym (ap (λ b. b && list_all test (map view (drop (i + 1) xs))) e) ∙ sym (ap (list_all test) split) ∙ before

  pub passes_here : list_all test (map view (drop i xs)) ≡ true → (test (view x) ≡ true) × (list_all test (map view (drop (i + 1) xs)) ≡ true)
  passes_here e = both (test (view x)) (list_all test (map view (drop (i + 1) xs))) (sym (ap (list_all test) split) ∙ e)
    where
      both : (a b : Bool) → (a && b) ≡ true → (a ≡ true) × (b ≡ true)
      both true b f = (refl, f)
      both false b f = absurd cc

pub passes_all : {A B : Type 0} (test : B → Bool) (view : A → B) (xs : List A) (i : ℕ) (all : Bool) → length xs ≤ i → list_all test (map view (drop i xs)) ≡ all → true ≡ all
passes_all test view xs i all le before = sym (ap (λ ys. list_all test (map view ys)) (drop_all i xs le)) ∙ before

pub some_of_none : {A : Type 0} (o : Option A) (b : Bool) → is_some o ≡ not b → b ≡ true → is_some o ≡ false
some_of_none o true e f = e
some_of_none o false e f = absurd cc

pub some_of_some : {A : Type 0} (o : Option A) (b : Bool) → is_some o ≡ not b → b ≡ false → is_some o ≡ true
some_of_some o true e f = absurd cc
some_of_some o false e f = e

-- the core instance of an index, where the code finds one
pub instance_there : (made : ℕ → CoreFuncDef) (c : CoreSpaces) (s : Spaces) (i : ℕ) (o : Option (Bor CoreInstanceEntry)) → IsCoreOf made c s
    → slice_get c.instances.items i ≡ option_map (λ e. e.now) o → is_some (slice_get s.core_instances i) ≡ is_some o
instance_there made c s i o r e =
    ap (λ (xs : List CoreInstanceDef). is_some (slice_get xs i)) r.instances
    ∙ ap is_some (slice_get-map (instance_of made) c.instances.items i)
    ∙ some_mapped (instance_of made) (slice_get c.instances.items i)
    ∙ ap is_some e
    ∙ some_mapped (λ (v : Bor CoreInstanceEntry). v.now) o

-- the definition of an index, where the code finds one
pub export_there : (made : ℕ → CoreFuncDef) (s : Spaces) (x : CoreExportTree) (o : Option CoreItem) → option_map (def_of made) o ≡ core_def_at s x.sort x.index → is_export_there s x ≡ is_some o
export_there made s x o e = ap is_some (sym e) ∙ some_mapped (def_of made) o

-- ---- what is broken where it is not

no_such_first : (o : Option ValidReason) → lesser (Some reason.NoSuchIndex) o ≡ Some reason.NoSuchIndex
no_such_first None = refl
no_such_first (Some reason.NoSuchIndex) = refl
no_such_first (Some reason.WrongSort) = refl
no_such_first (Some reason.EmptyType) = refl
no_such_first (Some reason.TooManyFlags) = refl
no_such_first (Some reason.BorrowInResult) = refl
no_such_first (Some reason.DuplicateName) = refl
no_such_first (Some reason.NeedsMemory) = refl
no_such_first (Some reason.NeedsRealloc) = refl
no_such_first (Some reason.OptionTwice) = refl
no_such_first (Some reason.OptionNotAllowed) = refl
no_such_first (Some reason.NotGuestFunction) = refl
no_such_first (Some reason.SecondMemory) = refl
no_such_first (Some reason.NotOwnResource) = refl
no_such_first (Some reason.BadAnnotatedName) = refl
no_such_first (Some reason.Memory) = refl
no_such_first (Some reason.NotImported) = refl
no_such_first (Some reason.TooLarge) = refl
no_such_first (Some reason.StoresLatin1) = refl

-- nothing else is broken than that one is not there
module _ {A : Type 0} (broken : A → List ValidReason) (is_there : A → Bool) (there : (x : A) → is_there x ≡ true → broken x ≡ []) (gone : (x : A) → is_there x ≡ false → broken x ≡ reason.NoSuchIndex ∷ []) where
  all_found : (xs : List A) → list_all is_there xs ≡ true → flat_map broken xs ≡ []
  all_found [] e = refl
  all_found (x ∷ xs) e = here (is_there x) refl e (all_found xs)
    where
      here : (b : Bool) → is_there x ≡ b → (b && list_all is_there xs) ≡ true → (list_all is_there xs ≡ true → flat_map broken xs ≡ []) → broken x ++ flat_map broken xs ≡ []
      here true f g rest = ap (λ (rs : List ValidReason). rs ++ flat_map broken xs) (there x f) ∙ rest g
      here false f g rest = absurd cc

  one_missing : (xs : List A) (rest : List ValidReason) → list_all is_there xs ≡ false → least (flat_map broken xs ++ rest) ≡ Some reason.NoSuchIndex
  one_missing [] rest e = absurd cc
  one_missing (x ∷ xs) rest e = here (is_there x) refl e (one_missing xs rest)
    where
      here : (b : Bool) → is_there x ≡ b → (b && list_all is_there xs) ≡ false → (list_all is_there xs ≡ false → least (flat_map broken xs ++ rest) ≡ Some reason.NoSuchIndex) → least ((broken x ++ flat_map broken xs) ++ rest) ≡ Some reason.NoSuchIndex
      here true f g more = ap (λ (rs : List ValidReason). least ((rs ++ flat_map broken xs) ++ rest)) (there x f) ∙ more g
      here false f g more = ap (λ (rs : List ValidReason). least ((rs ++ flat_map broken xs) ++ rest)) (gone x f) ∙ no_such_first (least (flat_map broken xs ++ rest))

found_there : {A : Type 0} (o : Option A) → is_some o ≡ true → found (λ (d : A). []) o ≡ []
found_there None e = absurd cc
found_there (Some d) e = refl

found_gone : {A : Type 0} (o : Option A) → is_some o ≡ false → found (λ (d : A). []) o ≡ reason.NoSuchIndex ∷ []
found_gone None e = refl
found_gone (Some d) e = absurd cc

module _ (s : Spaces) where
  arg_found : (a : ArgTree) → is_arg_there s a ≡ true → arg_broken s a ≡ []
  arg_found a = found_there (slice_get s.core_instances a.instance)

  arg_gone : (a : ArgTree) → is_arg_there s a ≡ false → arg_broken s a ≡ reason.NoSuchIndex ∷ []
  arg_gone a = found_gone (slice_get s.core_instances a.instance)

  export_found : (e : CoreExportTree) → is_export_there s e ≡ true → core_export_broken s e ≡ []
  export_found e = found_there (core_def_at s e.sort e.index)

  export_gone : (e : CoreExportTree) → is_export_there s e ≡ false → core_export_broken s e ≡ reason.NoSuchIndex ∷ []
  export_gone e = found_gone (core_def_at s e.sort e.index)

  abbrev arg_rules : Bool → List ArgTree → List ValidReason
  arg_rules b args = unless b reason.NoSuchIndex ++ flat_map (arg_broken s) args ++ texts_broken (map (λ a. a.name) args)

  no_module : (args : List ArgTree) → least (arg_rules false args) ≡ Some reason.NoSuchIndex
  no_module args = no_such_first (least (flat_map (arg_broken s) args ++ texts_broken (map (λ a. a.name) args)))

  pub module_missing : (m : ℕ) (args : List ArgTree) → nat_lt m s.core_modules ≡ false → Some reason.NoSuchIndex ≡ least (core_instance_broken s (instantiate m args))
  module_missing m args e = sym (ap (λ b. least (arg_rules b args)) e ∙ no_module args)

  pub arg_missing : (m : ℕ) (args : List ArgTree) → list_all (is_arg_there s) args ≡ false → Some reason.NoSuchIndex ≡ least (core_instance_broken s (instantiate m args))
  arg_missing m args e = sym (here (nat_lt m s.core_modules))
    where
      here : (b : Bool) → least (arg_rules b args) ≡ Some reason.NoSuchIndex
      here true = one_missing (arg_broken s) (is_arg_there s) arg_found arg_gone args (texts_broken (map (λ a. a.name) args)) e
      here false = no_module args

  pub args_there : (m : ℕ) (args : List ArgTree) → nat_lt m s.core_modules ≡ true → list_all (is_arg_there s) args ≡ true → least (texts_broken (map (λ a. a.name) args)) ≡ least (core_instance_broken s (instantiate m args))
  args_there m args e f = sym
      (ap (λ b. least (arg_rules b args)) e
      ∙ ap (λ (rs : List ValidReason). least (rs ++ texts_broken (map (λ a. a.name) args))) (all_found (arg_broken s) (is_arg_there s) arg_found arg_gone args f))

  pub export_missing : (es : List CoreExportTree) → list_all (is_export_there s) es ≡ false → Some reason.NoSuchIndex ≡ least (core_instance_broken s (core_exports es))
  export_missing es e = sym (one_missing (core_export_broken s) (is_export_there s) export_found export_gone es (texts_broken (map (λ x. x.name) es)) e)

  pub exports_there : (es : List CoreExportTree) → list_all (is_export_there s) es ≡ true → least (texts_broken (map (λ x. x.name) es)) ≡ least (core_instance_broken s (core_exports es))
  exports_there es e = sym (ap (λ (rs : List ValidReason). least (rs ++ texts_broken (map (λ x. x.name) es))) (all_found (core_export_broken s) (is_export_there s) export_found export_gone es e))

-- ---- what is there

-- the definition that an export names
pub one_def : (s : Spaces) (x : CoreExportTree) (d : CoreDef) → core_def_at s x.sort x.index ≡ Some d → named_core_def s x ≡ record { name = x.name; def = d } ∷ []
one_def s x d e = ap (λ (o : Option CoreDef). option_to_list (option_map (λ v. record { name = x.name; def = v }) o)) e

-- what all of them name
pub no_more : {A B C : Type 0} (f : B → List C) (g : A → B) (xs : List A) (i : ℕ) → length xs ≤ i → flat_map (λ x. f (g x)) (take i xs) ≡ flat_map f (map g xs)
no_more f g xs i le = ap (flat_map (λ x. f (g x))) (take_all i xs le) ∙ sym (flat_map-map f g xs)
