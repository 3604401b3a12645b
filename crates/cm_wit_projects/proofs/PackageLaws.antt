-- Packages, file by file.
use Rattle.std.proofs.Common.{◌≡◌, ℕ, ◌+◌, ◌<◌, ◌≤◌, Bool, true, false, cond, ◌||◌, List, [], ◌∷◌, ◌++◌, length, map, take, drop, get_or, Option, Some, None, refl, sym, ap, ◌∙◌, append-nil}
use Rattle.std.specs.List.{cons_option, filter_map, list_any, take-map}
use Rattle.std.specs.Option.{option_map, option_or}
use Rattle.std.specs.Str.{bytes_eq}
use Rattle.std.proofs.lemmas.List.{drop_all, map-append, take_more}
use Rattle.std.proofs.lemmas.List.Folds.{list_any-append}
use Rattle.cm_lemmas.proofs.Bools.{or_false}
use Rattle.cm_lemmas.proofs.Lists.{next_element, Makes, makes_all, makes_join, makes_none, makes_push}
use Rattle.cm_wit_projects_reading.specs.declared.file.WitFile.{WitFile}
use Rattle.cm_wit_projects_reading.specs.declared.file.PackageName as name_code
use Rattle.cm_wit_projects_reading.specs.Trees.{File}
use Rattle.cm_wit_projects_reading.specs.Views.{file_tree, package_name_tree}
use Rattle.cm_wit_projects.specs.declared.packages.DeclaredPackage as code
use Rattle.cm_wit_projects.specs.Faults.{first}
use Rattle.cm_wit_projects.specs.Packages.{DeclaredPackage, again_from, has_line, is_among, package_of, package_text, packages_in}
use Rattle.cm_wit_projects.specs.Views.{package_view}

-- ---- the first line

-- The first line is that of the rest.
pub record Looks (files : List WitFile) (i : ℕ) : Type 0 where
  pub is : package_of (map file_tree files) ≡ package_of (map file_tree (drop i files))

pub looks_start : (files : List WitFile) → Looks files 0
looks_start files = record { is = refl }

at_line : (files : List WitFile) (i : ℕ) (f : WitFile) (name : Option name_code.PackageName) → i < length files → f ≡ get_or files i f → f.package ≡ name → Looks files i → package_of (map file_tree files) ≡ option_or (option_map package_name_tree name) (package_of (map file_tree (drop (i + 1) files)))
at_line files i f name lt e h l =
    l.is
    ∙ (ap package_of (next_element file_tree files i f lt e)
    ∙ ap (λ (o : Option name_code.PackageName). option_or (option_map package_name_tree o) (package_of (map file_tree (drop (i + 1) files)))) h)

pub looks_on : (files : List WitFile) (i : ℕ) (f : WitFile) → i < length files → f ≡ get_or files i f → f.package ≡ None → Looks files i → Looks files (i + 1)
looks_on files i f lt e h l = record { is = at_line files i f None lt e h l }

pub looks_here : (files : List WitFile) (i : ℕ) (f : WitFile) (p : name_code.PackageName) → i < length files → f ≡ get_or files i f → f.package ≡ Some p → Looks files i → Some (package_name_tree p) ≡ package_of (map file_tree files)
looks_here files i f p lt e h l = sym (at_line files i f (Some p) lt e h l)

pub looks_end : (files : List WitFile) (i : ℕ) → length files ≤ i → Looks files i → None ≡ package_of (map file_tree files)
looks_end files i le l = sym (l.is ∙ ap (λ (fs : List WitFile). package_of (map file_tree fs)) (drop_all i files le))

pub ruleset line_laws = (looks_start, looks_on, looks_here, looks_end)

-- ---- what is found

pub makes_skip : {A B C D : Type 0} (view : A → B) (F : ℕ → List B → List D) (shown : C → D) (xs : List A) (i : ℕ) (start out : List C) (x : A) → i < length xs → x ≡ get_or xs i x → ((ys : List B) → F i (view x ∷ ys) ≡ F (i + 1) ys) → Makes view F shown xs i start out → Makes view F shown xs (i + 1) start out
makes_skip view F shown xs i start out x lt e s f = makes_join view F shown xs i start out out [] x lt e (sym (append-nil (map shown out))) s f

found : {B D : Type 0} (h : B → Option D) (b : B) (d : D) (ys : List B) → h b ≡ Some d → filter_map h (b ∷ ys) ≡ d ∷ filter_map h ys
found {B} {D} h b d ys is = ap (λ (o : Option D). cons_option o (filter_map h ys)) is

not_found : {B D : Type 0} (h : B → Option D) (b : B) (ys : List B) → h b ≡ None → filter_map h (b ∷ ys) ≡ filter_map h ys
not_found {B} {D} h b ys is = ap (λ (o : Option D). cons_option o (filter_map h ys)) is

-- an element that gives something, and one that gives nothing
pub finds_some : {A B C D : Type 0} (view : A → B) (h : B → Option D) (shown : C → D) (xs : List A) (i : ℕ) (start out : List C) (x : A) (c : C) → i < length xs → x ≡ get_or xs i x → h (view x) ≡ Some (shown c) → Makes view (λ n. filter_map h) shown xs i start out → Makes view (λ n. filter_map h) shown xs (i + 1) start (out ++ c ∷ [])
finds_some view h shown xs i start out x c lt e is f = makes_push view (λ n. filter_map h) shown xs i start out x c lt e (λ ys. found h (view x) (shown c) ys is) f

pub finds_not : {A B C D : Type 0} (view : A → B) (h : B → Option D) (shown : C → D) (xs : List A) (i : ℕ) (start out : List C) (x : A) → i < length xs → x ≡ get_or xs i x → h (view x) ≡ None → Makes view (λ n. filter_map h) shown xs i start out → Makes view (λ n. filter_map h) shown xs (i + 1) start out
finds_not view h shown xs i start out x lt e is f = makes_skip view (λ n. filter_map h) shown xs i start out x lt e (λ ys. not_found h (view x) ys is) f

pub ruleset list_laws = (makes_none, makes_join, makes_push, makes_all)

pub ruleset find_laws = (makes_none, makes_all)

-- ---- files of a folder that had a line

file_more : (files : List WitFile) (i : ℕ) (f : WitFile) → i < length files → f ≡ get_or files i f → take (i + 1) (map file_tree files) ≡ take i (map file_tree files) ++ file_tree f ∷ []
file_more files i f lt e =
    take-map file_tree (i + 1) files
    ∙ (ap (map file_tree) (take_more files i f lt)
    ∙ (map-append file_tree (take i files) (get_or files i f ∷ [])
    ∙ (ap (λ (x : WitFile). map file_tree (take i files) ++ file_tree x ∷ []) (sym e)
    ∙ ap (λ (fs : List File). fs ++ file_tree f ∷ []) (sym (take-map file_tree i files)))))

pub had_more : (files : List WitFile) (i : ℕ) (f : WitFile) (had new : Bool) → i < length files → f ≡ get_or files i f → had ≡ list_any has_line (take i (map file_tree files)) → new ≡ (had || has_line (file_tree f)) → new ≡ list_any has_line (take (i + 1) (map file_tree files))
had_more files i f had new lt e h n =
    let before = take i (map file_tree files) in
    n ∙ (ap (λ (b : Bool). b || has_line (file_tree f)) h
    ∙ sym (ap (list_any has_line) (file_more files i f lt e)
    ∙ (list_any-append has_line before (file_tree f ∷ [])
    ∙ ap (λ (b : Bool). list_any has_line before || b) (or_false (has_line (file_tree f))))))

-- what a file adds, by what is known of the files before it and of its text
pub adds_same : (old new : List DeclaredPackage) (folder n : ℕ) (had h : Bool) (text t : List ℕ) (f : File) → new ≡ old ++ packages_in folder n had text f → had ≡ h → text ≡ t → new ≡ old ++ packages_in folder n h t f
adds_same old new folder n had h text t f e p q =
    e ∙ (ap (λ (b : Bool). old ++ packages_in folder n b text f) p
    ∙ ap (λ (s : List ℕ). old ++ packages_in folder n h s f) q)

-- ---- packages that are declared again

abbrev text_of : code.DeclaredPackage → List ℕ
text_of d = package_text (package_view d).name

-- The texts are those of the first packages, and what is declared again is so among the rest.
pub record Agains (packages : List code.DeclaredPackage) (i : ℕ) (texts : List (List ℕ)) : Type 0 where
  pub names : texts ≡ map (λ e. package_text e.name) (map package_view (take i packages))
  pub is : first (again_from (map package_view (take i packages)) (map package_view (drop i packages))) ≡ first (again_from [] (map package_view packages))

pub agains_start : (packages : List code.DeclaredPackage) (texts : List (List ℕ)) → texts ≡ [] → Agains packages 0 texts
agains_start packages texts none = record { names = none; is = refl }

step : (before : List DeclaredPackage) (d : DeclaredPackage) (ds : List DeclaredPackage) (b : Bool) → is_among before d ≡ b → again_from before (d ∷ ds) ≡ cond b (d ∷ []) [] ++ again_from (before ++ d ∷ []) ds
step before d ds b e = ap (λ (c : Bool). cond c (d ∷ []) [] ++ again_from (before ++ d ∷ []) ds) e

turn : (packages : List code.DeclaredPackage) (i : ℕ) (texts : List (List ℕ)) (d : code.DeclaredPackage) (text : List ℕ) (b : Bool) → i < length packages → d ≡ get_or packages i d → text ≡ text_of d → list_any (bytes_eq text) texts ≡ b → Agains packages i texts → first (cond b (package_view d ∷ []) [] ++ again_from (map package_view (take i packages) ++ package_view d ∷ []) (map package_view (drop (i + 1) packages))) ≡ first (again_from [] (map package_view packages))
turn packages i texts d text b lt e t h f =
    let before = map package_view (take i packages) in
    let among : is_among before (package_view d) ≡ b = sym (ap (λ (s : List ℕ). list_any (bytes_eq s) (map (λ (x : DeclaredPackage). package_text x.name) before)) t) ∙ (sym (ap (λ (ts : List (List ℕ)). list_any (bytes_eq text) ts) f.names) ∙ h) in
    sym (ap first (step before (package_view d) (map package_view (drop (i + 1) packages)) b among))
    ∙ (sym (ap (λ (ds : List DeclaredPackage). first (again_from before ds)) (next_element package_view packages i d lt e)) ∙ f.is)

one_more : (packages : List code.DeclaredPackage) (i : ℕ) (d : code.DeclaredPackage) → i < length packages → d ≡ get_or packages i d → map package_view (take (i + 1) packages) ≡ map package_view (take i packages) ++ package_view d ∷ []
one_more packages i d lt e =
    ap (map package_view) (take_more packages i d lt)
    ∙ (map-append package_view (take i packages) (get_or packages i d ∷ [])
    ∙ ap (λ (x : code.DeclaredPackage). map package_view (take i packages) ++ package_view x ∷ []) (sym e))

pub agains_on : (packages : List code.DeclaredPackage) (i : ℕ) (texts new : List (List ℕ)) (d : code.DeclaredPackage) (text : List ℕ) → i < length packages → d ≡ get_or packages i d → text ≡ text_of d → list_any (bytes_eq text) texts ≡ false → new ≡ texts ++ text ∷ [] → Agains packages i texts → Agains packages (i + 1) new
agains_on packages i texts new d text lt e t h n f =
    let before = map package_view (take i packages) in
    let more = one_more packages i d lt e in
    record {
      names = n ∙ (ap (λ (ts : List (List ℕ)). ts ++ text ∷ []) f.names
          ∙ (ap (λ (s : List ℕ). map (λ (x : DeclaredPackage). package_text x.name) before ++ s ∷ []) t
          ∙ (sym (map-append (λ (x : DeclaredPackage). package_text x.name) before (package_view d ∷ []))
          ∙ sym (ap (map (λ (x : DeclaredPackage). package_text x.name)) more))));
      is = ap (λ (xs : List DeclaredPackage). first (again_from xs (map package_view (drop (i + 1) packages)))) more ∙ turn packages i texts d text false lt e t h f;
    }

pub agains_here : (packages : List code.DeclaredPackage) (i : ℕ) (texts : List (List ℕ)) (d : code.DeclaredPackage) (text : List ℕ) → i < length packages → d ≡ get_or packages i d → text ≡ text_of d → list_any (bytes_eq text) texts ≡ true → Agains packages i texts → Some (package_view d) ≡ first (again_from [] (map package_view packages))
agains_here packages i texts d text lt e t h f = turn packages i texts d text true lt e t h f

pub agains_end : (packages : List code.DeclaredPackage) (i : ℕ) (texts : List (List ℕ)) → length packages ≤ i → Agains packages i texts → None ≡ first (again_from [] (map package_view packages))
agains_end packages i texts le f = sym (ap (λ (ds : List code.DeclaredPackage). first (again_from (map package_view (take i packages)) (map package_view ds))) (drop_all i packages le)) ∙ f.is

pub ruleset again_laws = (agains_start, agains_on, agains_here, agains_end)
