-- The packages of a project: those of its folders, and those in braces (WIT.md, "Package
-- declaration" and "WIT Packages"; where the faults stand is this project's own choice).
use Rattle.std.specs.Prelude.{ℕ, ◌+◌, Bool, List, [], ◌∷◌, ◌++◌, length, map, take}
use Rattle.std.specs.Prelude.{Option, Some, None, is_some, option_to_list, slice_index_or}
use Rattle.std.specs.Prelude.{if◌then◌else◌}
use Rattle.std.specs.List.{filter_map, list_any}
use Rattle.std.specs.Option.{option_map, option_map_or, option_or}
use Rattle.std.specs.Str.{bytes_eq}
use Rattle.cm_types.specs.ExternNames.{version_suffix}
use Rattle.cm_wit_tokens.specs.declared.fault.WitReason.TheVariants as reason
use Rattle.cm_wit_projects_reading.specs.Places.{name_place}
use Rattle.cm_wit_projects_reading.specs.Trees.{File, FileItem, Gated, NestedPackage, PackageName}
use Rattle.cm_wit_projects_reading.specs.Trees.{item, nested}
use Rattle.cm_wit_projects.specs.declared.fault.ResolveFault.{ResolveFault}
use Rattle.cm_wit_projects.specs.Faults.{fault_at}

-- ---- names

-- `namespace:package`, with `@version` where there is one (58 is `:`)
abbrev pub package_text : PackageName → List ℕ
package_text p = p.namespace ++ 58 ∷ (p.name ++ version_suffix p.version)

-- packages of one name and one version are one; another build part of a version is another one
abbrev pub is_same_package : PackageName → PackageName → Bool
is_same_package p q = bytes_eq (package_text p) (package_text q)

-- ---- the lines of folders

-- the package of a folder: that of the first line in its files
abbrev pub package_of : List File → Option PackageName
package_of [] = None
package_of (f ∷ fs) = option_or f.pkg (package_of fs)

-- where the name in a line stands: no name of the text stands before it
abbrev pub line_place : List ℕ → ℕ
line_place text = name_place text (length text) 0

-- What is wrong with a file of a folder that has this package: a folder needs a line in one file at
-- least, and its lines are equal.
abbrev pub line_fault : ℕ → ℕ → Option PackageName → List ℕ → File → Option ResolveFault
line_fault folder n None text f = Some (fault_at folder n 0 reason.UnknownName)
line_fault folder n (Some p) text f =
    option_map_or
    (λ q. if is_same_package p q then None
    else Some (fault_at folder n (line_place text) reason.Unexpected))
    f.pkg None

-- the text of the n-th file of a folder with these
abbrev pub text_in : List (List ℕ) → ℕ → List ℕ
text_in texts n = slice_index_or texts n []

-- the texts of a folder
abbrev pub folder_in : List (List (List ℕ)) → ℕ → List (List ℕ)
folder_in texts folder = slice_index_or texts folder []

-- of the files of a folder that has this package, from the n-th on
abbrev pub line_faults : List (List ℕ) → ℕ → Option PackageName → ℕ → List File
    → List ResolveFault
line_faults texts folder p n [] = []
line_faults texts folder p n (f ∷ fs) =
    option_to_list (line_fault folder n p (text_in texts n) f)
    ++ line_faults texts folder p (n + 1) fs

-- of folders, from this one on
abbrev pub folder_faults : List (List (List ℕ)) → ℕ → List (List File) → List ResolveFault
folder_faults texts folder [] = []
folder_faults texts folder (fs ∷ others) =
    line_faults (folder_in texts folder) folder (package_of fs) 0 fs
    ++ folder_faults texts (folder + 1) others

-- ---- where packages are declared

-- a package, where it is declared: its file, and how many bytes of the text are left from where its
-- declaration begins
pub record DeclaredPackage : Type 0 where
  pub folder : ℕ
  pub file : ℕ
  pub left : ℕ
  pub name : PackageName

-- whether a file has a line
abbrev pub has_line : File → Bool
has_line f = is_some f.pkg

-- that of a folder is declared by its first line, at the front of the text
abbrev pub line_package : ℕ → ℕ → Bool → List ℕ → File → Option DeclaredPackage
line_package folder n had text f =
    if had then None
    else option_map
    (λ p. record { folder = folder; file = n; left = length text; name = p }) f.pkg

-- the package in braces that an item is
abbrev pub nested_of : FileItem → Option NestedPackage
nested_of (item x) = None
nested_of (nested p) = Some p

abbrev pub braced_package : ℕ → ℕ → Gated FileItem → Option DeclaredPackage
braced_package folder n g = option_map
    (λ p. record { folder = folder; file = n; left = g.item.0; name = p.name })
    (nested_of g.item.1)

-- those of a file, behind files of its folder that had a line or none
abbrev pub packages_in : ℕ → ℕ → Bool → List ℕ → File → List DeclaredPackage
packages_in folder n had text f =
    option_to_list (line_package folder n had text f)
    ++ filter_map (braced_package folder n) f.items

-- those of a folder of these files, from the n-th on
abbrev pub packages_from : List (List ℕ) → List File → ℕ → ℕ → List File → List DeclaredPackage
packages_from texts all folder n [] = []
packages_from texts all folder n (f ∷ fs) =
    packages_in folder n (list_any has_line (take n all)) (text_in texts n) f
    ++ packages_from texts all folder (n + 1) fs

-- those of folders, from this one on
abbrev pub packages_of : List (List (List ℕ)) → ℕ → List (List File) → List DeclaredPackage
packages_of texts folder [] = []
packages_of texts folder (fs ∷ others) =
    packages_from (folder_in texts folder) fs folder 0 fs
    ++ packages_of texts (folder + 1) others

-- whether a package is one of these
abbrev pub is_among : List DeclaredPackage → DeclaredPackage → Bool
is_among before d =
    list_any (bytes_eq (package_text d.name)) (map (λ e. package_text e.name) before)

-- the packages, behind these, that are declared again
abbrev pub again_from : List DeclaredPackage → List DeclaredPackage → List DeclaredPackage
again_from before [] = []
again_from before (d ∷ ds) =
    (if is_among before d then d ∷ [] else []) ++ again_from (before ++ d ∷ []) ds

-- a package that is declared again is a fault at its name
abbrev pub again_fault : List (List (List ℕ)) → DeclaredPackage → ResolveFault
again_fault texts d =
    fault_at d.folder d.file
    (name_place (text_in (folder_in texts d.folder) d.file) d.left 0) reason.Duplicate

-- what is wrong with the packages of a project, in order: first with their lines
abbrev pub package_faults : List (List (List ℕ)) → List (List File) → List ResolveFault
package_faults texts folders =
    folder_faults texts 0 folders
    ++ map (again_fault texts) (again_from [] (packages_of texts 0 folders))
