-- Interfaces and the fronts of their packages.
use Rattle.std.proofs.Common.{◌≡◌, ℕ, zero, suc, ◌+◌, List, [], ◌∷◌, ◌++◌, Some, slice_get, ap, subst, ◌∙◌, arith}
use Rattle.std.specs.List.{filter_map}
use Rattle.std.specs.Option.{option_map}
use Rattle.std.proofs.lemmas.Option.{get_or_from_slice_get, slice_get-map}
use Rattle.cm_types.specs.ExternNames.{name_spelling}
use Rattle.cm_types_arena.specs.SharedNames.{name_with, text_in}
use Rattle.cm_types_arena.specs.declared.names.Front.{Front}
use Rattle.cm_types_arena.specs.declared.names.Front.TheVariants as front
use Rattle.cm_wit_reading.specs.Trees.{File, FileItem, interface, world}
use Rattle.cm_wit_worlds.specs.Interfaces.{PlacedInterface, full_name, interface_in, interfaces, interfaces_from}
use Rattle.cm_wit_signature.specs.PackageFronts.{HavePackages, package_front, package_fronts}

module _ (all : List File) where
  of_one : (p : ℕ) (f : File) (items : List FileItem) (rest : List PlacedInterface) → slice_get all p ≡ Some f → HavePackages all rest → HavePackages all (filter_map (interface_in p f) items ++ rest)
  of_one p f [] rest e h = h
  of_one p f (interface x ∷ items) rest e h = (e, of_one p f items rest e h)
  of_one p f (world x ∷ items) rest e h = of_one p f items rest e h

  of_all : (p : ℕ) (fs : List File) → ((k : ℕ) → slice_get all (p + k) ≡ slice_get fs k) → HavePackages all (interfaces_from p fs)
  of_all p [] h = tt
  of_all p (f ∷ fs) h =
      let n : p ≡ p + 0 = omega arith in
      of_one p f f.items (interfaces_from (p + 1) fs) (ap (slice_get all) n ∙ h 0)
      (of_all (p + 1) fs (λ k. let m : p + 1 + k ≡ p + suc k = omega arith in ap (slice_get all) m ∙ h (suc k)))

pub all_have_packages : (fs : List File) → HavePackages fs (interfaces fs)
all_have_packages fs = of_all fs 0 fs (λ k. let n : 0 + k ≡ k = omega arith in ap (slice_get fs) n)

pub one_has_package : (fs : List File) (is : List PlacedInterface) (n : ℕ) (i : PlacedInterface) → HavePackages fs is → slice_get is n ≡ Some i → slice_get fs i.place ≡ Some i.file
one_has_package fs [] n i h e = absurd cc
one_has_package fs (x ∷ is) zero i h e = let same : x ≡ i = cc in subst (λ (y : PlacedInterface). slice_get fs y.place ≡ Some y.file) same h.0
one_has_package fs (x ∷ is) (suc n) i h e = one_has_package fs is n i h.1 e

-- a front of a package makes the full names of its interfaces
pub full_name_made : (fs : List File) (place k : ℕ) (f : File) (back : List ℕ) → k ≡ place + 1 → slice_get fs place ≡ Some f → text_in (package_fronts fs) (record { front = k; back = back }) ≡ full_name f back
full_name_made fs place k f back n e =
    let m : k ≡ suc place = omega (arith, n) in
    let got : slice_get (package_fronts fs) k ≡ Some (package_front f) = ap (slice_get (package_fronts fs)) m ∙ (slice_get-map package_front fs place ∙ ap (option_map package_front) e) in
    ap (λ (x : Front). name_spelling (name_with x back)) (get_or_from_slice_get (package_fronts fs) k (package_front f) front.Plain got)
