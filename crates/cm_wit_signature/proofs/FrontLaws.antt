-- Members whose names' fronts are in a list.
use Rattle.std.proofs.Common.{◌≡◌, ℕ, ◌+◌, List, [], ◌∷◌, ◌++◌, length, Some, slice_get, ap, subst, ◌∙◌, sym}
use Rattle.std.specs.List.{AllByRecursion}
use Rattle.cm_types_arena.specs.declared.names.Front.{Front}
use Rattle.cm_wit_reading.specs.Views.{resource_func_tree}
use Rattle.cm_wit_signature.specs.Fronts.{AreFronted, IsFronted, func_front, resource_fronts}
use Rattle.cm_wit_signature.specs.declared.members.Member.{Member}
use Rattle.cm_wit_signature.specs.declared.members.Member.TheVariants as member
use Rattle.cm_lemmas.proofs.Lists.{all_push, get_front, get_behind}

pub all_grown : {A : Type 0} (P : A → Type 0) (xs new : List A) (x : A) → new ≡ xs ++ x ∷ [] → AllByRecursion P xs → P x → AllByRecursion P new
all_grown P xs new x n h p = subst (AllByRecursion P) (sym n) (all_push P xs x h p)

one_kept : (fronts more : List Front) (m : Member) → IsFronted fronts m → IsFronted (fronts ++ more) m
one_kept fronts more (member.Used name) h = tt
one_kept fronts more (member.Declared name) h = tt
one_kept fronts more (member.OfResource r f k) h = get_front fronts more k (func_front r.now (resource_func_tree f.now)) h
one_kept fronts more (member.Function name f) h = tt

-- members stay fronted where fronts are added
pub each_kept : (fronts more : List Front) (ms : List Member) → AllByRecursion (IsFronted fronts) ms → AllByRecursion (IsFronted (fronts ++ more)) ms
each_kept fronts more [] h = tt
each_kept fronts more (m ∷ ms) h = (one_kept fronts more m h.0, each_kept fronts more ms h.1)

pub fronted_kept : (fronts more : List Front) (ms : List Member) → AreFronted fronts ms → AreFronted (fronts ++ more) ms
fronted_kept fronts more ms h = record { plain = get_front fronts more 0 _ h.plain; each = each_kept fronts more ms h.each }

-- a function of a resource has the number of its front among those of its resource
pub at_place : (before : List Front) (r : List ℕ) (first place : ℕ) (f : Front) → length before ≡ first → slice_get (resource_fronts r) place ≡ Some f → slice_get (before ++ resource_fronts r) (first + place) ≡ Some f
at_place before r first place f n e =
    ap (λ (k : ℕ). slice_get (before ++ resource_fronts r) (k + place)) (sym n) ∙ (get_behind before (resource_fronts r) place ∙ e)
