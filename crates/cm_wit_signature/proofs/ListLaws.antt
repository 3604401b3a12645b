-- Lists made element by element.
use Rattle.std.proofs.Common.{◌≡◌, ℕ, ◌+◌, ◌<◌, ◌≤◌, Bool, List, [], ◌∷◌, ◌++◌, length, map, drop, get_or, refl, sym, ap, ◌∙◌, append_assoc, append-nil}
use Rattle.std.proofs.lemmas.List.{drop_all, drop_more, map-append, length-map}
use Rattle.cm_wit_tables.specs.Worlds.{Instance}
use Rattle.cm_wit_tables.specs.DeclaredViews.{instance_view}
use Rattle.cm_wit_tables.specs.declared.declarations.Instance as code_instance
use Rattle.cm_wit_signature.specs.Sides.{interfaces_below, side_instances}
use Rattle.cm_lemmas.proofs.Numbers.{lt_false, lt_true}
use Rattle.cm_lemmas.proofs.Lists.{shows_end, shows_push, shows_start}

pub ruleset file_laws = (shows_start, shows_push, shows_end)

-- ---- the instances of one side

-- What stands there is what stood at first and the instances of the first numbers, and those of the
-- rest make all.
pub record Sides (exported : Bool) (count : ℕ) (ns : List ℕ) (i : ℕ) (start out : List code_instance.Instance) : Type 0 where
  pub is : map instance_view out ++ side_instances exported count (drop i ns) ≡ map instance_view start ++ side_instances exported count ns

pub sides_start : (exported : Bool) (count : ℕ) (ns : List ℕ) (start : List code_instance.Instance) → Sides exported count ns 0 start start
sides_start exported count ns start = record { is = refl }

next_kept : (exported : Bool) (count : ℕ) (ns : List ℕ) (i x : ℕ) → i < length ns → x ≡ get_or ns i x → x < count → side_instances exported count (drop i ns) ≡ record { exported = exported; interface = x } ∷ side_instances exported count (drop (i + 1) ns)
next_kept exported count ns i x lt e h =
    rw (drop_more ns i x lt, sym e, lt_true x count h) refl

next_left : (exported : Bool) (count : ℕ) (ns : List ℕ) (i x : ℕ) → i < length ns → x ≡ get_or ns i x → count ≤ x → side_instances exported count (drop i ns) ≡ side_instances exported count (drop (i + 1) ns)
next_left exported count ns i x lt e h =
    rw (drop_more ns i x lt, sym e, lt_false x count h) refl

pub sides_push : (exported : Bool) (count : ℕ) (ns : List ℕ) (i x : ℕ) (start out : List code_instance.Instance) (c : code_instance.Instance) → i < length ns → x ≡ get_or ns i x → x < count → instance_view c ≡ record { exported = exported; interface = x } → Sides exported count ns i start out → Sides exported count ns (i + 1) start (out ++ c ∷ [])
sides_push exported count ns i x start out c lt e h same f = record {
  is = ap (λ (l : List Instance). l ++ side_instances exported count (drop (i + 1) ns)) (map-append instance_view out (c ∷ []))
      ∙ (append_assoc (map instance_view out) (instance_view c ∷ []) (side_instances exported count (drop (i + 1) ns))
      ∙ (ap (λ (y : Instance). map instance_view out ++ y ∷ side_instances exported count (drop (i + 1) ns)) same
      ∙ (sym (ap (λ (l : List Instance). map instance_view out ++ l) (next_kept exported count ns i x lt e h)) ∙ f.is)));
}

pub sides_skip : (exported : Bool) (count : ℕ) (ns : List ℕ) (i x : ℕ) (start out : List code_instance.Instance) → i < length ns → x ≡ get_or ns i x → count ≤ x → Sides exported count ns i start out → Sides exported count ns (i + 1) start out
sides_skip exported count ns i x start out lt e h f = record {
  is = sym (ap (λ (l : List Instance). map instance_view out ++ l) (next_left exported count ns i x lt e h)) ∙ f.is;
}

pub sides_end : (exported : Bool) (count : ℕ) (ns : List ℕ) (i : ℕ) (start out : List code_instance.Instance) → length ns ≤ i → Sides exported count ns i start out → map instance_view out ≡ map instance_view start ++ side_instances exported count ns
sides_end exported count ns i start out le f = sym (append-nil (map instance_view out)) ∙ (sym (ap (λ (l : List ℕ). map instance_view out ++ side_instances exported count l) (drop_all i ns le)) ∙ f.is)

pub ruleset side_laws = (sides_start, sides_push, sides_skip, sides_end)

-- how many there are of a side that is made alone
pub side_count : (exported : Bool) (count : ℕ) (ns : List ℕ) (out : List code_instance.Instance) → map instance_view out ≡ side_instances exported count ns → length out ≡ length (interfaces_below count ns)
side_count exported count ns out e = sym (length-map out instance_view) ∙ (ap length e ∙ length-map (interfaces_below count ns) (λ n. record { exported = exported; interface = n }))

pub ruleset both_laws = (side_count)
