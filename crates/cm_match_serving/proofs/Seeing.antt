-- What the imports of a set see, by what is chosen for them.
use Rattle.std.proofs.Common.{◌≡◌, ◌∙◌, ℕ, zero, suc, ◌+◌, ◌<◌, ◌≤◌, Bool, true, false, ◌&&◌, List, [], ◌∷◌, ◌++◌, Option, Some, None, filter, if◌then◌else◌, refl, sym, ap, arith, option_and_then, slice_get}
use Rattle.std.specs.Prelude.{option_to_list}
use Rattle.std.specs.Borrow.{Bor}
use Rattle.std.specs.Option.{option_map}
use Rattle.std.specs.declared.alloc.Global.{Global}
use Rattle.std.specs.declared.vec.Vec.{Vec}
use Rattle.std.proofs.lemmas.Bool.{le-ltb, lt-ltb}
use Rattle.std.proofs.lemmas.List.Elements.{filter-append}
use Rattle.cm_types.specs.Signatures.{NamedExtern}
use Rattle.cm_validate_model.specs.Definitions as definitions
use Rattle.cm_validate_model.specs.Spaces.{Spaces}
use Rattle.cm_validate_spaces.specs.cm_validate_entries.declared.spaces.ExportEntry.{ExportEntry}
use Rattle.cm_match_model.specs.declared.component.Link.{Link}
use Rattle.cm_match_model.specs.declared.sight.Place.{Place}
use Rattle.cm_match_model.specs.Fitting.{NamedExport, fits, named_export}
use Rattle.cm_match_model.specs.Fitting as fitting
use Rattle.cm_match_model.specs.Imports.{candidates, exports_before, exports_from, seen_by}
use Rattle.cm_match_model.specs.Sights.{Chosen, begins_at, chosen_export, group_of, is_seen_at, link_in, nothing_chosen, seen_before, sees_by, sees_chosen, sees_component}
use Rattle.cm_match_model.proofs.SightLaws.{group_low}
use Rattle.cm_lemmas.proofs.Lists.{nil_right}
use Rattle.cm_lemmas.proofs.Options.{fused}
use Rattle.cm_match_serving.proofs.Rows.{before_next}

-- ---- links that are chosen

nothing_at : {A : Type 0} (n : ℕ) → ◌≡◌ {A = Option A} (slice_get [] n) None
nothing_at zero = refl
nothing_at (suc n) = refl

pub link_is : (rows : List (Vec (Option Link) Global)) (c n : ℕ) → link_in rows c n ≡ option_and_then (λ (r : Vec (Option Link) Global). option_and_then (λ (l : Option Link). l) (slice_get r.items n)) (slice_get rows c)
link_is [] c n = sym (ap (option_and_then (λ (r : Vec (Option Link) Global). option_and_then (λ (l : Option Link). l) (slice_get r.items n))) (nothing_at c))
link_is (row ∷ rows) c n = refl

-- an import for which no link is chosen
pub without_link : ((set : List Spaces) (places : List Place) (c n : ℕ) (x : NamedExtern) → candidates (seen_by (sees_by places nothing_chosen) set) c n x ≡ fitting.candidates (seen_before set places (group_of places c)) x.name)
    → (set : List Spaces) (places : List Place) (chosen : Chosen) (c n : ℕ) (x : NamedExtern) → chosen c n ≡ None
    → candidates (seen_by (sees_by places chosen) set) c n x ≡ fitting.candidates (seen_before set places (group_of places c)) x.name
without_link groups set places chosen c n x h =
    ap (λ o. filter (λ e. sees_chosen o (sees_component places c e.component) e && fits x.name e.name) (exports_before set c)) h
    ∙ groups set places c n x

-- the export of a link, by its name
pub export_is : (set : List Spaces) (c : ℕ) (l : Link) (r : Option (Bor ExportEntry)) → l.component < c
    → option_map (λ (e : Bor ExportEntry). e.now.name.now) r ≡ option_map (λ (e : definitions.NamedExport). e.name) (option_and_then (λ s. slice_get s.exports l.export) (slice_get set l.component))
    → chosen_export set c l ≡ option_to_list (option_map (λ (e : Bor ExportEntry). named_export l.component l.export e.now.name.now) r)
export_is set c l r lt h =
    let o : Option definitions.NamedExport = option_and_then (λ s. slice_get s.exports l.export) (slice_get set l.component) in
    ap (λ b. if b then option_to_list (option_map (λ (e : definitions.NamedExport). named_export l.component l.export e.name) o) else []) (lt-ltb l.component c lt)
    ∙ ap option_to_list
    (sym (fused (λ (e : definitions.NamedExport). e.name) (named_export l.component l.export) o)
    ∙ ap (option_map (named_export l.component l.export)) (sym h)
    ∙ fused (λ (e : Bor ExportEntry). e.now.name.now) (named_export l.component l.export) r)

pub export_is_later : (set : List Spaces) (c : ℕ) (l : Link) → c ≤ l.component → chosen_export set c l ≡ []
export_is_later set c l le =
    ap (λ b. if b then option_to_list (option_map (λ (e : definitions.NamedExport). named_export l.component l.export e.name) (option_and_then (λ s. slice_get s.exports l.export) (slice_get set l.component))) else [])
    (le-ltb l.component c le)

-- ---- exports that are seen

own_kept : (p : ℕ → Bool) (c n : ℕ) (xs : List definitions.NamedExport) → p c ≡ true → filter (λ (e : NamedExport). p e.component) (exports_from c n xs) ≡ exports_from c n xs
own_kept p c n [] h = refl
own_kept p c n (x ∷ xs) h =
    let rest = filter (λ (e : NamedExport). p e.component) (exports_from c (n + 1) xs) in
    ap (λ b. if b then (named_export c n x.name ∷ rest) else rest) h
    ∙ ap (λ es. named_export c n x.name ∷ es) (own_kept p c (n + 1) xs h)

own_hidden : (p : ℕ → Bool) (c n : ℕ) (xs : List definitions.NamedExport) → p c ≡ false → filter (λ (e : NamedExport). p e.component) (exports_from c n xs) ≡ []
own_hidden p c n [] h = refl
own_hidden p c n (x ∷ xs) h =
    let rest = filter (λ (e : NamedExport). p e.component) (exports_from c (n + 1) xs) in
    ap (λ b. if b then (named_export c n x.name ∷ rest) else rest) h ∙ own_hidden p c (n + 1) xs h

module _ (set : List Spaces) (places : List Place) (n : ℕ) (s : Spaces) (there : slice_get set n ≡ Some s) where
  next_seen : seen_before set places (n + 1) ≡ seen_before set places n ++ filter (λ (e : NamedExport). is_seen_at places e.component) (exports_from n 0 s.exports)
  next_seen =
      ap (filter (λ (e : NamedExport). is_seen_at places e.component)) (before_next set n s there)
      ∙ filter-append (λ (e : NamedExport). is_seen_at places e.component) (exports_before set n) (exports_from n 0 s.exports)

  pub seen_next : is_seen_at places n ≡ true → seen_before set places (n + 1) ≡ seen_before set places n ++ exports_from n 0 s.exports
  seen_next h = next_seen ∙ ap (λ es. seen_before set places n ++ es) (own_kept (is_seen_at places) n 0 s.exports h)

  pub hidden_next : is_seen_at places n ≡ false → seen_before set places (n + 1) ≡ seen_before set places n
  hidden_next h = next_seen ∙ ap (λ es. seen_before set places n ++ es) (own_hidden (is_seen_at places) n 0 s.exports h) ∙ nil_right (seen_before set places n)

-- ---- groups

-- the first component of the group of the one before
abbrev pub group_before : List Place → ℕ → ℕ
group_before places zero = 0
group_before places (suc c) = group_of places c

one_of : (b : Bool) → ◌≡◌ {A = ℕ} (if b then 0 else 0) 0
one_of true = refl
one_of false = refl

pub group_next : (places : List Place) (c : ℕ) → (if begins_at places c then c else group_before places c) ≡ group_of places c
group_next places zero = one_of (begins_at places zero)
group_next places (suc c) = refl

pub before_low : (places : List Place) (c : ℕ) → group_before places c ≤ c
before_low places zero = omega arith
before_low places (suc c) = omega (arith, group_low places c)
