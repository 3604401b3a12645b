-- What a value that is shown as a type looks like.
use Rattle.std.proofs.Common.{◌≡◌, ℕ, List, refl}
use Rattle.cm_types.specs.declared.core_value.CoreValue.{CoreValue}
use Rattle.cm_types.specs.declared.resource.ResourceId.{ResourceId}
use Rattle.cm_types.specs.Types.{Width, FieldsKind, Ty, Fields, bool, signed, unsigned, char, string, list, fixed_list, fields, flags, own, borrow}
use Rattle.cm_types.specs.Values.{Val, truth, signed_number, number, scalar, text, elements, parts, flag_set, handle}
use Rattle.cm_abi_model.specs.Views.{View}
use Rattle.cm_abi_model.specs.Shows.{Shows}
use Rattle.cm_abi_model.specs.FlatShows.{FlatShows}

pub record Is {A : Type 0} (make : A → Val) (Fact : A → Type 0) (v : Val) : Type 0 where
  pub content : A
  pub value : v ≡ make content
  pub fact : Fact content

pub as_bool : (w : View) (p : ℕ) (v : Val) → Shows w bool p v → Is truth (λ a. Shows w bool p (truth a)) v
as_bool w p (truth a) h = record { content = a; value = refl; fact = h }
as_bool w p v h = absurd h

pub as_signed : (w : View) (p : ℕ) (k : Width) (v : Val) → Shows w (signed k) p v → Is signed_number (λ a. Shows w (signed k) p (signed_number a)) v
as_signed w p k (signed_number a) h = record { content = a; value = refl; fact = h }
as_signed w p k v h = absurd h

pub as_unsigned : (w : View) (p : ℕ) (k : Width) (v : Val) → Shows w (unsigned k) p v → Is number (λ a. Shows w (unsigned k) p (number a)) v
as_unsigned w p k (number a) h = record { content = a; value = refl; fact = h }
as_unsigned w p k v h = absurd h

pub as_char : (w : View) (p : ℕ) (v : Val) → Shows w char p v → Is scalar (λ a. Shows w char p (scalar a)) v
as_char w p (scalar a) h = record { content = a; value = refl; fact = h }
as_char w p v h = absurd h

pub as_string : (w : View) (p : ℕ) (v : Val) → Shows w string p v → Is text (λ a. Shows w string p (text a)) v
as_string w p (text a) h = record { content = a; value = refl; fact = h }
as_string w p v h = absurd h

pub as_list : (w : View) (p : ℕ) (t : Ty) (v : Val) → Shows w (list t) p v → Is elements (λ a. Shows w (list t) p (elements a)) v
as_list w p t (elements a) h = record { content = a; value = refl; fact = h }
as_list w p t v h = absurd h

pub as_fixed : (w : View) (p : ℕ) (t : Ty) (n : ℕ) (v : Val) → Shows w (fixed_list t n) p v → Is parts (λ a. Shows w (fixed_list t n) p (parts a)) v
as_fixed w p t n (parts a) h = record { content = a; value = refl; fact = h }
as_fixed w p t n v h = absurd h

pub as_fields : (w : View) (p : ℕ) (k : FieldsKind) (fs : Fields) (v : Val) → Shows w (fields k fs) p v → Is parts (λ a. Shows w (fields k fs) p (parts a)) v
as_fields w p k fs (parts a) h = record { content = a; value = refl; fact = h }
as_fields w p k fs v h = absurd h

pub as_flags : (w : View) (p : ℕ) (ls : List (List ℕ)) (v : Val) → Shows w (flags ls) p v → Is flag_set (λ a. Shows w (flags ls) p (flag_set a)) v
as_flags w p ls (flag_set a) h = record { content = a; value = refl; fact = h }
as_flags w p ls v h = absurd h

pub as_own : (w : View) (p : ℕ) (r : ResourceId) (v : Val) → Shows w (own r) p v → Is handle (λ a. Shows w (own r) p (handle a)) v
as_own w p r (handle a) h = record { content = a; value = refl; fact = h }
as_own w p r v h = absurd h

pub as_borrow : (w : View) (p : ℕ) (r : ResourceId) (v : Val) → Shows w (borrow r) p v → Is handle (λ a. Shows w (borrow r) p (handle a)) v
as_borrow w p r (handle a) h = record { content = a; value = refl; fact = h }
as_borrow w p r v h = absurd h

pub flat_as_bool : (w : View) (s : List CoreValue) (p : ℕ) (v : Val) → FlatShows w s bool p v → Is truth (λ a. FlatShows w s bool p (truth a)) v
flat_as_bool w s p (truth a) h = record { content = a; value = refl; fact = h }
flat_as_bool w s p v h = absurd h

pub flat_as_signed : (w : View) (s : List CoreValue) (p : ℕ) (k : Width) (v : Val) → FlatShows w s (signed k) p v → Is signed_number (λ a. FlatShows w s (signed k) p (signed_number a)) v
flat_as_signed w s p k (signed_number a) h = record { content = a; value = refl; fact = h }
flat_as_signed w s p k v h = absurd h

pub flat_as_unsigned : (w : View) (s : List CoreValue) (p : ℕ) (k : Width) (v : Val) → FlatShows w s (unsigned k) p v → Is number (λ a. FlatShows w s (unsigned k) p (number a)) v
flat_as_unsigned w s p k (number a) h = record { content = a; value = refl; fact = h }
flat_as_unsigned w s p k v h = absurd h

pub flat_as_char : (w : View) (s : List CoreValue) (p : ℕ) (v : Val) → FlatShows w s char p v → Is scalar (λ a. FlatShows w s char p (scalar a)) v
flat_as_char w s p (scalar a) h = record { content = a; value = refl; fact = h }
flat_as_char w s p v h = absurd h

pub flat_as_string : (w : View) (s : List CoreValue) (p : ℕ) (v : Val) → FlatShows w s string p v → Is text (λ a. FlatShows w s string p (text a)) v
flat_as_string w s p (text a) h = record { content = a; value = refl; fact = h }
flat_as_string w s p v h = absurd h

pub flat_as_list : (w : View) (s : List CoreValue) (p : ℕ) (t : Ty) (v : Val) → FlatShows w s (list t) p v → Is elements (λ a. FlatShows w s (list t) p (elements a)) v
flat_as_list w s p t (elements a) h = record { content = a; value = refl; fact = h }
flat_as_list w s p t v h = absurd h

pub flat_as_fixed : (w : View) (s : List CoreValue) (p : ℕ) (t : Ty) (n : ℕ) (v : Val) → FlatShows w s (fixed_list t n) p v → Is parts (λ a. FlatShows w s (fixed_list t n) p (parts a)) v
flat_as_fixed w s p t n (parts a) h = record { content = a; value = refl; fact = h }
flat_as_fixed w s p t n v h = absurd h

pub flat_as_fields : (w : View) (s : List CoreValue) (p : ℕ) (k : FieldsKind) (fs : Fields) (v : Val) → FlatShows w s (fields k fs) p v → Is parts (λ a. FlatShows w s (fields k fs) p (parts a)) v
flat_as_fields w s p k fs (parts a) h = record { content = a; value = refl; fact = h }
flat_as_fields w s p k fs v h = absurd h

pub flat_as_flags : (w : View) (s : List CoreValue) (p : ℕ) (ls : List (List ℕ)) (v : Val) → FlatShows w s (flags ls) p v → Is flag_set (λ a. FlatShows w s (flags ls) p (flag_set a)) v
flat_as_flags w s p ls (flag_set a) h = record { content = a; value = refl; fact = h }
flat_as_flags w s p ls v h = absurd h

pub flat_as_own : (w : View) (s : List CoreValue) (p : ℕ) (r : ResourceId) (v : Val) → FlatShows w s (own r) p v → Is handle (λ a. FlatShows w s (own r) p (handle a)) v
flat_as_own w s p r (handle a) h = record { content = a; value = refl; fact = h }
flat_as_own w s p r v h = absurd h

pub flat_as_borrow : (w : View) (s : List CoreValue) (p : ℕ) (r : ResourceId) (v : Val) → FlatShows w s (borrow r) p v → Is handle (λ a. FlatShows w s (borrow r) p (handle a)) v
flat_as_borrow w s p r (handle a) h = record { content = a; value = refl; fact = h }
flat_as_borrow w s p r v h = absurd h
