-- What a text that is read comes to.
use Rattle.std.proofs.Common.{◌≡◌, ℕ, ◌⊎◌, inl, inr, List, Some, None, Ok, Err}
use Rattle.cm_wit_tokens.specs.declared.fault.WitReason.{WitReason}
use Rattle.cm_wit_tokens.specs.declared.fault.WitFault.{WitFault}
use Rattle.cm_wit_tokens.specs.Whole.{IsMemory, text_reads}
use Rattle.cm_wit_names.specs.FileMentions.{mentions}
use Rattle.cm_wit_names.specs.Rules.{IsFirstFault}
use Rattle.cm_wit_reading.specs.Files.{file}
use Rattle.cm_wit_reading.specs.Trees.{File}
use Rattle.cm_wit_package.specs.Packages.{IsRefused}
use Rattle.cm_wit_package.specs.Places.{name_place}
use Rattle.cm_wit_package.specs.Texts.{IsWritten}

pub refused_text : (text : List ℕ) (e : WitFault) → (IsMemory e ⊎ (text_reads file text ≡ Err e)) → IsRefused text e
refused_text text e h = elim h [ inl m ↦ inl m | inr r ↦ inr (inl r) ]

pub refused_memory : (text : List ℕ) (e : WitFault) → IsMemory e → IsRefused text e
refused_memory text e m = inl m

pub refused_name : (text : List ℕ) (f : File) (n at : ℕ) (r : WitReason) → text_reads file text ≡ Ok f → IsFirstFault (mentions f) (Some (n, r)) → at ≡ name_place text n → IsRefused text (record { at = at; reason = r })
refused_name text f n at r e h p = inr (inr (f, n, e, h, p))

pub written_text : (text : List ℕ) (f : File) → text_reads file text ≡ Ok f → IsFirstFault (mentions f) None → ∥ IsWritten f ∥₁
written_text text f e h = ∣ (text, (e, h)) ∣₁

pub ruleset parse_laws = (refused_text, refused_memory, refused_name, written_text)
