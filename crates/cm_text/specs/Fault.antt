-- Why bytes are refused as a text (this project's own choice).
use Rattle.std.specs.Prelude.{ℕ}
use Rattle.cm_text.specs.declared.fault.TextFault.{TextFault}
use Rattle.cm_text.specs.declared.fault.TextFault.TheVariants.{IllFormed, Memory}

-- the fault is IllFormed, at a place of which the fact holds
abbrev pub IsIllFormed : TextFault → (ℕ → Type 0) → Type 0
IsIllFormed (IllFormed at) holds = holds at
IsIllFormed Memory holds = ⊥

-- if the fault is IllFormed, the fact holds of its place
abbrev pub IfIllFormed : TextFault → (ℕ → Type 0) → Type 0
IfIllFormed (IllFormed at) holds = holds at
IfIllFormed Memory holds = Unit {0}

-- the fault is Memory
abbrev pub IsMemory : TextFault → Type 0
IsMemory (IllFormed at) = ⊥
IsMemory Memory = Unit {0}

-- the number by which the fault is known
abbrev pub text_fault_number : TextFault → ℕ
text_fault_number (IllFormed at) = 1
text_fault_number Memory = 2
