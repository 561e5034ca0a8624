-- The codes of why a line is not taken, and the fault of a text that is not read.
use Rattle.std.specs.Prelude.{ℕ}
use Rattle.reglines.specs.LineFaults.{code_of}
use Rattle.reglang.specs.declared.refusals.LineRefusal.{LineRefusal}
use Rattle.reglang.specs.declared.refusals.LineRefusal.TheVariants.{Fault, Memory}
use Rattle.reglang.specs.declared.reader.ReadFault.{ReadFault}
use Rattle.reglang.specs.declared.reader.Rejection.{Rejection}
use Rattle.reglang.specs.declared.refusals.TheConstants.{NO_MEMORY}

-- the code of why it is not taken
abbrev pub refusal_code : LineRefusal → ℕ
refusal_code (Fault fault) = code_of fault
refusal_code Memory = NO_MEMORY

-- the line of a rejection, and its code
abbrev pub fault_of : Rejection → ReadFault
fault_of rejection = record { line = rejection.line; code = refusal_code rejection.refusal }
