-- What is promised of a machine that is made for a use line.
use Rattle.std.specs.Prelude.{◌≡◌, ◌↔◌, ℕ, false, Result, Err, IfOk, IsOk, IsTrue}
use Rattle.regmodel.specs.Lawful.{IsAtStart}
use Rattle.machine.specs.Meaning.{Meaning}
use Rattle.uses.specs.Expansions.{expansion}
use Rattle.uses.specs.Uses.{use_fits}
use Rattle.uses.specs.declared.kinds.Use.{Use}
use Rattle.natives.specs.declared.MakeFault.{MakeFault}
use Rattle.natives.specs.Resuming.{native_resumed}
use Rattle.uses.specs.declared.expansions.TheConstants.{PAST_LIMIT}

-- one over so many registers: its program is the line's expansion, at whose start it stands, and it
-- understands numbers by the line alone; it is made exactly where the line is within its limits,
-- and else they are the fault
pub record IsMadeFor {M : Type 0} (kind : Use) (registers : ℕ) (means : M → Meaning)
    (result : Result M MakeFault) : Type 0 where
  pub same : IfOk result (λ m. (means m).program ≡ expansion kind registers)
  pub starts : IfOk result (λ m. IsAtStart (expansion kind registers) (means m).rest)
  pub understands : IfOk result (λ m. (means m).resumed ≡ native_resumed kind registers)
  pub limits : (result ≡ Err (record { code = PAST_LIMIT })) ↔ (use_fits kind registers ≡ false)
  pub made : IsOk result ↔ IsTrue (use_fits kind registers)
