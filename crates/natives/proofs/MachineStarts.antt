-- A machine that is made stands at its start.
use Rattle.std.proofs.Common.{◌≡◌, ℕ, true, Ok, rules, subst}
use Rattle.regmodel.specs.Lawful.{IsAtStart}
use Rattle.machine.specs.Meaning.{Meaning}
use Rattle.uses.specs.Expansions.{expansion}
use Rattle.uses.specs.Uses.{use_fits}
use Rattle.uses.specs.declared.kinds.Use.{Use}
use Rattle.natives.specs.Makes.{IsMadeFor}
use Rattle.natives.specs.Resuming.{native_resumed}

pub made-at-start : {M : Type 0} (kind : Use) (registers : ℕ) (means : M → Meaning) (m : M) → use_fits kind registers ≡ true → (means m).program ≡ expansion kind registers → (means m).resumed ≡ native_resumed kind registers → IsAtStart (means m).program (means m).rest → IsMadeFor kind registers means (Ok m)
made-at-start kind registers means m fits same understands starts = record {
  same = same;
  starts = subst (λ p. IsAtStart p (means m).rest) same starts;
  understands = understands;
  limits = rw fits (search rules);
  made = rw fits (search rules);
}
