-- A text that was written, or a beginning of it.
use Rattle.std.specs.Prelude.{◌≡◌, ◌++◌, ℕ, List, Option, None, Result, IfErr, OnOk, OnErr}
use Rattle.std.specs.Io.KnownBytes.{Appends}
use Rattle.texts.specs.Appending.{Writes}
use Rattle.cli.specs.declared.faults.AnswerFault.{AnswerFault}
use Rattle.cli.specs.declared.faults.AnswerFault.TheVariants as fault

-- known bytes grew by a beginning of the text
pub record HasBeginning (old new : Option (List ℕ)) (text : List ℕ) : Type 0 where
  pub taken : List ℕ
  pub rest : List ℕ
  pub parts : text ≡ taken ++ rest
  pub appends : Appends old new taken

-- the text is written whole, or the writer took a beginning of it
pub record Tells (old new : Option (List ℕ)) (text : List ℕ)
    (result : Result (Unit {0}) AnswerFault) : Type 0 where
  pub whole : OnOk result (Writes old new text None)
  pub begun : OnErr result (HasBeginning old new text)
  pub err : IfErr result (λ why. why ≡ fault.Write)
