-- The flags of the command line.
use Rattle.std.specs.Prelude.{◌≡◌, ℕ, Bool, true, false, List, Option, Some, None, codes}

-- whether a flag is given, as clap says it in text
pub record IsFlagTold (text : Option (List ℕ)) (given : Bool) : Type 0 where
  pub none : text ≡ None → given ≡ false
  pub yes : text ≡ Some (codes "true") → given ≡ true
  pub no : text ≡ Some (codes "false") → given ≡ false
