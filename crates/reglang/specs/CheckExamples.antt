-- Where checks stand in a text.
use Rattle.std.specs.Prelude.{◌≡◌, [], ◌∷◌, Some, refl, codes}
use Rattle.reglang.specs.Checks.{line_at, check_lines}

-- the second of three lines, which is the first check
pub second_line :
    line_at 2 (codes "registers 1\n check ended\ncheck nofault") ≡ Some (codes " check ended")
second_line = refl

-- a check in a comment is none, one without a clause is one
pub checks : check_lines (codes "# check ended\ncheck\nprocess\nend\n\ncheck ended\n") ≡ 2 ∷ 6 ∷ []
checks = refl
