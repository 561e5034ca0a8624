-- Worked examples of the lines on which processes have their statements: the definitions compute.
use Rattle.std.specs.Prelude.{◌≡◌, ℕ, List, [], ◌∷◌, ◌++◌, map, refl, None, Some, codes}
use Rattle.drawing.specs.StatementLines.{statement_line, statement_lines}

-- a process with a comment and an empty line among its statements, a use line, and a process
-- without any
abbrev three : List ℕ
three =
    codes "registers 4\nprocess\n  read v0 0\n\n  if v0\n  # 6\n    write 0 1\n"
    ++ codes "  else\n    halt\n  fi\nend\ncheck ended\n"
    ++ codes "process\n  use split 1 1\nend\nprocess\nend\n"

pub an_else_and_a_fi_are_none : statement_lines three 0 ≡ 3 ∷ 5 ∷ 7 ∷ 9 ∷ []
an_else_and_a_fi_are_none = refl

pub a_use_line_is_the_only_one : statement_lines three 1 ≡ 14 ∷ []
a_use_line_is_the_only_one = refl

pub no_statement : statement_lines three 2 ≡ []
no_statement = refl

pub the_last_one_and_none : map (statement_line three 0) (3 ∷ 4 ∷ []) ≡ Some 9 ∷ None ∷ []
the_last_one_and_none = refl
