-- The words at fault of lines, and what is told of them.
use Rattle.std.specs.Prelude.{◌≡◌, ℕ, List, [], ◌∷◌, ◌++◌, Option, Some, None, map, refl, codes, decimal}
use Rattle.explanations.specs.Advice.{check_advice}
use Rattle.explanations.specs.ClauseForms.{clauses_listed}
use Rattle.explanations.specs.Hints.{hint_of}
use Rattle.explanations.specs.LineForms.{first_of, form_of, wanted_form}
use Rattle.explanations.specs.Misfits.{word_at_fault}
use Rattle.explanations.specs.Misplaced.{place_words}
use Rattle.explanations.specs.NamedRegisters.{first_named}
use Rattle.explanations.specs.Nearest.{nearest}
use Rattle.explanations.specs.OpenBlocks.{innermost, open_after}
use Rattle.explanations.specs.declared.open_blocks.BlockKind.TheVariants as block
use Rattle.reglines.specs.Lines.{lines, words}
use Rattle.reglines.specs.declared.faults.LineFault.{LineFault}
use Rattle.reglines.specs.declared.faults.LineFault.TheVariants as fault
use Rattle.reglang.specs.declared.refusals.LineRefusal.TheVariants.{Fault}
use Rattle.reglines.specs.declared.vocabulary.Property.TheVariants as property

-- a fault, a line, and the word of it that is at fault
abbrev faulty : List (LineFault × List ℕ × Option (List ℕ))
faulty =
    -- a word that no line begins with, one that is unknown, and a first and a later word
    -- in the other's place
    (fault.UnknownWord, codes "reads v0 v16", Some (codes "reads"))
    ∷ (fault.UnknownWord, codes "set v0 v16 + x", Some (codes "v16"))
    ∷ (fault.UnknownWord, codes "read v0 scan", Some (codes "scan"))
    ∷ (fault.UnknownWord, codes "names 0 2 0", Some (codes "names"))
    -- a number where a target stands, and one too many; an operand, and how many
    -- registers, that are missing
    ∷ (fault.NoForm, codes "read 0 v0", Some (codes "0"))
    ∷ (fault.NoForm, codes "use split 0 1 2", Some (codes "2"))
    ∷ (fault.NoForm, codes "emit v0 +", None) ∷ (fault.NoForm, codes "scan 0 0", None)
    -- the numbers of a scan and of a use are words of the text, no variables
    ∷ (fault.NoForm, codes "scan v0 0 1", Some (codes "v0"))
    ∷ (fault.NoForm, codes "scan 0 0 [1]", Some (codes "[1]"))
    ∷ (fault.NoForm, codes "use names 0 2 v1", Some (codes "v1"))
    -- the first number past the greatest one, and more names than there can be
    ∷ (fault.PastLimit, codes "set v0 1000000001", Some (codes "1000000001"))
    ∷ (fault.NoClause, codes "check atmost 9 9", Some (codes "9")) ∷ []

pub words_at_fault :
    map (λ (it : LineFault × List ℕ × Option (List ℕ)). word_at_fault (Fault it.0) it.1) faulty
    ≡ map (λ (it : LineFault × List ℕ × Option (List ℕ)). it.2) faulty
words_at_fault = refl

-- a line, and the hint for it
abbrev hinted : List (List ℕ × List ℕ)
hinted =
    -- what to write for a word of another language, for the name of a register, and for an unknown
    -- kind
    (codes "if v0 > 1", codes "write B < A for A > B")
    ∷ (codes "read v0 r0", codes "name a register by its number alone")
    ∷ (codes "use spilt 0 1", wanted_form (words (codes "use")))
    -- of words of other languages, first ones and later ones
    ∷ (codes "if v0 && v1", codes "write A * B for A and B: it is 0 where one of them is")
    ∷ (
      codes "while v0",
      codes "write repeat with as many turns as may be needed, and an if in it: "
          ++ codes "further turns do nothing",
    )
    -- of a first word behind another, a number below 0, a name before a cell, and another comment
    ∷ (codes "write 0 read 1", codes "read is a line of its own: read v0 1")
    ∷ (
      codes "set v0 v0 - -1",
      codes "there are no negative numbers; to subtract, write spaces around -, as in v0 - 1",
    )
    ∷ (codes "emit v[0]", codes "a cell is [0] to [31], or [v0] to [v15], and has no name before it")
    ∷ (codes "//turns", codes "write the comment on a line of its own that begins with #")
    -- of a sum in an index, of parentheses, and of what a process does not know
    ∷ (
      codes "read v0 [v1 + 1]",
      codes "there is no sum in an index: set a variable to it first, as in set v0 v1 + 1, and write [v0]",
    )
    ∷ (
      codes "set v0 (v1+1)",
      codes "there are no parentheses and no functions: set each part first, as in set v0 v1 + 1",
    )
    ∷ (
      codes "write me 1",
      codes "a process has no word for its own number: write that out in each one; "
          ++ codes "m4 makes such copies (docs/RECIPES.md)",
    )
    -- of a first word that is nearly one
    ∷ (codes "wirte 0 1", codes "did you mean write?")
    ∷ (codes "Process", codes "did you mean process?")
    -- where no variable may stand, the form of the line
    ∷ (codes "registers two", codes "give the line its form: registers NUMBER") ∷ []

pub hints_of_lines :
    map (λ (it : List ℕ × List ℕ). hint_of (words it.0)) hinted
    ≡ map (λ (it : List ℕ × List ℕ). it.1) hinted
hints_of_lines = refl

-- a property of which it is known how it is asked for, and one that nobody knows
pub of_deadlocks :
    check_advice (words (codes "check deadlock"))
    ≡ codes "docs/PROGRESS.md tells under Deadlock how that is asked for"
of_deadlocks = refl

pub of_nothing_known :
    check_advice (words (codes "check fairness")) ≡ wanted_form (words (codes "check fairness"))
of_nothing_known = refl

-- the second register that the comments name, which no line names again
pub turn_is_the_third :
    first_named (codes "turn") (lines (codes "# register 0: flag\n# register 2: turn\nregisters 3\n# register 1: turn\n"))
    ≡ Some 2
turn_is_the_third = refl

pub flag_is_no_register :
    first_named (codes "flag") (lines (codes "# register 0: the flag\n# register x: flag\n# registers 0: flag\n"))
    ≡ None
flag_is_no_register = refl

pub far_from_all : nearest (codes "hlat") ≡ None
far_from_all = refl

-- the form of a check, by its property, and how clauses are listed
pub forms_and_clauses :
    (form_of (words (codes "check within 1"))
    ≡ codes "check within LO HI; LO and HI are 0 to 1000000000")
    × (form_of (words (codes "check ended 1")) ≡ codes "check ended, and nothing behind it")
    × (clauses_listed (property.Distinct ∷ property.AtMost ∷ property.Ended ∷ [])
    ≡ codes "distinct, atmost V C and ended")
forms_and_clauses = (refl, refl, refl)

-- inside an if that is closed again, and an if that has its else
pub innermost_blocks :
    (innermost (open_after 5 (codes "registers 1\nprocess\nrepeat 2\nif v0\nfi\nend\n"))
    ≡ Some (record { block = block.Repeat; line = 3; else_line = None }))
    × (innermost (open_after 4 (codes "registers 1\nprocess\nif v0\nelse\n"))
    ≡ Some (record { block = block.If; line = 3; else_line = Some 4 }))
innermost_blocks = (refl, refl)

-- what is told of another else in that, and of what closes a block where none such is open
pub misplaced_lines :
    (place_words (first_of (words (codes "else")))
    (Some (record { block = block.If; line = 3; else_line = Some 4 }))
    ≡ codes "this if has its else at line " ++ decimal 4)
    × (place_words (first_of (words (codes "done")))
    (Some (record { block = block.Process; line = 2; else_line = None }))
    ≡ codes "no repeat is open here")
    × (place_words (first_of (words (codes "end"))) None ≡ codes "no process is open here")
misplaced_lines = (refl, refl, refl)
