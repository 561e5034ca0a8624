-- Which schedule leads to an outcome that was looked for, in words.
use Rattle.std.specs.Prelude.{ℕ, ◌==◌, Bool, if◌then◌else◌, List, [], ◌++◌, length, Some, None, codes, decimal}
use Rattle.regmodel.specs.declared.outcomes.ProcEnd.{ProcEnd}
use Rattle.texts.specs.OutcomeText.{outcome_text}
use Rattle.breadths.specs.declared.breadths.Breadth.{Breadth}
use Rattle.drawing.specs.DrawingText.{drawing_text}
use Rattle.patterns.specs.PatternText.{pattern_text}
use Rattle.patterns.specs.declared.matching.Match.{Match}
use Rattle.verdict.specs.ShowCommands.{show_text}
use Rattle.verdict.specs.VerdictText.{up_to_text, counted, letters_text}
use Rattle.verdict.specs.declared.shortfalls.Shortfall.{Shortfall}
use Rattle.verdict.specs.declared.witnesses.Discovery.{Discovery}
use Rattle.verdict.specs.declared.witnesses.Witness.{Witness}

-- that a schedule of so many letters leads to an outcome
abbrev pub leading_text : List ℕ → ℕ → List ProcEnd → List ℕ
leading_text path letters ends =
    path ++ codes ": a schedule of " ++ letters_text letters ++ codes " leads to "
    ++ outcome_text ends ++ codes "\n"

-- which pattern it matches, by its number and its text, of so many that were looked for
abbrev pub match_line : ℕ → Match → List ℕ
match_line sought found =
    codes "It matches pattern " ++ decimal found.number ++ codes " of " ++ decimal sought
    ++ codes ": " ++ pattern_text found.pattern ++ codes "\n"

-- the same, where several were looked for
abbrev pub match_text : ℕ → Match → List ℕ
match_text sought found = if sought == 1 then [] else match_line sought found

-- where no schedule leads, of so many patterns
abbrev pub nowhere : ℕ → List ℕ
nowhere sought =
    if sought == 1 then codes "there" else codes "to any of " ++ decimal sought ++ codes " patterns"

-- that no shorter schedule leads there, where the shortest one was asked for
abbrev pub no_shorter_text : Bool → ℕ → List ℕ
no_shorter_text is_shortest sought =
    if is_shortest then codes "No shorter one leads " ++ nowhere sought ++ codes ".\n" else []

-- what is told of a witness, with the drawing of the schedule, which may be so broad, and the
-- command that draws it again
abbrev pub witness_text : List ℕ → List ℕ → List ℕ → Breadth → ℕ → Bool → Witness → List ℕ
witness_text program path text breadth sought is_shortest witness =
    leading_text path (length witness.schedule) witness.outcome
    ++ (match_text sought witness.matched ++ no_shorter_text is_shortest sought) ++ codes "\n"
    ++ drawing_text breadth text witness.drawing ++ show_text program path breadth witness.schedule

-- that no schedule leads there, and how far was looked
abbrev pub nowhere_text : List ℕ → ℕ → ℕ → ℕ → List ℕ
nowhere_text path sought limit crashes =
    path ++ codes ": no schedule leads " ++ nowhere sought ++ up_to_text limit crashes

-- a pattern, by its number; the only one without
abbrev pub pattern_told : ℕ → ℕ → List ℕ
pattern_told sought number =
    if sought == 1 then codes "The pattern" else codes "Pattern " ++ decimal number

-- that the pattern with this number asks for more crashes than there may be
abbrev pub excess_text : ℕ → ℕ → List ℕ
excess_text sought number =
    pattern_told sought number
    ++ codes " asks for more crashes than there may be: give a greater --crashes.\n"

-- how many numbers a process emits at most
abbrev pub most_text : ℕ → List ℕ
most_text most = if most == 0 then codes "none" else codes "at most " ++ decimal most

-- which pattern asks for more numbers than a process emits
abbrev pub shortfall_text : ℕ → Shortfall → List ℕ
shortfall_text sought shortfall =
    pattern_told sought shortfall.pattern ++ codes " cannot match: it asks for "
    ++ counted shortfall.asked (codes "number") (codes "s") ++ codes " of process "
    ++ decimal shortfall.process ++ codes ", which emits " ++ most_text shortfall.most
    ++ codes ".\n"

-- which pattern asks for more crashes than there may be, and which for more numbers than a process
-- emits, where one does
abbrev pub unmatched_text : Discovery → List ℕ
unmatched_text discovery =
    elim discovery.excess [ Some number ↦ excess_text discovery.sought number | None ↦ [] ]
    ++ elim discovery.shortfall [ Some s ↦ shortfall_text discovery.sought s | None ↦ [] ]

-- what a program that was called by these words tells of a source in the file of this path
abbrev pub discovery_text : List ℕ → List ℕ → List ℕ → Breadth → Discovery → Bool → List ℕ
discovery_text program path text breadth discovery is_shortest =
    elim discovery.witness [
      | Some witness ↦ witness_text program path text breadth discovery.sought is_shortest witness
      | None ↦ nowhere_text path discovery.sought discovery.least.bounds.length
          discovery.least.bounds.crashes ++ unmatched_text discovery
    ]
