-- What a text spells.
use Rattle.std.specs.Prelude.{◌≡◌, ℕ, ◌⊎◌, List, [], ◌∷◌, ◌++◌, Option, Some, None, Result, Ok, Err, All, IsOk}
use Rattle.std.specs.List.{flat_map}
use Rattle.regmodel.specs.declared.clauses.Clause.{Clause}
use Rattle.regmodel.specs.Program as program
use Rattle.regmodel.specs.Program.{Block, Simple}
use Rattle.reglines.specs.Lines.{lines}
use Rattle.reglines.specs.Forms.{read_line}
use Rattle.reglang.specs.Contents.{Body, Text, Kind, Contents, IsSourceWithin}
use Rattle.reglines.specs.declared.arguments.Line.{Line}
use Rattle.reglines.specs.declared.faults.LineFault.{LineFault}
use Rattle.reglines.specs.declared.arguments.Line.TheVariants as line

-- one line, and after it lines of which `rest` holds
pub record Begins (first : Line) (rest : List Line → Type 0) (lines : List Line) : Type 0 where
  pub more : List Line
  pub whole : lines ≡ first ∷ more
  pub holds : rest more

-- lines of which `first` holds, and after them lines of which `second` holds
pub record Then (first second : List Line → Type 0) (lines : List Line) : Type 0 where
  pub front : List Line
  pub back : List Line
  pub whole : lines ≡ front ++ back
  pub before : first front
  pub after : second back

-- an `else` and the lines of the second part; or no line where that part is empty
abbrev pub ElseSays : Block → (List Line → Type 0) → List Line → Type 0
ElseSays second says lines = ((second ≡ program.Stop) × (lines ≡ [])) ⊎ Begins line.Else says lines

-- the line of a simple statement
abbrev pub simple_line : Simple → Line
simple_line (program.Assign to value) = line.Set to value
simple_line (program.Read to from) = line.Read to from
simple_line (program.Write to value) = line.Write to value
simple_line (program.Scan cell first count) = line.Scan cell first count
simple_line (program.Emit value) = line.Emit value

-- the lines of a block are those of its statements, one after another
abbrev pub BlockSays : Block → List Line → Type 0
BlockSays program.Stop lines = lines ≡ []
BlockSays (program.Do statement rest) lines = Begins (simple_line statement) (BlockSays rest) lines
BlockSays (program.If test first second rest) lines =
    Begins (line.If test) (Then (BlockSays first)
    (Then (ElseSays second (BlockSays second)) (Begins line.Fi (BlockSays rest)))) lines
BlockSays (program.Repeat count body rest) lines =
    Begins (line.Repeat count) (Then (BlockSays body) (Begins line.Done (BlockSays rest))) lines
BlockSays (program.Halt rest) lines = Begins line.Halt (BlockSays rest) lines

-- its statements, or a use line alone
abbrev pub BodySays : Body → List Line → Type 0
BodySays (Text block) lines = BlockSays block lines
BodySays (Kind kind) lines = lines ≡ line.Use kind ∷ []

-- a process or a check
pub data Part : Type 0 where
  Process : (body : Body) → Part
  Check : (clause : Clause) → Part

-- the lines of a process, or of a check
abbrev pub PartSays : Part → List Line → Type 0
PartSays (Process body) lines =
    Begins line.Process (Then (BodySays body) (λ last. last ≡ line.End ∷ [])) lines
PartSays (Check clause) lines = lines ≡ line.Check (Some clause) ∷ []

-- parts one after another
abbrev pub PartsSay : List Part → List Line → Type 0
PartsSay [] lines = lines ≡ []
PartsSay (part ∷ parts) lines = Then (PartSays part) (PartsSay parts) lines

-- the processes among parts
abbrev pub processes_in : List Part → List Body
processes_in [] = []
processes_in (Process body ∷ parts) = body ∷ processes_in parts
processes_in (Check clause ∷ parts) = processes_in parts

-- the clauses among parts
abbrev pub clauses_in : List Part → List Clause
clauses_in [] = []
clauses_in (Process body ∷ parts) = clauses_in parts
clauses_in (Check clause ∷ parts) = clause ∷ clauses_in parts

-- what one line says, where it is not skipped
abbrev pub line_said : Result (Option Line) LineFault → List Line
line_said (Ok (Some line)) = line ∷ []
line_said (Ok None) = []
line_said (Err fault) = []

-- what lines say that are not skipped
abbrev pub lines_said : List (List ℕ) → List Line
lines_said lines = flat_map (λ line. line_said (read_line line)) lines

-- the lines are a `registers` line, and then the processes and the checks, in any mixture
pub record LinesSay (source : Contents) (lines : List Line) : Type 0 where
  pub parts : List Part
  pub whole : Begins (line.Registers source.registers) (PartsSay parts) lines
  pub processes : processes_in parts ≡ source.processes
  pub clauses : clauses_in parts ≡ source.clauses

-- each line of the text has its form, those that are neither empty nor comments say the source, and
-- it is within the limits
pub record Spells (text : List ℕ) (source : Contents) : Type 0 where
  pub formed : All (λ line. IsOk (read_line line)) (lines text)
  pub says : LinesSay source (lines_said (lines text))
  pub within : IsSourceWithin source
