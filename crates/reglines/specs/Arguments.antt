-- What a line, a use and a clause mean by their arguments, and the arguments that each has.
use Rattle.std.specs.Prelude.{Bool, true, false, ◌&&◌, List, [], ◌∷◌, Option, Some, None, nat_le}
use Rattle.regmodel.specs.declared.clauses.Clause.{Clause}
use Rattle.regmodel.specs.declared.clauses.Clause.TheVariants as clause
use Rattle.uses.specs.declared.kinds.Use.{Use}
use Rattle.uses.specs.declared.kinds.Use.TheVariants as use_line
use Rattle.reglines.specs.declared.arguments.Argument.{Argument}
use Rattle.reglines.specs.declared.arguments.Argument.TheVariants.{Number, Target, Operand, Expression}
use Rattle.reglines.specs.declared.arguments.Line.{Line}
use Rattle.reglines.specs.declared.arguments.Line.TheVariants as line
use Rattle.reglines.specs.declared.sorts.Sort.{Sort}
use Rattle.reglines.specs.declared.sorts.Sort.TheVariants as sort
use Rattle.reglines.specs.declared.vocabulary.Keyword.{Keyword}
use Rattle.reglines.specs.declared.vocabulary.Keyword.TheVariants as keyword
use Rattle.reglines.specs.declared.vocabulary.Kind.{Kind}
use Rattle.reglines.specs.declared.vocabulary.Kind.TheVariants as kind
use Rattle.reglines.specs.declared.vocabulary.Property.{Property}
use Rattle.reglines.specs.declared.vocabulary.Property.TheVariants as property

-- ---- what is made of arguments

-- the line that a first word and arguments make, no use and no check
abbrev pub line_with : Keyword → List Argument → Option Line
line_with keyword.Registers (Number n ∷ []) = Some (line.Registers n)
line_with keyword.Process [] = Some line.Process
line_with keyword.End [] = Some line.End
line_with keyword.Set (Target to ∷ Expression value ∷ []) = Some (line.Set to value)
line_with keyword.Read (Target to ∷ Operand from ∷ []) = Some (line.Read to from)
line_with keyword.Write (Operand to ∷ Expression value ∷ []) = Some (line.Write to value)
line_with keyword.Scan (Number cell ∷ Number first ∷ Number count ∷ []) =
    Some (line.Scan cell first count)
line_with keyword.If (Expression test ∷ []) = Some (line.If test)
line_with keyword.Else [] = Some line.Else
line_with keyword.Fi [] = Some line.Fi
line_with keyword.Repeat (Expression count ∷ []) = Some (line.Repeat count)
line_with keyword.Done [] = Some line.Done
line_with keyword.Emit (Expression value ∷ []) = Some (line.Emit value)
line_with keyword.Halt [] = Some line.Halt
line_with _ _ = None

-- the use that a kind and arguments make
abbrev pub use_with : Kind → List Argument → Option Use
use_with kind.Split (Number base ∷ Number id ∷ []) = Some (use_line.Split base id)
use_with kind.Grid (Number base ∷ Number side ∷ Number id ∷ []) = Some (use_line.Grid base side id)
use_with kind.Tree (Number base ∷ Number depth ∷ Number id ∷ Number value ∷ []) =
    Some (use_line.Tree base depth id value)
use_with kind.Name (Number base ∷ Number slots ∷ Number slot ∷ []) =
    Some (use_line.Name base slots slot)
use_with kind.Names (Number base ∷ Number slots ∷ Number slot ∷ []) =
    Some (use_line.Names base slots slot)
use_with _ _ = None

-- the clause that a property and arguments make
abbrev pub clause_with : Property → List Argument → Option Clause
clause_with property.Distinct [] = Some clause.Distinct
clause_with property.AtMost (Number name ∷ Number count ∷ []) = Some (clause.AtMost name count)
clause_with property.Within (Number low ∷ Number high ∷ []) = Some (clause.Within low high)
clause_with property.Adaptive [] = Some clause.Adaptive
clause_with property.Triangle [] = Some clause.Triangle
clause_with property.SelfSeen [] = Some clause.SelfSeen
clause_with property.Ended [] = Some clause.Ended
clause_with property.NoFault [] = Some clause.NoFault
clause_with _ _ = None

-- ---- what they are made of

-- the first word of a line and its arguments; those of a use and of a check are told by what
-- follows it
abbrev pub line_parts : Line → Keyword × List Argument
line_parts (line.Registers n) = (keyword.Registers, Number n ∷ [])
line_parts line.Process = (keyword.Process, [])
line_parts line.End = (keyword.End, [])
line_parts (line.Set to value) = (keyword.Set, Target to ∷ Expression value ∷ [])
line_parts (line.Read to from) = (keyword.Read, Target to ∷ Operand from ∷ [])
line_parts (line.Write to value) = (keyword.Write, Operand to ∷ Expression value ∷ [])
line_parts (line.Scan cell first count) =
    (keyword.Scan, Number cell ∷ Number first ∷ Number count ∷ [])
line_parts (line.If test) = (keyword.If, Expression test ∷ [])
line_parts line.Else = (keyword.Else, [])
line_parts line.Fi = (keyword.Fi, [])
line_parts (line.Repeat count) = (keyword.Repeat, Expression count ∷ [])
line_parts line.Done = (keyword.Done, [])
line_parts (line.Emit value) = (keyword.Emit, Expression value ∷ [])
line_parts line.Halt = (keyword.Halt, [])
line_parts (line.Use kind) = (keyword.Use, [])
line_parts (line.Check clause) = (keyword.Check, [])

-- the kind of a use and its arguments
abbrev pub use_parts : Use → Kind × List Argument
use_parts (use_line.Split base id) = (kind.Split, Number base ∷ Number id ∷ [])
use_parts (use_line.Grid base side id) = (kind.Grid, Number base ∷ Number side ∷ Number id ∷ [])
use_parts (use_line.Tree base depth id value) =
    (kind.Tree, Number base ∷ Number depth ∷ Number id ∷ Number value ∷ [])
use_parts (use_line.Name base slots slot) =
    (kind.Name, Number base ∷ Number slots ∷ Number slot ∷ [])
use_parts (use_line.Names base slots slot) =
    (kind.Names, Number base ∷ Number slots ∷ Number slot ∷ [])

-- the property of a clause and its arguments
abbrev pub clause_parts : Clause → Property × List Argument
clause_parts clause.Distinct = (property.Distinct, [])
clause_parts (clause.AtMost name count) = (property.AtMost, Number name ∷ Number count ∷ [])
clause_parts (clause.Within low high) = (property.Within, Number low ∷ Number high ∷ [])
clause_parts clause.Adaptive = (property.Adaptive, [])
clause_parts clause.Triangle = (property.Triangle, [])
clause_parts clause.SelfSeen = (property.SelfSeen, [])
clause_parts clause.Ended = (property.Ended, [])
clause_parts clause.NoFault = (property.NoFault, [])

-- ---- arguments by their sorts

-- whether these are arguments of these sorts; no other stands after an expression
abbrev pub are_of : List Sort → List Argument → Bool
are_of [] [] = true
are_of (sort.Number ∷ sorts) (Number n ∷ more) = are_of sorts more
are_of (sort.NumberTo limit ∷ sorts) (Number n ∷ more) = nat_le n limit && are_of sorts more
are_of (sort.Target ∷ sorts) (Target target ∷ more) = are_of sorts more
are_of (sort.Operand ∷ sorts) (Operand operand ∷ more) = are_of sorts more
are_of (sort.Expression ∷ sorts) (Expression value ∷ []) = true
are_of _ _ = false
