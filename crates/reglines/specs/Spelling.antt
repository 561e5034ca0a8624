-- How the words of the language are spelled.
use Rattle.std.specs.Prelude.{ℕ, List, codes}
use Rattle.regmodel.specs.declared.statements.Op.{Op}
use Rattle.regmodel.specs.declared.statements.Op.TheVariants as op
use Rattle.reglines.specs.declared.vocabulary.Keyword.{Keyword}
use Rattle.reglines.specs.declared.vocabulary.Keyword.TheVariants as keyword
use Rattle.reglines.specs.declared.vocabulary.Kind.{Kind}
use Rattle.reglines.specs.declared.vocabulary.Kind.TheVariants as kind
use Rattle.reglines.specs.declared.vocabulary.Property.{Property}
use Rattle.reglines.specs.declared.vocabulary.Property.TheVariants as property

-- a first word of a line
abbrev pub keyword_text : Keyword → List ℕ
keyword_text keyword.Registers = codes "registers"
keyword_text keyword.Process = codes "process"
keyword_text keyword.End = codes "end"
keyword_text keyword.Set = codes "set"
keyword_text keyword.Read = codes "read"
keyword_text keyword.Write = codes "write"
keyword_text keyword.Scan = codes "scan"
keyword_text keyword.If = codes "if"
keyword_text keyword.Else = codes "else"
keyword_text keyword.Fi = codes "fi"
keyword_text keyword.Repeat = codes "repeat"
keyword_text keyword.Done = codes "done"
keyword_text keyword.Emit = codes "emit"
keyword_text keyword.Halt = codes "halt"
keyword_text keyword.Use = codes "use"
keyword_text keyword.Check = codes "check"

-- an operator
abbrev pub operator_text : Op → List ℕ
operator_text op.Add = codes "+"
operator_text op.Sub = codes "-"
operator_text op.Mul = codes "*"
operator_text op.Equal = codes "="
operator_text op.Less = codes "<"

-- a kind of use line
abbrev pub kind_text : Kind → List ℕ
kind_text kind.Split = codes "split"
kind_text kind.Grid = codes "grid"
kind_text kind.Tree = codes "tree"
kind_text kind.Name = codes "name"
kind_text kind.Names = codes "names"

-- a property that a check line names
abbrev pub property_text : Property → List ℕ
property_text property.Distinct = codes "distinct"
property_text property.AtMost = codes "atmost"
property_text property.Within = codes "within"
property_text property.Adaptive = codes "adaptive"
property_text property.Triangle = codes "triangle"
property_text property.SelfSeen = codes "selfseen"
property_text property.Ended = codes "ended"
property_text property.NoFault = codes "nofault"
