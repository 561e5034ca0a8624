-- The table of the language: what follows the first word of a line, a kind and a property.
use Rattle.std.specs.Prelude.{List, [], ◌∷◌}
use Rattle.regmodel.specs.declared.limits.TheConstants.{GREATEST_VALUE, MOST_PROCESSES}
use Rattle.reglines.specs.declared.sorts.Sort.{Sort}
use Rattle.reglines.specs.declared.sorts.Sort.TheVariants.{Number, NumberTo, Target, Operand, Expression}
use Rattle.reglines.specs.declared.vocabulary.Keyword.{Keyword}
use Rattle.reglines.specs.declared.vocabulary.Keyword.TheVariants as keyword
use Rattle.reglines.specs.declared.vocabulary.Kind.{Kind}
use Rattle.reglines.specs.declared.vocabulary.Kind.TheVariants as kind
use Rattle.reglines.specs.declared.vocabulary.Property.{Property}
use Rattle.reglines.specs.declared.vocabulary.Property.TheVariants as property

-- what follows a first word; after `use` comes a kind and after `check` a property, and then what
-- follows these
abbrev pub sorts_after : Keyword → List Sort
sorts_after keyword.Registers = Number ∷ []
sorts_after keyword.Process = []
sorts_after keyword.End = []
sorts_after keyword.Set = Target ∷ Expression ∷ []
sorts_after keyword.Read = Target ∷ Operand ∷ []
sorts_after keyword.Write = Operand ∷ Expression ∷ []
sorts_after keyword.Scan = Number ∷ Number ∷ Number ∷ []
sorts_after keyword.If = Expression ∷ []
sorts_after keyword.Else = []
sorts_after keyword.Fi = []
sorts_after keyword.Repeat = Expression ∷ []
sorts_after keyword.Done = []
sorts_after keyword.Emit = Expression ∷ []
sorts_after keyword.Halt = []
sorts_after keyword.Use = []
sorts_after keyword.Check = []

-- what follows a kind
abbrev pub kind_sorts : Kind → List Sort
kind_sorts kind.Split = Number ∷ Number ∷ []
kind_sorts kind.Grid = Number ∷ Number ∷ Number ∷ []
kind_sorts kind.Tree = Number ∷ Number ∷ Number ∷ Number ∷ []
kind_sorts kind.Name = Number ∷ Number ∷ Number ∷ []
kind_sorts kind.Names = Number ∷ Number ∷ Number ∷ []

-- what follows a property
abbrev pub property_sorts : Property → List Sort
property_sorts property.Distinct = []
property_sorts property.AtMost = NumberTo GREATEST_VALUE ∷ NumberTo MOST_PROCESSES ∷ []
property_sorts property.Within = NumberTo GREATEST_VALUE ∷ NumberTo GREATEST_VALUE ∷ []
property_sorts property.Adaptive = []
property_sorts property.Triangle = []
property_sorts property.SelfSeen = []
property_sorts property.Ended = []
property_sorts property.NoFault = []
