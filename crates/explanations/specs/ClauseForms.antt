-- The form of a check line, made of the table of properties.
use Rattle.std.specs.Prelude.{ℕ, ◌==◌, if◌then◌else◌, List, [], ◌∷◌, ◌++◌, length, Option, Some, None, codes}
use Rattle.reglines.specs.Spelling.{property_text}
use Rattle.reglines.specs.declared.vocabulary.Property.{Property}
use Rattle.reglines.specs.declared.vocabulary.Property.TheVariants as property
use Rattle.reglines.specs.declared.vocabulary.TheConstants.{PROPERTIES}

-- the names of the numbers that follow a property
abbrev pub number_names : Property → List ℕ
number_names property.AtMost = codes " V C"
number_names property.Within = codes " LO HI"
number_names _ = []

-- what these numbers may be, or that nothing follows
abbrev pub number_ranges : Property → List ℕ
number_ranges property.AtMost = codes "; V is 0 to 1000000000, and C is 0 to 8"
number_ranges property.Within = codes "; LO and HI are 0 to 1000000000"
number_ranges _ = codes ", and nothing behind it"

-- a property, and the names of the numbers that follow it
abbrev pub clause_words : Property → List ℕ
clause_words property = property_text property ++ number_names property

-- what parts a clause from so many behind it
abbrev pub parting : ℕ → List ℕ
parting others = if others == 0 then [] else (if others == 1 then codes " and " else codes ", ")

-- the clauses of these properties, parted by commas, and by `and` before the last
abbrev pub clauses_listed : List Property → List ℕ
clauses_listed [] = []
clauses_listed (property ∷ others) =
    (clause_words property ++ parting (length others)) ++ clauses_listed others

-- the form of a check of this property, or of any one
abbrev pub check_form : Option Property → List ℕ
check_form (Some property) = codes "check " ++ clause_words property ++ number_ranges property
check_form None = codes "check CLAUSE; the clauses are " ++ clauses_listed PROPERTIES
