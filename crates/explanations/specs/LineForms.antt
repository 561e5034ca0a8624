-- The form of a line, in words.
use Rattle.std.specs.Prelude.{ℕ, List, [], ◌∷◌, ◌++◌, Option, Some, None, codes}
use Rattle.explanations.specs.ClauseForms.{check_form}
use Rattle.explanations.specs.declared.line_forms.Form.{Form}
use Rattle.explanations.specs.declared.line_forms.Form.TheVariants as form
use Rattle.reglines.specs.Forms.{kind_of, property_of}
use Rattle.reglines.specs.Spelling.{keyword_text}
use Rattle.reglines.specs.Words.{word_of}
use Rattle.reglines.specs.declared.vocabulary.Keyword.{Keyword}
use Rattle.reglines.specs.declared.vocabulary.Keyword.TheVariants as keyword
use Rattle.reglines.specs.declared.vocabulary.Kind.{Kind}
use Rattle.reglines.specs.declared.vocabulary.Kind.TheVariants as kind
use Rattle.reglines.specs.declared.words.Word.{Word}
use Rattle.reglines.specs.declared.words.Word.TheVariants as word

-- what an expression and an operand may be
abbrev sorts_words : List ℕ
sorts_words =
    codes "EXPR is an operand, or two with + - * = or < between them, and an operand is a number, a variable or a cell"

-- a first word, and nothing behind it
abbrev pub alone_text : Keyword → List ℕ
alone_text key = keyword_text key ++ codes ", and nothing behind it"

-- a form, in words
abbrev pub form_text : Form → List ℕ
form_text (form.Words words) = words.now
form_text (form.Alone key) = alone_text key
form_text (form.Check property) = check_form property

-- the form of a line with this first word
abbrev pub keyword_form : Keyword → List ℕ
keyword_form keyword.Registers = codes "registers NUMBER"
keyword_form keyword.Set = codes "set TARGET EXPR; TARGET is a variable or a cell, " ++ sorts_words
keyword_form keyword.Read =
    codes "read TARGET OPERAND; TARGET is the variable or cell that takes the value, and OPERAND the register, as a number, a variable or a cell"
keyword_form keyword.Write =
    codes "write OPERAND EXPR; OPERAND is the register, as a number, a variable or a cell, and EXPR is such an operand, or two with + - * = or < between them"
keyword_form keyword.Scan =
    codes "scan CELL REG COUNT with three numbers: the first cell, the first register, and how many"
keyword_form keyword.If = codes "if EXPR; " ++ sorts_words
keyword_form keyword.Repeat = codes "repeat EXPR; " ++ sorts_words
keyword_form keyword.Emit = codes "emit EXPR; " ++ sorts_words
keyword_form keyword.Use = codes "use KIND NUMBERS; the kinds are split, grid, tree, name and names"
keyword_form keyword.Check = check_form None
keyword_form key = alone_text key

-- the form of a use of this kind
abbrev pub kind_form : Kind → List ℕ
kind_form kind.Split = codes "use split BASE ID with two numbers"
kind_form kind.Grid = codes "use grid BASE SIDE ID with three numbers"
kind_form kind.Tree = codes "use tree BASE DEPTH ID VALUE with four numbers"
kind_form kind.Name = codes "use name BASE SLOTS SLOT with three numbers"
kind_form kind.Names = codes "use names BASE SLOTS SLOT with three numbers"

-- the form of a use, by the kind where there is one
abbrev pub use_form : Option Kind → List ℕ
use_form (Some kind) = kind_form kind
use_form None = keyword_form keyword.Use

-- the first of some words; no word that is known where there is none
abbrev pub first_of : List (List ℕ) → Word
first_of [] = word.Other
first_of (bytes ∷ more) = word_of bytes

-- the form of a line with a first word, and these behind it
abbrev pub form_after : Word → List (List ℕ) → List ℕ
form_after (word.Keyword keyword.Use) more = use_form (kind_of (first_of more))
form_after (word.Keyword keyword.Check) more = check_form (property_of (first_of more))
form_after (word.Keyword key) more = keyword_form key
form_after _ more = []

-- the form of a line with these words
abbrev pub form_of : List (List ℕ) → List ℕ
form_of [] = []
form_of (first ∷ more) = form_after (word_of first) more

-- that a line with these words is to have its form
abbrev pub wanted_form : List (List ℕ) → List ℕ
wanted_form line = codes "give the line its form: " ++ form_of line

-- a line with this first word, where more stands in it, or what closes the block that it opens
abbrev pub example : Keyword → List ℕ
example keyword.Registers = codes ": registers 2"
example keyword.Process = codes ", and end closes it"
example keyword.Set = codes ": set v0 v0 + 1"
example keyword.Read = codes ": read v0 1"
example keyword.Write = codes ": write 1 v0"
example keyword.Scan = codes ": scan 0 1 2"
example keyword.If = codes ": if v0 < 1, and fi closes it"
example keyword.Repeat = codes ": repeat 2, and done closes it"
example keyword.Emit = codes ": emit v0"
example keyword.Use = codes ": use split 0 1"
example keyword.Check = codes ": check distinct"
example key = []

-- that a line begins with this word
abbrev pub own_line_text : Keyword → List ℕ
own_line_text key = keyword_text key ++ codes " is a line of its own" ++ example key
