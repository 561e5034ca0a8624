-- What a stream of parts has left.
use Rattle.std.specs.Prelude.{◌≡◌, ◌≤◌, ℕ, true, List, length, ◌∷◌, ◌++◌, Option, Some, codes}
use Rattle.std.specs.Io.KnownBytes.{Consumes}
use Rattle.texts.specs.Cuts.{has_no}
use Rattle.part_texts.specs.declared.streams.PartStream.{PartStream}
use Rattle.part_texts.specs.declared.streams.TheConstants.{MOST_LINE_BYTES}

-- the bytes that its reader has left, where they are known
abbrev pub left_of : {R : Type 0} → (R → Option (List ℕ)) → PartStream R → Option (List ℕ)
left_of left stream = left stream.reader

-- a text of this kind was read
abbrev pub Reads : {R X : Type 0} → (R → Option (List ℕ)) → (X → List ℕ) → PartStream R
    → PartStream R → X → Type 0
Reads left text old new x = Consumes (left_of left old) (left_of left new) (text x)

-- a line with its line feed
abbrev pub line_text : List ℕ → List ℕ
line_text line = line ++ codes "\n"

-- a line that a stream can hold, without its line feed
pub record FitsLine (line : List ℕ) : Type 0 where
  pub one : has_no 10 line ≡ true
  pub short : length line ≤ MOST_LINE_BYTES

-- a line, its line feed and what is read after it are a text
pub record ReadsOn (old new : Option (List ℕ)) (line text : List ℕ) : Type 0 where
  pub rest : List ℕ
  pub parts : line ++ 10 ∷ rest ≡ text
  pub taken : Consumes old new rest

-- a text of this kind was read, whose first line is read already
abbrev pub ReadsBehind : {R X : Type 0} → (R → Option (List ℕ)) → (X → List ℕ) → PartStream R
    → PartStream R → X → Type 0
ReadsBehind left text old new x =
    ReadsOn (left_of left old) (left_of left new) old.line.items (text x)

-- a line that was read, its line feed and what is left are a text
pub record IsLineOf (left : Option (List ℕ)) (line text : List ℕ) : Type 0 where
  pub one : has_no 10 line ≡ true
  pub rest : List ℕ
  pub known : left ≡ Some rest
  pub parts : line ++ 10 ∷ rest ≡ text
