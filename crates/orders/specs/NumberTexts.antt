-- Texts that are numbers.
use Rattle.std.specs.Prelude.{ℕ, ◌<◌, ◌^◌, List}
use Rattle.std.specs.Str.Parse.{IsNumeral, digits_value, without_leading_plus}

-- the text is digits, maybe behind a plus, and the number that they write has 32 bits
abbrev pub IsNumberText : List ℕ → Type 0
IsNumberText text =
    IsNumeral 10 (without_leading_plus text)
    × (digits_value 10 (without_leading_plus text) < 2 ^ 32)
