-- What is open behind some lines, line by line.
use Rattle.std.proofs.Common.{◌≡◌, ℕ, zero, suc, ◌+◌, ◌-◌, ◌<◌, List, [], ◌∷◌, take, refl, ap, ◌∙◌, arith}
use Rattle.explanations.specs.OpenBlocks.{open_behind, open_past}
use Rattle.explanations.specs.declared.open_blocks.Opened.{Opened}
use Rattle.reglines.specs.Forms.{read_line}

one_line : (n k : ℕ) (line : List ℕ) (lines : List (List ℕ)) (blocks : List Opened) → open_behind n (take (suc k) (line ∷ lines)) blocks ≡ open_behind (n + 1) (take k lines) (open_past (n + 1) (read_line line) blocks)
one_line n k line lines blocks = let next : suc n ≡ n + 1 = omega arith in ap (λ m. open_behind m (take k lines) (open_past m (read_line line) blocks)) next

-- past one more line
pub past_line : (n count : ℕ) (line : List ℕ) (lines : List (List ℕ)) (blocks : List Opened) → n < count → open_behind n (take (count - n) (line ∷ lines)) blocks ≡ open_behind (n + 1) (take (count - (n + 1)) lines) (open_past (n + 1) (read_line line) blocks)
past_line n count line lines blocks low = (let more : count - n ≡ suc (count - (n + 1)) = omega (arith, low) in ap (λ k. open_behind n (take k (line ∷ lines)) blocks) more) ∙ one_line n (count - (n + 1)) line lines blocks

-- behind no line
pub past_none : (n k : ℕ) (blocks : List Opened) → open_behind n (take k []) blocks ≡ blocks
past_none n zero blocks = refl
past_none n (suc k) blocks = refl
