-- What one line more makes of what was read.
use Rattle.std.proofs.Common.{◌≡◌, ℕ, suc, ◌+◌, ◌<◌, ◌≤◌, Bool, true, List, ◌∷◌, length, reverse, Result, Ok, Err, refl, ap, subst, sym, ◌∙◌, arith}
use Rattle.std.proofs.lemmas.Bool.{and_parts, lt-ltb, le-ltb}
use Rattle.std.proofs.lemmas.List.{length-map, length-reverse}
use Rattle.std.specs.List.{count_by}
use Rattle.std.specs.Prelude.{nat_lt, ◌&&◌}
use Rattle.regmodel.specs.declared.statements.Expr.{Expr}
use Rattle.regmodel.specs.Prelude.{Block}
use Rattle.regmodel.specs.Limits.{expr_fits}
use Rattle.regmodel.specs.Program as program
use Rattle.regmodel.specs.Program.{Stop}
use Rattle.reglang.specs.Contents.{Contents}
use Rattle.reglang.specs.Drafts.{Frame, First, Second, Turn, Inside, Reading, Answers, add, enter, leave_if, leave_repeat, turns, frame_of, frames_of, is_turn, ◌⊕◌}
use Rattle.reglines.specs.declared.faults.LineFault.{LineFault}
use Rattle.reglines.specs.declared.faults.LineFault.TheVariants.{PastLimit}
use Rattle.reglang.proofs.Frames.{turns-held}
use Rattle.reglang.specs.declared.draft.Draft.{Draft}
use Rattle.reglang.specs.declared.draft.Open.{Open}
use Rattle.reglang.specs.declared.refusals.LineRefusal.{LineRefusal}

pub added : (before : Contents) (frames : List Frame) (block : Block) (n : ℕ) (fits : Bool) (statement next : Block) → nat_lt n 200 ≡ true → fits ≡ true → next ≡ block ⊕ statement → add before frames block n fits statement ≡ Ok (Inside before frames next (n + 1))
added before frames block n fits statement next room h told = rw (room, h, told) (ap (λ m. Ok (Inside before frames (block ⊕ statement) m)) (omega arith))

-- an answer that only memory may refuse
pub answered : (expected : Result Reading LineFault) (next : Reading) (result : Result Draft LineRefusal) → Answers (Ok next) result → expected ≡ Ok next → Answers expected result
answered expected next result answers e = subst (λ (x : Result Reading LineFault). Answers x result) (sym e) answers

pub left_repeat : (before : Contents) (frames outside : List Frame) (block : Block) (n : ℕ) (count : Expr) (outer ended : Block) → frames ≡ Turn count outer ∷ outside → ended ≡ program.Repeat count block Stop → leave_repeat before frames block n ≡ Ok (Inside before outside (outer ⊕ ended) n)
left_repeat before frames outside block n count outer ended e h = rw h (ap (λ fs. leave_repeat before fs block n) e)

pub left_first : (before : Contents) (frames outside : List Frame) (block : Block) (n : ℕ) (test : Expr) (outer ended : Block) → frames ≡ First test outer ∷ outside → ended ≡ program.If test block Stop Stop → leave_if before frames block n ≡ Ok (Inside before outside (outer ⊕ ended) n)
left_first before frames outside block n test outer ended e h = rw h (ap (λ fs. leave_if before fs block n) e)

pub left_second : (before : Contents) (frames outside : List Frame) (block : Block) (n : ℕ) (test : Expr) (first outer ended : Block) → frames ≡ Second test first outer ∷ outside → ended ≡ program.If test first block Stop → leave_if before frames block n ≡ Ok (Inside before outside (outer ⊕ ended) n)
left_second before frames outside block n test first outer ended e h = rw h (ap (λ fs. leave_if before fs block n) e)

length-frames : (opens : List Open) → length (frames_of opens) ≡ length opens
length-frames opens = length-map (reverse opens) frame_of ∙ length-reverse opens

-- a repeat that is entered, and one too many
pub entered_repeat : (before : Contents) (opens : List Open) (block : Block) (n : ℕ) (count : Expr) → nat_lt n 200 && nat_lt (length opens) 16 ≡ true → expr_fits count ≡ true → count_by is_turn opens < 3 → enter before (Turn count block) (frames_of opens) n (expr_fits count && nat_lt (turns (frames_of opens)) 3) ≡ Ok (Inside before (Turn count block ∷ frames_of opens) Stop (suc n))
entered_repeat before opens block n count room h few =
    let parts = and_parts (nat_lt n 200) (nat_lt (length opens) 16) room in
    rw (parts.0, h, turns-held opens, length-frames opens, lt-ltb (count_by is_turn opens) 3 few, parts.1) refl

pub no_more_turns : (before : Contents) (opens : List Open) (block : Block) (n : ℕ) (count : Expr) → nat_lt n 200 && nat_lt (length opens) 16 ≡ true → expr_fits count ≡ true → 3 ≤ count_by is_turn opens → enter before (Turn count block) (frames_of opens) n (expr_fits count && nat_lt (turns (frames_of opens)) 3) ≡ Err PastLimit
no_more_turns before opens block n count room h many =
    let parts = and_parts (nat_lt n 200) (nat_lt (length opens) 16) room in
    rw (parts.0, h, turns-held opens, le-ltb (count_by is_turn opens) 3 many) refl
