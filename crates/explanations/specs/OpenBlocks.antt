-- The blocks that are open where a line stands.
use Rattle.std.specs.Prelude.{ℕ, suc, ◌-◌, if◌then◌else◌, List, [], ◌∷◌, ◌++◌, Option, Some, None, Result, Ok, length, nat_lt, slice_get, take}
use Rattle.explanations.specs.declared.open_blocks.BlockKind.TheVariants as block
use Rattle.explanations.specs.declared.open_blocks.Opened.{Opened}
use Rattle.explanations.specs.declared.open_blocks.TheConstants.{MOST_OPEN}
use Rattle.reglines.specs.Lines.{lines}
use Rattle.reglines.specs.Forms.{read_line}
use Rattle.reglines.specs.declared.arguments.Line.{Line}
use Rattle.reglines.specs.declared.arguments.Line.TheVariants as line
use Rattle.reglines.specs.declared.faults.LineFault.{LineFault}

-- one more block inside those that are open; a text that is read has no more than so many
abbrev pub with_one : List Opened → Opened → List Opened
with_one blocks one = if nat_lt (length blocks) MOST_OPEN then blocks ++ one ∷ [] else blocks

-- without the innermost one
abbrev pub without_one : List Opened → List Opened
without_one blocks = take (length blocks - 1) blocks

-- that block with its else at the line with this number
abbrev pub with_else : ℕ → Opened → Opened
with_else number opened = record {
  block = opened.block;
  line = opened.line;
  else_line = Some number;
}

-- where the innermost of these has its else at the line with this number
abbrev pub past_else : ℕ → Option Opened → List Opened → List Opened
past_else number None blocks = blocks
past_else number (Some opened) blocks = with_one (without_one blocks) (with_else number opened)

-- the innermost of these, which is the last
abbrev pub innermost : List Opened → Option Opened
innermost blocks = slice_get blocks (length blocks - 1)

-- what is open behind a line with this number that says this, the innermost block last
abbrev pub open_past : ℕ → Result (Option Line) LineFault → List Opened → List Opened
open_past number (Ok (Some line.Process)) blocks =
    with_one blocks (record { block = block.Process; line = number; else_line = None })
open_past number (Ok (Some (line.If test))) blocks =
    with_one blocks (record { block = block.If; line = number; else_line = None })
open_past number (Ok (Some (line.Repeat count))) blocks =
    with_one blocks (record { block = block.Repeat; line = number; else_line = None })
open_past number (Ok (Some line.Else)) blocks = past_else number (innermost blocks) blocks
open_past number (Ok (Some line.End)) blocks = without_one blocks
open_past number (Ok (Some line.Fi)) blocks = without_one blocks
open_past number (Ok (Some line.Done)) blocks = without_one blocks
open_past number _ blocks = blocks

-- what is open behind these lines, which come after so many others
abbrev pub open_behind : ℕ → List (List ℕ) → List Opened → List Opened
open_behind before [] blocks = blocks
open_behind before (line ∷ lines) blocks =
    open_behind (suc before) lines (open_past (suc before) (read_line line) blocks)

-- what is open behind the first so many lines of a text
abbrev pub open_after : ℕ → List ℕ → List Opened
open_after count text = open_behind 0 (take count (lines text)) []
