-- Where a process stops, by its own program or its use line.
use Rattle.std.proofs.Common.{◌≡◌, ℕ, List, Some, None, ap, sym, ◌∙◌}
use Rattle.machine.specs.Stops.{stops_at}
use Rattle.reglang.specs.Contents.{Contents, programs_in}
use Rattle.reglang.specs.Sources.{own_program_at}
use Rattle.regmodel.specs.Prelude.{Schedule, Program, replies, Replies}
use Rattle.drawing.specs.Stops.{stop_after, stop_of}

-- by its own program, on what it was answered
pub at_own : (source : Contents) (ps : List Program) (w : Schedule) (p : ℕ) (program : Program) (told : Replies) → ps ≡ programs_in source → own_program_at source p ≡ Some program → told ≡ replies ps w p → stops_at program told ≡ stop_after source w p
at_own source ps w p program told same own answered =
    ap (stops_at program) (answered ∙ ap (λ rs. replies rs w p) same)
    ∙ ap (λ o. stop_of o (replies (programs_in source) w p)) (sym own)

-- by its use line
pub at_use : (source : Contents) (w : Schedule) (p : ℕ) → own_program_at source p ≡ None → Some (record { at = 0; culprit = None }) ≡ stop_after source w p
at_use source w p own = ap (λ o. stop_of o (replies (programs_in source) w p)) (sym own)
