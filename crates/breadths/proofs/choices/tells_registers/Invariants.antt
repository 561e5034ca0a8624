use Rattle.std.proofs.Common.{◌≡◌, ◌+◌, length}
use Rattle.std.specs.List.{list_all}
use Rattle.std.specs.Option.{option_map_or}
use Rattle.breadths.specs.Choices.{is_range, parts_left, tells_registers}
use Rattle.breadths.proofs.choices.tells_registers.Given as goal

-- each part so far tells a range
abbrev pub invariant-loop-left : goal.invariant-loop-left
invariant-loop-left l = list_all is_range (parts_left l.left) ≡ tells_registers l.text

abbrev pub decreases-loop-left : goal.decreases-loop-left
decreases-loop-left l = option_map_or (λ text. length text.now + 1) l.left 0
