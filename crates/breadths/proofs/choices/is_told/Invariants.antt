use Rattle.std.proofs.Common.{◌≡◌, ◌+◌, length}
use Rattle.std.specs.List.{list_any}
use Rattle.std.specs.Option.{option_map_or}
use Rattle.breadths.specs.Choices.{is_told, is_within, parts_left}
use Rattle.breadths.proofs.choices.is_told.Given as goal

-- no part so far tells the register
abbrev pub invariant-loop-left : goal.invariant-loop-left
invariant-loop-left l = list_any (is_within l.register) (parts_left l.left) ≡ is_told l.text l.register

abbrev pub decreases-loop-left : goal.decreases-loop-left
decreases-loop-left l = option_map_or (λ text. length text.now + 1) l.left 0
