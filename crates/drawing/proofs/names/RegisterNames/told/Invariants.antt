use Rattle.std.proofs.Common.{◌≡◌, [], length, map, option_map}
use Rattle.std.specs.List.{range_with_len}
use Rattle.drawing.specs.RegisterNames.{name_told, names_with}
use Rattle.drawing.proofs.names.RegisterNames.told.Given as goal

abbrev pub invariant-loop-r : goal.invariant-loop-r
invariant-loop-r l = record {
  names : map (option_map (λ name. name.bytes.now)) l.names.items ≡ names_with [] (map (name_told l.text) (range_with_len 0 l.r));
  long : length l.names.items ≡ l.r;
}
