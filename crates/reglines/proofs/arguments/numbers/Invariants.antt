use Rattle.std.proofs.Common.{◌≡◌, length, map, take}
use Rattle.reglines.specs.declared.arguments.Argument.TheVariants.{Number}
use Rattle.reglines.proofs.arguments.numbers.Given as goal

abbrev pub invariant-loop-number : goal.invariant-loop-number
invariant-loop-number l = record {
  numbers : l.arguments.items ≡ map Number (take l.number-index l.numbers);
  long : length l.arguments.items ≡ l.number-index;
}
