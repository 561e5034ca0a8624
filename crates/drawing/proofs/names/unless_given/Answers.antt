use Rattle.std.proofs.Common.{◌≡◌, Some, sym, ◌∙◌}
use Rattle.drawing.proofs.KeptNames.{none_given, some_given}
use Rattle.drawing.proofs.names.unless_given.Goals as goal

pub returns-then-is_given : goal.returns-then-is_given
returns-then-is_given c =
    let told : c.args.told ≡ Some c.in_ok-name.name = cc in
    rw told (none_given c.in_ok-name.name.bytes.now c.args.names.now (sym c.is_given.ensures ∙ c.if-is_given.true))

pub returns : goal.returns
returns c =
    let told : c.args.told ≡ Some c.in_ok-name.name = cc in
    rw told (some_given c.in_ok-name.name.bytes.now c.args.names.now (sym c.is_given.ensures ∙ c.if-is_given.false))
