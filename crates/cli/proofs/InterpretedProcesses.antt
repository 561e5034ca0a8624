-- How the machine of a process understands numbers where it is an interpreter.
use Rattle.std.proofs.Common.{◌≡◌, ℕ, Bool, false, Option, Some, None, refl, ap, sym, subst}
use Rattle.std.specs.Prelude.{option_map}
use Rattle.regmodel.specs.Prelude.{Program}
use Rattle.machine.specs.StateNumbers.{resumed_by}
use Rattle.reglang.specs.Contents.{Body, Kind, Text, program_over}
use Rattle.uses.specs.declared.kinds.Use.{Use}
use Rattle.cli.specs.Understanding.{resumed_over}

-- as an interpreter of the program, unless it has a use line and natives are asked for
pub interpreted : (registers : ℕ) (native : Bool) (body : Option Body) (program : Program) → option_map (program_over registers) body ≡ Some program
    → ((kind : Use) → body ≡ Some (Kind kind) → native ≡ false) → option_map (resumed_over registers native) body ≡ Some (resumed_by program)
interpreted registers native None program told use_line = absurd (cc told)
interpreted registers native (Some (Text block)) program told use_line = ap (option_map resumed_by) told
interpreted registers native (Some (Kind kind)) program told use_line =
    subst (λ n. option_map (resumed_over registers n) (Some (Kind kind)) ≡ Some (resumed_by program)) (sym (use_line kind refl)) (ap (option_map resumed_by) told)
