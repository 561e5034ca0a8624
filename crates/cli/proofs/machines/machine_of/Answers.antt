use Rattle.std.proofs.Common.{◌≡◌, Some, ap, sym, ◌∙◌, subst, IfSome, false}
use Rattle.std.proofs.lemmas.Option.{slice_get-map}
use Rattle.machine.specs.StateNumbers.{resumed_by}
use Rattle.reglang.specs.Contents.{IsText, Kind, program_over}
use Rattle.reglang.specs.Sources.{IsUseOf, body_at, contents_of}
use Rattle.uses.specs.declared.kinds.Use.{Use}
use Rattle.cli.specs.Understanding.{resumed_over}
use Rattle.cli.proofs.InterpretedProcesses.{interpreted}
use Rattle.cli.proofs.machines.machine_of.Goals as goal
use Rattle.cli.proofs.machines.machine_of.Goals.{in_default-via-in-Some+else-native, in_default-via-in_default}

pub returns-in_ok-interp-in_default-clause-understood : goal.returns-in_ok-interp-in_default-clause-understood
returns-in_ok-interp-in_default-clause-understood c =
    let source = contents_of c.args.source.now in
    let body = body_at c.args.source.now c.args.p in
    let use_line : (kind : Use) → body ≡ Some (Kind kind) → c.args.native ≡ false = elim c.in_default.branch [
      | in_default-via-in-Some+else-native w ↦ λ kind at. w.if-native.false
      | in_default-via-in_default w ↦ λ kind at. absurd (subst (λ b. IfSome b IsText) at (subst (IsUseOf body) w.in_default.is c.use_of.ensures))
    ] in
    slice_get-map (resumed_over source.registers c.args.native) source.processes c.args.p
    ∙ (interpreted source.registers c.args.native body _ (sym (slice_get-map (program_over source.registers) source.processes c.args.p) ∙ c.in_ok-prog-in_default.ensures) use_line
    ∙ ap (λ q. Some (resumed_by q)) (sym c.in_ok-interp-in_default.ensures.same))
