use Rattle.std.proofs.Common.{◌≡◌, Err, length, max, ◌∙◌, ap, arith, sym}
use Rattle.reglines.specs.LineFaults.{code_of}
use Rattle.reglang.proofs.CheckLines.{all_kept, checks_counted, kept_on}
use Rattle.reglang.proofs.Fits.{read_on_fits}
use Rattle.reglang.proofs.Memory.{ran_out}
use Rattle.reglang.proofs.Readings.{IsCut, left_next, left_refused, left_ended, line_at_fault, end_at_fault, not_memory, no_fault_before, read_spells, read_fails}
use Rattle.reglang.proofs.reader.read_text.Goals as goal

pub returns-in-Err-clause-first_fault : goal.returns-in-Err-clause-first_fault
returns-in-Err-clause-first_fault c = λ other.
    let cut : IsCut c.loop-bytes.rest.now c.in-Some.bytes.now c.in-Some.after.now = record { cut = c.in-Some.ensures.0 } in
    (read_fails c.args.text.now _ (left_refused _ _ _ _ _ _ c.in-Err.refusal c.loop-bytes.invariant.left cut c.in-Err.ensures.taken.answers other)).0

pub returns-in-Err-clause-not_spelled : goal.returns-in-Err-clause-not_spelled
returns-in-Err-clause-not_spelled c = λ other.
    let cut : IsCut c.loop-bytes.rest.now c.in-Some.bytes.now c.in-Some.after.now = record { cut = c.in-Some.ensures.0 } in
    (read_fails c.args.text.now _ (left_refused _ _ _ _ _ _ c.in-Err.refusal c.loop-bytes.invariant.left cut c.in-Err.ensures.taken.answers other)).1

pub loop-bytes-preserved : goal.loop-bytes-preserved
loop-bytes-preserved c =
    let cut : IsCut c.loop-bytes.rest.now c.in-Some.bytes.now c.in-Some.after.now = record { cut = c.in-Some.ensures.0 } in
    let shorter = c.in-Some.ensures.1 in
    let counted = c.loop-bytes.invariant.counted in
    let short = c.loop-bytes.invariant.short in
    let fewer = ap length cut.cut in
    record {
      fits = read_on_fits _ _ c.in-Some.bytes.now c.loop-bytes.invariant.fits c.in-Ok.ensures.taken.answers;
      left = left_next _ _ _ _ _ _ _ c.loop-bytes.invariant.left cut c.in-Ok.ensures.taken.answers;
      counted = omega arith;
      counted_checks = checks_counted c.in-Some.bytes.now _ _ _ _ _ c.loop-bytes.invariant.counted_checks c.in-Ok.ensures.taken.answers c.in-Ok.ensures.kept;
      kept = kept_on _ _ _ _ c.loop-bytes.rest.now c.in-Some.bytes.now c.in-Some.after.now cut.cut c.in-Ok.ensures.kept c.loop-bytes.invariant.kept;
      short = omega arith;
    }

pub returns-in-Ok-finish-clause-spelled : goal.returns-in-Ok-finish-clause-spelled
returns-in-Ok-finish-clause-spelled c =
    read_spells c.args.text.now _ (left_ended _ _ _ _ _ c.loop-bytes.invariant.left c.in_default.ensures c.in-Ok-finish.ensures.0)

pub returns-in-Ok-finish-clause-lines : goal.returns-in-Ok-finish-clause-lines
returns-in-Ok-finish-clause-lines c = c.in-Ok-finish.ensures.1 ∙ all_kept _ _ c.loop-bytes.line c.loop-bytes.rest.now c.in_default.ensures c.loop-bytes.invariant.kept

pub returns-in-Err-finish-clause-first_fault : goal.returns-in-Err-finish-clause-first_fault
returns-in-Err-finish-clause-first_fault c = λ other.
    let number : max 1 c.loop-bytes.line ≡ c.max.result = omega (arith, c.max.ensures) in
    (read_fails c.args.text.now _ (left_ended _ _ _ _ _ c.loop-bytes.invariant.left c.in_default.ensures c.in-Err-finish.ensures ∙ ap (λ n. Err (record { line = n; code = code_of c.in-Err-finish.fault })) number)).0

pub returns-in-Err-finish-clause-not_spelled : goal.returns-in-Err-finish-clause-not_spelled
returns-in-Err-finish-clause-not_spelled c = λ other.
    (read_fails c.args.text.now _ (left_ended _ _ _ _ _ c.loop-bytes.invariant.left c.in_default.ensures c.in-Err-finish.ensures)).1

pub returns-in-Err-clause-no_fault_before : goal.returns-in-Err-clause-no_fault_before
returns-in-Err-clause-no_fault_before c =
    let cut : IsCut c.loop-bytes.rest.now c.in-Some.bytes.now c.in-Some.after.now = record { cut = c.in-Some.ensures.0 } in
    no_fault_before c.args.text.now _ _ _ _ _ c.loop-bytes.invariant.left cut

pub returns-in-Err-finish-clause-no_fault_before : goal.returns-in-Err-finish-clause-no_fault_before
returns-in-Err-finish-clause-no_fault_before c =
    let number : max 1 c.loop-bytes.line ≡ c.max.result = omega (arith, c.max.ensures) in
    rw (read_fails c.args.text.now _ (left_ended _ _ _ _ _ c.loop-bytes.invariant.left c.in_default.ensures c.in-Err-finish.ensures ∙ ap (λ n. Err (record { line = n; code = code_of c.in-Err-finish.fault })) number)).0 (omega arith)

pub returns-in-Err-clause-of_end : goal.returns-in-Err-clause-of_end
returns-in-Err-clause-of_end c = λ other.
    let cut : IsCut c.loop-bytes.rest.now c.in-Some.bytes.now c.in-Some.after.now = record { cut = c.in-Some.ensures.0 } in
    sym (line_at_fault _ _ _ _ _ _ c.in-Err.refusal c.loop-bytes.invariant.left cut c.in-Err.ensures.taken.answers other)

pub returns-in-Err-finish-clause-of_end : goal.returns-in-Err-finish-clause-of_end
returns-in-Err-finish-clause-of_end c = λ other. sym (end_at_fault _ _ _ _ c.loop-bytes.invariant.left c.in_default.ensures)

pub returns-in-Err-clause-memory : goal.returns-in-Err-clause-memory
returns-in-Err-clause-memory c =
    let cut : IsCut c.loop-bytes.rest.now c.in-Some.bytes.now c.in-Some.after.now = record { cut = c.in-Some.ensures.0 } in
    ran_out _ _ _ _ _ _ c.in-Err.refusal c.loop-bytes.invariant.left cut c.in-Err.ensures.taken.answers c.in-Err.ensures.taken.memory

pub returns-in-Err-finish-clause-memory : goal.returns-in-Err-finish-clause-memory
returns-in-Err-finish-clause-memory c = λ e. absurd (not_memory c.in-Err-finish.fault e)

pub returns-in-Err-finish-clause-of_memory : goal.returns-in-Err-finish-clause-of_memory
returns-in-Err-finish-clause-of_memory c = λ e. absurd (not_memory c.in-Err-finish.fault e)
