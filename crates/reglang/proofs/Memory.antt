-- Where memory was refused: a line that may ask for it, where neither it nor one
-- before it has a fault.
use Rattle.std.proofs.Common.{◌≡◌, ℕ, suc, ◌+◌, true, List, slice_get, take, Option, Result, Ok, Err, refl, ap, ◌∙◌, arith}
use Rattle.std.specs.Prelude.{◌&&◌, is_none, IsOk}
use Rattle.reglang.specs.Checks.{line_at}
use Rattle.reglang.specs.Drafts.{Reading, take_if_said, IsRefusalOf, IsWantOf}
use Rattle.reglang.specs.Faults.{Context, WantsMemory, are_faultless, asks, fault_of_line}
use Rattle.reglines.specs.Forms.{read_line}
use Rattle.reglang.specs.Refusals.{refusal_code}
use Rattle.reglines.specs.declared.arguments.Line.{Line}
use Rattle.reglines.specs.declared.faults.LineFault.{LineFault}
use Rattle.reglang.specs.declared.refusals.LineRefusal.{LineRefusal}
use Rattle.reglang.specs.declared.refusals.LineRefusal.TheVariants as refusal
use Rattle.reglang.proofs.Contexts.{StepsRead, context_of, steps_read}
use Rattle.reglang.proofs.Readings.{IsCut, IsLeft, not_memory}

-- a line that is taken has no fault
no_fault : (context : Context) (reading : Reading) (read : Result (Option Line) LineFault) (result : Result Reading LineFault) → context ≡ context_of reading → StepsRead reading read result → IsOk result → is_none (fault_of_line context read) ≡ true
no_fault context reading read (Ok next) same steps ok = rw (same, steps.0) refl
no_fault context reading read (Err wrong) same steps ok = absurd cc

pub ran_out : (text rest line after : List ℕ) (reading : Reading) (n : ℕ) (refusal : LineRefusal) → IsLeft text reading n rest → IsCut rest line after → IsRefusalOf (take_if_said reading (read_line line)) refusal → IsWantOf (asks (read_line line)) refusal → WantsMemory text (record { line = n + 1; code = refusal_code refusal })
ran_out text rest line after reading n (refusal.Fault wrong) h c e want nine = absurd (not_memory wrong nine)
ran_out text rest line after reading n refusal.Memory h c e want nine =
    let number : n + 1 ≡ suc (n + 0) = omega arith in
    record {
      bytes = line;
      there = ap (λ m. line_at m text) number ∙ (h.there 0 ∙ ap (λ ls. slice_get ls 0) c.cut);
      asked = want;
      faultless =
          h.passed 1 ∙ (ap (λ ls. are_faultless (context_of reading) (take 1 ls)) c.cut
          ∙ ap (λ t. t && true) (no_fault (context_of reading) reading (read_line line) _ refl (steps_read reading (read_line line)) e));
    }
