-- Programs of a list, each within its limits.
use Rattle.std.proofs.Common.{◌≡◌, ℕ, true, List, [], ◌∷◌, ◌++◌, ◌<◌, length, get_or, Some, Result, Ok, Err, map, refl, ap, sym, ◌∙◌, subst, arith}
use Rattle.std.specs.List.{All, AllByRecursion}
use Rattle.std.proofs.lemmas.List.Elements.{recursion_from_All, All-from_recursion}
use Rattle.std.specs.Prelude.{IfOk, slice_get, option_map}
use Rattle.std.proofs.lemmas.Bool.{eqb-true}
use Rattle.std.proofs.lemmas.Option.{slice_get-map, slice_get_read}
use Rattle.std.proofs.lemmas.List.{length-map}
use Rattle.regmodel.specs.declared.out_of_memory.OutOfMemory.{OutOfMemory}
use Rattle.regmodel.specs.declared.programs.Prog.{Prog}
use Rattle.regmodel.specs.declared.statements.Stmt.{Stmt}
use Rattle.regmodel.specs.Prelude.{IsWithin, program_of, Block, block_of, with_stmt}
use Rattle.reglang.specs.Contents.{IsBodyWithin, program_over}
use Rattle.reglang.specs.Bodies.{is_over, body_of}
use Rattle.reglang.specs.declared.source.Process.{Process}
use Rattle.reglang.specs.declared.source.Process.TheVariants as process
use Rattle.uses.proofs.ExpansionLimits.{fitting}

within_limits : (p : Prog) → IsWithin (program_of p)
within_limits p = record { some_register = p.some_register; registers = p.few_registers; operands = p.operands; statements = p.statements; open_blocks = p.open_blocks; open_repeats = p.open_repeats }

-- a process of a source: its program is over the source's registers, and within its limits
program_fits : (n : ℕ) (p : Process) → is_over n p ≡ true → IsWithin (program_over n (body_of p)) × ((program_over n (body_of p)).registers ≡ n)
program_fits n (process.Text prog) h = (subst (λ m. IsWithin (record { registers = m; body = block_of prog.body.items })) (eqb-true prog.registers n h) (within_limits prog), refl)
program_fits n (process.Use kind) h = (fitting kind n h, refl)

each_program : (n : ℕ) (ps : List Process) → AllByRecursion (λ p. is_over n p ≡ true) ps → AllByRecursion (λ p. IsWithin p × (p.registers ≡ n)) (map (program_over n) (map body_of ps))
each_program n [] h = tt
each_program n (p ∷ ps) h = (program_fits n p h.0, each_program n ps h.1)

pub all_programs : (n : ℕ) (ps : List Process) → All (λ p. is_over n p ≡ true) ps → All (λ p. IsWithin p × (p.registers ≡ n)) (map (program_over n) (map body_of ps))
all_programs n ps h = All-from_recursion (λ p. IsWithin p × (p.registers ≡ n)) _ (each_program n ps (recursion_from_All (λ p. is_over n p ≡ true) ps h))

-- the program of the process at a place
pub program_at : (n : ℕ) (ps : List Process) (i : ℕ) (p : Process) → i < length (map (program_over n) (map body_of ps)) → p ≡ get_or ps i p → (result : Result Prog OutOfMemory) → IfOk result (λ prog. program_of prog ≡ program_over n (body_of p)) → IfOk result (λ prog. slice_get (map (program_over n) (map body_of ps)) i ≡ Some (program_of prog))
program_at n ps i p below here (Err refused) told = told
program_at n ps i p below here (Ok prog) told =
    let count = length-map (map body_of ps) (program_over n) ∙ length-map ps body_of in
    let inside : i < length ps = omega (arith, below, count) in
    slice_get-map (program_over n) (map body_of ps) i
    ∙ (ap (option_map (program_over n)) (slice_get-map body_of ps i)
    ∙ (ap (λ o. option_map (program_over n) (option_map body_of o)) (slice_get_read ps (length ps) i p refl inside here)
    ∙ ap Some (sym told)))

body_fits : (n : ℕ) (p : Process) → is_over n p ≡ true → IsBodyWithin n (body_of p)
body_fits n (process.Text prog) h = subst (λ m. IsWithin (record { registers = m; body = block_of prog.body.items })) (eqb-true prog.registers n h) (within_limits prog)
body_fits n (process.Use kind) h = h

each_body : (n : ℕ) (ps : List Process) → AllByRecursion (λ p. is_over n p ≡ true) ps → AllByRecursion (IsBodyWithin n) (map body_of ps)
each_body n [] h = tt
each_body n (p ∷ ps) h = (body_fits n p h.0, each_body n ps h.1)

pub all_bodies : (n : ℕ) (ps : List Process) → All (λ p. is_over n p ≡ true) ps → All (IsBodyWithin n) (map body_of ps)
all_bodies n ps h = All-from_recursion (IsBodyWithin n) _ (each_body n ps (recursion_from_All (λ p. is_over n p ≡ true) ps h))

-- a statement in the place of one with the same meaning
pub block_of_same : (xs : List Stmt) (copy s : Stmt) (rest : List Stmt) → ((b : Block) → with_stmt copy b ≡ with_stmt s b) → block_of ((xs ++ copy ∷ []) ++ rest) ≡ block_of (xs ++ (s ∷ rest))
block_of_same [] copy s rest e = e (block_of rest)
block_of_same (x ∷ xs) copy s rest e = ap (with_stmt x) (block_of_same xs copy s rest e)
