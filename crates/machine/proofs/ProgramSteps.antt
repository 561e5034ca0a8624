-- One step of a program in progress.
use Rattle.std.proofs.Common.{◌≡◌, ℕ, zero, suc, ◌+◌, ◌-◌, ◌<◌, ◌≤◌, max, false, cond, List, [], ◌∷◌, length, get_or, drop, Result, Ok, Err, refl, ap, sym, ◌∙◌, arith, drop-cons, add-one}
use Rattle.std.specs.Prelude.{nat_lt, slice_set}
use Rattle.std.proofs.lemmas.List.{drop-set}
use Rattle.std.proofs.lemmas.Bool.Decides.{nat_tests}
use Rattle.regmodel.specs.declared.statements.Expr.{Expr}
use Rattle.regmodel.specs.declared.statements.Stmt.{Stmt}
use Rattle.regmodel.specs.Prelude.{Replies, Env, Flow, exec, then_do, times, Block, with_stmt, block_of}
use Rattle.regmodel.specs.declared.statements.Stmt.TheVariants as stmt
use Rattle.regmodel.specs.Values.{expr_value}
use Rattle.regmodel.specs.Act.{Faults, times_or_fault, with_value, choose}
use Rattle.regmodel.specs.Limits.{open_blocks}
use Rattle.regmodel.specs.Program as program
use Rattle.machine.specs.declared.run.Arm.{Arm}
use Rattle.machine.specs.declared.run.Arm.TheVariants as arm
use Rattle.machine.specs.declared.run.StmtPart.{StmtPart}
use Rattle.machine.specs.declared.run.StmtPart.TheVariants.{At, Within, Turn}
use Rattle.machine.specs.declared.run.Frame.{Frame}
use Rattle.machine.specs.declared.run.BlockExit.{BlockExit}
use Rattle.machine.specs.declared.run.BlockExit.TheVariants as block
use Rattle.machine.specs.Paths.{of_arm, arm_at, access_flow, part_flow, resume, skip}
use Rattle.machine.specs.Exits.{stmt_flow, StmtAsks, block_flow, BlockAsks, exit_through, times_then}
use Rattle.regmodel.proofs.Blocks.{block_of-drop}
use Rattle.machine.proofs.Places.{skip-block_of, skip-past}

-- a frame that was just written leads to the statement at its place
pub resume-set : (n depth : ℕ) (body : List Stmt) (i : ℕ) (x : Stmt) (frames : List Frame) (part : StmtPart) (env : Env) (s : Replies) → i < length body → x ≡ get_or body i x → depth < length frames → resume n (drop depth (slice_set frames depth (record { at = i; part = part }))) (block_of body) env s ≡ part_flow part n (with_stmt x (block_of (drop (i + 1) body))) (resume n (drop (depth + 1) frames)) env s
resume-set n depth body i x frames part env s h e d =
    ap (λ fs. resume n fs (block_of body) env s) (drop-set frames depth (record { at = i; part = part }) d)
    ∙ ap (λ b. part_flow part n b (resume n (drop (depth + 1) frames)) env s) (skip-block_of i body ∙ block_of-drop body i x h e)

-- a part that was left, and then what follows the statement
pub then_exit : (exit : Result BlockExit ℕ) (part : StmtPart) (n : ℕ) (fs : List Frame) (b whole rest : Block) (env : Env) (s : Replies) → (part_flow part n whole (resume n fs) env s ≡ then_do (resume n fs b env s) (exec rest n)) → then_do (block_flow exit n fs b env s) (exec rest n) ≡ stmt_flow (exit_through exit part) n fs whole rest env s
then_exit (Ok block.GoesOn) part n fs b whole rest env s h = refl
then_exit (Ok (block.Wants a)) part n fs b whole rest env s h = sym h
then_exit (Ok block.Halts) part n fs b whole rest env s h = refl
then_exit (Err code) part n fs b whole rest env s h = refl

pub exit_asks : (exit : Result BlockExit ℕ) (part : StmtPart) (n : ℕ) (fs : List Frame) (b whole rest : Block) (env : Env) → (part_flow part n whole (resume n fs) env [] ≡ then_do (resume n fs b env []) (exec rest n)) → BlockAsks exit n fs b env → StmtAsks (exit_through exit part) n fs whole env
exit_asks (Ok block.GoesOn) part n fs b whole rest env h k = tt
exit_asks (Ok (block.Wants a)) part n fs b whole rest env h k = h ∙ ap (λ f. then_do f (exec rest n)) k
exit_asks (Ok block.Halts) part n fs b whole rest env h k = tt
exit_asks (Err code) part n fs b whole rest env h k = tt

pub block_of-arm : (x : Arm) (a b : List Stmt) → block_of (of_arm x a b) ≡ of_arm x (block_of a) (block_of b)
block_of-arm arm.First a b = refl
block_of-arm arm.Second a b = refl

choose-arm : (v : ℕ) (first second : Block) (n : ℕ) (env : Env) (s : Replies) → choose v (exec first n env s) (exec second n env s) ≡ exec (of_arm (arm_at v) first second) n env s
choose-arm zero first second n env s = refl
choose-arm (suc v) first second n env s = refl

-- an `if` whose value is known, with the block that is taken
pub exec-if : (e : Expr) (b first second rest whole : Block) (n : ℕ) (env : Env) (s : Replies) (v : ℕ) (x : Arm) (f : Flow) → whole ≡ program.If e first second rest → Ok v ≡ expr_value env e → x ≡ arm_at v → b ≡ of_arm x first second → exec b n env s ≡ f → exec whole n env s ≡ then_do f (exec rest n)
exec-if e b first second rest whole n env s v x f h k l m o =
    ap (λ y. exec y n env s) h
    ∙ ap (λ r. with_value r (λ v. then_do (choose v (exec first n env s) (exec second n env s)) (exec rest n))) (sym k)
    ∙ ap (λ g. then_do g (exec rest n)) (choose-arm v first second n env s ∙ ap (λ y. exec (of_arm y first second) n env s) (sym l) ∙ ap (λ y. exec y n env s) (sym m) ∙ o)

pub times-more : (count : ℕ) (body : Env → Replies → Flow) (env : Env) (s : Replies) → 0 < count → times count body env s ≡ then_do (body env s) (times (count - 1) body)
times-more zero body env s h = absurd (omega arith)
times-more (suc count) body env s h =
    let e : count ≡ suc count - 1 = omega arith in ap (λ k. then_do (body env s) (times k body)) e

not_above : (n : ℕ) → n ≤ 99 → nat_lt 99 n ≡ false
not_above n h = grind (arith, nat_tests)

-- a `repeat` whose count is known
pub exec-repeat : (e : Expr) (body rest : Block) (n : ℕ) (env : Env) (s : Replies) (count : ℕ) → expr_value env e ≡ Ok count → count ≤ 99 → exec (program.Repeat e body rest) n env s ≡ times_then count n body rest env s
exec-repeat e body rest n env s count h small =
    ap (λ r. with_value r (λ m. then_do (times_or_fault m (exec body n) env s) (exec rest n))) h
    ∙ ap (λ b. then_do (cond b (Faults 3) (times count (exec body n) env s)) (exec rest n)) (not_above count small)

-- the frame at a depth leads to the statement at its place
resume-drop : (n depth : ℕ) (b : Block) (frames : List Frame) (d : Frame) (env : Env) (s : Replies) → depth < length frames → resume n (drop depth frames) b env s ≡ part_flow (get_or frames depth d).part n (skip (get_or frames depth d).at b) (resume n (drop (depth + 1) frames)) env s
resume-drop n depth b frames d env s h =
    let e : drop depth frames ≡ (get_or frames depth d ∷ drop (depth + 1) frames) = drop-cons frames depth d h ∙ rw add-one refl in
    ap (λ fs. resume n fs b env s) e

pub resume-at : (n depth : ℕ) (body : List Stmt) (x : Stmt) (frames : List Frame) (d : Frame) (env : Env) (s : Replies) → depth < length frames → (get_or frames depth d).at < length body → x ≡ get_or body (get_or frames depth d).at x → resume n (drop depth frames) (block_of body) env s ≡ part_flow (get_or frames depth d).part n (with_stmt x (block_of (drop ((get_or frames depth d).at + 1) body))) (resume n (drop (depth + 1) frames)) env s
resume-at n depth body x frames d env s h k e =
    let f = get_or frames depth d in
    resume-drop n depth (block_of body) frames d env s h
    ∙ ap (λ b. part_flow f.part n b (resume n (drop (depth + 1) frames)) env s) (skip-block_of f.at body ∙ block_of-drop body f.at x k e)

part_flow-Stop : (part : StmtPart) (n : ℕ) (go : Block → Env → Replies → Flow) (env : Env) (s : Replies) → part_flow part n program.Stop go env s ≡ Faults 0
part_flow-Stop (At access to) n go env s = refl
part_flow-Stop (Within x) n go env s = refl
part_flow-Stop (Turn left) n go env s = refl

pub resume-past : (n depth : ℕ) (body : List Stmt) (frames : List Frame) (d : Frame) (env : Env) (s : Replies) → depth < length frames → length body ≤ (get_or frames depth d).at → resume n (drop depth frames) (block_of body) env s ≡ Faults 0
resume-past n depth body frames d env s h k =
    let f = get_or frames depth d in
    resume-drop n depth (block_of body) frames d env s h
    ∙ ap (λ b. part_flow f.part n b (resume n (drop (depth + 1) frames)) env s) (skip-past f.at body k)
    ∙ part_flow-Stop f.part n _ env s

-- past the access of a statement
pub access_flow-with_stmt : (x : Stmt) (n : ℕ) (rest : Block) (f : Flow) → access_flow n (with_stmt x rest) f ≡ then_do f (exec rest n)
access_flow-with_stmt (stmt.Assign t e) n rest f = refl
access_flow-with_stmt _ n rest f = refl

-- a program within an arm, or within a turn
pub arm_part : (part : StmtPart) (x : Arm) (n : ℕ) (whole : Block) (e : Expr) (b first second rest : Block) (go : Block → Env → Replies → Flow) (env : Env) (s : Replies) (f : Flow) → part ≡ Within x → whole ≡ program.If e first second rest → b ≡ of_arm x first second → go b env s ≡ f → part_flow part n whole go env s ≡ then_do f (exec rest n)
arm_part part x n whole e b first second rest go env s f h k l m =
    ap (λ p. part_flow p n whole go env s) h
    ∙ ap (λ y. part_flow (Within x) n y go env s) k
    ∙ ap (λ g. then_do g (exec rest n)) (ap (λ y. go y env s) (sym l) ∙ m)

pub turn_part : (part : StmtPart) (left n : ℕ) (whole : Block) (e : Expr) (b rest : Block) (go : Block → Env → Replies → Flow) (env : Env) (s : Replies) (f : Flow) → part ≡ Turn left → whole ≡ program.Repeat e b rest → go b env s ≡ f → part_flow part n whole go env s ≡ then_do (then_do f (times left (exec b n))) (exec rest n)
turn_part part left n whole e b rest go env s f h k m =
    ap (λ p. part_flow p n whole go env s) h
    ∙ ap (λ y. part_flow (Turn left) n y go env s) k
    ∙ ap (λ g. then_do (then_do g (times left (exec b n))) (exec rest n)) m

-- the block of an arm
pub arm_block : (x : Arm) {r a b v w : List Stmt} → r ≡ of_arm x a b → a ≡ v → b ≡ w → block_of r ≡ of_arm x (block_of v) (block_of w)
arm_block x {r} {a} {b} {v} {w} h k l =
    ap block_of h ∙ block_of-arm x a b
    ∙ ap (λ y. of_arm x (block_of y) (block_of b)) k
    ∙ ap (λ y. of_arm x (block_of v) (block_of y)) l

pub open_blocks-arm : (x : Arm) (b first second : Block) → b ≡ of_arm x first second → open_blocks b ≤ max (open_blocks first) (open_blocks second)
open_blocks-arm arm.First b first second h = let k = ap open_blocks h in omega (arith, k)
open_blocks-arm arm.Second b first second h = let k = ap open_blocks h in omega (arith, k)

-- one of the turns that are left
pub turn_flow-left : (count left n : ℕ) (body rest : Block) (start env : Env) (s : Replies) (f : Flow) → times count (exec body n) start s ≡ times left (exec body n) env s → 0 < left → exec body n env s ≡ f → times_then count n body rest start s ≡ then_do (then_do f (times (left - 1) (exec body n))) (exec rest n)
turn_flow-left count left n body rest start env s f h some k =
    ap (λ g. then_do g (exec rest n))
    (h ∙ times-more left (exec body n) env s some ∙ ap (λ g. then_do g (times (left - 1) (exec body n))) k)

-- a way in which a block was left, once it is known
pub known_exit : (f : Flow) (r q : BlockExit) (n : ℕ) (fs : List Frame) (b : Block) (env : Env) (s : Replies) → f ≡ block_flow (Ok r) n fs b env s → r ≡ q → f ≡ block_flow (Ok q) n fs b env s
known_exit f r q n fs b env s h k = h ∙ ap (λ x. block_flow (Ok x) n fs b env s) k
