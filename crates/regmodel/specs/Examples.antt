-- Worked examples: the definitions compute.
use Rattle.std.specs.Prelude.{◌≡◌, ℕ, Bool, true, false, List, [], ◌∷◌, map, refl, Some, codes, slice_index, ◌==◌}
use Rattle.std.specs.List.{list_any}
use Rattle.regmodel.specs.declared.schedules.Letter.TheVariants.{Run, Crash}
use Rattle.regmodel.specs.declared.accesses.Access.TheVariants as access
use Rattle.regmodel.specs.declared.accesses.Pending.TheVariants as pending
use Rattle.regmodel.specs.declared.outcomes.End.{End}
use Rattle.regmodel.specs.declared.outcomes.End.TheVariants as end
use Rattle.regmodel.specs.declared.outcomes.ProcEnd.{ProcEnd}
use Rattle.regmodel.specs.declared.statements.Expr.TheVariants.{One, Two}
use Rattle.regmodel.specs.declared.statements.Op.TheVariants.{Add, Sub, Less}
use Rattle.regmodel.specs.declared.statements.Operand.TheVariants as operand
use Rattle.regmodel.specs.declared.statements.Target.TheVariants as target
use Rattle.regmodel.specs.Program.{Block, Program, Stop, Do, Assign, Read, Write, Scan, If, Repeat, Emit}
use Rattle.regmodel.specs.Act.{act_of}
use Rattle.regmodel.specs.Reply.{one}
use Rattle.regmodel.specs.AllSchedules.{all_schedules}
use Rattle.regmodel.specs.Letters.{letter_at, all_letters}
use Rattle.regmodel.specs.Outcomes.{outcome_of}
use Rattle.regmodel.specs.Summary.{first_refused}
use Rattle.regmodel.specs.ScheduleText.{schedule_text}

abbrev pub over : ℕ → Block → Program
over registers body = record { registers = registers; body = body }

-- ---- programs on lists of replies

-- read v0 0; if v0 < 3, emit 1, else emit v0 + 1
abbrev branches : Program
branches = over 1
    (Do (Read (target.Var 0) (operand.Number 0))
    (If (Two (operand.Var 0) Less (operand.Number 3))
    (Do (Emit (One (operand.Number 1))) Stop)
    (Do (Emit (Two (operand.Var 0) Add (operand.Number 1))) Stop)
    Stop))

pub wants_a_read : act_of branches [] ≡ pending.Wants (access.Read 0)
wants_a_read = refl

pub takes_the_first_part : act_of branches (one 2 ∷ []) ≡ pending.Done (record { items = 1 ∷ [] })
takes_the_first_part = refl

pub takes_the_second_part : act_of branches (one 3 ∷ []) ≡ pending.Done (record { items = 4 ∷ [] })
takes_the_second_part = refl

-- repeat 2: write 0 v1, read v0 0, emit v0, set v1 v1 + 1
abbrev loops : Program
loops = over 1
    (Repeat (One (operand.Number 2))
    (Do (Write (operand.Number 0) (One (operand.Var 1)))
    (Do (Read (target.Var 0) (operand.Number 0))
    (Do (Emit (One (operand.Var 0)))
    (Do (Assign (target.Var 1) (Two (operand.Var 1) Add (operand.Number 1)))
    Stop))))
    Stop)

pub wants_its_second_write : act_of loops (one 0 ∷ one 7 ∷ []) ≡ pending.Wants (access.Write 0 1)
wants_its_second_write = refl

pub two_turns : act_of loops (one 0 ∷ one 7 ∷ one 0 ∷ one 8 ∷ [])
    ≡ pending.Done (record { items = 7 ∷ 8 ∷ [] })
two_turns = refl

-- scan 0 0 2: both registers at once into cells 0 and 1, which are emitted
abbrev pub scans_two : Program
scans_two =
    over 2
    (Do (Scan 0 0 2) (Do (Emit (One (operand.Cell 0))) (Do (Emit (One (operand.Cell 1))) Stop)))

pub wants_a_scan : act_of scans_two [] ≡ pending.Wants (access.Scan 0 2)
wants_a_scan = refl

pub both_values : act_of scans_two ((5 ∷ 6 ∷ []) ∷ [])
    ≡ pending.Done (record { items = 5 ∷ 6 ∷ [] })
both_values = refl

-- ---- each fault at run time

pub below_zero : act_of (over 1 (Do (Emit (Two (operand.Number 2) Sub (operand.Number 3))) Stop)) []
    ≡ pending.Fault 1
below_zero = refl

pub no_such_register :
    act_of (over 1 (Do (Write (operand.Number 3) (One (operand.Number 1))) Stop)) []
    ≡ pending.Fault 2
no_such_register = refl

pub no_such_cell : act_of
    (over 1
    (Do (Assign (target.Var 0) (One (operand.Number 32)))
    (Do (Assign (target.CellOf 0) (One (operand.Number 1)))
    Stop))) []
    ≡ pending.Fault 2
no_such_cell = refl

pub count_too_large : act_of (over 1 (Repeat (One (operand.Number 100)) Stop Stop)) []
    ≡ pending.Fault 3
count_too_large = refl

pub ninth_number :
    act_of (over 1 (Repeat (One (operand.Number 9)) (Do (Emit (One (operand.Number 1))) Stop) Stop))
    [] ≡ pending.Fault 4
ninth_number = refl

-- of two faults in a write, that of the register comes first
pub register_before_value :
    act_of
    (over 1 (Do (Write (operand.Number 3) (Two (operand.Number 2) Sub (operand.Number 3))) Stop))
    [] ≡ pending.Fault 2
register_before_value = refl

-- of two faults in an assignment, that of the value comes first
pub value_before_cell : act_of
    (over 1
    (Do (Assign (target.Var 0) (One (operand.Number 32)))
    (Do (Assign (target.CellOf 0) (Two (operand.Number 2) Sub (operand.Number 3)))
    Stop))) []
    ≡ pending.Fault 1
value_before_cell = refl

-- ---- a writer and a reader of one register

abbrev pub writes : ℕ → ℕ → ℕ → Program
writes registers register value =
    over registers (Do (Write (operand.Number register) (One (operand.Number value))) Stop)

abbrev pub writer_and_reader : List Program
writer_and_reader =
    writes 1 0 5
    ∷ over 1 (Do (Read (target.Var 0) (operand.Number 0)) (Do (Emit (One (operand.Var 0))) Stop))
    ∷ []

abbrev pub started : List ℕ → ProcEnd
started numbers = record { started = true; fate = end.Done (record { items = numbers }) }

abbrev is_five : ProcEnd → Bool
is_five p = end_is_five p.fate
  where
    end_is_five : End → Bool
    end_is_five (end.Done numbers) = slice_index numbers.items 0 == 5
    end_is_five (end.Fault code) = false
    end_is_five end.Crashed = false
    end_is_five end.Running = false

pub both_orders : all_schedules writer_and_reader 0 2
    ≡ (Run 0 ∷ Run 1 ∷ []) ∷ (Run 1 ∷ Run 0 ∷ []) ∷ []
both_orders = refl

pub both_outcomes : map (outcome_of writer_and_reader) (all_schedules writer_and_reader 0 2)
    ≡ (started [] ∷ started (5 ∷ []) ∷ []) ∷ (started [] ∷ started (0 ∷ []) ∷ []) ∷ []
both_outcomes = refl

-- the first schedule whose outcome fails a test, here whether the second process is done with 5
pub first_refused_of_both : first_refused writer_and_reader (λ ends. list_any is_five ends)
    (all_schedules writer_and_reader 0 2)
    ≡ Some (Run 1 ∷ Run 0 ∷ [], started [] ∷ started (0 ∷ []) ∷ [])
first_refused_of_both = refl

-- ---- two writers of a register each, one of which may crash

abbrev pub two_writers : List Program
two_writers = writes 2 0 5 ∷ writes 2 1 5 ∷ []

abbrev pub idle : End → ProcEnd
idle fate = record { started = false; fate = fate }

pub six_schedules : all_schedules two_writers 1 2
    ≡ (Run 0 ∷ Run 1 ∷ [])
    ∷ (Run 0 ∷ Crash 1 ∷ [])
    ∷ (Run 1 ∷ Run 0 ∷ [])
    ∷ (Run 1 ∷ Crash 0 ∷ [])
    ∷ (Crash 0 ∷ Run 1 ∷ [])
    ∷ (Crash 1 ∷ Run 0 ∷ [])
    ∷ []
six_schedules = refl

pub three_outcomes : map (outcome_of two_writers) (all_schedules two_writers 1 2)
    ≡ (started [] ∷ started [] ∷ [])
    ∷ (started [] ∷ idle end.Crashed ∷ [])
    ∷ (started [] ∷ started [] ∷ [])
    ∷ (idle end.Crashed ∷ started [] ∷ [])
    ∷ (idle end.Crashed ∷ started [] ∷ [])
    ∷ (started [] ∷ idle end.Crashed ∷ [])
    ∷ []
three_outcomes = refl

-- a schedule ends at its length, with a process still running
pub one_step_each : map (outcome_of two_writers) (all_schedules two_writers 0 1)
    ≡ (started [] ∷ idle end.Running ∷ []) ∷ (idle end.Running ∷ started [] ∷ []) ∷ []
one_step_each = refl

-- a schedule ends before its length where nothing is possible
pub one_writer : all_schedules (writes 1 0 5 ∷ []) 1 2 ≡ (Run 0 ∷ []) ∷ (Crash 0 ∷ []) ∷ []
one_writer = refl

-- ---- letters by their numbers

pub letters_of_two : map (letter_at 2) (0 ∷ 1 ∷ 2 ∷ 3 ∷ []) ≡ all_letters 2
letters_of_two = refl

-- ---- the text of schedules

pub text_of_none : schedule_text [] ≡ codes "."
text_of_none = refl

pub text_of_two : schedule_text (Run 0 ∷ Crash 1 ∷ []) ≡ codes "R0 C1"
text_of_two = refl
